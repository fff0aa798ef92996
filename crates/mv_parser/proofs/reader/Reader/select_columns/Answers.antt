use Rattle.std.proofs.Common.{drop}
use Rattle.mv_ast.specs.Trees.{select_of}
use Rattle.mv_ast.specs.Grammar.{select_columns}
use Rattle.mv_parser.specs.Reading.{read}
use Rattle.mv_parser.specs.Answers.{inside_of}
use Rattle.mv_parser.proofs.reader.Reader.select_columns.Goals as goal

pub returns : goal.returns
unfolding select_columns
returns c =
    c.selected.ensures (read (inside_of c.args.self.now) (select_columns c.args.self.now.bytes.now) (drop c.args.at c.args.self.now.lexemes.now))
    (rw (c.in_ok-columns.ensures, c.in_ok-at.ensures.reads, c.in_ok-to.ensures) (c.select_rest-rest.ensures (select_of c.in_ok-columns.columns c.in_ok-to.to)))
