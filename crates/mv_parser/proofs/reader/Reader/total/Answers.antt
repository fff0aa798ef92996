use Rattle.std.proofs.Common.{drop}
use Rattle.mv_ast.specs.Trees.{total_of}
use Rattle.mv_ast.specs.Grammar.{total}
use Rattle.mv_parser.specs.Reading.{read}
use Rattle.mv_parser.specs.Answers.{inside_of}
use Rattle.mv_parser.proofs.reader.Reader.total.Goals as goal

pub returns : goal.returns
unfolding total
returns c =
    c.totalled.ensures (read (inside_of c.args.self.now) (total c.args.self.now.bytes.now) (drop c.args.at c.args.self.now.lexemes.now))
    (rw c.in_ok-agg.ensures (c.total_rest-rest.ensures (total_of c.in_ok-agg.agg)))
