use Rattle.std.proofs.Common.{drop}
use Rattle.mv_ast.specs.declared.tree.Stmt.TheVariants.{Branch}
use Rattle.mv_ast.specs.Trees.{for_plain_of, for_distinct_of}
use Rattle.mv_ast.specs.Grammar.{branch, for_plain, for_distinct}
use Rattle.mv_parser.specs.Reading.{read}
use Rattle.mv_parser.specs.Answers.{inside_of}
use Rattle.mv_parser.proofs.reader.Reader.+stmt.Goals as goal

pub branch-returns : goal.branch-returns
unfolding branch
branch-returns t c =
    c.branched.ensures (read (inside_of c.args.self.now) (branch c.args.self.now.bytes.now) (drop c.args.at c.args.self.now.lexemes.now))
    (rw (c.in_ok-token.ensures, c.in_ok-test.ensures) (c.branches-rest.ensures (Branch c.in_ok-token.token c.in_ok-test.test)))

pub for_plain-returns : goal.for_plain-returns
unfolding for_plain
for_plain-returns t c =
    c.plain_loop.ensures (read (inside_of c.args.self.now) (for_plain c.args.self.now.bytes.now) (drop c.args.at c.args.self.now.lexemes.now))
    (rw c.in_ok-columns.ensures (c.plain_rest-rest.ensures (for_plain_of c.in_ok-columns.columns)))

pub for_distinct-returns : goal.for_distinct-returns
unfolding for_distinct
for_distinct-returns t c =
    c.distinct_loop.ensures (read (inside_of c.args.self.now) (for_distinct c.args.self.now.bytes.now) (drop c.args.at c.args.self.now.lexemes.now))
    (rw (c.in_ok-at.ensures.reads, c.in_ok-columns.ensures) (c.distinct_rest-rest.ensures (for_distinct_of c.in_ok-columns.columns)))
