use Rattle.std.proofs.Common.{sym}
use denote.Enum.Bare.{same_true}
use Rattle.mv_ast.specs.contracts.lexeme.Terminal.{the_type}
use Rattle.mv_parser.proofs.reader.Reader.one.Goals as goal

pub returns-then-eq-clause-kind : goal.returns-then-eq-clause-kind
returns-then-eq-clause-kind c = same_true the_type tt _ _ (sym c.if-eq.ensures)
