use Rattle.std.proofs.Common.{◌≡◌, ◌∷◌, map, drop}
use Rattle.mv_ast.specs.declared.lexeme.Terminal.TheVariants.{Comma}
use Rattle.mv_ast.specs.Limits.{together}
use Rattle.mv_print.specs.Printing.{written, key, variable_pieces}
use Rattle.mv_print.proofs.listed.write_more_variables.Given as goal

abbrev pub invariant-loop-name : goal.invariant-loop-name
invariant-loop-name l = written l.text (together (map (λ y. key Comma ∷ variable_pieces y) (drop l.name-index l.names))) ≡ written l.fn.text (together (map (λ y. key Comma ∷ variable_pieces y) l.names))
