use Rattle.std.proofs.Common.{◌≡◌, not, ◌==◌, List, [], ◌∷◌, length, refl, rules}
use Rattle.mv_values.specs.declared.value.Value.{Value}
use Rattle.mv_eval.specs.Alone.{is_turn}
use Rattle.mv_serial.proofs.statements.find_rows.Goals as goal

turn_is : (rows : List (List Value)) → not (length rows == 0) ≡ is_turn rows
turn_is [] = refl
turn_is (row ∷ rows) = search rules

pub returns : goal.returns
returns c = rw (c.is_empty.ensures, turn_is c.args.rows.now) at c.set_found.ensures.ok
