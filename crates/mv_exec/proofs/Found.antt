-- The number of `:found` stays.
use Rattle.std.proofs.Common.{◌≡◌, ℕ, List, [], ◌∷◌, refl, ◌∙◌}
use Rattle.mv_values.specs.declared.value.Value.{Value}
use Rattle.mv_catalog.specs.declared.resolved.RStmt.{RStmt}
use Rattle.mv_catalog.specs.declared.resolved.RStmt.TheOpen.{RStmt-F, ForSelect, ForRows}
use Rattle.mv_eval.specs.declared.state.Env.{Env}
use Rattle.mv_eval.specs.declared.state.Content.TheVariants.{Turn}
use Rattle.mv_eval.specs.Env.{with_held}
use Rattle.mv_record.specs.declared.record.Slot.{Slot}
use Rattle.mv_recorded.specs.Effect.{with_slots}
use Rattle.mv_recorded.proofs.Held.{slots_found}
use Rattle.mv_exec.specs.Moves.{after_turns, after_empty_body, after_empty_loop}

empty_body_found : (x : ℕ) (body : List RStmt) (rows : List (List Value)) (e : Env) → (after_empty_body x body rows e).found ≡ e.found
empty_body_found x [] rows e = turns_found rows e
  where
    turns_found : (rows : List (List Value)) (e : Env) → (after_turns x rows e).found ≡ e.found
    turns_found [] e = refl
    turns_found (row ∷ rows) e = turns_found rows (with_held e x (Turn row))
empty_body_found x (s ∷ ss) rows e = refl

empty_loop_found : (y : RStmt-F RStmt) (rows : List (List Value)) (e : Env) → (after_empty_loop y rows e).found ≡ e.found
empty_loop_found (ForSelect x once cs t conds sorts body) rows e = empty_body_found x body rows e
empty_loop_found (ForRows x y body) rows e = empty_body_found x body rows e
empty_loop_found y rows e = refl

-- behind a record
pub record_found : (y : RStmt-F RStmt) (rows : List (List Value)) (ss : List Slot) (e : Env) → (after_empty_loop y rows (with_slots ss e)).found ≡ e.found
record_found y rows ss e = empty_loop_found y rows (with_slots ss e) ∙ slots_found ss e
