-- Variables behind the turns of a loop whose body is empty.
use Rattle.std.proofs.Common.{◌≡◌, ℕ, List, [], ◌∷◌, ◌++◌, refl, sym, ap, ◌∙◌}
use Rattle.mv_values.specs.declared.value.Value.{Value}
use Rattle.mv_eval.specs.declared.state.Content.TheVariants.{Turn}
use Rattle.mv_eval.specs.declared.state.Env.{Env}
use Rattle.mv_eval.specs.Env.{with_held}
use Rattle.mv_recorded.proofs.Slots.{put_same}
use Rattle.mv_exec.specs.declared.changes.VariableChange.{VariableChange}
use Rattle.mv_exec.specs.Env.{with_changes}
use Rattle.mv_exec.specs.Moves.{after_turns}

changes_more : (cs : List VariableChange) (c : VariableChange) (e : Env) → with_changes (cs ++ c ∷ []) e ≡ with_held (with_changes cs e) c.slot c.held
changes_more [] c e = refl
changes_more (d ∷ cs) c e = changes_more cs c (with_held e d.slot d.held)

-- only the last turn counts
turns_last : (x : ℕ) (rows : List (List Value)) (row : List Value) (e : Env) → after_turns x (rows ++ row ∷ []) e ≡ with_held e x (Turn row)
turns_last x [] row e = refl
turns_last x (r ∷ rows) row e = turns_last x rows row (with_held e x (Turn r)) ∙ ap (λ hs. record e { held = hs }) (put_same e.held x (Turn r) (Turn row))

-- so one change does for all turns
pub last_turn : (cs new : List VariableChange) (x : ℕ) (rows front : List (List Value)) (row : List Value) → new ≡ cs ++ record { slot = x; held = Turn row } ∷ [] → rows ≡ front ++ row ∷ []
    → (e : Env) → with_changes new e ≡ after_turns x rows (with_changes cs e)
last_turn cs new x rows front row is are e =
    ap (λ ds. with_changes ds e) is
    ∙ (changes_more cs (record { slot = x; held = Turn row }) e
    ∙ (sym (turns_last x front row (with_changes cs e)) ∙ sym (ap (λ rs. after_turns x rs (with_changes cs e)) are)))
