-- What calls and statements leave as it was.
use Rattle.std.proofs.Common.{◌≡◌, ◌<◌, ℕ, suc, List, [], ◌∷◌, Some, None, Result, Ok, Err, length, slice_set, refl, sym, ap, subst, ◌∙◌, arith}
use Rattle.std.proofs.lemmas.List.{get_or-set_other}
use Rattle.std.proofs.lemmas.List.Elements.{All-cons, All-nil}
use Rattle.std.proofs.lemmas.List.Kept.{AllPairs-cons}
use Rattle.std.specs.Prelude.{slice_index}
use Rattle.std.proofs.lemmas.Option.{same_Some}
use Rattle.mv_values.specs.declared.rows.Keyed.{Keyed}
use Rattle.mv_values.specs.declared.calls.Reply.{Reply}
use Rattle.mv_values.specs.declared.calls.End.{End}
use Rattle.mv_values.specs.Tables.{Tables}
use Rattle.mv_catalog.specs.declared.resolved.Program.{Program}
use Rattle.mv_eval.specs.declared.state.State.{State}
use Rattle.mv_eval.specs.TableAfter.{result_of, tables_left, reply_in, reply_of, table_after, IsOrder, RepliesOf, StoppedUnchanged}
use Rattle.mv_eval.specs.Changes.{OthersStay}
use Rattle.mv_serial.proofs.Tabling.{table_with}

stopped : (db : Tables) (o : Result State End) (r : Reply) (e : End) → r ≡ reply_in o → r.end ≡ Some e → (r.lines ≡ []) × (tables_left db o ≡ db)
stopped db (Ok st) r e is h = let no : None ≡ Some e = sym (ap (λ (q : Reply). q.end) is) ∙ h in cc
stopped db (Err f) r e is h = (ap (λ (q : Reply). q.lines) is, refl)

pub stopped_unchanged : (p : Program) (order : List ℕ) (replies : List Reply) → RepliesOf p order replies → StoppedUnchanged p order replies
stopped_unchanged p order replies told k lt r e is h =
    stopped (table_after p order k) (result_of p (slice_index order k) (table_after p order k)) r e
    (same_Some r (reply_of p order (suc k)) (sym is ∙ told k lt)) h

others_set : (db : Tables) (t : ℕ) (rows : List Keyed) → OthersStay t db (slice_set db t rows)
others_set db t rows u other = get_or-set_other db t u rows [] other

pub others_stay : (db new : Tables) (t : ℕ) (r : Result (List Keyed) End) → table_with db t r ≡ Ok new → OthersStay t db new
others_stay db new t (Ok rows) is = let same : slice_set db t rows ≡ new = cc in subst (OthersStay t db) same (others_set db t rows)
others_stay db new t (Err e) is = cc

pub others_left : (db new : Tables) (t : ℕ) (rows : List Keyed) → new ≡ slice_set db t rows → OthersStay t db new
others_left db new t rows is = subst (OthersStay t db) (sym is) (others_set db t rows)

-- a program's only two calls, in order
pub two_in_order : (p : Program) → length p.resolved.calls ≡ 2 → IsOrder p (0 ∷ 1 ∷ [])
two_in_order p two = (
  All-cons (λ c. c < length p.resolved.calls) 0 (1 ∷ []) (omega (arith, two)) (All-cons (λ c. c < length p.resolved.calls) 1 [] (omega (arith, two)) (All-nil (λ c. c < length p.resolved.calls))),
  AllPairs-cons (λ a b. a ≡ b → ⊥) 0 (1 ∷ []) (All-cons (λ b. 0 ≡ b → ⊥) 1 [] (λ same. absurd (omega (arith, same))) (All-nil (λ b. 0 ≡ b → ⊥)))
      (AllPairs-cons (λ a b. a ≡ b → ⊥) 1 [] (All-nil (λ b. 1 ≡ b → ⊥)) (λ i j d lt within. absurd (omega arith))),
)
