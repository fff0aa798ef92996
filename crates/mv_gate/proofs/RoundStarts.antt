-- The rounds of calls after an event.
use Rattle.std.proofs.Common.{◌≡◌, ◌⊎◌, inl, inr, ℕ, ◌+◌, ◌≤◌, List, [], ◌∷◌, ◌++◌, Option, Some, None, length, refl, sym, ap, subst, ◌∙◌, arith, length-append}
use Rattle.std.specs.Prelude.{slice_get}
use Rattle.mv_journal.specs.declared.event.Event.{Event}
use Rattle.mv_journal.specs.declared.event.Event.TheVariants.{B, S, A, M, C, X, R, G}
use Rattle.mv_journal.specs.declared.outcome.Mark.TheVariants.{Plain, Exclusive, Moved}
use Rattle.mv_lawful.specs.Batch.{Batch}
use Rattle.mv_lawful.specs.Lawful.{Live, Schedule, begin, again, finish, change_live, after}
use Rattle.mv_lawful.specs.Rounds.{WithinRounds, last_round_start}
use Rattle.mv_core.specs.Cores.{HasRoundStarts}
use Rattle.mv_core.proofs.Taking.{round_starts_again, round_starts_begin, round_starts_grown}
use Rattle.mv_lawful.proofs.Lists.{get_last, get_set}
use Rattle.mv_gate.specs.Gates.{HaveRoundStarts}

round_starts_same : (n : ℕ) (l m : Live) → m.round_starts ≡ l.round_starts → m.start ≡ l.start → HasRoundStarts n l → HasRoundStarts n m
round_starts_same n l m ts start h = record {
  first = h.first;
  rest = h.rest;
  round_starts = ts ∙ h.round_starts;
  last = ap last_round_start ts ∙ (h.last ∙ sym start);
  within = subst (WithinRounds n) (sym ts) h.within;
  past = let a = h.past in omega (arith, a, start);
}

-- one call was changed
changed : (n m c : ℕ) (f : Live → Live) (ls : List Live) → n ≤ m → ((l : Live) → HasRoundStarts n l → HasRoundStarts m (f l)) → ((d : ℕ) (l : Live) → slice_get ls d ≡ Some l → HasRoundStarts n l)
    → (d : ℕ) (l : Live) → slice_get (change_live (slice_get ls c) f ls c) d ≡ Some l → HasRoundStarts m l
changed n m c f ls le keeps all d l at = by (slice_get ls c) refl at where
  by : (o : Option Live) → slice_get ls c ≡ o → slice_get (change_live o f ls c) d ≡ Some l → HasRoundStarts m l
  by None is at = round_starts_grown n m l le (all d l at)
  by (Some x) is at = set (get_set ls c d (f x) l at) where
    set : ((d ≡ c) × (f x ≡ l)) ⊎ ((d ≡ c → ⊥) × (slice_get ls d ≡ Some l)) → HasRoundStarts m l
    set (inl h) = subst (HasRoundStarts m) h.1 (keeps x (all c x is))
    set (inr h) = round_starts_grown n m l le (all d l h.1)

pub round_starts_after : (w : Batch) (s : Schedule) (e : Event) → HaveRoundStarts s → HaveRoundStarts (after w s e)
round_starts_after w s (B c) h = λ d l at. by d l (get_last s.calls (begin (length s.order)) d l at) where
  by : (d : ℕ) (l : Live) → (slice_get s.calls d ≡ Some l) ⊎ ((d ≡ length s.calls) × (begin (length s.order) ≡ l)) → HasRoundStarts (length s.order) l
  by d l (inl there) = h d l there
  by d l (inr new) = subst (HasRoundStarts (length s.order)) new.1 (round_starts_begin (length s.order))
round_starts_after w s (S c) h = changed (length s.order) (length s.order) c (λ l. record l { steps = l.steps + 1 }) s.calls (omega arith) (λ l k. round_starts_same (length s.order) l (record l { steps = l.steps + 1 }) refl refl k) h
round_starts_after w s (A c) h = changed (length s.order) (length s.order) c (again (length s.order) Plain) s.calls (omega arith) (round_starts_again (length s.order) Plain) h
round_starts_after w s (M c) h = changed (length s.order) (length s.order) c (again (length s.order) Moved) s.calls (omega arith) (round_starts_again (length s.order) Moved) h
round_starts_after w s (C c) h =
    let long = length-append s.order (c ∷ []) in
    let n : ℕ = length s.order in
    let m : ℕ = length (s.order ++ c ∷ []) in
    changed n m c finish s.calls (omega (arith, long)) (λ l k. round_starts_same m l (finish l) refl refl (round_starts_grown n m l (omega (arith, long)) k)) h
round_starts_after w s (X c) h =
    let long = length-append s.order (c ∷ []) in
    let n : ℕ = length s.order in
    let m : ℕ = length (s.order ++ c ∷ []) in
    changed n m c (λ l. finish (again n Exclusive l)) s.calls (omega (arith, long))
    (λ l k. round_starts_same m (again n Exclusive l) (finish (again n Exclusive l)) refl refl (round_starts_grown n m (again n Exclusive l) (omega (arith, long)) (round_starts_again n Exclusive l k))) h
round_starts_after w s (R c) h = changed (length s.order) (length s.order) c finish s.calls (omega arith) (λ l k. round_starts_same (length s.order) l (finish l) refl refl k) h
round_starts_after w s G h = h
