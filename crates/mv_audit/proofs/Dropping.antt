-- Which changes are dropped.
use Rattle.std.proofs.Common.{◌≡◌, ◌<◌, ◌≤◌, ◌+◌, ℕ, Bool, true, false, List, Some, None, length, drop, get_or, refl, subst, arith}
use Rattle.std.specs.Prelude.{◌==◌, slice_get}
use Rattle.std.proofs.lemmas.Bool.{eqb-true, both_ways, eq-eqb}
use Rattle.mv_audit.specs.declared.schedule.Live.{Live as Kept}
use Rattle.mv_audit.specs.declared.schedule.Schedule.{Schedule as State}
use Rattle.mv_audit.specs.Schedules.{IsTrimmed}
use Rattle.mv_audit.proofs.Scheduling.{same_at}

-- one call more is looked at
pub least_more : (ls : List Kept) (i : ℕ) (x : Kept) (least next : ℕ) → i < length ls → x ≡ get_or ls i x → next ≤ least → (x.reply ≡ None → next ≤ x.start)
    → ((c : ℕ) (l : Kept) → c < i → slice_get ls c ≡ Some l → l.reply ≡ None → least ≤ l.start) → (c : ℕ) (l : Kept) → c < i + 1 → slice_get ls c ≡ Some l → l.reply ≡ None → next ≤ l.start
least_more ls i x least next lt is le one before c l within at live = by (c == i) refl where
  by : (b : Bool) → (c == i) ≡ b → next ≤ l.start
  by true e =
      let same : c ≡ i = eqb-true c i e in
      let it : x ≡ l = same_at ls i l x lt is (subst (λ n. slice_get ls n ≡ Some l) same at) in
      subst (λ (y : Kept). y.reply ≡ None → next ≤ y.start) it one live
  by false e =
      let apart : c ≡ i → ⊥ = λ same. both_ways (c == i) e (eq-eqb c i same) in
      let far : c < i = omega (arith, within, apart) in
      let old : least ≤ l.start = before c l far at live in
      omega (arith, old, le)

pub untrimmed : (s : State) → IsTrimmed s s
untrimmed s = record {
  order = refl;
  answered = refl;
  calls = refl;
  tables = refl;
  many = refl;
  wide = λ h. h;
  later = omega arith;
  changes = refl;
  needed = λ h. h;
}

pub trimmed_by : (s next : State) → next.order ≡ s.order → next.answered ≡ s.answered → next.calls ≡ s.calls → next.tables ≡ s.tables → length next.commits ≡ length s.commits → next.low ≤ length s.commits → s.low ≤ next.low
    → drop next.low next.commits ≡ drop next.low s.commits → ((c : ℕ) (l : Kept) → slice_get s.calls c ≡ Some l → l.reply ≡ None → next.low ≤ l.start) → IsTrimmed s next
trimmed_by s next order answers calls tables many wide later changes needed = record {
  order = order;
  answered = answers;
  calls = calls;
  tables = tables;
  many = many;
  wide = λ h. wide;
  later = later;
  changes = changes;
  needed = λ h. needed;
}
