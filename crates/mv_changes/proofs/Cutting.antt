-- The changes of one table among changes in order.
use Rattle.std.proofs.Common.{◌≡◌, ℕ, ◌+◌, ◌<◌, ◌≤◌, Bool, true, false, List, length, slice_range, refl, sym, ◌∙◌, inl, inr, arith}
use Rattle.std.specs.Prelude.{◌==◌, nat_lt, pos}
use Rattle.std.specs.List.{filter}
use Rattle.std.specs.List.Sorted.{IsPartitionedBy}
use Rattle.std.specs.Ordering.{ordering_then, int_cmp}
use Rattle.std.specs.declared.cmp.Ordering.{Ordering}
use Rattle.std.specs.declared.cmp.Ordering.TheVariants.{Less, Greater}
use Rattle.std.proofs.lemmas.Bool.{cases_lt}
use Rattle.std.proofs.lemmas.Bool.Decides.{eqb_tells, nat_tests}
use Rattle.mv_values.specs.Order.{key_order}
use Rattle.mv_table.proofs.Points.{parted, in_order, between}
use Rattle.mv_history.specs.declared.change.Change.{Change}
use Rattle.mv_history.specs.Changes.{InOrder, place}
use Rattle.mv_changes.specs.Tables.{IsCut, is_below}

-- the table of a change that is before another isn't above that one's
tables_rise : (a b : Change) (t : ℕ) → key_order (place a) (place b) ≡ Less → is_below t b ≡ true → is_below t a ≡ true
tables_rise a b t less low =
    elim (cases_lt b.table a.table) [
      | inl above ↦ absurd (clash above)
      | inr fine ↦ grind (arith, nat_tests)
    ]
  where
    clash : b.table < a.table → ⊥
    clash above =
        let no : nat_lt a.table b.table ≡ false = grind (arith, nat_tests) in
        let yes : nat_lt b.table a.table ≡ true = grind (arith, nat_tests) in
        let up : int_cmp (pos a.table) (pos b.table) ≡ Greater = rw (no, yes) refl in
        apart (sym (greater (int_cmp (pos a.table) (pos b.table)) up) ∙ less)
      where
        greater : (o : Ordering) → o ≡ Greater → ordering_then o (key_order a.key b.key) ≡ Greater
        greater o h = rw h refl

        apart : ◌≡◌ {A = Ordering} Greater Less → ⊥
        apart h = cc

pub cut_in_order : (t : ℕ) (cs : List Change) → InOrder cs → IsPartitionedBy (is_below t) cs
cut_in_order t cs = parted (λ a b. key_order (place a) (place b) ≡ Less) (is_below t) (λ a b. tables_rise a b t) cs

lower_too : (t : ℕ) (c : Change) → is_below t c ≡ true → is_below (t + 1) c ≡ true
lower_too t c h = grind (arith, nat_tests)

pub cuts_rise : (t : ℕ) (cs : List Change) (from to : ℕ) → from ≤ length cs → IsCut (is_below t) cs from → IsCut (is_below (t + 1)) cs to → from ≤ to
cuts_rise t = in_order (is_below t) (is_below (t + 1)) (lower_too t)

abbrev of : ℕ → Change → Bool
of t c = c.table == t

under : (t : ℕ) (c : Change) → is_below t c ≡ true → of t c ≡ false
under t c h = grind (arith, nat_tests, eqb_tells)

over : (t : ℕ) (c : Change) → is_below (t + 1) c ≡ false → of t c ≡ false
over t c h = grind (arith, nat_tests, eqb_tells)

inside : (t : ℕ) (c : Change) → is_below t c ≡ false → is_below (t + 1) c ≡ true → of t c ≡ true
inside t c h k = grind (arith, nat_tests, eqb_tells)

-- between the two cuts are the changes of the table
pub cut_out : (t : ℕ) (cs : List Change) (from to : ℕ) → from ≤ length cs → to ≤ length cs → IsCut (is_below t) cs from → IsCut (is_below (t + 1)) cs to → slice_range cs from to ≡ filter (λ c. c.table == t) cs
cut_out t = between (is_below t) (is_below (t + 1)) (lower_too t) (of t) (under t) (over t) (inside t)
