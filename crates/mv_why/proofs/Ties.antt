-- The hit that is told is the least one.
use Rattle.std.proofs.Common.{◌≡◌, ◌<◌, ◌≤◌, ℕ, suc, ◌+◌, Bool, true, false, pos, List, [], ◌∷◌, Option, Some, None, length, if◌then◌else◌, refl, ap, subst, ◌∙◌, arith}
use Rattle.std.specs.Prelude.{slice_index_or, ◌||◌}
use Rattle.std.specs.Option.{option_or}
use Rattle.std.specs.Ordering.{is_gt}
use Rattle.std.specs.declared.cmp.Ordering.TheVariants.{Less}
use Rattle.std.proofs.lemmas.Bool.{both_ways}
use Rattle.mv_values.specs.declared.value.Value.{Value}
use Rattle.mv_values.specs.declared.value.Value.TheVariants.{Int}
use Rattle.mv_values.specs.Order.{key_order}
use Rattle.mv_values.proofs.KeyOrder.{same_key}
use Rattle.mv_record.specs.declared.record.Record.{Record}
use Rattle.mv_recorded.specs.Own.{Each}
use Rattle.mv_recorded.proofs.Inverting.{each_map}
use Rattle.mv_history.specs.declared.change.Change.{Change}
use Rattle.mv_history.specs.Changes.{place, InOrder}
use Rattle.mv_history.specs.Hits.{hits, any_hits}
use Rattle.mv_changes.specs.declared.recent.Committed.{Committed}
use Rattle.mv_changes.specs.Commits.{AreNumbered}
use Rattle.mv_why.specs.declared.cause.Reason.{Reason}
use Rattle.mv_why.specs.declared.cause.Reason.TheVariants.{Hit}
use Rattle.mv_why.specs.Causes.{hit_in, hit}
use Rattle.mv_why.specs.Laws.{IsLeastHit, LeastHitIsTold}

-- Order

each_after : (d : Change) (ds : List Change) → ((j : ℕ) (e : Change) → j < length ds → key_order (place d) (place (slice_index_or ds j e)) ≡ Less) → Each (λ (e : Change). key_order (place d) (place e) ≡ Less) ds
each_after d [] h = tt
each_after d (e ∷ ds) h = (h 0 e (omega arith), each_after d ds (λ j f lt. h (suc j) f (omega (arith, lt))))

after_first : (d : Change) (ds : List Change) → InOrder (d ∷ ds) → Each (λ (e : Change). key_order (place d) (place e) ≡ Less) ds
after_first d ds h = each_after d ds (λ j e lt. h 0 (suc j) e (omega arith) (omega (arith, lt)))

order_rest : (d : Change) (ds : List Change) → InOrder (d ∷ ds) → InOrder ds
order_rest d ds h = λ i j e lt within. h (suc i) (suc j) e (omega (arith, lt)) (omega (arith, within))

-- not after the place of this change
abbrev UpTo : List Value → Change → Type 0
UpTo here e = is_gt (key_order here (place e)) ≡ false

-- Changes

abbrev told_as : ℕ → Change → Reason
told_as n d = Hit n d.table d.key

some_same : {A : Type 0} (x y : A) → ◌≡◌ {A = Option A} (Some x) (Some y) → x ≡ y
some_same x y e = cc

pub record FirstIs (n : ℕ) (cs : List Change) (before : List Record) (o : Record) (commit : ℕ) (here : List Value) : Type 0 where
  pub same : n ≡ commit
  pub up_to : Each (λ (d : Change). hits before o d ≡ true → UpTo here d) cs

pub first_of_changes : (n : ℕ) (cs : List Change) (before : List Record) (o : Record) (commit table : ℕ) (key : List Value) → InOrder cs → hit_in n cs before o ≡ Some (Hit commit table key)
    → FirstIs n cs before o commit (Int (pos table) ∷ key)
first_of_changes n [] before o commit table key order h = cc
first_of_changes n (d ∷ ds) before o commit table key order h = by (hits before o d) refl h (λ k. first_of_changes n ds before o commit table key (order_rest d ds order) k)
  where
    by : (b : Bool) → hits before o d ≡ b → (if b then Some (told_as n d) else hit_in n ds before o) ≡ Some (Hit commit table key)
        → (hit_in n ds before o ≡ Some (Hit commit table key) → FirstIs n ds before o commit (Int (pos table) ∷ key)) → FirstIs n (d ∷ ds) before o commit (Int (pos table) ∷ key)
    by true e k rest =
        let number : n ≡ commit = cc in
        let tables : d.table ≡ table = cc in
        let keys : d.key ≡ key = cc in
        let at : place d ≡ Int (pos table) ∷ key = ap (λ m. Int (pos m) ∷ d.key) tables ∙ ap (λ (l : List Value). Int (pos table) ∷ l) keys in
        record {
          same = number;
          up_to = (
            λ so. subst (λ l. UpTo l d) at (ap is_gt (same_key (place d))),
            each_map (λ (e : Change). key_order (place d) (place e) ≡ Less) (λ (e : Change). hits before o e ≡ true → UpTo (Int (pos table) ∷ key) e) ds (λ e less so. subst (λ l. UpTo l e) at (ap is_gt less)) (after_first d ds order),
          );
        }
    by false e k rest = let f = rest k in record { same = f.same; up_to = (λ so. absurd (both_ways (hits before o d) e so), f.up_to) }

-- Commits

above : (n : ℕ) (cs : List Committed) → AreNumbered n cs → Each (λ (c : Committed). n ≤ c.commit) cs
above n [] h = tt
above n (c ∷ cs) h = (omega (arith, h.0), each_map (λ (c : Committed). n + 1 ≤ c.commit) (λ (c : Committed). n ≤ c.commit) cs (λ c le. omega (arith, le)) (above (n + 1) cs h.1))

none_hits : (n : ℕ) (cs : List Change) (before : List Record) (o : Record) → hit_in n cs before o ≡ None → any_hits cs before o ≡ false
none_hits n [] before o h = refl
none_hits n (d ∷ ds) before o h = by (hits before o d) h (λ k. none_hits n ds before o k)
  where
    by : (b : Bool) → (if b then Some (told_as n d) else hit_in n ds before o) ≡ None → (hit_in n ds before o ≡ None → any_hits ds before o ≡ false) → (b || any_hits ds before o) ≡ false
    by true k rest = cc
    by false k rest = rest k

commit_told : (n : ℕ) (cs : List Change) (before : List Record) (o : Record) (commit table : ℕ) (key : List Value) → hit_in n cs before o ≡ Some (Hit commit table key) → n ≡ commit
commit_told n [] before o commit table key h = cc
commit_told n (d ∷ ds) before o commit table key h = by (hits before o d) h (λ k. commit_told n ds before o commit table key k)
  where
    by : (b : Bool) → (if b then Some (told_as n d) else hit_in n ds before o) ≡ Some (Hit commit table key) → (hit_in n ds before o ≡ Some (Hit commit table key) → n ≡ commit) → n ≡ commit
    by true k rest = cc
    by false k rest = rest k

told_above : (n : ℕ) (since : List Committed) (before : List Record) (o : Record) (commit table : ℕ) (key : List Value) → AreNumbered n since → hit since before o ≡ Some (Hit commit table key) → n ≤ commit
told_above n [] before o commit table key numbers h = cc
told_above n (c ∷ cs) before o commit table key numbers h = by (hit_in c.commit c.changes before o) refl h (λ k. told_above (n + 1) cs before o commit table key numbers.1 k)
  where
    by : (x : Option Reason) → hit_in c.commit c.changes before o ≡ x → option_or x (hit cs before o) ≡ Some (Hit commit table key) → (hit cs before o ≡ Some (Hit commit table key) → n + 1 ≤ commit) → n ≤ commit
    by None e k rest = omega (arith, rest k)
    by (Some r) e k rest = let same : c.commit ≡ commit = commit_told c.commit c.changes before o commit table key (e ∙ k) in omega (arith, same, numbers.0)

pub least_told : LeastHitIsTold
least_told n [] before o commit table key numbers order h = cc
least_told n (c ∷ cs) before o commit table key numbers order h = by (hit_in c.commit c.changes before o) refl h (λ k. least_told (n + 1) cs before o commit table key numbers.1 order.1 k)
  where
    by : (x : Option Reason) → hit_in c.commit c.changes before o ≡ x → option_or x (hit cs before o) ≡ Some (Hit commit table key) → (hit cs before o ≡ Some (Hit commit table key) → IsLeastHit cs before o commit table key)
        → IsLeastHit (c ∷ cs) before o commit table key
    by (Some r) e k rest =
        let f = first_of_changes c.commit c.changes before o commit table key order.0 (e ∙ k) in
        let here : c.commit ≡ commit = f.same in
        record {
          commits = (
            λ so. omega (arith, here),
            each_map (λ (x : Committed). n + 1 ≤ x.commit) (λ (x : Committed). any_hits x.changes before o ≡ true → commit ≤ x.commit) cs (λ x le so. omega (arith, le, here, numbers.0)) (above (n + 1) cs numbers.1),
          );
          changes = (
            λ same. f.up_to,
            each_map (λ (x : Committed). n + 1 ≤ x.commit) (λ (x : Committed). x.commit ≡ commit → Each (λ (d : Change). hits before o d ≡ true → UpTo (Int (pos table) ∷ key) d) x.changes) cs
                (λ x le same. absurd (omega (arith, le, same, here, numbers.0))) (above (n + 1) cs numbers.1),
          );
        }
    by None e k rest =
        let r = rest k in
        let high : n + 1 ≤ commit = told_above (n + 1) cs before o commit table key numbers.1 k in
        record {
          commits = (λ so. absurd (both_ways (any_hits c.changes before o) (none_hits c.commit c.changes before o e) so), r.commits);
          changes = (λ same. absurd (omega (arith, same, numbers.0, high)), r.changes);
        }
