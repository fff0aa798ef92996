-- The test with the fewest keys.
use Rattle.std.proofs.Common.{◌≡◌, ◌<◌, ◌≤◌, ◌+◌, ◌⊎◌, ℕ, true, false, List, Option, Some, None, All, length, slice_index_or, inl, inr, refl, sym, ap, subst, ◌∙◌, arith}
use Rattle.std.specs.Prelude.{Contains, IfSome, ◌&&◌, ◌==◌, nat_lt, nat_le}
use Rattle.std.specs.List.{AllWithin}
use Rattle.std.proofs.lemmas.Bool.{or_cases, or_parts, and_parts, and_cases, eqb-true, eqb-false, ltb-true, ltb-false, leb-true, leb-false, cases_lt}
use Rattle.std.proofs.lemmas.List.Elements.{AllWithin-more, at_read}
use Rattle.mv_values.specs.declared.value.Value.{Value}
use Rattle.mv_values.specs.declared.pred.Test.{Test}
use Rattle.mv_values.specs.declared.pred.Pred.{Pred}
use Rattle.mv_table.specs.Spans.{AdmitsOnly}
use Rattle.mv_index.specs.declared.index.Candidate.{Candidate}
use Rattle.mv_index.specs.Forms.{KeyList}
use Rattle.mv_index.specs.Indexing.{Contents, keys_for, IsNoWorse, is_no_worse, AreFewest, IsOnlyOf}
use Rattle.mv_index.specs.declared.lens.KeyLens.TheVariants.{One}

-- no better than these keys of a column
abbrev pub IsWorse : Contents → ℕ → KeyList → ℕ → Test → Type 0
IsWorse index t keys column other = IfSome (keys_for index t other) (λ others. IsNoWorse (length keys) column (length others) other.column)

-- the best of the first tests
abbrev pub IsBest : Contents → ℕ → List Test → ℕ → Option Candidate → Type 0
IsBest index t tests i None = AllWithin (λ test. keys_for index t test ≡ None) tests 0 i
IsBest index t tests i (Some best) = (test : Test) × Contains tests test × (keys_for index t test ≡ Some best.keys.now) × (best.column ≡ test.column) × AllWithin (IsWorse index t best.keys.now best.column) tests 0 i

-- what the test tells
pub no_worse_by : (a x b y : ℕ) → is_no_worse a x b y ≡ true → IsNoWorse a x b y
no_worse_by a x b y h = elim (or_cases (nat_lt a b) ((a == b) && nat_le x y) h) [
  | inl less ↦ inl (ltb-true a b less)
  | inr same ↦ let both = and_parts (a == b) (nat_le x y) same in inr (eqb-true a b both.0, leb-true x y both.1)
]

pub worse_by : (a x b y : ℕ) → is_no_worse a x b y ≡ false → IsNoWorse b y a x
worse_by a x b y h =
    let parts = or_parts (nat_lt a b) ((a == b) && nat_le x y) h in
    let le : b ≤ a = ltb-false a b parts.0 in
    elim (and_cases (a == b) (nat_le x y) parts.1) [
      | inl other ↦ elim (cases_lt b a) [
        | inl less ↦ inl less
        | inr more ↦ let same : a ≡ b = omega (arith, le, more) in absurd (eqb-false a b other same)
      ]
      | inr above ↦ elim (cases_lt b a) [
        | inl less ↦ inl less
        | inr more ↦ let same : b ≡ a = omega (arith, le, more) in let up : y ≤ x = omega (arith, leb-false x y above) in inr (same, up)
      ]
    ]

pub no_worse_itself : (n x : ℕ) → IsNoWorse n x n x
no_worse_itself n x = inr (refl, omega arith)

worse_then : (a b c x y z : ℕ) → IsNoWorse a x b y → IsNoWorse b y c z → IsNoWorse a x c z
worse_then a b c x y z h g = elim h [
  | inl less ↦ elim g [
    | inl more ↦ inl (omega (arith, less, more))
    | inr same ↦ let is = same.0 in inl (omega (arith, less, is))
  ]
  | inr same ↦ let is = same.0 in let le = same.1 in elim g [
    | inl more ↦ inl (omega (arith, is, more))
    | inr equal ↦ let two = equal.0 in let up = equal.1 in inr (omega (arith, is, two), omega (arith, le, up))
  ]
]

-- a test that can't be looked up
pub best_passed : (index : Contents) (t : ℕ) (tests : List Test) (i : ℕ) (test : Test) (best : Option Candidate) → i < length tests → test ≡ slice_index_or tests i test → keys_for index t test ≡ None → IsBest index t tests i best
    → IsBest index t tests (i + 1) best
best_passed index t tests i test None lt is none h = AllWithin-more (λ other. keys_for index t other ≡ None) tests 0 i h (at_read tests (λ other. keys_for index t other ≡ None) i test lt is none)
best_passed index t tests i test (Some best) lt is none h =
    let worse : IsWorse index t best.keys.now best.column test = subst (λ o. IfSome o (λ others. IsNoWorse (length best.keys.now) best.column (length others) test.column)) (sym none) tt in
    (h.0, h.1, h.2, h.3, AllWithin-more (IsWorse index t best.keys.now best.column) tests 0 i h.4 (at_read tests (IsWorse index t best.keys.now best.column) i test lt is worse))

-- one that can
pub best_taken : (index : Contents) (t : ℕ) (tests : List Test) (i : ℕ) (test : Test) (best : Option Candidate) (candidate new : Candidate) → i < length tests → test ≡ slice_index_or tests i test → keys_for index t test ≡ Some candidate.keys.now
    → candidate.column ≡ test.column → (new ≡ candidate) ⊎ (best ≡ Some new) → IsNoWorse (length new.keys.now) new.column (length candidate.keys.now) candidate.column
    → IfSome best (λ b. IsNoWorse (length new.keys.now) new.column (length b.keys.now) b.column) → IsBest index t tests i best → IsBest index t tests (i + 1) (Some new)
best_taken index t tests i test best candidate new lt is some column one no_worse before h =
    let whose = from best h one in
    (whose.0, whose.1, whose.2, whose.3, AllWithin-more (IsWorse index t new.keys.now new.column) tests 0 i (earlier best h before) (at_read tests (IsWorse index t new.keys.now new.column) i test lt is here))
  where
    here : IsWorse index t new.keys.now new.column test
    here = subst (λ o. IfSome o (λ others. IsNoWorse (length new.keys.now) new.column (length others) test.column)) (sym some) (subst (λ c. IsNoWorse (length new.keys.now) new.column (length candidate.keys.now) c) column no_worse)

    own : new ≡ candidate → (it : Test) × Contains tests it × (keys_for index t it ≡ Some new.keys.now) × (new.column ≡ it.column)
    own e = (test, (i, lt, sym is), some ∙ ap (λ (c : Candidate). Some c.keys.now) (sym e), ap (λ (c : Candidate). c.column) e ∙ column)

    from : (o : Option Candidate) → IsBest index t tests i o → (new ≡ candidate) ⊎ (o ≡ Some new) → (it : Test) × Contains tests it × (keys_for index t it ≡ Some new.keys.now) × (new.column ≡ it.column)
    from None g (inl e) = own e
    from None g (inr e) = cc
    from (Some b) g (inl e) = own e
    from (Some b) g (inr e) = let same : b ≡ new = cc in subst (λ (c : Candidate). (it : Test) × Contains tests it × (keys_for index t it ≡ Some c.keys.now) × (c.column ≡ it.column)) same (g.0, g.1, g.2, g.3)

    through : (b : Candidate) (other : Test) (o : Option KeyList) → IsNoWorse (length new.keys.now) new.column (length b.keys.now) b.column → IfSome o (λ others. IsNoWorse (length b.keys.now) b.column (length others) other.column)
        → IfSome o (λ others. IsNoWorse (length new.keys.now) new.column (length others) other.column)
    through b other None g k = tt
    through b other (Some others) g k = worse_then (length new.keys.now) (length b.keys.now) (length others) new.column b.column other.column g k

    earlier : (o : Option Candidate) → IsBest index t tests i o → IfSome o (λ b. IsNoWorse (length new.keys.now) new.column (length b.keys.now) b.column) → AllWithin (IsWorse index t new.keys.now new.column) tests 0 i
    earlier None g k = λ j d low high. subst (λ o. IfSome o (λ others. IsNoWorse (length new.keys.now) new.column (length others) (slice_index_or tests j d).column)) (sym (g j d low high)) tt
    earlier (Some b) g k = λ j d low high. through b (slice_index_or tests j d) (keys_for index t (slice_index_or tests j d)) k (g.4 j d low high)

-- none of all tests can be looked up
pub none_best : (index : Contents) (t : ℕ) (tests : List Test) (i : ℕ) → length tests ≤ i → IsBest index t tests i None → All (λ test. keys_for index t test ≡ None) tests
none_best index t tests i le h = λ k d lt. h k d (omega arith) (omega (arith, lt, le))

-- the best of all tests
pub are_fewest : (index : Contents) (pred : Pred) (i : ℕ) (best : Candidate) → length pred.tests ≤ i → IsBest index pred.table pred.tests i (Some best) → AreFewest index pred best.keys.now
are_fewest index pred i best le h = record {
  test = h.0;
  there = h.1;
  are = h.2;
  fewest = λ k d lt. subst (λ c. IsWorse index pred.table best.keys.now c (slice_index_or pred.tests k d)) h.3 (h.4 k d (omega arith) (omega (arith, lt, le)));
}

-- before the first test
pub best_none : (index : Contents) (t : ℕ) (tests : List Test) → IsBest index t tests 0 None
best_none index t tests = λ k d low high. absurd (omega (arith, high))

pub at_end : {A : Type 0} (i : ℕ) (xs ys : List A) → xs ≡ ys → length xs ≤ i → length ys ≤ i
at_end i xs ys is le = subst (λ l. length l ≤ i) is le

-- A key that is given whole

pub only_given : (o : Option (List Value)) (len : ℕ) (tests : List Test) → IfSome o (AdmitsOnly tests len) → IfSome o (IsOnlyOf (Some (One len)) tests)
only_given None len tests only = tt
only_given (Some key) len tests only = λ n h. subst (λ m. AdmitsOnly tests m key) (eqb-true len n h) only
