-- The commits before a call, where one more call commits or is answered.
use Rattle.std.proofs.Common.{◌≡◌, ℕ, suc, ◌+◌, ◌<◌, Bool, true, false, not, cond, List, [], ◌∷◌, ◌++◌, Some, None, length, if◌then◌else◌, refl, ap, ◌∙◌, arith, rules, length-append}
use Rattle.std.specs.Prelude.{◌==◌, nat_lt, slice_get}
use Rattle.std.specs.List.{position, position_or_len}
use Rattle.std.proofs.lemmas.Bool.{eqb-true, eq-eqb}
use Rattle.mv_lawful.specs.Outcomes.{commits_before}
use Rattle.mv_lawful.proofs.Serial.{stands, stands_same, stands_other}

-- Places in a list

abbrev place : List ℕ → ℕ → ℕ
place cs c = position_or_len (λ d. d == c) cs

last_place : (cs : List ℕ) (c : ℕ) → ((k : ℕ) → slice_get cs k ≡ Some c → ⊥) → place (cs ++ c ∷ []) c ≡ length cs
last_place [] c none = ap (λ b. cond (not b) 1 0) (eq-eqb c c refl)
last_place (x ∷ cs) c none = by (x == c) refl (last_place cs c (λ k at. none (suc k) at)) where
  by : (b : Bool) → (x == c) ≡ b → place (cs ++ c ∷ []) c ≡ length cs → cond (not b) (1 + place (cs ++ c ∷ []) c) 0 ≡ suc (length cs)
  by true e h = absurd (none 0 (ap Some (eqb-true x c e)))
  by false e h = omega (arith, h)

same_place : (cs : List ℕ) (c d : ℕ) → place cs c < length cs → place (cs ++ d ∷ []) c ≡ place cs c
same_place [] c d lt = absurd (omega (arith, lt))
same_place (x ∷ cs) c d lt = by (x == c) lt (same_place cs c d) where
  by : (b : Bool) → cond (not b) (1 + place cs c) 0 < suc (length cs) → (place cs c < length cs → place (cs ++ d ∷ []) c ≡ place cs c) → cond (not b) (1 + place (cs ++ d ∷ []) c) 0 ≡ cond (not b) (1 + place cs c) 0
  by true h go = refl
  by false h go = ap (λ n. 1 + n) (go (omega (arith, h)))

at_place : (cs : List ℕ) (c k : ℕ) → position (λ d. d == c) cs ≡ Some k → (place cs c ≡ k) × (place cs c < length cs)
at_place cs c k is = by (nat_lt (place cs c) (length cs)) refl is where
  less : nat_lt (place cs c) (length cs) ≡ true → place cs c < length cs
  less h = grind (arith, h)

  by : (b : Bool) → nat_lt (place cs c) (length cs) ≡ b → cond b (Some (place cs c)) None ≡ Some k → (place cs c ≡ k) × (place cs c < length cs)
  by true e h = (search (rules, h), less e)
  by false e h = absurd (search (rules, h))

found_at : (cs : List ℕ) (c k : ℕ) → place cs c ≡ k → k < length cs → position (λ d. d == c) cs ≡ Some k
found_at cs c k is lt = ap (λ b. cond b (Some (place cs c)) None) within ∙ ap Some is where
  within : nat_lt (place cs c) (length cs) ≡ true
  within = grind (arith, is, lt)

found_last : (cs : List ℕ) (c : ℕ) → ((k : ℕ) → slice_get cs k ≡ Some c → ⊥) → position (λ d. d == c) (cs ++ c ∷ []) ≡ Some (length cs)
found_last cs c none = found_at (cs ++ c ∷ []) c (length cs) (last_place cs c none) (let n = length-append cs (c ∷ []) in omega (arith, n))

found_stays : (cs : List ℕ) (c d k : ℕ) → position (λ x. x == c) cs ≡ Some k → position (λ x. x == c) (cs ++ d ∷ []) ≡ Some k
found_stays cs c d k is =
    let p = at_place cs c k is in
    found_at (cs ++ d ∷ []) c k (same_place cs c d p.1 ∙ p.0) (let n = length-append cs (d ∷ []) in let a = p.0 in let b = p.1 in omega (arith, n, a, b))

-- Commits before a call

-- all commits are before the next one
pub before_commit : (order answered : List ℕ) (start c : ℕ) → stands c answered ≡ false → ((k : ℕ) → slice_get order k ≡ Some c → ⊥) → commits_before (order ++ c ∷ []) answered start c ≡ Some (length order)
before_commit order answered start c away none = ap (λ b. if b then Some start else position (λ d. d == c) (order ++ c ∷ [])) away ∙ found_last order c none

-- another call commits
pub before_stays : (order answered : List ℕ) (start c d k : ℕ) → commits_before order answered start c ≡ Some k → commits_before (order ++ d ∷ []) answered start c ≡ Some k
before_stays order answered start c d k is = by (stands c answered) is where
  by : (b : Bool) → (if b then Some start else position (λ x. x == c) order) ≡ Some k → (if b then Some start else position (λ x. x == c) (order ++ d ∷ [])) ≡ Some k
  by true h = h
  by false h = found_stays order c d k h

-- those up to its start are before an answered call
pub before_answered : (order answered : List ℕ) (start c : ℕ) → commits_before order (answered ++ c ∷ []) start c ≡ Some start
before_answered order answered start c = ap (λ b. if b then Some start else position (λ d. d == c) order) (stands_same c answered)

-- another call is answered
pub before_kept : (order answered : List ℕ) (start c d : ℕ) → (d ≡ c → ⊥) → commits_before order (answered ++ d ∷ []) start c ≡ commits_before order answered start c
before_kept order answered start c d ne = ap (λ b. if b then Some start else position (λ x. x == c) order) (stands_other c d answered ne)
