-- What comes first of some limits is one of them, and none of them is sooner.
use Rattle.std.proofs.Common.{◌≡◌, ℕ, Bool, true, false, ◌&&◌, ◌||◌, ◌==◌, nat_lt, if◌then◌else◌, List, [], ◌∷◌, Some, None, refl, sym, ap, subst, ◌∙◌, inl, inr, arith, ◌⊎◌}
use Rattle.std.proofs.lemmas.Bool.Decides.{nat_tests}
use Rattle.mv_ast.specs.declared.limit.PassedLimit.{PassedLimit}
use Rattle.mv_ast.specs.Limits.{rank, is_sooner, sooner, soonest}
use Rattle.mv_limits.specs.Firsts.{IsIn, NoneSooner, IsFirst}

-- pairs of numbers, the first of which counts first
abbrev lower : ℕ → ℕ → ℕ → ℕ → Bool
lower a i b j = nat_lt a b || ((a == b) && nat_lt i j)

lower_same : (a i : ℕ) → lower a i a i ≡ false
lower_same a i = grind (arith, nat_tests)

lower_behind : (a i b j c k : ℕ) → lower a i b j ≡ true → lower a i c k ≡ false → lower b j c k ≡ false
lower_behind a i b j c k h g = grind (arith, nat_tests)

lower_none : (a i b j c k : ℕ) → lower a i b j ≡ false → lower b j c k ≡ false → lower a i c k ≡ false
lower_none a i b j c k h g = grind (arith, nat_tests)

-- what is the least of a pass and of others
record Least (b : PassedLimit) (ps : List PassedLimit) : Type 0 where
  pub least : PassedLimit
  pub found : soonest (Some b) ps ≡ Some least
  pub among : (least ≡ b) ⊎ IsIn least ps
  pub not_this : is_sooner b least ≡ false
  pub none : NoneSooner least ps

least_of : (b : PassedLimit) (ps : List PassedLimit) → Least b ps
unfolding soonest
least_of b [] = record { least = b; found = refl; among = inl refl; not_this = lower_same b.token (rank b.which); none = tt }
least_of b (p ∷ ps) = go (is_sooner p b) refl (least_of p ps) (least_of b ps)
  where
    goes : (c : Bool) → is_sooner p b ≡ c → soonest (sooner (Some b) p) ps ≡ soonest (if c then Some p else Some b) ps
    goes c e = ap (λ d. soonest (if d then Some p else Some b) ps) e

    go : (c : Bool) → is_sooner p b ≡ c → Least p ps → Least b ps → Least b (p ∷ ps)
    go true e r s = record {
      least = r.least;
      found = goes true e ∙ r.found;
      among = elim r.among [ inl h ↦ inr (inl h) | inr h ↦ inr (inr h) ];
      not_this = lower_behind p.token (rank p.which) b.token (rank b.which) r.least.token (rank r.least.which) e r.not_this;
      none = (r.not_this, r.none);
    }
    go false e s r = record {
      least = r.least;
      found = goes false e ∙ r.found;
      among = elim r.among [ inl h ↦ inl h | inr h ↦ inr (inr h) ];
      not_this = r.not_this;
      none = (lower_none p.token (rank p.which) b.token (rank b.which) r.least.token (rank r.least.which) e r.not_this, r.none);
    }

pub is_first : (ps : List PassedLimit) → IsFirst ps (soonest None ps)
unfolding soonest
is_first [] = refl
is_first (p ∷ ps) = let r = least_of p ps in subst (λ o. IsFirst (p ∷ ps) o) (sym r.found) (r.among, (r.not_this, r.none))
