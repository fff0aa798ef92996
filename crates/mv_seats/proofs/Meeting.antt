-- What two passes know together.
use Rattle.std.proofs.Common.{◌≡◌, ℕ, zero, suc, ◌≤◌, max, Bool, true, false, cond, nat_lt, List, [], ◌∷◌, length, slice_index, refl, sym, subst, arith}
use Rattle.std.proofs.lemmas.Bool.Decides.{nat_tests}
use mathlib.Core.List.{IsPrefix}
use Rattle.mv_seats.specs.Knowing.{Role, Plain, Gate, Shard, Spent, kept, greater}
use Rattle.mv_seats.specs.Rule.{View, both, Counted}
use Rattle.mv_seats.proofs.Prefixes.{prefix_self, prefix_shorter}

longer_fits : (xs ys history : List ℕ) (b : Bool) → IsPrefix xs history → IsPrefix ys history → IsPrefix (cond b ys xs) history
longer_fits xs ys history true p q = q
longer_fits xs ys history false p q = p

pub kept_fits : (role : Role) (xs ys history : List ℕ) → IsPrefix xs history → IsPrefix ys history → IsPrefix (kept role xs ys) history
kept_fits Plain xs ys history p q = longer_fits xs ys history (nat_lt (length xs) (length ys)) p q
kept_fits Gate xs ys history p q = p
kept_fits (Shard s) xs ys history p q = longer_fits xs ys history (nat_lt (length xs) (length ys)) p q
kept_fits Spent xs ys history p q = longer_fits xs ys history (nat_lt (length xs) (length ys)) p q

longer_of : (xs ys history : List ℕ) (b : Bool) → nat_lt (length xs) (length ys) ≡ b → IsPrefix xs history → IsPrefix ys history → IsPrefix xs (cond b ys xs) × IsPrefix ys (cond b ys xs)
longer_of xs ys history true is p q = let le : length xs ≤ length ys = grind (arith, nat_tests) in (prefix_shorter xs ys history p q le, prefix_self ys)
longer_of xs ys history false is p q = let le : length ys ≤ length xs = grind (arith, nat_tests) in (prefix_self xs, prefix_shorter ys xs history q p le)

-- if both begin one history, both begin the one that is kept
pub begin_kept : (role : Role) (xs ys history : List ℕ) → IsPrefix xs history → IsPrefix ys history → (role ≡ Gate → kept role xs ys ≡ history) → IsPrefix xs (kept role xs ys) × IsPrefix ys (kept role xs ys)
begin_kept Plain xs ys history p q whole = longer_of xs ys history (nat_lt (length xs) (length ys)) refl p q
begin_kept Gate xs ys history p q whole = (prefix_self xs, subst (λ (z : List ℕ). IsPrefix ys z) (sym (whole refl)) q)
begin_kept (Shard s) xs ys history p q whole = longer_of xs ys history (nat_lt (length xs) (length ys)) refl p q
begin_kept Spent xs ys history p q whole = longer_of xs ys history (nat_lt (length xs) (length ys)) refl p q

-- after two have met, a load of the count tells that both begin what was kept
pub begin_met : (v w : View) (n : ℕ) → Counted (both v w) n → IsPrefix v.knows.seen (both v w).knows.seen × IsPrefix w.knows.seen (both v w).knows.seen
begin_met v w n c = begin_kept v.knows.role v.knows.seen w.knows.seen c.begins.history c.one c.two c.begins.whole

pub at_greater : (xs ys : List ℕ) (q : ℕ) → slice_index (greater xs ys) q ≡ max (slice_index xs q) (slice_index ys q)
at_greater [] ys q = omega arith
at_greater (x ∷ xs) [] q = omega arith
at_greater (x ∷ xs) (y ∷ ys) zero = refl
at_greater (x ∷ xs) (y ∷ ys) (suc q) = at_greater xs ys q
