-- Who has the role of a shard, and what its pass knows of its own mark.
use Rattle.std.proofs.Common.{◌≡◌, ℕ, true, List, [], refl, ◌∙◌, ap, slice_index, subst, eq-eqb}
use Rattle.mv_seats.specs.Knowing.{Role, Gate, Shard, Knows, has, has_role, met, IsMark}

-- the shard's own pass has it
pub shard_has : (k : Knows) (q : ℕ) → k.role ≡ Shard q → has_role k q ≡ true
shard_has k q is = ap (λ (r : Role). has r k.handed q) is ∙ eq-eqb q q refl

-- the gate's pass has it, until it hands out the first role
pub gate_has : (k : Knows) (q : ℕ) → k.role ≡ Gate → k.handed ≡ [] → has_role k q ≡ true
gate_has k q is none = ap (λ (r : Role). has r k.handed q) is ∙ ap (λ (xs : List ℕ). has Gate xs q) none

-- after a shard's pass has met another, a load of its mark tells that the mark is the one that it knew before
pub own_kept : (before k other : Knows) (q n : ℕ) → before.role ≡ Shard q → k ≡ met before other → IsMark k q n → slice_index before.marks q ≡ n
own_kept before k other q n is e m = (subst (λ (z : Knows). IsMark z q n) e m).own_mine (shard_has (met before other) q is)
