use Rattle.std.proofs.Common.{◌≡◌, ℕ, List, [], ◌∷◌, rules, true, ap, ◌∙◌}
use Rattle.mv_seats.specs.Knowing.{Knows, Gate, has, has_role, handing}
use Rattle.mv_shards.proofs.shards.Shards.new.Goals as goal

-- the gate's pass has the role of the first shard until all others have theirs
first_role : (before after : Knows) → before.role ≡ Gate → before.handed ≡ 2 ∷ 3 ∷ 4 ∷ 5 ∷ 6 ∷ 7 ∷ [] → after ≡ handing before 1 → has_role after 0 ≡ true
first_role before after role handed is =
    ap (λ (k : Knows). has_role k 0) is ∙ (ap (λ r. has r (1 ∷ before.handed) 0) role ∙ ap (λ (shards : List ℕ). has Gate (1 ∷ shards) 0) handed)

pub make_node-requires-2 : goal.make_node-requires-2
make_node-requires-2 g c = (
  search rules,
  (c.in_ok-first.ensures.next, (search rules, first_role c.new.new.pass c.make_node.new.pass c.in_ok-rest.ensures.next.role c.in_ok-rest.ensures.handed c.in_ok-first.ensures.handed)),
)
