use Rattle.std.proofs.Common.{◌≡◌, ℕ, List, [], ◌∷◌, rules, true, ap, ◌∙◌}
use Rattle.mv_seats.specs.Knowing.{Knows, Gate, has, has_role, handing}
use Rattle.mv_shards.proofs.two_to_seven.TwoToSeven.new.Goals as goal

-- the gate's pass has the role of the second shard until those after it have theirs
second_role : (before after : Knows) → before.role ≡ Gate → before.handed ≡ 4 ∷ 5 ∷ 6 ∷ 7 ∷ [] → after ≡ handing before 3 → has_role after 2 ≡ true
second_role before after role handed is =
    ap (λ (k : Knows). has_role k 2) is ∙ (ap (λ r. has r (3 ∷ before.handed) 2) role ∙ ap (λ (shards : List ℕ). has Gate (3 ∷ shards) 2) handed)

pub make_node-requires-2 : goal.make_node-requires-2
make_node-requires-2 g c = (
  search rules,
  (c.in_ok-third.ensures.next, (search rules, second_role c.new.new.pass c.make_node.new.pass c.in_ok-rest.ensures.next.role c.in_ok-rest.ensures.handed c.in_ok-third.ensures.handed)),
)
