use Rattle.std.proofs.Common.{◌≡◌, ◌++◌, codes, take}
use Rattle.std.specs.List.{flat_map, join_by}
use Rattle.mv_why.proofs.lines.write_numbers.Given as goal

abbrev pub invariant-loop-number : goal.invariant-loop-number
invariant-loop-number g l = l.text ≡ l.fn.text ++ (join_by g.I.Integer.text (codes ".") (take 1 l.numbers) ++ flat_map (λ n. codes "." ++ g.I.Integer.text n) (take l.number-index l.rest))
