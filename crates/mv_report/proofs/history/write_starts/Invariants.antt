use Rattle.std.proofs.Common.{◌≡◌, ◌++◌, codes, decimal, take}
use Rattle.std.specs.List.{flat_map}
use Rattle.mv_report.specs.Text.{starts_text}
use Rattle.mv_report.proofs.history.write_starts.Given as goal

abbrev pub invariant-loop-round : goal.invariant-loop-round
invariant-loop-round l = l.text ≡ l.fn.text ++ (starts_text (take 1 l.rounds) ++ flat_map (λ round. codes "," ++ decimal round.start) (take l.round-index l.rest))
