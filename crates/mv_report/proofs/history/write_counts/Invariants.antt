use Rattle.std.proofs.Common.{◌≡◌, ◌++◌, codes, take}
use Rattle.std.specs.List.{flat_map}
use Rattle.mv_report.specs.Text.{counts_text, count_text}
use Rattle.mv_report.proofs.history.write_counts.Given as goal

abbrev pub invariant-loop-round : goal.invariant-loop-round
invariant-loop-round l = l.text ≡ l.fn.text ++ (counts_text (take 1 l.rounds) ++ flat_map (λ round. codes "+" ++ count_text round.count round.mark) (take l.round-index l.rest))
