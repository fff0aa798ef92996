use Rattle.std.proofs.Common.{◌+◌, take, drop, sym, ap, ◌∙◌}
use Rattle.std.specs.Prelude.{◌||◌}
use Rattle.std.specs.Option.{is_some}
use Rattle.mv_history.specs.Hits.{first_hit}
use Rattle.mv_audit.proofs.Hitting.{hit_here}
use Rattle.mv_audit.proofs.hit.is_hit.Goals as goal

pub returns-then-commits_hit : goal.returns-then-commits_hit
returns-then-commits_hit c n =
    let i = c.loop-number.number in
    let rs = c.args.records.now in
    let cs = c.args.commits.now in
    sym (sym (c.loop-number.invariant n) ∙ (hit_here n cs rs i c.index-records-number.result c.commits_hit.result c.loop-number-test.true c.index-records-number.is c.commits_hit.ensures.each
    ∙ ap (λ b. b || is_some (first_hit n cs (take (i + 1) rs) (drop (i + 1) rs))) c.if-commits_hit.true))

pub loop-number-preserved : goal.loop-number-preserved
loop-number-preserved c n =
    let i = c.loop-number.number in
    let rs = c.args.records.now in
    let cs = c.args.commits.now in
    sym (hit_here n cs rs i c.index-records-number.result c.commits_hit.result c.loop-number-test.true c.index-records-number.is c.commits_hit.ensures.each
    ∙ ap (λ b. b || is_some (first_hit n cs (take (i + 1) rs) (drop (i + 1) rs))) c.if-commits_hit.false) ∙ c.loop-number.invariant n
