use Rattle.std.proofs.Common.{◌≡◌, length, sym, ap, subst, ◌∙◌}
use Rattle.mv_audit.specs.Comparing.{IsAlong, kept_more, other_more}
use Rattle.mv_audit.proofs.Keeping.{keep_next, renew_next, next_there, on_ok_by}
use Rattle.mv_audit.proofs.kept.go_on.Goals as goal

pub returns-then-stays-clause-along : goal.returns-then-stays-clause-along
returns-then-stays-clause-along c =
    let runs = c.args.runs.now in
    let w = c.pass.new.walk in
    let n = c.len-number.result in
    let long = c.len-number.ensures ∙ ap length (sym c.in_ok-pass.ensures.flags) in
    let there = next_there runs.new c.args.walk.now.flags n c.index-runs-number.result c.as_slice-path.result.now c.requires.sound.new_whole c.len-number.ensures c.requires.more c.index-runs-number.is (c.as_slice-path.ensures ∙ sym c.index-runs-number.is) in
    on_ok_by c.keep.result (c.keep.new.walk ≡ kept_more w) (IsAlong runs c.keep.new.walk)
    (λ is. subst (IsAlong runs) (sym is)
    (keep_next runs w n c.as_slice-path.result.now c.requires.sound long (rw c.in_ok-pass.ensures.flags there) c.in_ok-pass.ensures.stops (c.stays.ensures.there c.if-stays.true) (sym c.stays.ensures.stays ∙ c.if-stays.true) c.in_ok-pass.ensures.along))
    c.keep.ensures

pub returns-else-stays-clause-along : goal.returns-else-stays-clause-along
returns-else-stays-clause-along c =
    let runs = c.args.runs.now in
    let w = c.pass.new.walk in
    let n = c.len-number.result in
    let long = c.len-number.ensures ∙ ap length (sym c.in_ok-pass.ensures.flags) in
    let there = next_there runs.new c.args.walk.now.flags n c.index-runs-number.result c.as_slice-path.result.now c.requires.sound.new_whole c.len-number.ensures c.requires.more c.index-runs-number.is (c.as_slice-path.ensures ∙ sym c.index-runs-number.is) in
    on_ok_by c.renew.result (c.renew.new.walk ≡ other_more runs.new.records.now n w) (IsAlong runs c.renew.new.walk)
    (λ is. subst (IsAlong runs) (sym is)
    (renew_next runs w n c.as_slice-path.result.now c.requires.sound long (rw c.in_ok-pass.ensures.flags there) c.in_ok-pass.ensures.stops (sym c.stays.ensures.stays ∙ c.if-stays.false) c.in_ok-pass.ensures.along))
    c.renew.ensures
