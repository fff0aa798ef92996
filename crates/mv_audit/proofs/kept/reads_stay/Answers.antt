use Rattle.std.proofs.Common.{◌+◌, drop, sym, ap, ◌∙◌, arith}
use Rattle.std.specs.Prelude.{◌&&◌}
use Rattle.mv_audit.specs.Comparing.{reads_by}
use Rattle.mv_audit.proofs.Keeping.{read_more}
use Rattle.mv_audit.proofs.kept.reads_stay.Goals as goal

pub returns-then-not-both_stay : goal.returns-then-not-both_stay
returns-then-not-both_stay c =
    let k = c.args.known.now in
    let i = c.loop-i.i in
    let old = c.args.old.now in
    let new = c.args.new.now in
    sym (sym c.loop-i.invariant
    ∙ (read_more k.flags.now k.old.now k.new.now old new i _ _ c.both_stay.result c.loop-i-test.true (omega (arith, c.loop-i-test.true, c.if-old-new.false)) c.item.ensures c.item-in-loop-i.ensures c.both_stay.ensures
    ∙ ap (λ b. b && reads_by k.flags.now k.old.now k.new.now (drop (i + 1) old) (drop (i + 1) new)) c.if-not-both_stay.true))

pub loop-i-preserved : goal.loop-i-preserved
loop-i-preserved c =
    let k = c.args.known.now in
    let i = c.loop-i.i in
    let old = c.args.old.now in
    let new = c.args.new.now in
    sym (read_more k.flags.now k.old.now k.new.now old new i _ _ c.both_stay.result c.loop-i-test.true (omega (arith, c.loop-i-test.true, c.if-old-new.false)) c.item.ensures c.item-in-loop-i.ensures c.both_stay.ensures
    ∙ ap (λ b. b && reads_by k.flags.now k.old.now k.new.now (drop (i + 1) old) (drop (i + 1) new)) c.if-not-both_stay.false)
    ∙ c.loop-i.invariant
