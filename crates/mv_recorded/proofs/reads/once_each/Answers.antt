use Rattle.std.proofs.Common.{◌∙◌, ap, ◌++◌, ◌+◌, drop}
use Rattle.mv_recorded.specs.Reading.{each_once}
use Rattle.mv_recorded.proofs.Once.{new_to, all_new, one_number_more}
use Rattle.mv_recorded.proofs.reads.once_each.Goals as goal

pub loop-number-init : goal.loop-number-init
loop-number-init c = ap (λ l. l ++ new_to l (each_once c.args.numbers.now)) c.new-all.ensures ∙ all_new (each_once c.args.numbers.now)

pub loop-number-preserved : goal.loop-number-preserved
loop-number-preserved c =
    let numbers = c.args.numbers.now in
    let i = c.loop-number.number-index in
    ap (λ l. l ++ new_to l (each_once (drop (i + 1) numbers))) c.in_ok-add_new.ensures
    ∙ (one_number_more c.loop-number.all numbers i 0 c.loop-number-test.true ∙ c.loop-number.invariant)
