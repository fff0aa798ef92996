use Rattle.std.proofs.Common.{◌≡◌, ◌∙◌, length, ap, sym}
use Rattle.std.proofs.lemmas.Bool.{or_from}
use Rattle.mv_repair.specs.Walking.{is_touched}
use Rattle.mv_repair.proofs.Lists.{untouched}
use Rattle.mv_repair.proofs.walk.is_touched_by_others.Goals as goal

pub returns-then-len-eq0 : goal.returns-then-len-eq0
returns-then-len-eq0 c =
    let none : length c.args.record.now.preds ≡ 0 = ap length (sym c.preds.ensures) ∙ (sym c.len.ensures ∙ c.if-len-eq0.true) in
    sym (or_from (is_touched c.args.record.now c.args.task.now.log.past c.args.old.now.others) (is_touched c.args.record.now c.args.task.now.log.records c.args.new.now.others)
    (untouched c.args.record.now c.args.task.now.log.past c.args.old.now.others none) (untouched c.args.record.now c.args.task.now.log.records c.args.new.now.others none))
