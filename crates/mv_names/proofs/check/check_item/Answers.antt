use Rattle.mv_names.proofs.check.check_item.Goals as goal

pub returns : goal.returns
returns c = rw (c.stage_of.ensures, c.late.ensures) at c.add_if.ensures
