use Rattle.mv_effect.proofs.queries.told_by.Goals as goal

pub returns : goal.returns
returns c = rw (c.tests.ensures, c.key_in-keys.ensures, c.table.ensures, c.asked_pred-pred.ensures) at c.aggregate_direction.ensures.tells
