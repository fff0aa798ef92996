use Rattle.mv_effect.proofs.rows.only_key.Goals as goal

pub returns : goal.returns
returns c = rw (c.tests.ensures, c.key_in-keys.ensures, c.table.ensures) at c.whole_key.ensures.only
