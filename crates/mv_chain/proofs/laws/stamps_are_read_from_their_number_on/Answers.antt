use Rattle.mv_chain.proofs.Stamps as laws
use Rattle.mv_chain.proofs.laws.stamps_are_read_from_their_number_on.Goals as goal

pub returns-clause-before : goal.returns-clause-before
returns-clause-before c = laws.read_before

pub returns-clause-after : goal.returns-clause-after
returns-clause-after c = laws.read_after
