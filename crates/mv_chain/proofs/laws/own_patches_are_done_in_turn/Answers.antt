use Rattle.mv_chain.proofs.Stamps as laws
use Rattle.mv_chain.proofs.laws.own_patches_are_done_in_turn.Goals as goal

pub returns-clause-composes : goal.returns-clause-composes
returns-clause-composes c = laws.composes

pub returns-clause-others_stay : goal.returns-clause-others_stay
returns-clause-others_stay c = laws.others_stay

pub returns-clause-is_dropped : goal.returns-clause-is_dropped
returns-clause-is_dropped c = laws.is_dropped

pub returns-clause-others_are_kept : goal.returns-clause-others_are_kept
returns-clause-others_are_kept c = laws.others_are_kept
