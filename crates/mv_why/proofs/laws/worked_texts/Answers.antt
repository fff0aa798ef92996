use Rattle.mv_why.proofs.Texts.{fee, definer, holder, turn, key}
use Rattle.mv_why.proofs.laws.worked_texts.Goals as goal

pub returns-clause-fee : goal.returns-clause-fee
returns-clause-fee c = fee

pub returns-clause-definer : goal.returns-clause-definer
returns-clause-definer c = definer

pub returns-clause-holder : goal.returns-clause-holder
returns-clause-holder c = holder

pub returns-clause-turn : goal.returns-clause-turn
returns-clause-turn c = turn

pub returns-clause-key : goal.returns-clause-key
returns-clause-key c = key
