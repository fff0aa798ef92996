use Rattle.mv_recorded.proofs.Inverting.{inverted}
use Rattle.mv_recorded.proofs.Wellness.{procedure_suits}
use Rattle.mv_recorded.proofs.laws.records_are_their_statements.Goals as goal

pub returns : goal.returns
returns c = λ tables proc call db whole same rising. inverted tables proc call db rising (procedure_suits tables proc call whole same)
