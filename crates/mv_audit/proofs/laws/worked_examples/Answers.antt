use Rattle.mv_audit.proofs.Examples.{repaired, count, no_end, zero, further, no_last_end}
use Rattle.mv_audit.proofs.laws.worked_examples.Goals as goal

pub returns-clause-repaired : goal.returns-clause-repaired
returns-clause-repaired c = repaired

pub returns-clause-count : goal.returns-clause-count
returns-clause-count c = count

pub returns-clause-no_end : goal.returns-clause-no_end
returns-clause-no_end c = no_end

pub returns-clause-zero : goal.returns-clause-zero
returns-clause-zero c = zero

pub returns-clause-further : goal.returns-clause-further
returns-clause-further c = further

pub returns-clause-no_last_end : goal.returns-clause-no_last_end
returns-clause-no_last_end c = no_last_end
