use Rattle.mv_recorded.proofs.Examples.{adds_five, add_overflows, update_overflows, looks_in_vain, transfers, transfer_rolls_back, adds_up}
use Rattle.mv_recorded.proofs.TableExamples.{closes, reads_twice, divides_by_zero}
use Rattle.mv_recorded.proofs.laws.worked_examples.Goals as goal

pub returns-clause-add : goal.returns-clause-add
returns-clause-add c = adds_five

pub returns-clause-overflow : goal.returns-clause-overflow
returns-clause-overflow c = add_overflows

pub returns-clause-update_overflow : goal.returns-clause-update_overflow
returns-clause-update_overflow c = update_overflows

pub returns-clause-no_row : goal.returns-clause-no_row
returns-clause-no_row c = looks_in_vain

pub returns-clause-transfer : goal.returns-clause-transfer
returns-clause-transfer c = transfers

pub returns-clause-rollback : goal.returns-clause-rollback
returns-clause-rollback c = transfer_rolls_back

pub returns-clause-turns : goal.returns-clause-turns
returns-clause-turns c = adds_up

pub returns-clause-table : goal.returns-clause-table
returns-clause-table c = closes

pub returns-clause-twice : goal.returns-clause-twice
returns-clause-twice c = reads_twice

pub returns-clause-fault : goal.returns-clause-fault
returns-clause-fault c = divides_by_zero
