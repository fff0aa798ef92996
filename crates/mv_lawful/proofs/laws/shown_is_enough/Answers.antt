use Rattle.mv_lawful.proofs.Showing.{shown_is_all_shown, shown_is_lawful, shown_is_bounded, shown_has_the_outcome}
use Rattle.mv_lawful.proofs.laws.shown_is_enough.Goals as goal

pub returns-clause-all : goal.returns-clause-all
returns-clause-all c = shown_is_all_shown

pub returns-clause-lawful : goal.returns-clause-lawful
returns-clause-lawful c = shown_is_lawful

pub returns-clause-bounded : goal.returns-clause-bounded
returns-clause-bounded c = shown_is_bounded

pub returns-clause-outcome : goal.returns-clause-outcome
returns-clause-outcome c = shown_has_the_outcome
