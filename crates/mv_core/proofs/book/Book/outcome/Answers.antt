use Rattle.mv_core.proofs.Ending.{lawful_of, outcome_told}
use Rattle.mv_core.proofs.book.Book.outcome.Goals as goal

pub returns-in_err-history-clause-lawful : goal.returns-in_err-history-clause-lawful
returns-in_err-history-clause-lawful c = lawful_of c.self.inside c.args.self c.self.view_is c.self.invariant.kept c.requires.ended

pub returns-in_err-replies-clause-lawful : goal.returns-in_err-replies-clause-lawful
returns-in_err-replies-clause-lawful c = lawful_of c.self.inside c.args.self c.self.view_is c.self.invariant.kept c.requires.ended

pub returns-clause-lawful : goal.returns-clause-lawful
returns-clause-lawful c = lawful_of c.self.inside c.args.self c.self.view_is c.self.invariant.kept c.requires.ended

pub returns-clause-outcome : goal.returns-clause-outcome
returns-clause-outcome c =
    outcome_told c.self.inside c.args.self _ c.self.view_is c.self.invariant.kept c.in_ok-replies.ensures c.in_ok-history.ensures.history c.in_ok-history.ensures.events c.requires.tables
