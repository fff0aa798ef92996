use Rattle.std.proofs.Common.{Some, sym, ap, ◌∙◌}
use Rattle.mv_lawful.specs.Rounds.{last_number}
use Rattle.mv_core.proofs.Keeping.{here_at, number_kept, unsettled_here}
use Rattle.mv_core.proofs.book.Book.number.Goals as goal

pub returns-in-Some : goal.returns-in-Some
returns-in-Some c =
    let here = here_at c.self.inside c.args.self.now c.args.call c.index.result.now c.self.view_is c.requires.live c.index.ensures in
    number_kept c.self.inside c.args.self.now c.args.call c.in-Some.count here.0 c.index.result.now c.self.view_is c.self.invariant.kept here.2 (sym (ap last_number c.as_slice.ensures) ∙ (sym c.last_number.ensures ∙ c.in-Some.is))

pub returns-in-None : goal.returns-in-None
returns-in-None c =
    let here = here_at c.self.inside c.args.self.now c.args.call c.index.result.now c.self.view_is c.requires.live c.index.ensures in
    c.requires.number (unsettled_here c.self.inside c.args.self.now c.args.call c.index.result.now c.self.view_is here.2.at (sym (ap last_number c.as_slice.ensures) ∙ (sym c.last_number.ensures ∙ c.in-None.is)))
    ∙ ap Some (sym c.executed.ensures)
