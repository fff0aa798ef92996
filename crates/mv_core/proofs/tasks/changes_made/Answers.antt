use Rattle.std.proofs.Common.{refl, ◌≡◌, length, subst, ◌∙◌}
use Rattle.mv_values.specs.Patching.{applied}
use Rattle.mv_history.specs.Changes.{changes_between}
use Rattle.mv_core.specs.Output.{writes_told}
use Rattle.mv_core.proofs.Given.{ok_then}
use Rattle.mv_core.proofs.Stored.{rising_shown, size_shown, last_made}
use Rattle.mv_core.proofs.tasks.changes_made.Goals as goal

pub changes_told-requires : goal.changes_told-requires
changes_told-requires g c = λ k. ((refl, tt), ((c.len.ensures ∙ size_shown c.args.book.now (length c.args.book.now.schedule.order) c.script.result.now (g.V.View.sight c.args.view.now) c.requires.script c.script.ensures c.requires.shows), (rising_shown c.args.book.now (length c.args.book.now.schedule.order) (g.V.View.sight c.args.view.now) c.requires.script c.requires.shows)))

pub returns-clause-made : goal.returns-clause-made
returns-clause-made g c call lt whole =
    ok_then c.changes_told.result c.changes_told.ensures.changes
    (λ changes are. last_made c.args.book.now call c.args.records.now changes c.requires.script lt whole (subst (λ db. changes ≡ changes_between db (applied (writes_told c.args.records.now) db)) c.requires.shows are))
