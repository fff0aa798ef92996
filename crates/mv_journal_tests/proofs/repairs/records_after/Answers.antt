use Rattle.std.proofs.Common.{subst, ◌∙◌}
use Rattle.mv_journal.specs.declared.event.Event.{Event}
use Rattle.mv_core.specs.Books.{Made}
use Rattle.mv_core.specs.Cores.{HasRunWhole}
use Rattle.mv_explain.proofs.Repairing.{decided_some, decided_records, made_decided, is_again, repaired_live, repaired_records}
use Rattle.mv_journal_tests.proofs.repairs.records_after.Goals as goal

pub last_records-requires : goal.last_records-requires
last_records-requires c =
    let e : Event = c.args.event.now in
    let made = c.requires.made in
    decided_some made.0 c.args.core.now.book c.args.call (made_decided e _ c.args.call made.0 c.args.core.now.book c.in-X.is c.requires.repair made.1)

pub returns-in-X : goal.returns-in-X
returns-in-X c old made = decided_records old c.args.core.now.book c.args.call c.last_records.result (made_decided c.args.event.now _ c.args.call old c.args.core.now.book c.in-X.is c.requires.repair made) c.last_records.ensures

pub records-requires : goal.records-requires
records-requires c =
    let made = c.requires.made in
    let live = repaired_live made.0 c.args.core.now.book c.args.call (subst (λ e. Made e made.0 c.args.core.now.book) (is_again c.args.event.now c.args.call c.requires.repair c.in_default.not-X) made.1) in
    (live.0, live.1)

pub returns-in_default : goal.returns-in_default
returns-in_default c old made =
    let again = is_again c.args.event.now c.args.call c.requires.repair c.in_default.not-X in
    c.records.ensures.told ∙ repaired_records old c.args.core.now c.args.call (subst (λ e. Made e old c.args.core.now.book) again made) (subst (λ e. HasRunWhole e c.args.core.now) again c.requires.whole)
