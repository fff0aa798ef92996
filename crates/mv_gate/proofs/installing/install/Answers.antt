use Rattle.std.proofs.Common.{◌≡◌, false, List, refl, sym, ap, subst, ◌∙◌}
use Rattle.std.specs.List.{list_any}
use lib.Dec.{eqb}
use Rattle.mv_values.specs.declared.patch.Write.{Write}
use Rattle.mv_values.specs.Patching.{applied}
use Rattle.mv_history.specs.Changes.{changes_between}
use Rattle.mv_shards.specs.Ledgers.{Entered}
use Rattle.mv_core.specs.Output.{reply_told, writes_told}
use Rattle.mv_shards.specs.Histories.{tables_at}
use Rattle.mv_gate.proofs.Bringing.{told_all, brings_lead, brings_changes, brings_next}
use Rattle.mv_gate.proofs.installing.install.Goals as goal

pub counted-records-requires : goal.counted-records-requires
counted-records-requires g c = c.requires.reply ∙ ap reply_told (sym c.records.ensures)

pub commit-requires-clause-fresh : goal.commit-requires-clause-fresh
commit-requires-clause-fresh g c = subst (λ (l : Entered). list_any (eqb c.args.call) l.knows.seen ≡ false) (sym c.in_ok-changes.ensures.same) c.requires.fresh

pub commit-requires-clause-leads : goal.commit-requires-clause-leads
commit-requires-clause-leads g c =
    brings_lead g.N.Making.script c.args.ledger.now c.changes_last.new.ledger c.args.call c.args.task.now.log.records c.args.writes.now c.in_ok-changes.ensures.same c.commits-commits.ensures.kept.script c.requires.there c.commits-commits.ensures.kept.seen
    c.requires.whole c.requires.writes

pub commit-requires-clause-changes : goal.commit-requires-clause-changes
commit-requires-clause-changes g c =
    let s = g.N.Making.script in
    c.as_slice.ensures.items
    ∙ brings_next s c.args.ledger.now c.changes_last.new.ledger c.args.call c.in_ok-changes.changes c.in_ok-changes.ensures.same c.commits-commits.ensures.kept.seen
    (brings_changes s c.args.ledger.now c.args.call c.args.task.now.log.records c.args.writes.now (tables_at g.N.Making.script c.args.ledger.now.knows.seen c.args.ledger.now.commits) c.in_ok-changes.changes c.commits-commits.ensures.kept.script c.requires.there c.requires.whole
    c.requires.writes refl
    (c.in_ok-changes.ensures.changes ∙ ap (λ (ws : List Write). changes_between (tables_at g.N.Making.script c.args.ledger.now.knows.seen c.args.ledger.now.commits) (applied ws (tables_at g.N.Making.script c.args.ledger.now.knows.seen c.args.ledger.now.commits))) (c.counted-records.ensures ∙ (ap writes_told c.records.ensures ∙ sym c.requires.writes))))

pub returns-clause-reply : goal.returns-clause-reply
returns-clause-reply g c =
    c.requires.reply
    ∙ (told_all g.N.Making.script c.args.ledger.now.knows.seen c.args.call c.args.ledger.now.commits c.args.task.now.log.records c.commits-commits.ensures.kept.script c.requires.there c.requires.whole).0

pub returns-clause-changes : goal.returns-clause-changes
returns-clause-changes g c =
    brings_changes g.N.Making.script c.args.ledger.now c.args.call c.args.task.now.log.records c.args.writes.now (tables_at g.N.Making.script c.args.ledger.now.knows.seen c.args.ledger.now.commits) c.in_ok-changes.changes c.commits-commits.ensures.kept.script c.requires.there
    c.requires.whole c.requires.writes refl
    (c.in_ok-changes.ensures.changes ∙ ap (λ (ws : List Write). changes_between (tables_at g.N.Making.script c.args.ledger.now.knows.seen c.args.ledger.now.commits) (applied ws (tables_at g.N.Making.script c.args.ledger.now.knows.seen c.args.ledger.now.commits))) (c.counted-records.ensures ∙ (ap writes_told c.records.ensures ∙ sym c.requires.writes)))
