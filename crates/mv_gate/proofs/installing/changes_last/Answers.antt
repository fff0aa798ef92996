use Rattle.std.proofs.Common.{◌≡◌, false, List, refl, sym, ap, subst, ◌∙◌}
use Rattle.std.specs.List.{list_any}
use lib.Dec.{eqb}
use Rattle.mv_values.specs.declared.patch.Write.{Write}
use Rattle.mv_values.specs.Patching.{applied}
use Rattle.mv_values.specs.Tables.{Tables}
use Rattle.mv_record.specs.Runs.{writes_in}
use Rattle.mv_shards.specs.Histories.{tables_at}
use Rattle.mv_view.specs.Viewing.{Sight}
use Rattle.mv_script.proofs.Databases.{tables_rise}
use Rattle.mv_record.specs.Writes.{AreRising}
use Rattle.mv_history.specs.Changes.{changes_between}
use Rattle.mv_shards.specs.Scripts.{script_in}
use Rattle.mv_shards.specs.Ledgers.{Entered}
use Rattle.mv_gate.proofs.Seeing.{told_late, told_low, asked_same, size_shown}
use Rattle.mv_shards.specs.Leaves.{start_shown}
use Rattle.mv_gate.proofs.Pins.{leave_shown}
use Rattle.mv_gate.proofs.installing.changes_last.Goals as goal

pub changes_of_commit-requires : goal.changes_of_commit-requires
changes_of_commit-requires g c = λ k. (
  (refl, tt),
  (
    (size_shown g.N.Making.script c.args.ledger.now.knows.seen c.args.ledger.now.commits c.args.beside.now.script.now c.view-view.result.sight.database c.len-tables.result c.commits-commits.ensures.kept.script c.args.beside.now.named c.len-tables.ensures
        (ap (λ (s : Sight). s.database) c.view-view.ensures.sight)),
    (let s = g.N.Making.script in
        subst AreRising (sym (ap (λ (x : Sight). x.database) c.view-view.ensures.sight)) (tables_rise (script_in s) c.args.ledger.now.knows.seen c.args.ledger.now.commits c.commits-commits.ensures.kept.script)),
  ),
)

pub last_error-requires-clause-low : goal.last_error-requires-clause-low
last_error-requires-clause-low g c =
    told_low g.N.Making.script.options.horizon c.view-view.new.self.commits _ c.changes_of_commit.new.view.sight c.in-Err.why
    (told_late _ c.view-view.result.sight c.changes_of_commit.new.view.sight _ c.in-Err.why c.view-view.new.self.commits c.in-Err.ensures.asks refl
    (ap (λ (s : Sight). s.start) c.view-view.ensures.sight ∙ sym (ap (λ (l : Entered). l.commits) c.view-view.ensures.same)))
    c.into_parts-seen-in-Err.ensures.low

pub returns-in-Ok-clause-changes : goal.returns-in-Ok-clause-changes
returns-in-Ok-clause-changes g c =
    let db : Tables = tables_at g.N.Making.script c.args.ledger.now.knows.seen c.args.ledger.now.commits in
    let is : c.view-view.result.sight.database ≡ db = ap (λ (x : Sight). x.database) c.view-view.ensures.sight in
    subst (λ (d : Tables). c.in-Ok.changes ≡ changes_between d (applied (writes_in c.args.records.now) d)) is c.in-Ok.ensures.changes

pub returns-in-Ok-clause-last : goal.returns-in-Ok-clause-last
returns-in-Ok-clause-last g c =
    leave_shown g.N.Making.script g.N.Naming.word (start_shown c.into_parts-seen.result.1) c.view-view.result.sight c.changes_of_commit.new.view.sight c.args.ledger.now.commits (asked_same _ c.view-view.result.sight c.changes_of_commit.new.view.sight _ c.in-Ok.ensures.asks) (ap (λ (s : Sight). s.start) c.view-view.ensures.sight) c.into_parts-seen.ensures.leave

pub returns-in-Err-clause-last : goal.returns-in-Err-clause-last
returns-in-Err-clause-last g c =
    leave_shown g.N.Making.script g.N.Naming.word (start_shown c.into_parts-seen-in-Err.result.1) c.view-view.result.sight c.changes_of_commit.new.view.sight c.args.ledger.now.commits (asked_same _ c.view-view.result.sight c.changes_of_commit.new.view.sight _ c.in-Err.ensures.asks) (ap (λ (s : Sight). s.start) c.view-view.ensures.sight) c.into_parts-seen-in-Err.ensures.leave
