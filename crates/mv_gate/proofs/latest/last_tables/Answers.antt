use Rattle.std.proofs.Common.{length, refl, sym, ap, ◌∙◌}
use Rattle.mv_view.specs.Viewing.{Sight}
use Rattle.mv_script.specs.declared.script.CompiledScript.{CompiledScript}
use Rattle.mv_shards.specs.Ledgers.{Entered}
use Rattle.mv_gate.proofs.Seeing.{asked_late, told_low, size_shown, few_shown}
use Rattle.mv_gate.proofs.latest.last_tables.Goals as goal

pub tables_shown-requires : goal.tables_shown-requires
tables_shown-requires g c = λ k. (
  (refl, tt),
  (
    (size_shown g.N.Making.script c.args.ledger.now.knows.seen c.args.ledger.now.commits c.args.beside.now.script.now c.view-view.result.sight.database c.len-count.result c.commits-commits.ensures.kept.script c.args.beside.now.named c.len-count.ensures
        (ap (λ (s : Sight). s.database) c.view-view.ensures.sight)),
    (few_shown g.N.Making.script c.args.ledger.now.knows.seen c.args.ledger.now.commits c.view-view.result.sight.database c.commits-commits.ensures.kept.script
        (λ none. c.if-len-eq0.false (c.len.ensures ∙ (ap (λ (s : CompiledScript). length s.calls) c.args.beside.now.named ∙ none))) (ap (λ (s : Sight). s.database) c.view-view.ensures.sight)),
  ),
)

pub last_error-requires-clause-low : goal.last_error-requires-clause-low
last_error-requires-clause-low g c =
    told_low g.N.Making.script.options.horizon c.view-view.new.self.commits _ c.tables_shown.new.view.sight c.in-Err.why
    (asked_late c.view-view.result.sight c.tables_shown.new.view.sight _ c.in-Err.why c.view-view.new.self.commits c.in-Err.ensures.view refl
    (ap (λ (s : Sight). s.start) c.view-view.ensures.sight ∙ sym (ap (λ (l : Entered). l.commits) c.view-view.ensures.same)))
    c.into_parts-seen-in-Err.ensures.low

pub returns-in-Ok : goal.returns-in-Ok
returns-in-Ok g c = c.in-Ok.ensures.tables ∙ ap (λ (s : Sight). s.database) c.view-view.ensures.sight
