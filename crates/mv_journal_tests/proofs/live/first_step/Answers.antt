use Rattle.std.proofs.Common.{◌≡◌, ◌+◌, List, length, ap, sym, subst, ◌∙◌, arith}
use Rattle.mv_record.specs.declared.record.Record.{Record}
use Rattle.mv_core.specs.Cores.{AreFirstOf, records_by}
use Rattle.mv_core.proofs.Changed.{live_stepped}
use Rattle.mv_journal_tests.proofs.live.first_step.Goals as goal

pub records-requires : goal.records-requires
records-requires c =
    let live = c.requires.live in
    (record live.0 { steps = live.0.steps + 1 }, live_stepped c.args.call c.args.core.now.book c.step.new.self.book live.0 live.1 c.in_ok-step.ensures.made.0)

pub returns-clause-count : goal.returns-clause-count
returns-clause-count c =
    let live = c.requires.live in
    let ran = c.in_ok-step.ensures.one in
    let none : length ran.before.task.log.records ≡ 0 = ap (λ (rs : List Record). length rs) (sym (ap records_by ran.had) ∙ c.requires.fresh) in
    let one = (ran.one live.0 live.1 (omega (arith, none))).records in
    let told = c.len.ensures ∙ ap (λ (rs : List Record). length rs) (c.records.ensures.told ∙ ap records_by ran.has) in
    omega (arith, none, one, told)

pub returns-clause-first : goal.returns-clause-first
returns-clause-first c = subst (λ (rs : List Record). AreFirstOf c.step.new.self.book c.args.call rs) c.records.ensures.told c.records.ensures.first
