use Rattle.std.proofs.Common.{get_or, arith, subst, sym}
use Rattle.std.proofs.lemmas.Result.{err_from_is_err_and}
use Rattle.mv_journal.specs.declared.event.Event.TheVariants.{B}
use Rattle.mv_script.specs.Scripts.{IsCompiledScript}
use Rattle.mv_core.proofs.Driving.{read_at}
use Rattle.mv_explain.proofs.Telling.{told_more, told_stop}
use Rattle.mv_explain.proofs.explain.write_events.Goals as goal

pub write_event-requires : goal.write_event-requires
write_event-requires c = subst IsCompiledScript (sym c.loop-event.invariant.told.stands.made.script) c.requires.script

pub loop-event-preserved : goal.loop-event-preserved
loop-event-preserved c =
    let at = c.loop-event.invariant.at in
    let within = c.loop-event-test.true in
    record {
      told = told_more c.args.tables.now c.args.events.now c.loop-event.n (get_or c.args.events.now c.loop-event.event-index (B 0)) c.args.core.now.book c.loop-event.core.book c.write_event.new.core.book c.args.text.now c.loop-event.text c.write_event.new.text
          (omega (arith, at, within)) (read_at c.args.events.now c.loop-event.n c.loop-event.event-index (B 0) c.loop-event.invariant.at c.loop-event-test.true) c.loop-event.invariant.told c.in_ok-write_event.ensures;
      at = omega (arith, at);
    }

pub returns-in_err-write_event : goal.returns-in_err-write_event
returns-in_err-write_event c =
    let at = c.loop-event.invariant.at in
    let within = c.loop-event-test.true in
    let p = err_from_is_err_and c.from_residual.result c.from_residual.ensures.1 in
    rw (p.1, p.2) (told_stop c.args.tables.now c.args.events.now c.loop-event.n (get_or c.args.events.now c.loop-event.event-index (B 0)) c.args.core.now.book c.loop-event.core.book c.write_event.new.core.book c.args.text.now c.loop-event.text c.write_event.new.text
    c.in_err-write_event.field-0.0 (omega (arith, at, within)) (read_at c.args.events.now c.loop-event.n c.loop-event.event-index (B 0) c.loop-event.invariant.at c.loop-event-test.true) c.loop-event.invariant.told c.in_err-write_event.ensures)
