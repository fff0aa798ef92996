use Rattle.std.proofs.Common.{◌∙◌, List, length, ap, arith}
use Rattle.mv_journal.specs.declared.event.Event.{Event}
use Rattle.mv_script.specs.Scripts.{batch_of}
use Rattle.mv_top.proofs.Whys.{why_is, why_is_told}
use Rattle.mv_top.proofs.why.why_text.Goals as goal

pub explain_journal-requires-clause-few : goal.explain_journal-requires-clause-few
explain_journal-requires-clause-few c =
    let same = ap (λ (es : List Event). length es) c.as_slice-2.ensures in
    let few = c.in_ok-events.ensures.few in
    let size = c.requires.size in
    omega (arith, same, few, size)

pub returns-clause-text : goal.returns-clause-text
returns-clause-text c =
    why_is c.args.options c.args.bytes.now c.args.program (batch_of c.in_ok-script.field-0.script) c.as_slice.result.now c.as_slice-2.result.now c.in_ok-events.events c.explain_journal.result
    c.in_ok-script.ensures.batch (c.as_slice.ensures ∙ c.in_ok-script.ensures.tables) c.as_slice-2.ensures c.in_ok-events.ensures.events c.explain_journal.ensures.lawful c.explain_journal.ensures.text

pub returns-clause-refused : goal.returns-clause-refused
returns-clause-refused c =
    why_is_told c.args.options c.args.bytes.now c.args.program (batch_of c.in_ok-script.field-0.script) c.as_slice-2.result.now c.in_ok-events.events c.explain_journal.result
    c.in_ok-script.ensures.batch c.as_slice-2.ensures c.in_ok-events.ensures.events c.explain_journal.ensures.wrong
