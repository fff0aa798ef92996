use Rattle.std.proofs.Common.{◌∙◌, ap, arith, length, ◌<◌, drop, ◌+◌}
use Rattle.std.proofs.lemmas.List.{length-set}
use Rattle.mv_ast.specs.declared.tree.Item.{Item}
use Rattle.mv_names.specs.Items.{table_in, procedure_in, copy_in, call_in, journal_in}
use Rattle.mv_names.proofs.Taken.{rest_same, rest_is, one_on}
use Rattle.mv_names.proofs.parts.part.Goals as goal

pub loop-i-preserved : goal.loop-i-preserved
loop-i-preserved c =
    let old = c.loop-i.parts in
    let h = c.loop-i.invariant in
    let i = c.loop-i.i in
    let x = c.replace-item.result in
    let items = c.args.script.items in
    let within : i < length c.loop-i.items = omega (arith, c.loop-i-test.true, h.same_length, c.len-i-end.ensures) in
    let d = rest_is c.loop-i.items items i x within h.rest c.replace-item.ensures.back in
    let done = c.in_ok-add.ensures in
    record {
      same_length = ap length c.replace-item.ensures.items ∙ (length-set c.loop-i.items i c.blank.result ∙ h.same_length);
      rest = ap (drop (i + 1)) c.replace-item.ensures.items ∙ rest_same c.loop-i.items items i c.blank.result h.rest;
      tables = one_on (λ (i : Item). table_in i.kind) items i x old.tables c.add.new.parts.tables d done.tables h.tables;
      procedures = one_on (λ (i : Item). procedure_in i.kind) items i x old.procedures c.add.new.parts.procedures d done.procedures h.procedures;
      copies = one_on (λ (i : Item). copy_in i.kind) items i x old.copies c.add.new.parts.copies d done.copies h.copies;
      calls = one_on (λ (i : Item). call_in i.kind) items i x old.calls c.add.new.parts.calls d done.calls h.calls;
      journals = one_on (λ (i : Item). journal_in i.kind) items i x old.journals c.add.new.parts.journals d done.journals h.journals;
    }
