use Rattle.std.proofs.Common.{◌∙◌, ◌+◌, sym, ap, drop}
use Rattle.std.specs.Prelude.{◌||◌}
use Rattle.std.specs.Option.{option_copied}
use Rattle.mv_chain.specs.Having.{is_set_past}
use Rattle.mv_chain.proofs.Having.{seek, seek_at, seek_end}
use Rattle.mv_chain.proofs.column.found_before.Goals as goal

pub returns-then-ends_at : goal.returns-then-ends_at
returns-then-ends_at c =
    let n = c.args.column in
    let v = c.args.value.now in
    let us = c.args.undos.now in
    let i = c.loop-undo.undo-index in
    let now = option_copied c.args.now in
    let u = c.undo-item.result in
    sym (ap (λ b. b || seek n v (is_set_past n v c.loop-undo.set u.patch) (drop (i + 1) us) now) (sym c.ends_at.ensures ∙ c.if-ends_at.true))
    ∙ (sym (seek_at n v c.loop-undo.set us now i u c.loop-undo-test.true c.undo-item.is) ∙ c.loop-undo.invariant)

pub loop-undo-preserved : goal.loop-undo-preserved
loop-undo-preserved c =
    let n = c.args.column in
    let v = c.args.value.now in
    let us = c.args.undos.now in
    let i = c.loop-undo.undo-index in
    let now = option_copied c.args.now in
    let u = c.undo-item.result in
    ap (λ s. seek n v s (drop (i + 1) us) now) c.is_set_past-set.ensures
    ∙ (sym (ap (λ b. b || seek n v (is_set_past n v c.loop-undo.set u.patch) (drop (i + 1) us) now) (sym c.ends_at.ensures ∙ c.if-ends_at.false))
    ∙ (sym (seek_at n v c.loop-undo.set us now i u c.loop-undo-test.true c.undo-item.is) ∙ c.loop-undo.invariant))

pub returns : goal.returns
returns c =
    c.ends.ensures
    ∙ (sym (seek_end c.args.column c.args.value.now c.loop-undo.set c.args.undos.now (option_copied c.args.now) c.loop-undo.undo-index c.loop-undo-test.false) ∙ c.loop-undo.invariant)
