use Rattle.std.proofs.Common.{◌≡◌, ◌+◌, true, List, sym, ap, subst, ◌∙◌, arith}
use Rattle.std.specs.Prelude.{slice_get}
use Rattle.std.proofs.lemmas.Option.{slice_get_past}
use Rattle.mv_history.specs.Kept.{Path}
use Rattle.mv_why.specs.declared.walk.Walk.{Walk}
use Rattle.mv_why.specs.Walking.{is_before, HasPassed}
use Rattle.mv_why.proofs.Going.{passed_none, passed_next}
use Rattle.mv_why.proofs.walk.Walk.pass.Goals as goal

pub loop-self-init : goal.loop-self-init
loop-self-init c = passed_none c.args.old.now c.args.self.now c.args.path.now

pub loop-self-preserved : goal.loop-self-preserved
loop-self-preserved c =
    let w : Walk = c.loop-self.self in
    let before : is_before (slice_get c.args.old.now.paths w.at) c.args.path.now ≡ true =
    ap (λ q. is_before q c.args.path.now) (sym (c.item.ensures ∙ ap (λ (l : List Path). slice_get l w.at) c.as_slice.ensures)) ∙ (sym c.is_before.ensures ∙ c.if-is_before.true) in
    subst (λ (w : Walk). HasPassed c.args.old.now c.args.self.now c.args.path.now (record w { at = w.at + 1 })) (sym c.in_ok-note.ensures)
    (passed_next c.args.old.now c.args.self.now c.args.path.now w c.loop-self.invariant before)

pub returns-after-loop-self-clause-stops : goal.returns-after-loop-self-clause-stops
returns-after-loop-self-clause-stops c =
    ap (λ q. is_before q c.args.path.now) (slice_get_past c.args.old.now.paths c.loop-self.self.at (let end = c.loop-self-test.false in let len = c.len.ensures in omega (arith, end, len)))
