use Rattle.std.proofs.Common.{◌≡◌, ◌+◌, List, Bool, true, length, sym, ap, subst, ◌∙◌, arith}
use Rattle.std.specs.Prelude.{slice_get}
use Rattle.std.proofs.lemmas.Option.{slice_get_past}
use Rattle.mv_audit.specs.declared.walk.Walk.{Walk}
use Rattle.mv_audit.specs.Comparing.{is_before, IsAlong}
use Rattle.mv_audit.proofs.Going.{pass_next}
use Rattle.mv_audit.proofs.walk.pass.Goals as goal

pub loop-walk-preserved : goal.loop-walk-preserved
loop-walk-preserved c =
    let runs = c.args.runs.now in
    let w : Walk = c.loop-walk.walk in
    let before : is_before (slice_get runs.old.paths.now w.at) c.args.path.now ≡ true = ap (λ q. is_before q c.args.path.now) (sym c.item.ensures) ∙ (sym c.is_before.ensures ∙ c.if-is_before.true) in
    record {
      along = subst (λ (w : Walk). IsAlong runs (record w { at = w.at + 1 })) (sym c.in_ok-note.ensures)
          (pass_next runs w c.args.path.now c.requires.sound (ap (λ (l : List Bool). slice_get runs.new.paths.now (length l)) c.loop-walk.invariant.flags ∙ c.requires.next) before c.loop-walk.invariant.along);
      flags = ap (λ (w : Walk). w.flags) c.in_ok-note.ensures ∙ c.loop-walk.invariant.flags;
    }

pub returns-after-loop-walk-clause-stops : goal.returns-after-loop-walk-clause-stops
returns-after-loop-walk-clause-stops c =
    ap (λ q. is_before q c.args.path.now) (slice_get_past c.args.runs.now.old.paths.now c.loop-walk.walk.at (omega (arith, c.loop-walk-test.false)))
