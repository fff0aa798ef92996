use Rattle.std.proofs.Common.{◌≡◌, length, sym, ap, subst, arith}
use Rattle.mv_audit.specs.declared.walk.Walk.{Walk}
use Rattle.mv_audit.specs.Comparing.{IsAlong}
use Rattle.mv_audit.proofs.Going.{begins, ends}
use Rattle.mv_audit.proofs.kept.compared.Goals as goal

pub loop-walk-init : goal.loop-walk-init
loop-walk-init c = record {
  along = subst (IsAlong c.args.runs.now) (sym c.beginning-walk.ensures) (begins c.args.runs.now);
  few = (let n : length c.beginning-walk.result.flags ≡ 0 = ap (λ (w : Walk). length w.flags) c.beginning-walk.ensures in omega (arith, n));
}

pub returns : goal.returns
returns c = ends c.args.runs.now c.loop-walk.walk c.requires (omega (arith, c.loop-walk-test.false, c.len.ensures, c.loop-walk.invariant.few)) c.loop-walk.invariant.along
