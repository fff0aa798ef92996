use Rattle.std.proofs.Common.{sym, subst}
use Rattle.mv_repair.specs.Keys.{KeepsKeys}
use Rattle.mv_repair.proofs.Knowing.{table_more}
use Rattle.mv_repair.proofs.keys.Keys.widen.Goals as goal

pub loop-alloc-init : goal.loop-alloc-init
loop-alloc-init c = subst (KeepsKeys c.args.self.now) (sym c.self.view_is) (λ table key h. h)

pub loop-alloc-preserved : goal.loop-alloc-preserved
loop-alloc-preserved c = subst (KeepsKeys c.args.self.now) (sym c.in_ok-push.ensures.ok) (λ table key h. table_more c.loop-alloc.self-inside.tables c.new.result table key (c.loop-alloc.invariant table key h))
