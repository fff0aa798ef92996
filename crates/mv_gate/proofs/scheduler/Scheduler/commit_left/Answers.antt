use Rattle.std.proofs.Common.{refl, ◌<◌, Option, length, sym, subst, ◌∙◌}
use Rattle.std.specs.Prelude.{IfSome, IfNone, OnOk}
use Rattle.mv_exec.specs.declared.task.Task.{Task}
use Rattle.mv_core.specs.Calls.{IsLiveCall}
use Rattle.mv_core.specs.Books.{Booked, IsNotStale}
use Rattle.mv_core.proofs.Changed.{same_self}
use Rattle.mv_gate.specs.Gates.{IsWhole, IsPastIn, MayMove, Brings, GoesOn}
use Rattle.mv_gate.proofs.Committing.{told_moves}
use Rattle.mv_gate.proofs.Ending.{keeps_same}
use Rattle.mv_gate.proofs.Leaving.{left_moves}
use Rattle.mv_shards.specs.Leaves.{start_shown}
use Rattle.mv_gate.proofs.Pins.{leave_in, leave_back}
use Rattle.mv_gate.proofs.scheduler.Scheduler.commit_left.Goals as goal

pub is_stale-requires : goal.is_stale-requires
is_stale-requires g c = subst (λ (b : Booked). IsLiveCall b.schedule c.args.call) (sym c.self.view_is) c.requires.live

pub move_left-requires-clause-may : goal.move_left-requires-clause-may
move_left-requires-clause-may g c =
    subst (λ (b : Booked). MayMove b c.args.call) c.self.view_is
    (told_moves c.self.inside.book c.args.call c.journal-events.ensures.allowed c.journal-events.ensures.reaches (subst (λ (b : Booked). IsLiveCall b.schedule c.args.call) (sym c.self.view_is) c.requires.live)
    (subst (λ (b : Booked). c.args.call < length b.script.calls) (sym c.self.view_is) c.requires.number) (λ l live. sym (c.is_stale.ensures l live) ∙ c.if-is_stale.true))

pub returns-in_err-task-clause-kept : goal.returns-in_err-task-clause-kept
returns-in_err-task-clause-kept g c = subst (λ (b : Booked). GoesOn c.args.self.now b) (sym c.renew.ensures.same) (keeps_same c.args.self.now c.args.self.now (same_self c.args.self.now))

pub move_left-requires-in_default-clause-may : goal.move_left-requires-in_default-clause-may
move_left-requires-in_default-clause-may g c =
    subst (λ (b : Booked). MayMove b c.args.call) (sym c.renew.ensures.same) (left_moves c.args.self.now c.args.call c.requires.live c.requires.number
    (subst (λ (o : Option Task). IfNone o (IsPastIn c.args.self.now c.args.call)) c.in_default.is c.in_ok-task.ensures.past))

pub finish_left-requires-clause-whole : goal.finish_left-requires-clause-whole
finish_left-requires-clause-whole g c = subst (λ (b : Booked). IsWhole b c.args.call c.in-Some.task) (sym c.renew.ensures.same)
    (subst (λ (o : Option Task). IfSome o (IsWhole c.args.self.now c.args.call)) c.in-Some.is c.in_ok-task.ensures.whole)

pub finish_left-requires-clause-fresh : goal.finish_left-requires-clause-fresh
finish_left-requires-clause-fresh g c =
    subst (λ (b : Booked). IsNotStale b c.args.call) (sym c.renew.ensures.same) (subst (λ (b : Booked). IsNotStale b c.args.call) c.self.view_is (λ l live. sym (c.is_stale.ensures l live) ∙ c.if-is_stale.false))

pub returns-clause-kept : goal.returns-clause-kept
returns-clause-kept g c = subst (λ (b : Booked). GoesOn b c.finish_left.new.self) c.renew.ensures.same c.finish_left.ensures.kept

pub returns-in_default-clause-kept : goal.returns-in_default-clause-kept
returns-in_default-clause-kept g c = subst (λ (b : Booked). GoesOn b c.move_left-in_default.new.self) c.renew.ensures.same c.move_left-in_default.ensures.kept

pub finish_left-requires-clause-last : goal.finish_left-requires-clause-last
finish_left-requires-clause-last g c = leave_in g.N.Making.script g.N.Naming.word (start_shown c.args.last.now) c.renew.new.self c.args.self.now c.renew.ensures.same c.requires.last

pub move_left-requires-in_default-clause-last : goal.move_left-requires-in_default-clause-last
move_left-requires-in_default-clause-last g c = leave_in g.N.Making.script g.N.Naming.word (start_shown c.args.last.now) c.renew.new.self c.args.self.now c.renew.ensures.same c.requires.last

pub returns-clause-last : goal.returns-clause-last
returns-clause-last g c = leave_back g.N.Making.script g.N.Naming.word (start_shown c.finish_left.new.last) c.renew.new.self c.args.self.now _ c.renew.ensures.same refl c.finish_left.ensures.last

pub returns-in_default-clause-last : goal.returns-in_default-clause-last
returns-in_default-clause-last g c = leave_back g.N.Making.script g.N.Naming.word (start_shown c.move_left-in_default.new.last) c.renew.new.self c.args.self.now _ c.renew.ensures.same refl c.move_left-in_default.ensures.last

pub returns-clause-brings : goal.returns-clause-brings
returns-clause-brings g c = subst (λ (b : Booked). OnOk c.finish_left.result (Brings c.args.call b c.finish_left.new.self)) c.renew.ensures.same c.finish_left.ensures.brings

pub returns-in_default-clause-brings : goal.returns-in_default-clause-brings
returns-in_default-clause-brings g c = subst (λ (b : Booked). OnOk c.move_left-in_default.result (Brings c.args.call b c.move_left-in_default.new.self)) c.renew.ensures.same c.move_left-in_default.ensures.brings
