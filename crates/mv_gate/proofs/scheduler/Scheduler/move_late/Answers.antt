use Rattle.std.proofs.Common.{refl, ap, sym, subst, ◌∙◌, rules}
use Rattle.mv_core.specs.Books.{Booked, IsSame}
use Rattle.mv_core.proofs.Changed.{same_self}
use Rattle.std.specs.Prelude.{IfOk}
use Rattle.mv_shards.specs.Reads.{Started}
use Rattle.mv_gate.specs.Gates.{Waiting, StartsAt, GivesRepair}
use Rattle.mv_gate.proofs.Leaving.{late_before, late_moves}
use Rattle.mv_shards.specs.Leaves.{start_shown}
use Rattle.mv_gate.proofs.Pins.{leave_in, leave_back}
use Rattle.mv_gate.proofs.scheduler.Scheduler.move_late.Goals as goal

pub returns-then-not-finds-clause-ok : goal.returns-then-not-finds-clause-ok
returns-then-not-finds-clause-ok g c = subst (λ (b : Booked). IsSame c.args.self.now b) (sym c.learn.ensures.same) (same_self c.args.self.now)

pub meet_late-requires-clause-call : goal.meet_late-requires-clause-call
meet_late-requires-clause-call g c =
    let w : Waiting = record { call = c.late.inside.call; start = c.late.inside.start } in
    late_moves g.N.Making.script c.learn.new.self w (ap (λ (b : Booked). b.script) c.learn.ensures.same ∙ c.learn.ensures.script) c.late.invariant
    (late_before w w c.args.self.now c.learn.new.self _ refl c.learn.ensures.same c.pass_for-seen.ensures.seen c.learn.ensures.seen)
    (subst (λ n. StartsAt c.learn.new.self c.late.inside.call n) (c.number-number.ensures.number ∙ ap (λ (x : Started). x.number) c.pass_for-seen.ensures.same) (c.if-not-finds.ensures.0 (search rules)))

pub returns-clause-repair : goal.returns-clause-repair
returns-clause-repair g c from = subst (λ (w : Waiting). IfOk c.meet_late.result (λ tried. GivesRepair w.call from tried.answer tried.repair c.meet_late.new.self)) c.late.view_is (c.meet_late.ensures.repair from)

pub meet_late-requires-clause-last : goal.meet_late-requires-clause-last
meet_late-requires-clause-last g c = leave_in g.N.Making.script g.N.Naming.word (start_shown c.args.last.now) c.learn.new.self c.args.self.now c.learn.ensures.same c.requires.last

pub returns-clause-last : goal.returns-clause-last
returns-clause-last g c = leave_back g.N.Making.script g.N.Naming.word (start_shown c.meet_late.new.last) c.learn.new.self c.args.self.now _ c.learn.ensures.same refl c.meet_late.ensures.last
