use Rattle.std.proofs.Common.{◌≡◌, ℕ, length, refl, sym, subst, ◌∙◌, arith}
use Rattle.std.specs.Prelude.{IfOk}
use Rattle.mv_shards.specs.Leaves.{start_shown}
use Rattle.mv_core.specs.Books.{IsSame}
use Rattle.mv_gate.specs.declared.answers.Answer.TheVariants.{Lost}
use Rattle.mv_gate.specs.declared.tried.Tried.{Tried}
use Rattle.mv_gate.specs.declared.pinned.PinnedTried.{PinnedTried}
use Rattle.mv_gate.specs.Gates.{IsKnown, Tries, GivesRepair, GivesMoved}
use Rattle.mv_gate.proofs.Pins.{may_admit, count_one, leave_at, then_ok, then_err, there_after, repairs_after, moves_after, readers_after}
use Rattle.mv_gate.proofs.reader_pins.ReaderPins.attempt.Goals as goal

pub admit-last-requires : goal.admit-last-requires
admit-last-requires g c =
    may_admit g.N.Making.script g.N.Naming.word c.args.self.now.readers c.args.self.now.readers c.args.self.now.pins.items c.args.scheduler.now.schedule c.commits-start.result c.requires c.commits-start.ensures.commits refl (omega arith)

pub admit-second-requires : goal.admit-second-requires
admit-second-requires g c =
    let out = c.admit-last.ensures.out in
    let one = count_one (start_shown c.admit-last.result) in
    may_admit g.N.Making.script g.N.Naming.word c.args.self.now.readers c.admit-last.new.self c.args.self.now.pins.items c.args.scheduler.now.schedule c.commits-start.result c.requires c.commits-start.ensures.commits c.admit-last.ensures.base (omega (arith, out, one))

pub attempt-tried-requires : goal.attempt-tried-requires
attempt-tried-requires g c = record { last = leave_at g.N.Making.script g.N.Naming.word (start_shown c.admit-last.result) c.commits-start.result (length c.args.scheduler.now.schedule.order) (sym c.commits-start.ensures.commits) c.admit-last.ensures.leave }

pub after-requires-clause-there : goal.after-requires-clause-there
after-requires-clause-there g c = there_after g.N.Making.script g.N.Naming.word c.call-call.result (λ (t : Tried g.row.N.Denot). t.answer) c.attempt-tried.result c.args.self.now.readers c.args.self.now.pins.items c.args.scheduler.now c.attempt-tried.new.self c.requires (subst (λ k. IfOk c.attempt-tried.result (λ (t : Tried g.row.N.Denot). Tries k t.answer c.args.scheduler.now c.attempt-tried.new.self)) (sym c.call-call.ensures) c.attempt-tried.ensures.ok)

pub after-requires-clause-repair : goal.after-requires-clause-repair
after-requires-clause-repair g c =
    repairs_after g.N.Making.script g.N.Naming.word c.call-call.result c.args.pinned.ready.held.start.number (λ (t : Tried g.row.N.Denot). t.answer) (λ (t : Tried g.row.N.Denot). t.repair) c.attempt-tried.result c.args.scheduler.now c.attempt-tried.new.self (start_shown c.attempt-tried.new.last)
    (subst (λ k. IfOk c.attempt-tried.result (λ (t : Tried g.row.N.Denot). GivesRepair k c.args.pinned.ready.held.start.number t.answer t.repair c.attempt-tried.new.self)) (sym c.call-call.ensures) c.attempt-tried.ensures.repair)
    (subst (λ k. IfOk c.attempt-tried.result (λ (t : Tried g.row.N.Denot). Tries k t.answer c.args.scheduler.now c.attempt-tried.new.self)) (sym c.call-call.ensures) c.attempt-tried.ensures.ok) c.attempt-tried.ensures.last

pub after-requires-clause-moved : goal.after-requires-clause-moved
after-requires-clause-moved g c =
    moves_after g.N.Making.script g.N.Naming.word c.call-call.result (λ (t : Tried g.row.N.Denot). t.answer) (λ (t : Tried g.row.N.Denot). t.moved) c.attempt-tried.result c.args.scheduler.now c.attempt-tried.new.self (start_shown c.attempt-tried.new.last)
    (subst (λ k. IfOk c.attempt-tried.result (λ (t : Tried g.row.N.Denot). GivesMoved k t.answer t.moved c.attempt-tried.new.self)) (sym c.call-call.ensures) c.attempt-tried.ensures.moved)
    (subst (λ k. IfOk c.attempt-tried.result (λ (t : Tried g.row.N.Denot). Tries k t.answer c.args.scheduler.now c.attempt-tried.new.self)) (sym c.call-call.ensures) c.attempt-tried.ensures.ok) c.attempt-tried.ensures.last

pub returns-clause-readers : goal.returns-clause-readers
returns-clause-readers g c =
    let first = c.admit-last.ensures.out in
    let next = c.admit-second.ensures.out in
    let may_second = leave_at g.N.Making.script g.N.Naming.word (start_shown c.admit-second.result) c.commits-start.result (length c.args.scheduler.now.schedule.order) (sym c.commits-start.ensures.commits) c.admit-second.ensures.leave in
    readers_after g.N.Making.script g.N.Naming.word c.call-call.result (λ (t : PinnedTried g.row.N.Denot g.N.Making g.N.Naming). t.answer) c.after.result c.args.self.now.readers c.admit-second.new.self c.after.new.self.readers c.args.self.now.pins.items c.after.new.self.pins.items c.admit-second.result c.args.pinned.pin
    (start_shown c.admit-last.result) (start_shown c.attempt-tried.new.last) c.args.pinned.ready.held.start.number c.args.scheduler.now c.attempt-tried.new.self c.requires (c.admit-second.ensures.base ∙ c.admit-last.ensures.base) (omega (arith, first, next)) c.after.ensures.base c.admit-last.ensures.needed c.admit-second.ensures.needed c.args.pinned.leave may_second
    (then_ok (λ (t : Tried g.row.N.Denot). t.answer) (λ (t : PinnedTried g.row.N.Denot g.N.Making g.N.Naming). t.answer) (λ a. Tries c.call-call.result a c.args.scheduler.now c.attempt-tried.new.self) c.attempt-tried.result c.after.result c.after.ensures.answer c.after.ensures.failed (subst (λ k. IfOk c.attempt-tried.result (λ (t : Tried g.row.N.Denot). Tries k t.answer c.args.scheduler.now c.attempt-tried.new.self)) (sym c.call-call.ensures) c.attempt-tried.ensures.ok))
    (then_err (λ (t : Tried g.row.N.Denot). t.answer) (λ (t : PinnedTried g.row.N.Denot g.N.Making g.N.Naming). t.answer) (IsSame c.args.scheduler.now c.attempt-tried.new.self) c.attempt-tried.result c.after.result c.after.ensures.answer c.attempt-tried.ensures.err) c.after.ensures.pins c.after.ensures.kept c.after.ensures.out c.after.ensures.err

pub returns-clause-ok : goal.returns-clause-ok
returns-clause-ok g c = then_ok (λ (t : Tried g.row.N.Denot). t.answer) (λ (t : PinnedTried g.row.N.Denot g.N.Making g.N.Naming). t.answer) (λ a. Tries c.args.pinned.ready.held.call a c.args.scheduler.now c.attempt-tried.new.self) c.attempt-tried.result c.after.result c.after.ensures.answer c.after.ensures.failed c.attempt-tried.ensures.ok

pub returns-clause-err : goal.returns-clause-err
returns-clause-err g c = then_err (λ (t : Tried g.row.N.Denot). t.answer) (λ (t : PinnedTried g.row.N.Denot g.N.Making g.N.Naming). t.answer) (IsSame c.args.scheduler.now c.attempt-tried.new.self) c.attempt-tried.result c.after.result c.after.ensures.answer c.attempt-tried.ensures.err

pub returns-clause-lost : goal.returns-clause-lost
returns-clause-lost g c = then_ok (λ (t : Tried g.row.N.Denot). t.answer) (λ (t : PinnedTried g.row.N.Denot g.N.Making g.N.Naming). t.answer) (λ a. a ≡ Lost → IsKnown c.args.scheduler.now c.args.pinned.ready.held → ⊥) c.attempt-tried.result c.after.result c.after.ensures.answer c.after.ensures.failed c.attempt-tried.ensures.lost
