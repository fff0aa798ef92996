use Rattle.std.proofs.Common.{◌≡◌, ◌++◌, ◌∷◌, [], ◌≤◌, ◌+◌, ℕ, List, Option, Ok, Some, None, length, refl, sym, ap, subst, ◌∙◌, arith, rules}
use Rattle.mv_grace.specs.Epochs.{out_of}
use Rattle.mv_grace.specs.Rule.{Pin}
use Rattle.mv_shards.specs.Leaves.{start_shown}
use Rattle.mv_core.specs.Books.{Booked}
use Rattle.mv_core.proofs.Changed.{same_self}
use Rattle.mv_gate.specs.Gates.{Waiting, HandsOut}
use Rattle.mv_gate.specs.Readers.{AreReaders}
use Rattle.mv_gate.proofs.Pins.{may_admit, count_one, leave_at, few_calls, readers_same, readers_begun}
use Rattle.mv_gate.proofs.reader_pins.ReaderPins.begin.Goals as goal

pub admit-pin-requires : goal.admit-pin-requires
admit-pin-requires g c =
    may_admit g.N.Making.script g.N.Naming.word c.args.self.now.readers c.args.self.now.readers c.args.self.now.pins.items c.args.scheduler.now.schedule c.commits-start.result c.requires.readers c.commits-start.ensures.commits refl (omega arith)

pub admit-second-requires : goal.admit-second-requires
admit-second-requires g c =
    let out = c.admit-pin.ensures.out in
    let one = count_one (start_shown c.admit-pin.result) in
    may_admit g.N.Making.script g.N.Naming.word c.args.self.now.readers c.admit-pin.new.self c.args.self.now.pins.items c.args.scheduler.now.schedule c.commits-start.result c.requires.readers c.commits-start.ensures.commits c.admit-pin.ensures.base (omega (arith, out, one))

pub of-requires : goal.of-requires
of-requires g c =
    let both = subst (λ (o : Option Waiting). HandsOut (Ok o) c.args.scheduler.now c.begin.new.self) c.in-Ok-Some.field-0-is c.in-Ok-Some.ensures.begun in
    leave_at g.N.Making.script g.N.Naming.word (start_shown c.admit-pin.result) c.commits-start.result c.in-Ok-Some.begun.start.number (both.1.0 ∙ sym c.commits-start.ensures.commits) c.admit-pin.ensures.leave

pub returns-else-is_err-clause-readers : goal.returns-else-is_err-clause-readers
returns-else-is_err-clause-readers g c =
    let both = subst (λ (o : Option Waiting). HandsOut (Ok o) c.args.scheduler.now c.begin.new.self) c.in-Ok-Some.field-0-is c.in-Ok-Some.ensures.begun in
    let more : c.push.new.self.items ≡ c.args.self.now.pins.items ++ c.admit-second.result ∷ [] = search (rules, c.push.ensures.items, c.if-is_err.false, c.is_err.ensures.value, c.reserve.ensures.items) in
    let first = c.admit-pin.ensures.out in
    let next = c.admit-second.ensures.out in
    let one = count_one (start_shown c.admit-pin.result) in
    let two = count_one (start_shown c.admit-second.result) in
    subst (λ (xs : List (Option Pin)). AreReaders g.N.Making.script g.N.Naming.word c.admit-second.new.self xs c.begin.new.self.schedule) (sym more)
    (readers_begun g.N.Making.script g.N.Naming.word c.in-Ok-Some.begun.call c.args.self.now.readers c.admit-second.new.self c.args.self.now.pins.items c.admit-second.result c.args.scheduler.now c.begin.new.self c.requires.readers
    (few_calls g.N.Making.script c.args.scheduler.now c.in-Some._next c.commits-start.ensures.script c.in-Some.ensures.next.0 c.in-Some.ensures.next.1 c.args.board.now.few) both.0 (c.admit-second.ensures.base ∙ c.admit-pin.ensures.base) (omega (arith, first, next, one, two)) (leave_at g.N.Making.script g.N.Naming.word (start_shown c.admit-second.result) c.commits-start.result (length c.args.scheduler.now.schedule.order) (sym c.commits-start.ensures.commits) c.admit-second.ensures.leave))

pub returns-in-Err-clause-readers : goal.returns-in-Err-clause-readers
returns-in-Err-clause-readers g c =
    let first = c.admit-pin.ensures.out in
    let next = c.admit-second.ensures.out in
    let gone = c.release.ensures.out in
    let rest = c.release-in-Err.ensures.out in
    subst (λ (xs : List (Option Pin)). AreReaders g.N.Making.script g.N.Naming.word c.release-in-Err.new.self xs c.begin.new.self.schedule) (sym c.reserve.ensures.items)
    (readers_same g.N.Making.script g.N.Naming.word c.args.self.now.readers c.release-in-Err.new.self c.args.self.now.pins.items c.args.scheduler.now.schedule c.begin.new.self.schedule c.in-Err.ensures.begun.schedule
    (c.release-in-Err.ensures.base ∙ (c.release.ensures.base ∙ (c.admit-second.ensures.base ∙ c.admit-pin.ensures.base))) (omega (arith, first, next, gone, rest)) c.requires.readers)
