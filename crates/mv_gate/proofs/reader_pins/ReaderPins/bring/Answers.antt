use Rattle.std.proofs.Common.{◌≡◌, ◌<◌, ◌≤◌, ◌+◌, List, Option, Some, None, length, slice_set, refl, sym, ap, subst, ◌∙◌, arith, rules}
use Rattle.std.specs.Prelude.{OnOk}
use Rattle.std.proofs.lemmas.Option.{slice_get_read}
use Rattle.mv_grace.specs.Rule.{Pin}
use Rattle.mv_shards.specs.Leaves.{start_shown}
use Rattle.mv_exec.proofs.Fronts.{on_ok}
use Rattle.mv_core.specs.Calls.{IsLiveCall}
use Rattle.mv_core.specs.Books.{Booked}
use Rattle.mv_gate.specs.Gates.{Brings}
use Rattle.mv_gate.specs.Readers.{AreReaders, count}
use Rattle.mv_gate.proofs.Ending.{keeps_both, shut}
use Rattle.mv_gate.proofs.Pins.{may_admit, count_most, leave_at, pin_there, pin_leave, readers_brought}
use Rattle.mv_gate.proofs.reader_pins.ReaderPins.bring.Goals as goal

pub returns-then-not-is_live-clause-done : goal.returns-then-not-is_live-clause-done
returns-then-not-is_live-clause-done g c =
    shut c.begin_left.new.scheduler.schedule c.args.call c.in_ok-begin_left.ensures.begun (λ live. search (rules, c.is_live.ensures.1 live, c.if-not-is_live.true))

pub index_mut-requires : goal.index_mut-requires
index_mut-requires g c =
    let lt : c.args.call < length c.begin_left.new.self.pins.items =
    pin_there g.N.Making.script g.N.Naming.word c.begin_left.new.self.readers c.begin_left.new.scheduler.schedule c.begin_left.new.self.pins.items c.args.call c.begin_left.ensures.readers (c.is_live.ensures.0 (search (rules, c.if-not-is_live.false))) in
    search (rules, lt)

pub admit-last-requires : goal.admit-last-requires
admit-last-requires g c =
    may_admit g.N.Making.script g.N.Naming.word c.begin_left.new.self.readers c.begin_left.new.self.readers c.begin_left.new.self.pins.items c.begin_left.new.scheduler.schedule c.commits-commits.result c.begin_left.ensures.readers c.commits-commits.ensures.commits refl (omega arith)

pub commit_left-done-requires-clause-live : goal.commit_left-done-requires-clause-live
commit_left-done-requires-clause-live g c = c.is_live.ensures.0 (search (rules, c.if-not-is_live.false))

pub commit_left-done-requires-clause-last : goal.commit_left-done-requires-clause-last
commit_left-done-requires-clause-last g c = leave_at g.N.Making.script g.N.Naming.word (start_shown c.admit-last.result) c.commits-commits.result (length c.begin_left.new.scheduler.schedule.order) (sym c.commits-commits.ensures.commits) c.admit-last.ensures.leave

pub commit_left-done-requires-clause-own : goal.commit_left-done-requires-clause-own
commit_left-done-requires-clause-own g c =
    let s = g.N.Making.script in
    let w = g.N.Naming.word in
    let pins : List (Option Pin) = c.begin_left.new.self.pins.items in
    let live : IsLiveCall c.begin_left.new.scheduler.schedule c.args.call = c.is_live.ensures.0 (search (rules, c.if-not-is_live.false)) in
    let lt = pin_there s w c.begin_left.new.self.readers c.begin_left.new.scheduler.schedule pins c.args.call c.begin_left.ensures.readers live in
    pin_leave s w c.begin_left.new.self.readers c.begin_left.new.scheduler.schedule pins c.args.call c.take-own.result c.begin_left.ensures.readers (slice_get_read pins (length pins) c.args.call c.index_mut.result.now refl lt c.index_mut.ensures.value ∙ ap Some (sym c.take-own.ensures.value))

pub returns-clause-readers : goal.returns-clause-readers
returns-clause-readers g c =
    let s = g.N.Making.script in
    let w = g.N.Naming.word in
    let pins : List (Option Pin) = c.begin_left.new.self.pins.items in
    let old : Booked = c.begin_left.new.scheduler in
    let new : Booked = c.commit_left-done.new.self in
    let came = c.admit-last.ensures.out in
    let went = c.release.ensures.out in
    let gone = c.release-2.ensures.out in
    let most = count_most s w (length old.schedule.order) (start_shown c.admit-last.result) (start_shown c.commit_left-done.new.last) c.admit-last.ensures.needed c.commit_left-done.ensures.last in
    on_ok c.commit_left-done.result (Brings c.args.call old new) (AreReaders s w c.release-2.new.self (slice_set pins c.args.call c.take-own.new.self) new.schedule)
    (λ (brings : Brings c.args.call old new). subst (λ (o : Option Pin). AreReaders s w c.release-2.new.self (slice_set pins c.args.call o) new.schedule) (sym c.take-own.ensures.after) (readers_brought s w c.args.call c.begin_left.new.self.readers c.release-2.new.self pins c.admit-last.result old new c.begin_left.ensures.readers brings
    (leave_at s w (start_shown c.admit-last.result) c.commits-commits.result (length old.schedule.order) (sym c.commits-commits.ensures.commits) c.admit-last.ensures.leave)
    (c.release-2.ensures.base ∙ (c.release.ensures.base ∙ c.admit-last.ensures.base)) (omega (arith, came, went, gone, most))))
    c.commit_left-done.ensures.brings

pub returns-clause-kept : goal.returns-clause-kept
returns-clause-kept g c = keeps_both c.args.scheduler.now c.begin_left.new.scheduler c.commit_left-done.new.self c.in_ok-begin_left.ensures.kept c.commit_left-done.ensures.kept
