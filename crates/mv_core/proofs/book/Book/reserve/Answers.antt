use Rattle.std.proofs.Common.{arith, ◌≡◌, map, slice_set, List, ℕ, is_some, refl, ap, sym, ◌∙◌}
use Rattle.std.proofs.lemmas.Result.{on_ok_weaker}
use Rattle.mv_lawful.specs.Lawful.{Live}
use Rattle.mv_lawful.specs.Rounds.{last_number}
use Rattle.mv_core.specs.Calls.{live_of}
use Rattle.mv_script.specs.Scripts.{batch_of}
use Rattle.mv_core.specs.Books.{Booked}
use Rattle.mv_core.proofs.Keeping.{live_stays, the_schedule, here_at, kept_same_told, same_calls, still_settled, room_set, room_left, room_same}
use Rattle.mv_core.proofs.Recents.{recent_same, recent_set}
use Rattle.mv_core.proofs.book.Book.reserve.Goals as goal

pub invariant_of-self-2 : goal.invariant_of-self-2
invariant_of-self-2 c = record {
  kept =
      kept_same_told c.self.inside.script c.self.inside.order.items _ c.self.inside.low c.self.inside.answered.items _ c.args.call c.self.inside.calls.items c.self.inside.journal.items _ c.index_mut.result.now c.reserve-5.new.self
      c.self.invariant.kept c.reserve-2.ensures.items c.reserve-3.ensures.items c.reserve-4.ensures.items (here_at c.self.inside c.args.self.now c.args.call c.index_mut.result.now c.self.view_is c.requires.live c.index_mut.ensures.value).2.at c.reserve-5.ensures.live c.reserve-5.ensures.rounds c.reserve-5.ensures.reply;
  live = c.self.invariant.live ∙ sym (live_stays c.self.inside.calls.items c.args.call c.index_mut.result.now c.reserve-5.new.self (here_at c.self.inside c.args.self.now c.args.call c.index_mut.result.now c.self.view_is c.requires.live c.index_mut.ensures.value).2.at c.reserve-5.ensures.reply);
  recent =
      let start : c.reserve-5.new.self.start ≡ c.index_mut.result.now.start = ap (λ (l : Live). l.start) c.reserve-5.ensures.live in
      recent_same (batch_of c.self.inside.script) c.self.inside.order.items _ c.self.inside.low c.self.inside.answered.items _ _ c.self.inside.recent _
      (recent_set (batch_of c.self.inside.script) c.self.inside.order.items c.self.inside.low c.self.inside.answered.items c.args.call c.self.inside.calls.items c.index_mut.result.now c.reserve-5.new.self c.self.inside.recent c.self.invariant.recent (here_at c.self.inside c.args.self.now c.args.call c.index_mut.result.now c.self.view_is c.requires.live c.index_mut.ensures.value).2.at (here_at c.self.inside c.args.self.now c.args.call c.index_mut.result.now c.self.view_is c.requires.live c.index_mut.ensures.value).2.going (omega (arith, start)))
      c.reserve-2.ensures.items c.reserve.ensures.low c.reserve.ensures.commits;
}

pub returns-clause-same : goal.returns-clause-same
returns-clause-same c = record {
  script = ap (λ (b : Booked). b.script) c.self.view_is;
  schedule =
      ap (λ (o : List ℕ). the_schedule o c.self.inside.low c.reserve-3.new.self.items (map live_of (slice_set c.self.inside.calls.items c.args.call c.reserve-5.new.self))) c.reserve-2.ensures.items
      ∙ (ap (λ (a : List ℕ). the_schedule c.self.inside.order.items c.self.inside.low a (map live_of (slice_set c.self.inside.calls.items c.args.call c.reserve-5.new.self))) c.reserve-3.ensures.items
      ∙ (ap (λ (ls : List Live). the_schedule c.self.inside.order.items c.self.inside.low c.self.inside.answered.items ls) (same_calls c.self.inside.calls.items c.args.call c.index_mut.result.now c.reserve-5.new.self (here_at c.self.inside c.args.self.now c.args.call c.index_mut.result.now c.self.view_is c.requires.live c.index_mut.ensures.value).2.at c.reserve-5.ensures.live)
      ∙ ap (λ (b : Booked). b.schedule) c.self.view_is));
  settled = λ d has.
      still_settled c.self.inside c.args.self.now c.args.call d c.index_mut.result.now c.reserve-5.new.self c.self.view_is (here_at c.self.inside c.args.self.now c.args.call c.index_mut.result.now c.self.view_is c.requires.live c.index_mut.ensures.value).2.at
      (λ is some. ap (λ rs. is_some (last_number rs)) c.reserve-5.ensures.rounds ∙ some) has;
  journal = c.reserve-4.ensures.items ∙ ap (λ (b : Booked). b.journal) c.self.view_is;
}

pub returns-clause-room : goal.returns-clause-room
returns-clause-room c = on_ok_weaker c.reserve-5.result (λ enough.
    let r = c.in_ok-reserve.ensures.ok in
    let a = c.in_ok-reserve-2.ensures.room in
    let b = c.in_ok-reserve-3.ensures.room in
    let j = c.in_ok-reserve-4.ensures.room in
    (omega (arith, r, a, b, j), λ f there. room_set c.self.inside.calls.items c.args.call 2 c.index_mut.result.now c.reserve-5.new.self (here_at c.self.inside c.args.self.now c.args.call c.index_mut.result.now c.self.view_is c.requires.live c.index_mut.ensures.value).2.at enough f there)) c.reserve-5.ensures.room

pub returns-in_err-reserve-clause-kept : goal.returns-in_err-reserve-clause-kept
returns-in_err-reserve-clause-kept c x n has = room_same _ c.args.self.now _ x n n c.self.view_is (omega arith) (let r = c.reserve.ensures.room in omega (arith, r)) has

pub returns-in_err-reserve-2-clause-kept : goal.returns-in_err-reserve-2-clause-kept
returns-in_err-reserve-2-clause-kept c x n has =
    room_same _ c.args.self.now _ x n n c.self.view_is (omega arith) (let r = c.reserve.ensures.room in let o = c.reserve-2.ensures.kept in omega (arith, r, o)) has

pub returns-in_err-reserve-3-clause-kept : goal.returns-in_err-reserve-3-clause-kept
returns-in_err-reserve-3-clause-kept c x n has =
    room_same _ c.args.self.now _ x n n c.self.view_is (omega arith) (let r = c.reserve.ensures.room in let o = c.reserve-2.ensures.kept in let a = c.reserve-3.ensures.kept in omega (arith, r, o, a)) has

pub returns-in_err-reserve-4-clause-kept : goal.returns-in_err-reserve-4-clause-kept
returns-in_err-reserve-4-clause-kept c x n has =
    room_same _ c.args.self.now _ x n n c.self.view_is (omega arith) (let r = c.reserve.ensures.room in let o = c.reserve-2.ensures.kept in let a = c.reserve-3.ensures.kept in let j = c.reserve-4.ensures.kept in omega (arith, r, o, a, j)) has

pub returns-clause-kept : goal.returns-clause-kept
returns-clause-kept c x n has =
    room_left _ c.args.self.now _ c.self.inside.calls.items c.args.call x n n c.index_mut.result.now c.reserve-5.new.self c.self.view_is refl (here_at c.self.inside c.args.self.now c.args.call c.index_mut.result.now c.self.view_is c.requires.live c.index_mut.ensures.value).2.at
    (omega arith) (let r = c.reserve.ensures.room in let o = c.reserve-2.ensures.kept in let a = c.reserve-3.ensures.kept in let j = c.reserve-4.ensures.kept in omega (arith, r, o, a, j)) (let r = c.reserve-5.ensures.kept in omega (arith, r)) has
