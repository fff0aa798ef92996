use Rattle.std.proofs.Common.{arith, rules, ◌≡◌, ◌≤◌, ◌<◌, ◌^◌, ◌+◌, List, map, length, refl, ap, sym, subst, ◌∙◌}
use Rattle.mv_lawful.specs.Lawful.{Live, again}
use Rattle.mv_core.specs.Calls.{IsLive, live_of}
use Rattle.mv_core.specs.Books.{round_event}
use Rattle.mv_script.specs.Scripts.{batch_of}
use Rattle.mv_core.proofs.Keeping.{live_stays, the_schedule, here_at, IsProgressAt, few_inside, within, round_live, room_here, settled_here, kept_restart, other_round, restarted, restart_after, map_changed, made_on, free_on, room_left, start_past, still_settled}
use Rattle.mv_core.proofs.Recents.{recent_set}
use Rattle.mv_core.proofs.book.Book.restart.Goals as goal

pub overflow_cast-start : goal.overflow_cast-start
overflow_cast-start c = let few : length c.self.inside.order.items < 2 ^ 32 = few_inside c.self.inside c.self.invariant.kept in search (rules, few, c.len-start.ensures)

pub index_mut-requires : goal.index_mut-requires
index_mut-requires c = let lt : c.args.call < length c.self.inside.calls.items = within c.self.inside c.args.self.now c.args.call c.self.view_is (round_live c.args.self.now c.args.mark c.args.call c.requires.allowed) in search (rules, lt)

first : (c : goal.After-index_mut) → (l : Live) × IsLive c.args.self.now.schedule c.args.call l × IsProgressAt c.self.inside.calls.items c.args.call l c.index_mut.result.now
first c = here_at c.self.inside c.args.self.now c.args.call c.index_mut.result.now c.self.view_is (round_live c.args.self.now c.args.mark c.args.call c.requires.allowed) c.index_mut.ensures.value

pub restart-requires : goal.restart-requires
restart-requires c = let has : 1 ≤ c.index_mut.result.now.rounds.room = room_here c.self.inside c.args.self.now c.args.call 1 c.index_mut.result.now c.self.view_is (first c).2.at c.requires.room in omega (arith, has)

here : (c : goal.After-put) → (l : Live) × IsLive c.args.self.now.schedule c.args.call l × IsProgressAt c.self.inside.calls.items c.args.call l c.index_mut.result.now
here c = here_at c.self.inside c.args.self.now c.args.call c.index_mut.result.now c.self.view_is (round_live c.args.self.now c.args.mark c.args.call c.requires.allowed) c.index_mut.ensures.value

start : (c : goal.After-put) → c.restart.new.self.start ≡ length c.self.inside.order.items
start c = c.restart.ensures.start ∙ c.len-start.ensures

live : (c : goal.After-put) → live_of c.restart.new.self ≡ again (length c.self.inside.order.items) c.args.mark (live_of c.index_mut.result.now)
live c =
    subst (λ n. live_of c.restart.new.self ≡ again n c.args.mark (live_of c.index_mut.result.now)) c.len-start.ensures
    (restarted c.len-start.result c.args.mark c.index_mut.result.now c.restart.new.self c.restart.ensures.start c.restart.ensures.steps c.restart.ensures.rounds c.restart.ensures.reply)

pub invariant_of-self : goal.invariant_of-self
invariant_of-self c = record {
  kept =
      kept_restart c.self.inside.script c.self.inside.order.items c.self.inside.low c.self.inside.answered.items c.args.call c.self.inside.calls.items c.self.inside.journal.items _ c.args.mark c.index_mut.result.now c.restart.new.self
      c.self.invariant.kept c.requires.mark (free_on (round_event c.args.mark c.args.call) _ c.args.self.now c.self.view_is c.requires.allowed)
      (λ plain. settled_here c.self.inside c.args.self.now c.args.call c.index_mut.result.now c.self.view_is (here c).2.at (c.requires.settled plain))
      (here c).2.at (here c).2.going
      (start c) c.restart.ensures.steps (search (rules, c.restart.ensures.rounds, c.len-start.ensures)) c.restart.ensures.reply
      (search (rules, c.put.ensures.items, c.round_event.ensures));
  live = c.self.invariant.live ∙ sym (live_stays c.self.inside.calls.items c.args.call c.index_mut.result.now c.restart.new.self (here c).2.at c.restart.ensures.reply);
  recent =
      let past : c.index_mut.result.now.start ≤ length c.self.inside.order.items = start_past c.self.inside c.args.call c.index_mut.result.now c.self.invariant.kept (here c).2.at in
      let new = start c in
      recent_set (batch_of c.self.inside.script) c.self.inside.order.items c.self.inside.low c.self.inside.answered.items c.args.call c.self.inside.calls.items c.index_mut.result.now c.restart.new.self c.self.inside.recent c.self.invariant.recent (here c).2.at (here c).2.going (omega (arith, past, new));
}

pub returns-clause-made : goal.returns-clause-made
returns-clause-made c =
    made_on (round_event c.args.mark c.args.call) _ c.args.self.now _ c.self.view_is c.requires.allowed
    (ap (λ (ls : List Live). the_schedule c.self.inside.order.items c.self.inside.low c.self.inside.answered.items ls) (map_changed (again (length c.self.inside.order.items) c.args.mark) c.self.inside.calls.items c.args.call c.index_mut.result.now c.restart.new.self (here c).2.at (live c))
    ∙ sym (restart_after (batch_of c.self.inside.script) (the_schedule c.self.inside.order.items c.self.inside.low c.self.inside.answered.items (map live_of c.self.inside.calls.items)) c.args.mark c.args.call c.requires.mark))
    (λ d live other has. still_settled c.self.inside c.args.self.now c.args.call d c.index_mut.result.now c.restart.new.self c.self.view_is (here c).2.at
    (λ is was. absurd (other_round c.args.mark c.args.call d c.requires.mark other is)) has)
    (search (rules, c.put.ensures.items, c.round_event.ensures)) refl

pub returns-clause-room : goal.returns-clause-room
returns-clause-room c x n has =
    room_left _ c.args.self.now _ c.self.inside.calls.items c.args.call x n (n + 1) c.index_mut.result.now c.restart.new.self c.self.view_is refl (here c).2.at (omega arith) (let r = c.put.ensures.room in omega (arith, r)) (let r = c.restart.ensures.room in omega (arith, r)) has
