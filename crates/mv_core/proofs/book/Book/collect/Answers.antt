use Rattle.std.proofs.Common.{arith, ◌≡◌, ◌≤◌, ◌+◌, ◌∙◌, length, sym, ap, subst, refl, map}
use Rattle.mv_lawful.specs.Lawful.{next_low}
use Rattle.mv_script.specs.Scripts.{batch_of}
use Rattle.mv_core.specs.Calls.{live_of}
use Rattle.mv_core.specs.Books.{Booked, batch_in, IsSettled}
use Rattle.mv_journal.specs.declared.event.Event.TheVariants.{G}
use Rattle.mv_core.proofs.Keeping.{made_on, the_schedule, room_same}
use Rattle.mv_core.proofs.Lows.{kept_low, next_within, next_past}
use Rattle.mv_core.proofs.Recents.{recent_below, recent_long, recent_trimmed}
use Rattle.mv_core.proofs.book.Book.collect.Goals as goal

low : (c : goal.After-put) → c.next_low-low.result ≡ next_low (batch_of c.self.inside.script) (the_schedule c.self.inside.order.items c.self.inside.low c.self.inside.answered.items (map live_of c.self.inside.calls.items))
low c = c.next_low-low.ensures ∙ ap (λ (b : Booked). next_low (batch_in b) b.schedule) (sym c.self.view_is)

pub trim-requires-clause-rises : goal.trim-requires-clause-rises
trim-requires-clause-rises c =
    recent_below (batch_of c.self.inside.script) (the_schedule c.self.inside.order.items c.self.inside.low c.self.inside.answered.items (map live_of c.self.inside.calls.items)) c.next_low-low.result c.self.inside.recent c.self.invariant.recent
    (next_past c.self.inside.script c.self.inside.order.items c.self.inside.low c.self.inside.answered.items c.next_low-low.result c.self.inside.calls.items (c.next_low-low.ensures ∙ ap (λ (b : Booked). next_low (batch_in b) b.schedule) (sym c.self.view_is)))

pub trim-requires-clause-within : goal.trim-requires-clause-within
trim-requires-clause-within c =
    let long = recent_long (batch_of c.self.inside.script) (the_schedule c.self.inside.order.items c.self.inside.low c.self.inside.answered.items (map live_of c.self.inside.calls.items)) c.self.inside.recent c.self.invariant.recent in
    let within =
    (next_within c.self.inside.script c.self.inside.order.items c.self.inside.low c.self.inside.answered.items c.next_low-low.result c.self.inside.calls.items c.self.invariant.recent.within
    (c.next_low-low.ensures ∙ ap (λ (b : Booked). next_low (batch_in b) b.schedule) (sym c.self.view_is))).1 in
    omega (arith, long, within)

pub returns-clause-rises : goal.returns-clause-rises
returns-clause-rises c =
    subst (λ (b : Booked). b.schedule.low ≤ c.next_low-low.result) c.self.view_is
    (next_within c.self.inside.script c.self.inside.order.items c.self.inside.low c.self.inside.answered.items c.next_low-low.result c.self.inside.calls.items c.self.invariant.recent.within (low c)).0

pub invariant_of-self : goal.invariant_of-self
invariant_of-self c = record {
  kept = kept_low c.self.inside.script c.self.inside.order.items c.self.inside.low c.self.inside.answered.items c.next_low-low.result c.self.inside.calls.items c.self.inside.journal.items _ c.self.invariant.kept (low c) c.put.ensures.items;
  live = c.self.invariant.live;
  recent =
      let within = next_within c.self.inside.script c.self.inside.order.items c.self.inside.low c.self.inside.answered.items c.next_low-low.result c.self.inside.calls.items c.self.invariant.recent.within (low c) in
      recent_trimmed (batch_of c.self.inside.script) c.self.inside.order.items c.self.inside.low c.self.inside.answered.items c.next_low-low.result c.next_low-low.result (map live_of c.self.inside.calls.items) c.self.inside.recent c.trim.new.self c.self.invariant.recent
      within.1 (omega arith) (omega arith) (next_past c.self.inside.script c.self.inside.order.items c.self.inside.low c.self.inside.answered.items c.next_low-low.result c.self.inside.calls.items (low c)) c.trim.ensures.low c.trim.ensures.commits;
}

pub returns-clause-made : goal.returns-clause-made
returns-clause-made c =
    made_on G _ c.args.self.now _ c.self.view_is refl (ap (λ n. the_schedule c.self.inside.order.items n c.self.inside.answered.items (map live_of c.self.inside.calls.items)) (low c))
    (λ d live other has. subst (λ (b : Booked). IsSettled b d) (sym c.self.view_is) has) c.put.ensures.items refl

pub returns-clause-room : goal.returns-clause-room
returns-clause-room c x n has = room_same _ c.args.self.now _ x n (n + 1) c.self.view_is (omega arith) (let r = c.put.ensures.room in let t = c.trim.ensures.room in omega (arith, r, t)) has
