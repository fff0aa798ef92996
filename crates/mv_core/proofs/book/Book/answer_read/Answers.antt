use Rattle.std.proofs.Common.{arith, rules, ◌≡◌, ◌<◌, ◌+◌, false, true, None, map, slice_set, length, refl, ap, sym, subst, ◌∙◌}
use Rattle.std.specs.Prelude.{IsSome}
use Rattle.std.proofs.lemmas.Bool.{le-ltb}
use Rattle.mv_journal.specs.declared.event.Event.TheVariants.{R}
use Rattle.mv_lawful.specs.Lawful.{Live, refusal}
use Rattle.mv_lawful.specs.Batch.{table_at}
use Rattle.mv_core.specs.Lives.{live_numbers, without}
use Rattle.mv_core.specs.Calls.{IsLive, live_of}
use Rattle.mv_core.specs.Books.{Booked, batch_in}
use Rattle.mv_script.specs.Scripts.{batch_of}
use Rattle.mv_core.proofs.Keeping.{live_leaves, the_schedule, here_at, IsProgressAt, within, settled_here, rounds_answered, kept_answer, made_answered, still_settled, free_on, room_left}
use Rattle.mv_core.proofs.Recents.{low_seen, recent_answered}
use Rattle.mv_core.proofs.Refusing.{may_answer}
use Rattle.mv_core.proofs.book.Book.answer_read.Goals as goal

pub returns-then-start-self-clause-answered : goal.returns-then-start-self-clause-answered
returns-then-start-self-clause-answered c =
    let live = c.requires.live in
    let low = low_seen c.self.inside c.args.self.now c.self.view_is in
    let less = c.if-start-self.true in
    (record { live = live.0; is_live = live.1; start_is = c.start-start.ensures.value live.0 live.1; low_is = low; stale = less }, record { script = refl; schedule = refl; settled = λ d has. has; journal = refl })

pub index_mut-requires : goal.index_mut-requires
index_mut-requires c = let lt : c.args.call < length c.self.inside.calls.items = within c.self.inside c.args.self.now c.args.call c.self.view_is c.requires.live in search (rules, lt)

here : (c : goal.After-put-2) → (l : Live) × IsLive c.args.self.now.schedule c.args.call l × IsProgressAt c.self.inside.calls.items c.args.call l c.index_mut.result.now
here c = here_at c.self.inside c.args.self.now c.args.call c.index_mut.result.now c.self.view_is c.requires.live c.index_mut.ensures.value

-- the law answers it
free : (c : goal.After-put-2) → refusal (batch_in c.args.self.now) c.args.self.now.schedule (R c.args.call) ≡ None
free c =
    let l = (here c).0 in
    let start = c.start-start.ensures.value l (here c).1 in
    let low = low_seen c.self.inside c.args.self.now c.self.view_is in
    let not = c.if-start-self.false in
    may_answer (batch_in c.args.self.now) c.args.self.now.schedule c.args.call l c.requires.kind (here c).1 (le-ltb l.start c.args.self.now.schedule.low (omega (arith, start, low, not)))

pub invariant_of-self : goal.invariant_of-self
invariant_of-self c = record {
  kept =
      kept_answer c.self.inside.script c.self.inside.order.items c.self.inside.low c.self.inside.answered.items _ c.args.call c.self.inside.calls.items c.self.inside.journal.items _ c.index_mut.result.now c.answer.new.self c.args.reply
      c.self.invariant.kept (free_on (R c.args.call) _ c.args.self.now c.self.view_is (free c)) c.put.ensures.items c.put-2.ensures.items (here c).2.at c.answer.ensures.live c.answer.ensures.reply
      (rw c.answer.ensures.rounds (rounds_answered c.self.inside.script c.self.inside.order.items c.self.inside.low c.self.inside.answered.items c.args.call c.self.inside.calls.items c.self.inside.journal.items c.index_mut.result.now c.self.invariant.kept (here c).2.at (here c).2.going
      (settled_here c.self.inside c.args.self.now c.args.call c.index_mut.result.now c.self.view_is (here c).2.at c.requires.settled)))
      c.answer.ensures.start
      (c.requires.reply (here c).0 (here c).1
      ∙ (ap (λ (b : Booked). ((batch_in b).run c.args.call (table_at (batch_in b) b.schedule.order (here c).0.start)).reply) (sym c.self.view_is)
      ∙ ap (λ (l : Live). ((batch_of c.self.inside.script).run c.args.call (table_at (batch_of c.self.inside.script) c.self.inside.order.items l.start)).reply) (sym (here c).2.is)));
  live = c.remove.ensures ∙ (ap (without c.args.call) c.self.invariant.live ∙ sym (live_leaves c.self.inside.calls.items c.args.call c.index_mut.result.now c.answer.new.self c.args.reply (here c).2.at (here c).2.going c.answer.ensures.reply));
  recent = recent_answered (batch_of c.self.inside.script) c.self.inside.order.items c.self.inside.low c.self.inside.answered.items _ c.args.call c.self.inside.calls.items c.index_mut.result.now c.answer.new.self c.args.reply c.self.inside.recent c.self.invariant.recent (here c).2.at (here c).2.going c.answer.ensures.reply;
}

pub returns-clause-answered : goal.returns-clause-answered
returns-clause-answered c = (
  made_answered c.args.call c.self.inside c.args.self.now _ _ c.index_mut.result.now c.answer.new.self c.self.view_is (free c) (here c).2.at c.answer.ensures.live c.put.ensures.items refl
      (λ d live other has. still_settled c.self.inside c.args.self.now c.args.call d c.index_mut.result.now c.answer.new.self c.self.view_is (here c).2.at (λ is was. rw c.answer.ensures.rounds was) has) c.put-2.ensures.items refl,
  c.start-start.ensures.value,
)

pub returns-clause-room : goal.returns-clause-room
returns-clause-room c x n has =
    room_left _ c.args.self.now _ c.self.inside.calls.items c.args.call x n (n + 1) c.index_mut.result.now c.answer.new.self c.self.view_is refl (here c).2.at (omega arith) (let r = c.put.ensures.room in let q = c.put-2.ensures.room in omega (arith, r, q))
    (let r = ap (λ f. f.room) c.answer.ensures.rounds in omega (arith, r)) has
