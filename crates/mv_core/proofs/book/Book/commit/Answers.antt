use Rattle.std.proofs.Common.{arith, rules, ◌≡◌, ◌≤◌, ◌<◌, ◌^◌, ◌+◌, ◌++◌, ◌∷◌, [], List, map, slice_set, length, refl, ap, sym, subst, ◌∙◌}
use Rattle.std.specs.Prelude.{IsSome}
use Rattle.std.specs.Option.{option_copied}
use Rattle.mv_journal.specs.declared.outcome.Round.{Round}
use Rattle.mv_lawful.specs.Lawful.{Live}
use Rattle.mv_lawful.specs.Rounds.{rounds_of, round_starts_in, last_number}
use Rattle.mv_core.specs.Lives.{live_numbers, without}
use Rattle.mv_core.specs.Calls.{IsLive, live_of, committed, with_own}
use Rattle.mv_core.specs.Books.{Booked, last_run, last_changes, commit_event, own_number, IsAlone, IsOwnNumber}
use Rattle.mv_script.specs.Scripts.{batch_of}
use Rattle.mv_core.proofs.Keeping.{live_leaves, the_schedule, here_at, IsProgressAt, few_inside, within, commit_live, number_fits, room_here, settled_here, rounds_committed, kept_commit, commit_after, made_committed, own_known, still_settled, free_on, room_left}
use Rattle.mv_core.proofs.Given.{some_then, none_then}
use Rattle.mv_core.proofs.Lives.{without_only}
use Rattle.mv_core.proofs.Recents.{recent_long, recent_remembered}
use Rattle.mv_core.proofs.book.Book.commit.Goals as goal

pub overflow_cast-start : goal.overflow_cast-start
overflow_cast-start c = let few : length c.self.inside.order.items < 2 ^ 32 = few_inside c.self.inside c.self.invariant.kept in search (rules, few, c.len-start.ensures)

pub index_mut-requires : goal.index_mut-requires
index_mut-requires c = let lt : c.args.call < length c.self.inside.calls.items = within c.self.inside c.args.self.now c.args.call c.self.view_is (commit_live c.args.self.now (own_number (option_copied c.args.exclusive)) c.args.call c.requires.allowed) in search (rules, lt)

first : (c : goal.After-index_mut) → (l : Live) × IsLive c.args.self.now.schedule c.args.call l × IsProgressAt c.self.inside.calls.items c.args.call l c.index_mut.result.now
first c = here_at c.self.inside c.args.self.now c.args.call c.index_mut.result.now c.self.view_is (commit_live c.args.self.now (own_number (option_copied c.args.exclusive)) c.args.call c.requires.allowed) c.index_mut.ensures.value

pub commit-requires : goal.commit-requires
commit-requires c = let has : 1 ≤ c.index_mut.result.now.rounds.room = room_here c.self.inside c.args.self.now c.args.call 1 c.index_mut.result.now c.self.view_is (first c).2.at c.requires.room in omega (arith, has)

here : (c : goal.After-put-2) → (l : Live) × IsLive c.args.self.now.schedule c.args.call l × IsProgressAt c.self.inside.calls.items c.args.call l c.index_mut.result.now
here c = here_at c.self.inside c.args.self.now c.args.call c.index_mut.result.now c.self.view_is (commit_live c.args.self.now (own_number (option_copied c.args.exclusive)) c.args.call c.requires.allowed) c.index_mut.ensures.value

pub overflow_add-number : goal.overflow_add-number
overflow_add-number c =
    let few : length c.self.inside.order.items + 1 < 2 ^ 32 = number_fits c.self.inside c.args.self.now c.args.call c.self.view_is c.self.invariant.kept (commit_live c.args.self.now (own_number (option_copied c.args.exclusive)) c.args.call c.requires.allowed) in
    search (rules, few, c.len-start.ensures)

pub remember-requires-clause-next : goal.remember-requires-clause-next
remember-requires-clause-next c =
    let long = recent_long (batch_of c.self.inside.script) (the_schedule c.self.inside.order.items c.self.inside.low c.self.inside.answered.items (map live_of c.self.inside.calls.items)) c.self.inside.recent c.self.invariant.recent in
    let start : c.len-start.result ≡ length c.self.inside.order.items = c.len-start.ensures in
    omega (arith, long, start)

own : (c : goal.After-put-2) → c.own_number-own.result ≡ own_number (option_copied c.args.exclusive)
own c = c.own_number-own.ensures

live : (c : goal.After-put-2) → live_of c.commit.new.self ≡ committed (length c.self.inside.order.items) (own_number (option_copied c.args.exclusive)) (live_of c.index_mut.result.now)
live c = search (rules, c.commit.ensures.live, c.len-start.ensures, own c)

rounds : (c : goal.After-put-2) → c.commit.new.self.rounds.items ≡ with_own (length c.self.inside.order.items) (own_number (option_copied c.args.exclusive)) c.index_mut.result.now.rounds.items
rounds c = search (rules, c.commit.ensures.rounds, c.len-start.ensures, own c)

known : (c : goal.After-put-2) → c.commit.new.self.rounds.items ≡ rounds_of (batch_of c.self.inside.script) (c.self.inside.order.items ++ c.args.call ∷ []) c.args.call (round_starts_in c.commit.new.self.rounds.items)
known c =
    subst (λ (rs : List Round). rs ≡ rounds_of (batch_of c.self.inside.script) (c.self.inside.order.items ++ c.args.call ∷ []) c.args.call (round_starts_in rs)) (sym (rounds c))
    (rounds_committed c.self.inside.script c.self.inside.order.items c.self.inside.low c.self.inside.answered.items c.args.call c.self.inside.calls.items c.self.inside.journal.items (own_number (option_copied c.args.exclusive)) c.index_mut.result.now c.self.invariant.kept (here c).2.at (here c).2.going
    (settled_here c.self.inside c.args.self.now c.args.call c.index_mut.result.now c.self.view_is (here c).2.at c.requires.settled)
    (subst (λ (b : Booked). IsOwnNumber (own_number (option_copied c.args.exclusive)) b c.args.call) (sym c.self.view_is) c.requires.number))

gone : (c : goal.After-put-2) → c.remove.new.self ≡ live_numbers (map live_of (slice_set c.self.inside.calls.items c.args.call c.commit.new.self))
gone c = c.remove.ensures ∙ (ap (without c.args.call) c.self.invariant.live ∙ sym (live_leaves c.self.inside.calls.items c.args.call c.index_mut.result.now c.commit.new.self c.args.reply (here c).2.at (here c).2.going c.commit.ensures.reply))

-- if the call that commits was alone, no call is live afterwards
nobody : (c : goal.After-put-2) → IsAlone c.args.self.now c.args.call → live_numbers (map live_of (slice_set c.self.inside.calls.items c.args.call c.commit.new.self)) ≡ []
nobody c alone =
    sym (gone c) ∙ (c.remove.ensures ∙ (ap (without c.args.call) (c.self.invariant.live ∙ (ap (λ (b : Booked). live_numbers b.schedule.calls) c.self.view_is ∙ alone)) ∙ without_only c.args.call))

pub invariant_of-self : goal.invariant_of-self
invariant_of-self c = record {
  kept =
      kept_commit c.self.inside.script c.self.inside.order.items _ c.self.inside.low c.self.inside.answered.items c.args.call c.self.inside.calls.items c.self.inside.journal.items _ (commit_event (own_number (option_copied c.args.exclusive)) c.args.call)
      (committed (length c.self.inside.order.items) (own_number (option_copied c.args.exclusive))) c.index_mut.result.now c.commit.new.self c.args.reply
      c.self.invariant.kept (free_on (commit_event (own_number (option_copied c.args.exclusive)) c.args.call) _ c.args.self.now c.self.view_is c.requires.allowed)
      (commit_after (batch_of c.self.inside.script) c.self.inside.order.items c.self.inside.low c.self.inside.answered.items (map live_of c.self.inside.calls.items) (own_number (option_copied c.args.exclusive)) c.args.call)
      c.put.ensures.items (search (rules, c.put-2.ensures.items, c.commit_event.ensures, own c)) (here c).2.at (here c).2.going (live c) c.commit.ensures.reply (known c)
      (c.requires.reply ∙ ap (λ (b : Booked). (last_run b c.args.call).reply) (sym c.self.view_is));
  live = gone c;
  recent =
      recent_remembered (batch_of c.self.inside.script) c.self.inside.order.items _ c.self.inside.low c.self.inside.answered.items c.args.call _ c.self.inside.calls.items c.index_mut.result.now c.commit.new.self c.args.reply c.self.inside.recent c.remember.new.recent c.args.changes c.self.invariant.recent
      c.put.ensures.items (here c).2.at (here c).2.going c.commit.ensures.reply (ap (λ n. n + 1) c.len-start.ensures) c.remember.ensures.remembers
      (none_then c.args.changes c.requires.alone (nobody c)) (some_then c.args.changes c.requires.changes (λ told is. is ∙ ap (λ (b : Booked). last_changes b c.args.call) (sym c.self.view_is)));
}

pub returns-clause-made : goal.returns-clause-made
returns-clause-made c =
    let own = c.own_number-own.ensures in
    let place = here_at c.self.inside c.args.self.now c.args.call c.index_mut.result.now c.self.view_is (commit_live c.args.self.now (own_number (option_copied c.args.exclusive)) c.args.call c.requires.allowed) c.index_mut.ensures.value in
    let changed : live_of c.commit.new.self ≡ committed (length c.self.inside.order.items) (own_number (option_copied c.args.exclusive)) (live_of c.index_mut.result.now) = search (rules, c.commit.ensures.live, c.len-start.ensures, own) in
    let rounds : c.commit.new.self.rounds.items ≡ with_own (length c.self.inside.order.items) (own_number (option_copied c.args.exclusive)) c.index_mut.result.now.rounds.items = search (rules, c.commit.ensures.rounds, c.len-start.ensures, own) in
    let adds : c.put-2.new.self.items ≡ c.self.inside.journal.items ++ commit_event (own_number (option_copied c.args.exclusive)) c.args.call ∷ [] = search (rules, c.put-2.ensures.items, c.commit_event.ensures, own) in
    made_committed (own_number (option_copied c.args.exclusive)) c.args.call c.self.inside c.args.self.now _ _ c.index_mut.result.now c.commit.new.self c.self.view_is c.requires.allowed place.2.at changed c.put.ensures.items
    c.trim.ensures.same.schedule
    (λ d live other has. c.trim.ensures.same.settled d (still_settled c.self.inside c.args.self.now c.args.call d c.index_mut.result.now c.commit.new.self c.self.view_is place.2.at (λ is was. subst (λ (rs : List Round). IsSome (last_number rs)) (sym rounds) (own_known (length c.self.inside.order.items) (own_number (option_copied c.args.exclusive)) c.index_mut.result.now.rounds.items was)) has))
    (c.trim.ensures.same.journal ∙ adds) c.trim.ensures.same.script

pub returns-clause-room : goal.returns-clause-room
returns-clause-room c x n has =
    let place = here_at c.self.inside c.args.self.now c.args.call c.index_mut.result.now c.self.view_is (commit_live c.args.self.now (own_number (option_copied c.args.exclusive)) c.args.call c.requires.allowed) c.index_mut.ensures.value in
    c.trim.ensures.room x n
    (room_left _ c.args.self.now _ c.self.inside.calls.items c.args.call x n (n + 1) c.index_mut.result.now c.commit.new.self c.self.view_is refl place.2.at (omega arith) (let r = c.put.ensures.room in let q = c.put-2.ensures.room in let p = c.remember.ensures.room in omega (arith, r, q, p)) (let r = c.commit.ensures.room in omega (arith, r)) has)
