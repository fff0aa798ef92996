-- What lies behind the lock, after an event or none.
use Rattle.std.proofs.Common.{◌≡◌, ℕ, suc, ◌+◌, ◌≤◌, Bool, true, false, List, [], ◌∷◌, ◌++◌, Option, Some, None, length, refl, sym, ap, subst, ◌∙◌, arith, rules, length-append}
use Rattle.std.specs.Prelude.{slice_get, slice_set, ◌||◌, ◌==◌, Result, Ok, Err, IsErrAnd}
use Rattle.std.specs.List.{list_any, filter}
use Rattle.std.specs.Option.{ForSome}
use Rattle.std.proofs.lemmas.Bool.Decides.{nat_tests}
use Rattle.std.proofs.lemmas.Bool.{eqb-true}
use Rattle.std.proofs.lemmas.List.Elements.{filter-append}
use lib.Dec.{eqb}
use Rattle.mv_journal.specs.declared.event.Event.{Event}
use Rattle.mv_journal.specs.declared.event.Event.TheVariants.{B, A, M, C, X, R, G}
use Rattle.mv_lawful.specs.Batch.{Batch}
use Rattle.mv_lawful.specs.Lawful.{Live, Schedule, beginning, used, is_stale, refusal, after, schedule_of, AllAllowed}
use Rattle.mv_lawful.specs.Rounds.{is_round, IsPast, IsBounded}
use Rattle.mv_lawful.proofs.Lows.{stale_is_past}
use Rattle.mv_lawful.proofs.Rounds.{rounds_are_counted, bounded_other, bounded_repair}
use Rattle.mv_lawful.proofs.Turns.{moves_join}
use Rattle.mv_seats.specs.Scripts.{BoardScript}
use Rattle.mv_script.specs.declared.script.CompiledScript.{CompiledScript}
use Rattle.mv_script.specs.Scripts.{batch_of}
use Rattle.mv_values.specs.declared.memory.NoMemory.{NoMemory}
use Rattle.mv_shards.specs.Scripts.{batch}
use Rattle.mv_shards.specs.Reads.{Started}
use Rattle.mv_shards.specs.Ledgers.{Entered, AreLastChanges}
use Rattle.mv_core.specs.Calls.{IsLive, IsLiveCall}
use Rattle.mv_core.specs.Books.{Booked, batch_in, Made, IsSame}
use Rattle.mv_core.specs.Cores.{HasCommitted, HasMovedAndCommitted}
use Rattle.mv_core.proofs.Journals.{Facts, facts_of, live_apart, done_within}
use Rattle.mv_core.proofs.Lows.{low_within}
use Rattle.mv_gate.specs.Gates.{HaveRoundStarts, UseRounds, HaveTouched, IsScheduler, IsPastIn, HasRound, StartsLast, HasMovedAndAnswered}
use Rattle.mv_gate.proofs.RoundStarts.{round_starts_after}
use Rattle.mv_gate.proofs.Used.{use_other, use_repair, use_move, use_move_and_commit, use_move_and_answer}
use Rattle.mv_gate.proofs.Starts.{touched_same, touched_begun, touched_again, touched_moved, touched_committed, touched_decided, touched_answered, touched_gone, touched_read}

-- a commit is the last one of the order
pub order_committed : (c : ℕ) (old new : Booked) → Made (C c) old new → new.schedule.order ≡ old.schedule.order ++ c ∷ []
order_committed c old new made = ap (λ (x : Schedule). x.order) made.schedule

pub order_decided : (c : ℕ) (old new : Booked) → Made (X c) old new → new.schedule.order ≡ old.schedule.order ++ c ∷ []
order_decided c old new made = ap (λ (x : Schedule). x.order) made.schedule

pub order_same : (old new : Booked) → IsSame old new → new.schedule.order ≡ old.schedule.order
order_same old new same = ap (λ (x : Schedule). x.order) same.schedule

-- A ledger

-- it has seen the commits of a history
pub record HasSeen (ledger : Entered) (order : List ℕ) : Type 0 where
  pub seen : ledger.knows.seen ≡ order
  pub commits : ledger.commits ≡ length order

pub scheduler_seen : (s : BoardScript) (b : Booked) (ledger : Entered) (starts : List (Option (List ℕ))) → IsScheduler s b ledger starts → HasSeen ledger b.schedule.order
scheduler_seen s b ledger starts d = record { seen = d.seen; commits = d.commits }

-- a ledger that has seen no more, of a history that has no more commits
pub seen_still : (old new : List ℕ) (ledger now : Entered) → HasSeen ledger old → new ≡ old → now.knows.seen ≡ ledger.knows.seen → now.commits ≡ ledger.commits → HasSeen now new
seen_still old new ledger now h order seen commits = record { seen = seen ∙ (h.seen ∙ sym order); commits = commits ∙ (h.commits ∙ ap length (sym order)) }

-- one that has seen a call more
pub seen_more : (c : ℕ) (old new : List ℕ) (ledger now : Entered) → HasSeen ledger old → new ≡ old ++ c ∷ [] → now.knows.seen ≡ ledger.knows.seen ++ c ∷ [] → now.commits ≡ ledger.commits + 1 → HasSeen now new
seen_more c old new ledger now h order seen commits = record {
  seen = seen ∙ (ap (λ (xs : List ℕ). xs ++ c ∷ []) h.seen ∙ sym order);
  commits = let long = length-append old (c ∷ []) in let is = ap length order in let was = h.commits in omega (arith, long, is, was, commits);
}

-- After an event

low_same : (old new : Schedule) → new.low ≡ old.low → old.order ≡ new.order → old.low ≤ length old.order → new.low ≤ length new.order
low_same old new low order le = let long = ap length order in omega (arith, low, long, le)

scheduler_made : (e : Event) (s : BoardScript) (old new : Booked) (ledger now : Entered) (starts later : List (Option (List ℕ))) → IsScheduler s old ledger starts → Made e old new → IsBounded (batch s) new.journal → UseRounds s.options.rounds new.schedule
    → new.schedule.low ≤ length new.schedule.order → HasSeen now new.schedule.order → HaveTouched s new.schedule later → IsScheduler s new now later
scheduler_made e s old new ledger now starts later d made bounded rounds low seen touched = record {
  script = made.script ∙ d.script;
  sound = d.sound;
  seen = seen.seen;
  commits = seen.commits;
  low = low;
  round_starts = subst HaveRoundStarts (sym made.schedule) (round_starts_after (batch_in old) old.schedule e d.round_starts);
  bounded = bounded;
  rounds = rounds;
  touched = touched;
}

-- after an event that is no repair and no move
scheduler_other : (e : Event) (s : BoardScript) (old new : Booked) (ledger now : Entered) (starts later : List (Option (List ℕ))) → IsScheduler s old ledger starts → Made e old new → ((c : ℕ) → is_round c e ≡ false)
    → new.schedule.low ≤ length new.schedule.order → HasSeen now new.schedule.order → HaveTouched s new.schedule later → IsScheduler s new now later
scheduler_other e s old new ledger now starts later d made none low seen touched =
    scheduler_made e s old new ledger now starts later d made (subst (IsBounded (batch s)) (sym made.journal) (bounded_other (batch s) old.journal e none d.bounded))
    (subst (UseRounds s.options.rounds) (sym made.schedule) (use_other (batch_in old) s.options.rounds old.schedule e none d.rounds)) low seen touched

-- after a begin
pub scheduler_begun : (c : ℕ) (s : BoardScript) (old new : Booked) (ledger now : Entered) (starts : List (Option (List ℕ))) (touched : List ℕ) → IsScheduler s old ledger starts → Made (B c) old new → now.knows.seen ≡ ledger.knows.seen → now.commits ≡ ledger.commits
    → AreLastChanges s old.schedule.order (length old.schedule.order) touched → IsScheduler s new now (starts ++ Some touched ∷ [])
scheduler_begun c s old new ledger now starts touched d made seen commits are =
    let order : new.schedule.order ≡ old.schedule.order = ap (λ (x : Schedule). x.order) made.schedule in
    scheduler_other (B c) s old new ledger now starts (starts ++ Some touched ∷ []) d made (λ x. refl) (low_same old.schedule new.schedule (ap (λ (x : Schedule). x.low) made.schedule) (sym order) d.low)
    (seen_still old.schedule.order new.schedule.order ledger now (scheduler_seen s old ledger starts d) order seen commits) (touched_begun s c old new starts touched d.touched made are)

-- after a commit
pub scheduler_committed : (c : ℕ) (s : BoardScript) (old new : Booked) (ledger now : Entered) (starts : List (Option (List ℕ))) → IsScheduler s old ledger starts → IsLiveCall old.schedule c → Made (C c) old new → now.knows.seen ≡ ledger.knows.seen ++ c ∷ []
    → now.commits ≡ ledger.commits + 1 → IsScheduler s new now (slice_set starts c None)
scheduler_committed c s old new ledger now starts d live made seen commits =
    let order : new.schedule.order ≡ old.schedule.order ++ c ∷ [] = ap (λ (x : Schedule). x.order) made.schedule in
    scheduler_other (C c) s old new ledger now starts (slice_set starts c None) d made (λ x. refl)
    (let low = ap (λ (x : Schedule). x.low) made.schedule in let long = ap length order in let more = length-append old.schedule.order (c ∷ []) in let below = d.low in omega (arith, low, long, more, below))
    (seen_more c old.schedule.order new.schedule.order ledger now (scheduler_seen s old ledger starts d) order seen commits) (touched_committed s c old new starts d.round_starts d.touched live made)

pub scheduler_decided : (c : ℕ) (s : BoardScript) (old new : Booked) (ledger now : Entered) (starts : List (Option (List ℕ))) → IsScheduler s old ledger starts → IsLiveCall old.schedule c → Made (X c) old new → now.knows.seen ≡ ledger.knows.seen ++ c ∷ []
    → now.commits ≡ ledger.commits + 1 → IsScheduler s new now (slice_set starts c None)
scheduler_decided c s old new ledger now starts d live made seen commits =
    let order : new.schedule.order ≡ old.schedule.order ++ c ∷ [] = ap (λ (x : Schedule). x.order) made.schedule in
    scheduler_other (X c) s old new ledger now starts (slice_set starts c None) d made (λ x. refl)
    (let low = ap (λ (x : Schedule). x.low) made.schedule in let long = ap length order in let more = length-append old.schedule.order (c ∷ []) in let below = d.low in omega (arith, low, long, more, below))
    (seen_more c old.schedule.order new.schedule.order ledger now (scheduler_seen s old ledger starts d) order seen commits) (touched_decided s c old new starts d.round_starts d.touched live made)

-- after an answer. The ledger stays as it was
pub scheduler_answered : (c : ℕ) (s : BoardScript) (old new : Booked) (ledger : Entered) (starts : List (Option (List ℕ))) → IsScheduler s old ledger starts → IsLiveCall old.schedule c → Made (R c) old new → IsScheduler s new ledger (slice_set starts c None)
scheduler_answered c s old new ledger starts d live made =
    let order : new.schedule.order ≡ old.schedule.order = ap (λ (x : Schedule). x.order) made.schedule in
    scheduler_other (R c) s old new ledger ledger starts (slice_set starts c None) d made (λ x. refl) (low_same old.schedule new.schedule (ap (λ (x : Schedule). x.low) made.schedule) (sym order) d.low)
    (seen_still old.schedule.order new.schedule.order ledger ledger (scheduler_seen s old ledger starts d) order refl refl) (touched_answered s c old new starts d.round_starts d.touched live made)

-- after a collection
pub scheduler_collected : (s : BoardScript) (old new : Booked) (ledger : Entered) (starts : List (Option (List ℕ))) → IsScheduler s old ledger starts → Made G old new → IsScheduler s new ledger starts
scheduler_collected s old new ledger starts d made =
    let order : new.schedule.order ≡ old.schedule.order = ap (λ (x : Schedule). x.order) made.schedule in
    scheduler_other G s old new ledger ledger starts starts d made (λ x. refl)
    (let within = (low_within (batch_in old) old.schedule new.schedule.low d.low (ap (λ (x : Schedule). x.low) made.schedule)).1 in let long = ap length order in omega (arith, within, long))
    (seen_still old.schedule.order new.schedule.order ledger ledger (scheduler_seen s old ledger starts d) order refl refl)
    (touched_same s old.schedule new.schedule starts (ap (λ (x : Schedule). x.calls) made.schedule) order d.touched)

-- what the scheduler says of its events, in the words of its history
bounded_in : (s : BoardScript) (b : Booked) (ledger : Entered) (starts : List (Option (List ℕ))) → IsScheduler s b ledger starts → IsBounded (batch_in b) b.journal
bounded_in s b ledger starts d = subst (λ (x : CompiledScript). IsBounded (batch_of x) b.journal) (sym d.script) d.bounded

rounds_in : (s : BoardScript) (b : Booked) (ledger : Entered) (starts : List (Option (List ℕ))) → IsScheduler s b ledger starts → UseRounds (batch_in b).options.rounds b.schedule
rounds_in s b ledger starts d = subst (λ (x : CompiledScript). UseRounds x.options.rounds b.schedule) (sym d.script) d.rounds

-- after a repair
pub scheduler_again : (c : ℕ) (s : BoardScript) (old new : Booked) (ledger now : Entered) (starts : List (Option (List ℕ))) (touched : List ℕ) → IsScheduler s old ledger starts → AllAllowed (batch_in old) beginning old.journal → old.schedule ≡ schedule_of (batch_in old) old.journal
    → IsLiveCall old.schedule c → Made (A c) old new → now.knows.seen ≡ ledger.knows.seen → now.commits ≡ ledger.commits → AreLastChanges s old.schedule.order (length old.schedule.order) touched → IsScheduler s new now (slice_set starts c (Some touched))
scheduler_again c s old new ledger now starts touched d allowed reaches live made seen commits are =
    let order : new.schedule.order ≡ old.schedule.order = ap (λ (x : Schedule). x.order) made.schedule in
    scheduler_made (A c) s old new ledger now starts (slice_set starts c (Some touched)) d made
    (subst (λ (x : CompiledScript). IsBounded (batch_of x) new.journal) d.script
    (subst (IsBounded (batch_in old)) (sym made.journal)
    (bounded_repair (batch_in old) old.journal c allowed (subst (λ (x : Schedule). refusal (batch_in old) x (A c) ≡ None) reaches made.allowed) (bounded_in s old ledger starts d))))
    (subst (λ (x : CompiledScript). UseRounds x.options.rounds new.schedule) d.script
    (subst (UseRounds (batch_in old).options.rounds) (sym made.schedule) (use_repair (batch_in old) old.schedule c (rounds_in s old ledger starts d) made.allowed)))
    (low_same old.schedule new.schedule (ap (λ (x : Schedule). x.low) made.schedule) (sym order) d.low) (seen_still old.schedule.order new.schedule.order ledger now (scheduler_seen s old ledger starts d) order seen commits)
    (touched_again s c old new starts touched d.touched live made are)

-- A move

-- the journal stays bounded if the call has used no more rounds than there are, and its start lies further back than the horizon
bounded_late : (w : Batch) (es : List Event) (c : ℕ) (l : Live) → AllAllowed w beginning es → slice_get (schedule_of w es).calls c ≡ Some l → l.done ≡ false → IsPast w.options.horizon l.start (length (schedule_of w es).order) → used l ≤ w.options.rounds
    → IsBounded w es → IsBounded w (es ++ M c ∷ [])
bounded_late w es c l allowed at live past le b = record { few = λ d. by d (is_round d (M c)) refl; late = moves_join w beginning es (M c ∷ []) b.late (may, tt) } where
  may : ForSome (slice_get (schedule_of w es).calls c) (λ x. IsPast w.options.horizon x.start (length (schedule_of w es).order))
  may x is = let both : Some l ≡ Some x = sym at ∙ is in let one : l ≡ x = search (rules, both) in subst (λ (y : Live). IsPast w.options.horizon y.start (length (schedule_of w es).order)) one past

  split : (d : ℕ) → length (filter (is_round d) (es ++ M c ∷ [])) ≡ length (filter (is_round d) es) + length (filter (is_round d) (M c ∷ []))
  split d = ap length (filter-append (is_round d) es (M c ∷ [])) ∙ length-append (filter (is_round d) es) (filter (is_round d) (M c ∷ []))

  left : (d : ℕ) → (c == d) ≡ true → length (filter (is_round d) es) ≤ w.options.rounds
  left d same =
      subst (λ x. length (filter (is_round x) es) ≤ w.options.rounds) (eqb-true c d same) (subst (λ n. n ≤ w.options.rounds) (sym (rounds_are_counted w es allowed c l at live)) le)

  by : (d : ℕ) (r : Bool) → is_round d (M c) ≡ r → length (filter (is_round d) (es ++ M c ∷ [])) ≤ w.options.rounds + 1
  by d false other =
      let all = split d in
      let one : length (filter (is_round d) (M c ∷ [])) ≡ 0 = rw other refl in
      let few = b.few d in
      omega (arith, all, one, few)
  by d true own =
      let all = split d in
      let one : length (filter (is_round d) (M c ∷ [])) ≡ 1 = rw own refl in
      let few = left d own in
      omega (arith, all, one, few)

-- a call whose start is below low may move
pub stale_past : (b : Booked) (c : ℕ) (l : Live) → AllAllowed (batch_in b) beginning b.journal → b.schedule ≡ schedule_of (batch_in b) b.journal → IsLive b.schedule c l → is_stale b.schedule l ≡ true → IsPast (batch_in b).options.horizon l.start (length b.schedule.order)
stale_past b c l allowed reaches live stale =
    subst (λ (x : Schedule). IsPast (batch_in b).options.horizon l.start (length x.order)) (sym reaches)
    (stale_is_past (batch_in b) b.journal c l (subst (λ (x : Schedule). slice_get x.calls c ≡ Some l) reaches live.at) live.live (subst (λ (x : Schedule). is_stale x l ≡ true) reaches stale))

moved_bounded : (s : BoardScript) (b : Booked) (ledger : Entered) (starts : List (Option (List ℕ))) (c : ℕ) → IsScheduler s b ledger starts → AllAllowed (batch_in b) beginning b.journal → b.schedule ≡ schedule_of (batch_in b) b.journal → IsLiveCall b.schedule c → IsPastIn b c
    → IsBounded (batch s) (b.journal ++ M c ∷ [])
moved_bounded s b ledger starts c d allowed reaches live past =
    subst (λ (x : CompiledScript). IsBounded (batch_of x) (b.journal ++ M c ∷ [])) d.script
    (bounded_late (batch_in b) b.journal c live.0 allowed (subst (λ (x : Schedule). slice_get x.calls c ≡ Some live.0) reaches live.1.at) live.1.live
    (subst (λ (x : Schedule). IsPast (batch_in b).options.horizon (live.0).start (length x.order)) reaches (past live.0 live.1)) (rounds_in s b ledger starts d c live.0 live.1) (bounded_in s b ledger starts d))

pub scheduler_moved : (c : ℕ) (s : BoardScript) (old new : Booked) (ledger now : Entered) (starts : List (Option (List ℕ))) (touched : List ℕ) → IsScheduler s old ledger starts → AllAllowed (batch_in old) beginning old.journal → old.schedule ≡ schedule_of (batch_in old) old.journal
    → IsLiveCall old.schedule c → IsPastIn old c → HasRound true old c → Made (M c) old new → now.knows.seen ≡ ledger.knows.seen → now.commits ≡ ledger.commits → AreLastChanges s old.schedule.order (length old.schedule.order) touched
    → IsScheduler s new now (slice_set starts c (Some touched))
scheduler_moved c s old new ledger now starts touched d allowed reaches live past left made seen commits are =
    let order : new.schedule.order ≡ old.schedule.order = ap (λ (x : Schedule). x.order) made.schedule in
    scheduler_made (M c) s old new ledger now starts (slice_set starts c (Some touched)) d made (subst (IsBounded (batch s)) (sym made.journal) (moved_bounded s old ledger starts c d allowed reaches live past))
    (subst (λ (x : CompiledScript). UseRounds x.options.rounds new.schedule) d.script
    (subst (UseRounds (batch_in old).options.rounds) (sym made.schedule) (use_move (batch_in old) old.schedule c (rounds_in s old ledger starts d) left)))
    (low_same old.schedule new.schedule (ap (λ (x : Schedule). x.low) made.schedule) (sym order) d.low) (seen_still old.schedule.order new.schedule.order ledger now (scheduler_seen s old ledger starts d) order seen commits)
    (touched_moved s c old new starts touched d.touched live made are)

-- after a move and the end of that call
scheduler_ended : (e : Event) (c : ℕ) (s : BoardScript) (old mid new : Booked) (ledger now : Entered) (starts later : List (Option (List ℕ))) → IsScheduler s old ledger starts → AllAllowed (batch_in old) beginning old.journal → old.schedule ≡ schedule_of (batch_in old) old.journal
    → IsLiveCall old.schedule c → IsPastIn old c → Made (M c) old mid → Made e mid new → ((x : ℕ) → is_round x e ≡ false) → UseRounds s.options.rounds (after (batch_in mid) (after (batch_in old) old.schedule (M c)) e)
    → new.schedule.low ≤ length new.schedule.order → HasSeen now new.schedule.order → HaveTouched s new.schedule later → IsScheduler s new now later
scheduler_ended e c s old mid new ledger now starts later d allowed reaches live past moved made none rounds low seen touched = record {
  script = made.script ∙ (moved.script ∙ d.script);
  sound = d.sound;
  seen = seen.seen;
  commits = seen.commits;
  low = low;
  round_starts = subst HaveRoundStarts (sym made.schedule) (round_starts_after (batch_in mid) mid.schedule e (subst HaveRoundStarts (sym moved.schedule) (round_starts_after (batch_in old) old.schedule (M c) d.round_starts)));
  bounded = subst (IsBounded (batch s)) (sym made.journal) (bounded_other (batch s) mid.journal e none (subst (IsBounded (batch s)) (sym moved.journal) (moved_bounded s old ledger starts c d allowed reaches live past)));
  rounds = subst (UseRounds s.options.rounds) (sym made.schedule) (subst (λ (x : Schedule). UseRounds s.options.rounds (after (batch_in mid) x e)) (sym moved.schedule) rounds);
  touched = touched;
}

-- by its commit
pub scheduler_gone : (c : ℕ) (s : BoardScript) (old mid new : Booked) (ledger now : Entered) (starts : List (Option (List ℕ))) → IsScheduler s old ledger starts → AllAllowed (batch_in old) beginning old.journal → old.schedule ≡ schedule_of (batch_in old) old.journal
    → IsLiveCall old.schedule c → IsPastIn old c → Made (M c) old mid → Made (C c) mid new → now.knows.seen ≡ ledger.knows.seen ++ c ∷ [] → now.commits ≡ ledger.commits + 1 → IsScheduler s new now (slice_set starts c None)
scheduler_gone c s old mid new ledger now starts d allowed reaches live past moved committed seen commits =
    let order : new.schedule.order ≡ old.schedule.order ++ c ∷ [] = ap (λ (x : Schedule). x.order) committed.schedule ∙ ap (λ (x : Schedule). x.order ++ c ∷ []) moved.schedule in
    let low = ap (λ (x : Schedule). x.low) committed.schedule in
    let was = ap (λ (x : Schedule). x.low) moved.schedule in
    let long = ap length order in
    let more = length-append old.schedule.order (c ∷ []) in
    let below = d.low in
    scheduler_ended (C c) c s old mid new ledger now starts (slice_set starts c None) d allowed reaches live past moved committed (λ x. refl) (use_move_and_commit (batch_in old) (batch_in mid) s.options.rounds old.schedule c d.rounds)
    (omega (arith, low, was, long, more, below)) (seen_more c old.schedule.order new.schedule.order ledger now (scheduler_seen s old ledger starts d) order seen commits) (touched_gone s c old mid new starts d.round_starts d.touched live moved committed)

-- by its answer
pub scheduler_read : (c : ℕ) (s : BoardScript) (old mid new : Booked) (ledger now : Entered) (starts : List (Option (List ℕ))) → IsScheduler s old ledger starts → AllAllowed (batch_in old) beginning old.journal → old.schedule ≡ schedule_of (batch_in old) old.journal
    → IsLiveCall old.schedule c → IsPastIn old c → Made (M c) old mid → Made (R c) mid new → now.knows.seen ≡ ledger.knows.seen → now.commits ≡ ledger.commits → IsScheduler s new now (slice_set starts c None)
scheduler_read c s old mid new ledger now starts d allowed reaches live past moved answered seen commits =
    let order : new.schedule.order ≡ old.schedule.order = ap (λ (x : Schedule). x.order) answered.schedule ∙ ap (λ (x : Schedule). x.order) moved.schedule in
    let low : new.schedule.low ≡ old.schedule.low = ap (λ (x : Schedule). x.low) answered.schedule ∙ ap (λ (x : Schedule). x.low) moved.schedule in
    scheduler_ended (R c) c s old mid new ledger now starts (slice_set starts c None) d allowed reaches live past moved answered (λ x. refl) (use_move_and_answer (batch_in old) (batch_in mid) s.options.rounds old.schedule c d.rounds)
    (low_same old.schedule new.schedule low (sym order) d.low) (seen_still old.schedule.order new.schedule.order ledger now (scheduler_seen s old ledger starts d) order seen commits)
    (touched_read s c old mid new starts d.round_starts d.touched live moved answered)

-- Without an event

pub scheduler_same : (s : BoardScript) (old new : Booked) (ledger now : Entered) (starts : List (Option (List ℕ))) → IsScheduler s old ledger starts → IsSame old new → now.knows.seen ≡ ledger.knows.seen → now.commits ≡ ledger.commits → IsScheduler s new now starts
scheduler_same s old new ledger now starts d same seen commits =
    let order : new.schedule.order ≡ old.schedule.order = ap (λ (x : Schedule). x.order) same.schedule in
    let still = seen_still old.schedule.order new.schedule.order ledger now (scheduler_seen s old ledger starts d) order seen commits in
    record {
      script = same.script ∙ d.script;
      sound = d.sound;
      seen = still.seen;
      commits = still.commits;
      low = low_same old.schedule new.schedule (ap (λ (x : Schedule). x.low) same.schedule) (sym order) d.low;
      round_starts = subst HaveRoundStarts (sym same.schedule) d.round_starts;
      bounded = subst (IsBounded (batch s)) (sym same.journal) d.bounded;
      rounds = subst (UseRounds s.options.rounds) (sym same.schedule) d.rounds;
      touched = touched_same s old.schedule new.schedule starts (ap (λ (x : Schedule). x.calls) same.schedule) order d.touched;
    }

-- A live call hasn't committed

apart : (c x : ℕ) (rest : Bool) → (x ≡ c → ⊥) → rest ≡ false → (eqb c x || rest) ≡ false
apart c x rest ne e = grind (arith, nat_tests)

not_there : (cs : List ℕ) (c : ℕ) → ((k : ℕ) → slice_get cs k ≡ Some c → ⊥) → list_any (eqb c) cs ≡ false
not_there [] c never = refl
not_there (x ∷ cs) c never = apart c x (list_any (eqb c) cs) (λ e. never 0 (ap Some e)) (not_there cs c (λ k at. never (suc k) at))

pub fresh_call : (b : Booked) (c : ℕ) → AllAllowed (batch_in b) beginning b.journal → b.schedule ≡ schedule_of (batch_in b) b.journal → IsLiveCall b.schedule c → list_any (eqb c) b.schedule.order ≡ false
fresh_call b c allowed reaches live =
    not_there b.schedule.order c (λ k at. live_apart (batch_in b) (length b.journal) b.schedule c live.0 (subst (λ (x : Schedule). Facts (batch_in b) (length b.journal) x) (sym reaches) (facts_of (batch_in b) b.journal allowed)) live.1 k at)

-- a script without calls has no commits
pub idle_order : (b : Booked) → AllAllowed (batch_in b) beginning b.journal → b.schedule ≡ schedule_of (batch_in b) b.journal → length b.script.calls ≡ 0 → b.schedule.order ≡ []
idle_order b allowed reaches none =
    let f : Facts (batch_in b) (length b.journal) b.schedule = subst (λ (x : Schedule). Facts (batch_in b) (length b.journal) x) (sym reaches) (facts_of (batch_in b) b.journal allowed) in
    let count = f.count in
    let done = f.done in
    let most = done_within b.schedule.calls in
    nothing b.schedule.order (omega (arith, count, done, most, none))
  where
    nothing : (xs : List ℕ) → length xs ≤ 0 → xs ≡ []
    nothing [] le = refl
    nothing (x ∷ xs) le = absurd (omega (arith, le))

pub commit_failed : (Q : NoMemory → Type 0) (e : Event) (r : Result ℕ NoMemory) (old new : Booked) → IsErrAnd r Q → IsSame old new → HasCommitted e r old new
commit_failed Q e (Ok n) old new err same = absurd err
commit_failed Q e (Err x) old new err same = same

pub gone_failed : (Q : NoMemory → Type 0) (c : ℕ) (r : Result ℕ NoMemory) (old new : Booked) → IsErrAnd r Q → IsSame old new → HasMovedAndCommitted c r old new
gone_failed Q c (Ok n) old new err same = absurd err
gone_failed Q c (Err x) old new err same = same

pub read_failed : (Q : NoMemory → Type 0) (c : ℕ) (r : Result ℕ NoMemory) (old new : Booked) → IsErrAnd r Q → IsSame old new → HasMovedAndAnswered c r old new
read_failed Q c (Ok n) old new err same = absurd err
read_failed Q c (Err x) old new err same = same

-- What a hold has made ready

pub seen_on : (old new : Booked) (ledger : Entered) → HasSeen ledger old.schedule.order → IsSame old new → HasSeen ledger new.schedule.order
seen_on old new ledger h same = seen_still old.schedule.order new.schedule.order ledger ledger h (order_same old new same) refl refl

-- a start after all commits
pub starts_last : (order : List ℕ) (new : Booked) (ledger : Entered) (start : Started) → HasSeen ledger order → new.schedule.order ≡ order → start.number ≡ ledger.commits → start.knows.seen ≡ ledger.knows.seen → StartsLast start new
starts_last order new ledger start h same number seen = (number ∙ (h.commits ∙ sym (ap length same)), seen ∙ (h.seen ∙ sym same))
