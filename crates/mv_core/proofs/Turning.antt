-- Whole runs: the calls in turn, or a journal.
use Rattle.std.proofs.Common.{◌≡◌, ◌≤◌, ◌⊎◌, inl, inr, ℕ, suc, ◌+◌, Bool, true, false, List, [], ◌∷◌, ◌++◌, Option, Some, None, Ok, Err, length, drop, refl, sym, ap, subst, ◌∙◌, arith, append_assoc, append-nil, length-append, rules}
use Rattle.std.specs.Prelude.{slice_get}
use Rattle.std.specs.Option.{option_map}
use Rattle.std.proofs.lemmas.Grind.{flat_map-append}
use Rattle.std.proofs.lemmas.List.Elements.{filter-append}
use Rattle.std.proofs.lemmas.Option.{slice_get_within}
use Rattle.std.proofs.lemmas.List.{length-set}
use Rattle.mv_values.specs.Tables.{Tables}
use Rattle.mv_values.specs.Counts.{first_numbers}
use Rattle.mv_history.specs.declared.change.Change.{Change}
use Rattle.mv_history.specs.declared.change.Hit.{Hit}
use Rattle.mv_history.specs.Hits.{first_hit}
use Rattle.mv_journal.specs.declared.event.Event.{Event}
use Rattle.mv_journal.specs.declared.event.Event.TheVariants.{B, C, R, G}
use Rattle.mv_journal.specs.declared.outcome.Outcome.{Outcome}
use Rattle.mv_lawful.specs.declared.fault.EventFault.{EventFault}
use Rattle.mv_lawful.specs.declared.fault.EventFault.TheVariants.{Kind}
use Rattle.mv_lawful.specs.declared.fault.Wrong.TheVariants as wrong
use Rattle.mv_lawful.specs.Batch.{Batch, changes_after, records_at, hit_of}
use Rattle.mv_lawful.specs.Lawful.{Live, Schedule, beginning, begin, finish, change_live, unless, refusal, after, reach, open_call, wrong_from}
use Rattle.mv_lawful.specs.Outcomes.{ending, turn, in_turn, is_of_call, without_collections, IsOutcomeInTurn, outcome_of}
use Rattle.mv_lawful.proofs.Collections.{collections_unseen}
use Rattle.mv_lawful.proofs.Lists.{get_end, get_last}
use Rattle.mv_lawful.proofs.Turns.{turned, turns_reach, closed, no_commits, only_open}
use Rattle.mv_core.specs.declared.engine.Attempt.{Attempt}
use Rattle.mv_core.specs.declared.engine.Attempt.TheVariants.{Committed, Hit as Hits, Stale}
use Rattle.mv_script.specs.declared.script.CompiledScript.{CompiledScript}
use Rattle.mv_script.specs.Scripts.{batch_of}
use Rattle.mv_core.specs.Calls.{IsLive, IsLiveCall}
use Rattle.mv_core.specs.Books.{Booked, batch_in, Made, IsSame}
use Rattle.mv_core.specs.declared.drive.DriveFault.{DriveFault}
use Rattle.mv_core.specs.declared.drive.DriveFault.TheVariants as fault
use Rattle.mv_core.specs.Drives.{HasMade, HasTurned, Driven, Stops, HasReplayed}
use Rattle.mv_core.specs.Cores.{HasTried, HasTriedToEnd, IsStaleAt, IsHitAt}
use Rattle.mv_core.proofs.Journals.{live_at}
use Rattle.mv_core.proofs.Lows.{low_within}
use Rattle.mv_core.proofs.Driving.{made_more, made_none}
use Rattle.mv_core.proofs.Refusing.{begun_number, same_made}

-- A call that has just begun

none_since : (w : Batch) (db : Tables) (cs : List ℕ) → drop (length cs) (changes_after w db cs) ≡ []
none_since w db [] = refl
none_since w db (c ∷ cs) = none_since w (w.run c db).tables cs

-- no commit after the last one hits a call
pub none_hit : (w : Batch) (order : List ℕ) (c : ℕ) → hit_of w order (length order) c ≡ None
none_hit w order c =
    ap (λ (commits : List (List Change)). first_hit (length order + 1) commits [] (records_at w order (length order) c)) (none_since w w.opening order)
    ∙ no_commits (length order + 1) [] (records_at w order (length order) c)

-- its start is the number of commits
start_last : (c : ℕ) (old new : Booked) (l : Live) → Made (B c) old new → IsLive new.schedule c l → l.start ≡ length new.schedule.order
start_last c old new l made live = by (get_last old.schedule.calls (begin (length old.schedule.order)) c l (subst (λ (s : Schedule). slice_get s.calls c ≡ Some l) made.schedule live.at)) where
  order_is : new.schedule.order ≡ old.schedule.order
  order_is = ap (λ (s : Schedule). s.order) made.schedule

  by : (slice_get old.schedule.calls c ≡ Some l) ⊎ ((c ≡ length old.schedule.calls) × (begin (length old.schedule.order) ≡ l)) → l.start ≡ length new.schedule.order
  by (inl at) = let lt = slice_get_within old.schedule.calls c l at in let is = begun_number c old new made in absurd (omega (arith, lt, is))
  by (inr h) = sym (ap (λ (x : Live). x.start) h.1) ∙ ap length (sym order_is)

-- it is live
pub begun_live : (c : ℕ) (old new : Booked) → Made (B c) old new → IsLiveCall new.schedule c
begun_live c old new made = (
  begin (length old.schedule.order),
  record {
    at = ap (λ (s : Schedule). slice_get s.calls c) made.schedule ∙ get_end old.schedule.calls (begin (length old.schedule.order)) c (begun_number c old new made);
    live = refl;
  },
)

never_hit : (c : ℕ) (old new : Booked) (hit : Hit) → Made (B c) old new → IsHitAt new c hit → ⊥
never_hit c old new hit made h =
    let start = start_last c old new h.live made h.is_live in
    let none : hit_of (batch_in new) new.schedule.order h.live.start c ≡ None = ap (λ n. hit_of (batch_in new) new.schedule.order n c) start ∙ none_hit (batch_in new) new.schedule.order c in
    let both : Some hit ≡ None = sym h.hit_is ∙ none in
    search (rules, both)

-- The calls in turn

-- each call that has begun did so after the one before it had ended, and has ended. Low isn't past the commits
pub record IsTurned (start b : Booked) : Type 0 where
  first : start.schedule ≡ beginning
  events : List Event
  turns : without_collections events ≡ in_turn (batch_in start).read_only (length b.schedule.calls)
  made : HasMade events start b
  low : b.schedule.low ≤ length b.schedule.order

pub turned_none : (start : Booked) → start.schedule ≡ beginning → IsTurned start start
turned_none start first = record {
  first = first;
  events = [];
  turns = ap (λ (s : Schedule). in_turn (batch_in start).read_only (length s.calls)) (sym first);
  made = record { allowed = tt; schedule = refl; journal = sym (append-nil start.journal); script = refl };
  low = subst (λ (s : Schedule). s.low ≤ length s.order) (sym first) (omega arith);
}

never_stale : (c first low : ℕ) (start old new : Booked) → IsTurned start old → Made (B c) old new → IsStaleAt new c first low → ⊥
never_stale c first low start old new t made h =
    let past = t.low in
    let same : new.schedule.low ≡ old.schedule.low = ap (λ (s : Schedule). s.low) made.schedule in
    let many : length new.schedule.order ≡ length old.schedule.order = ap (λ (s : Schedule). length s.order) made.schedule in
    let last = start_last c old new h.live made h.is_live in
    let from = h.start_is in
    let is = h.low_is in
    let lt = h.stale in
    omega (arith, past, same, many, last, from, is, lt)

-- its attempt commits
pub turn_commits : (c : ℕ) (a : Attempt) (start old mid new : Booked) → IsTurned start old → Made (B c) old mid → HasTried c (Ok a) mid new → Made (C c) mid new
turn_commits c (Committed n) start old mid new t made h = h.0
turn_commits c (Hits number commit) start old mid new t made h = absurd (never_hit c old mid _ made h.0)
turn_commits c (Stale first low) start old mid new t made h = absurd (never_stale c first low start old mid t made h.0)

-- the event that ends a call
abbrev pub end_of : Booked → ℕ → Event
end_of b c = ending ((batch_in b).read_only c) c

-- the law answers read only calls alone
read_allowed : (w : Batch) (s : Schedule) (c : ℕ) → refusal w s (R c) ≡ None → w.read_only c ≡ true
read_allowed w s c free = let it = live_at s c _ free in by (w.read_only c) refl _ it.2 where
  by : (b : Bool) → w.read_only c ≡ b → (later : Option EventFault) → unless b Kind later ≡ None → w.read_only c ≡ true
  by true e later h = e
  by false e later h = absurd (search (rules, h))

-- its end is made
pub turn_ends : (c : ℕ) (start old mid new : Booked) → IsTurned start old → Made (B c) old mid → HasTriedToEnd c mid new → Made (end_of mid c) mid new
turn_ends c start old mid new t made (inl (inl read)) = subst (λ b. Made (ending b c) mid new) (sym (read_allowed (batch_in mid) mid.schedule c read.allowed)) read
turn_ends c start old mid new t made (inl (inr stale)) = absurd (never_stale c stale.0 stale.1 start old mid t made stale.2)
turn_ends c start old mid new t made (inr h) = subst (λ b. Made (ending b c) mid new) (sym h.0) (turn_commits c h.1.0 start old mid new t made h.1.1)

as_many : (w : Batch) (s : Schedule) (c : ℕ) (b : Bool) → length (after w s (ending b c)).calls ≡ length s.calls
as_many w s c b = kind b where
  by : (o : Option Live) → length (change_live o finish s.calls c) ≡ length s.calls
  by None = refl
  by (Some l) = length-set s.calls c (finish l)

  kind : (b : Bool) → length (after w s (ending b c)).calls ≡ length s.calls
  kind true = by (slice_get s.calls c)
  kind false = by (slice_get s.calls c)

no_fewer : (w : Batch) (s : Schedule) (c : ℕ) (b : Bool) → length s.order ≤ length (after w s (ending b c)).order
no_fewer w s c true = omega arith
no_fewer w s c false = let n = length-append s.order (c ∷ []) in omega (arith, n)

same_low : (w : Batch) (s : Schedule) (c : ℕ) (b : Bool) → (after w s (ending b c)).low ≡ s.low
same_low w s c true = refl
same_low w s c false = refl

pub many_begun : (c : ℕ) (old new : Booked) → Made (B c) old new → length new.schedule.calls ≡ length old.schedule.calls + 1
many_begun c old new made = ap (λ (s : Schedule). length s.calls) made.schedule ∙ length-append old.schedule.calls (begin (length old.schedule.order) ∷ [])

pub many_turned : (c : ℕ) (old mid new : Booked) → Made (B c) old mid → Made (end_of mid c) mid new → length new.schedule.calls ≡ length old.schedule.calls + 1
many_turned c old mid new a b = ap (λ (s : Schedule). length s.calls) b.schedule ∙ (as_many (batch_in mid) mid.schedule c ((batch_in mid).read_only c) ∙ many_begun c old mid a)

turn_more : (reads : ℕ → Bool) (k : ℕ) → (in_turn reads k ++ B k ∷ []) ++ ending (reads k) k ∷ [] ≡ in_turn reads (suc k)
turn_more reads k = append_assoc (in_turn reads k) (B k ∷ []) (ending (reads k) k ∷ []) ∙ sym (flat_map-append (turn reads) (first_numbers k) (k ∷ []))

without_more : (es : List Event) (e : Event) → without_collections (es ++ e ∷ []) ≡ without_collections es ++ without_collections (e ∷ [])
without_more es e = filter-append is_of_call es (e ∷ [])

end_stays : (b : Bool) (k : ℕ) → without_collections (ending b k ∷ []) ≡ ending b k ∷ []
end_stays true k = refl
end_stays false k = refl

with_turn : (reads : ℕ → Bool) (es : List Event) (k : ℕ) → without_collections es ≡ in_turn reads k → without_collections ((es ++ B k ∷ []) ++ ending (reads k) k ∷ []) ≡ in_turn reads (suc k)
with_turn reads es k h =
    without_more (es ++ B k ∷ []) (ending (reads k) k)
    ∙ (ap (λ xs. without_collections (es ++ B k ∷ []) ++ xs) (end_stays (reads k) k)
    ∙ (ap (λ xs. xs ++ ending (reads k) k ∷ []) (without_more es (B k)) ∙ (ap (λ xs. (xs ++ B k ∷ []) ++ ending (reads k) k ∷ []) h ∙ turn_more reads k)))

pub turned_more : (c : ℕ) (start old mid new : Booked) → IsTurned start old → Made (B c) old mid → Made (end_of mid c) mid new → IsTurned start new
turned_more c start old mid new t a b = record {
  first = t.first;
  events = (t.events ++ B k ∷ []) ++ ending (reads k) k ∷ [];
  turns = with_turn reads t.events k t.turns ∙ ap (in_turn reads) (sym next);
  made = made_more (t.events ++ B k ∷ []) (ending (reads k) k) start mid new (made_more t.events (B k) start old mid t.made (subst (λ n. Made (B n) old mid) is a)) (subst (λ n. Made (ending (reads n) n) mid new) is last);
  low = let past = t.low in let more = no_fewer (batch_in mid) mid.schedule c ((batch_in mid).read_only c) in omega (arith, past, low_is, more, many, order_is);
} where
  reads : ℕ → Bool
  reads = (batch_in start).read_only

  k : ℕ
  k = length old.schedule.calls

  is : c ≡ k
  is = begun_number c old mid a

  last : Made (ending (reads c) c) mid new
  last = subst (λ (s : CompiledScript). Made (ending ((batch_of s).read_only c) c) mid new) (a.script ∙ t.made.script) b

  next : length new.schedule.calls ≡ suc k
  next = let many = many_turned c old mid new a b in omega (arith, many)

  low_is : new.schedule.low ≡ old.schedule.low
  low_is = ap (λ (s : Schedule). s.low) b.schedule ∙ (same_low (batch_in mid) mid.schedule c ((batch_in mid).read_only c) ∙ ap (λ (s : Schedule). s.low) a.schedule)

  many : length mid.schedule.order ≡ length old.schedule.order
  many = ap (λ (s : Schedule). length s.order) a.schedule

  order_is : length new.schedule.order ≡ length (after (batch_in mid) mid.schedule (end_of mid c)).order
  order_is = ap (λ (s : Schedule). length s.order) b.schedule

-- after a collection too, or if nothing happened
pub turned_on : (start old new : Booked) → IsTurned start old → IsSame old new ⊎ Made G old new → IsTurned start new
turned_on start old new t (inl same) = record {
  first = t.first;
  events = t.events;
  turns = t.turns ∙ ap (λ (s : Schedule). in_turn (batch_in start).read_only (length s.calls)) (sym same.schedule);
  made = made_none t.events start old new t.made (same_made old new same);
  low = subst (λ (s : Schedule). s.low ≤ length s.order) (sym same.schedule) t.low;
}
turned_on start old new t (inr a) = record {
  first = t.first;
  events = t.events ++ G ∷ [];
  turns = without_more t.events G ∙ (append-nil (without_collections t.events) ∙ (t.turns ∙ ap (λ (s : Schedule). in_turn (batch_in start).read_only (length s.calls)) (sym a.schedule)));
  made = made_more t.events G start old new t.made a;
  low = subst (λ (s : Schedule). s.low ≤ length s.order) (sym a.schedule) (low_within (batch_in old) old.schedule _ t.low refl).1;
}

-- as many calls have begun, of the same script
pub many_on : (old new : Booked) → IsSame old new ⊎ Made G old new → (length new.schedule.calls ≡ length old.schedule.calls) × (new.script ≡ old.script)
many_on old new (inl same) = (ap (λ (s : Schedule). length s.calls) same.schedule, same.script)
many_on old new (inr a) = (ap (λ (s : Schedule). length s.calls) a.schedule, a.script)

-- The end

some_open : (o : Option ℕ) → option_map wrong.Open o ≡ None → o ≡ None
some_open None h = refl
some_open (Some c) h = absurd (search (rules, h))

-- after a lawful journal no call is open
pub lawful_shut : (es : List Event) (old new : Booked) → HasMade es old new → wrong_from (batch_in old) 1 old.schedule es ≡ None → open_call (batch_in new) new.schedule ≡ None
lawful_shut es old new made none =
    subst (λ (s : CompiledScript). open_call (batch_of s) new.schedule ≡ None) (sym made.script)
    (subst (λ (s : Schedule). open_call (batch_in old) s ≡ None) (sym made.schedule) (some_open (open_call (batch_in old) (reach (batch_in old) old.schedule es)) (sym (only_open (batch_in old) 1 old.schedule es made.allowed) ∙ none)))

-- all calls have begun, so all turns were made
pub turned_all : (start old new : Booked) → IsTurned start old → length old.schedule.calls ≡ length old.script.calls → IsSame old new → HasTurned start new
turned_all start old new t many same = record {
  events = t.events;
  turns = t.turns ∙ ap (in_turn (batch_in start).read_only) (many ∙ ap (λ (s : CompiledScript). length s.calls) t.made.script);
  made = made_none t.events start old new t.made (same_made old new same);
}

-- and no call is open
pub turned_shut : (start new : Booked) → start.schedule ≡ beginning → HasTurned start new → open_call (batch_in new) new.schedule ≡ None
turned_shut start new first h =
    subst (λ (s : CompiledScript). open_call (batch_of s) new.schedule ≡ None) (sym h.made.script)
    (ap (λ (ls : List Live). open_call w (record { order = []; calls = ls; low = 0; answered = [] })) calls_are ∙ some_open (open_call w (turned w w.count)) (closed w w.count refl))
  where
    w : Batch
    w = batch_in start

    calls_are : new.schedule.calls ≡ (turned w w.count).calls
    calls_are =
        ap (λ (s : Schedule). s.calls) (h.made.schedule ∙ ap (λ s. reach w s h.events) first)
        ∙ ((collections_unseen w beginning beginning h.events (refl, refl, refl)).1
        ∙ ap (λ (s : Schedule). s.calls) (ap (reach w beginning) h.turns ∙ turns_reach w w.count))

pub turned_outcome : (s : CompiledScript) (start new : Booked) (o : Outcome) → HasTurned start new → start.script ≡ s → start.journal ≡ []
    → o ≡ outcome_of (batch_in new) new.journal → IsOutcomeInTurn (batch_of s) (length s.calls) o
turned_outcome s start new o h script journal is = record {
  journal = h.events;
  turns = h.turns ∙ ap (λ (x : CompiledScript). in_turn (batch_of x).read_only (length x.calls)) script;
  outcome = is ∙ (ap (λ x. outcome_of (batch_of x) new.journal) (h.made.script ∙ script) ∙ ap (outcome_of (batch_of s)) (h.made.journal ∙ ap (λ es. es ++ h.events) journal));
}

-- A journal

pub replayed_outcome : (s : CompiledScript) (es : List Event) (old new : Booked) (o : Outcome) → old.script ≡ s → old.schedule ≡ beginning → old.journal ≡ [] → Driven es old new (Ok tt)
    → o ≡ outcome_of (batch_in new) new.journal → HasReplayed (batch_of s) es (Ok o)
replayed_outcome s es old new o script schedule journal h is = (
  ap (λ (x : CompiledScript). wrong_from (batch_of x) 1 beginning es) (sym script) ∙ (ap (λ c. wrong_from (batch_in old) 1 c es) (sym schedule) ∙ h.0),
  is ∙ (ap (λ x. outcome_of (batch_of x) new.journal) (h.1.script ∙ script) ∙ ap (outcome_of (batch_of s)) (h.1.journal ∙ ap (λ xs. xs ++ es) journal)),
)

-- the first fault of a journal
pub replay_stops : (s : CompiledScript) (es : List Event) (old new : Booked) (f : DriveFault) → old.script ≡ s → old.schedule ≡ beginning → Stops es old new f → HasReplayed (batch_of s) es (Err f)
replay_stops s es old new (fault.Refused n r) script schedule h = ap (λ (x : CompiledScript). wrong_from (batch_of x) 1 beginning es) (sym script) ∙ (ap (λ c. wrong_from (batch_in old) 1 c es) (sym schedule) ∙ h.0)
replay_stops s es old new (fault.Open call) script schedule h = ap (λ (x : CompiledScript). wrong_from (batch_of x) 1 beginning es) (sym script) ∙ (ap (λ c. wrong_from (batch_in old) 1 c es) (sym schedule) ∙ h.0)
replay_stops s es old new fault.NoMemory script schedule h = tt
