-- What events leave of a book.
use Rattle.std.proofs.Common.{◌≡◌, ◌≢◌, ◌⊎◌, inl, inr, ℕ, zero, suc, ◌+◌, ◌<◌, ◌≤◌, ◌^◌, true, false, List, [], ◌∷◌, ◌++◌, Option, Some, None, Result, Ok, Err, map, get_or, length, slice_set, is_some, refl, sym, ap, subst, ◌∙◌, arith, eq-eqb, length-append, rules}
use Rattle.std.specs.Prelude.{slice_get, All, IsSome, IsErrAnd}
use Rattle.std.specs.Option.{option_map}
use Rattle.std.proofs.lemmas.List.{map-append, length-map}
use Rattle.std.proofs.lemmas.Option.{slice_get-map, slice_get_within, slice_get_read}
use Rattle.mv_values.specs.declared.calls.Reply.{Reply}
use Rattle.mv_values.specs.declared.memory.NoMemory.{NoMemory}
use Rattle.mv_journal.specs.declared.event.Event.{Event}
use Rattle.mv_journal.specs.declared.event.Event.TheVariants.{B, S, A, M, R}
use Rattle.mv_journal.specs.declared.outcome.Mark.{Mark}
use Rattle.mv_journal.specs.declared.outcome.Mark.TheVariants.{Plain, Exclusive, Moved}
use Rattle.mv_journal.specs.declared.outcome.Round.{Round}
use Rattle.mv_lawful.specs.Batch.{Batch, table_at}
use Rattle.mv_lawful.specs.Lawful.{RoundStart, Live, Schedule, beginning, begin, again, finish, used, with_call, change_live, refusal, after, reach, AllAllowed}
use Rattle.mv_lawful.specs.Rounds.{rounds_of, WithinRounds, round_start_of, round_starts_in, numbered, last_number, closed, counted, uncounted}
use Rattle.mv_lawful.specs.Outcomes.{round_starts_of, IsReply}
use Rattle.mv_script.specs.declared.script.CompiledScript.{CompiledScript}
use Rattle.mv_core.specs.declared.progress.Progress.{Progress}
use Rattle.mv_core.specs.declared.book.Begun.{Begun}
use Rattle.mv_core.specs.declared.book.Book.TheInside.{Inside}
use Rattle.mv_core.specs.contracts.book.Book.{the_view}
use Rattle.mv_core.specs.Rooms.{Filled}
use Rattle.mv_script.specs.Scripts.{IsCompiledScript, batch_of}
use Rattle.mv_core.specs.Calls.{live_of, IsLive, IsLiveCall, due_number, committed, with_own, AreRounds, TellsBy, TellsCall, IsFresh}
use Rattle.mv_core.specs.Books.{Booked, IsBookKept, IsSame, batch_in, kept_rounds, Made, HasBegun, HasRoom, HasRounds, IsSettled, BeginsRound, IsMissing, IsOwnBy, round_event, commit_event}
use Rattle.mv_lawful.proofs.Numbers.{round_starts_numbered, round_starts_closed, last_numbered, table_stays, rounds_stay, last_of_end}
use Rattle.mv_core.proofs.Numbers.{closes, settled, settles, rounds_end, rounds_begun}
use Rattle.mv_core.specs.Lives.{live_numbers, without}
use Rattle.mv_core.proofs.Lives.{live_kept, live_gone, live_begun, live_below}
use Rattle.mv_lawful.proofs.Before.{before_commit, before_stays, before_answered, before_kept}
use Rattle.mv_lawful.proofs.Serial.{stands_none}
use Rattle.mv_lawful.proofs.Lists.{get_last, get_set, set_there}
use Rattle.mv_core.proofs.Journals.{facts_of, Facts, CallFacts, live_at, changed_at, done_in, done_within, done_below, reach_more, allowed_more, live_apart, live_unanswered}

abbrev pub the_schedule : List ℕ → ℕ → List ℕ → List Live → Schedule
the_schedule order low answered ls = record { order = order; calls = ls; low = low; answered = answered }

pub facts : (s : CompiledScript) (schedule : Schedule) (ps : List Progress) (journal : List Event) → IsBookKept s schedule ps journal → Facts (batch_of s) (length journal) schedule
facts s schedule ps journal k = subst (Facts (batch_of s) (length journal)) (sym k.reaches) (facts_of (batch_of s) journal k.allowed)

-- A call

pub live_here : (ps : List Progress) (c : ℕ) (p : Progress) → slice_get ps c ≡ Some p → slice_get (map live_of ps) c ≡ Some (live_of p)
live_here ps c p at = slice_get-map live_of ps c ∙ ap (option_map live_of) at

-- what is told of a call stays when another one commits
grows_by : (w : Batch) (order answered : List ℕ) (start d c : ℕ) (kept : List Round) (o : Option Reply) → WithinRounds (length order) (round_starts_in kept) → TellsBy w order answered start c kept o → TellsBy w (order ++ d ∷ []) answered start c kept o
grows_by w order answered start d c kept None h are = subst (AreRounds kept) (sym (rounds_stay w order d c (round_starts_in kept) h)) are
grows_by w order answered start d c kept (Some reply) h t = (t.0 ∙ sym (rounds_stay w order d c (round_starts_in kept) h), reply_grows t.1) where
  reply_grows : IsReply w order answered start c reply → IsReply w (order ++ d ∷ []) answered start c reply
  reply_grows r =
      let n = length-append order (d ∷ []) in
      let le = r.2 in
      (r.0, before_stays order answered start c d r.0 r.1, omega (arith, n, le), r.3 ∙ ap (λ db. (w.run c db).reply) (sym (table_stays w order d r.0 le)))

-- and when another one is answered
stays_by : (w : Batch) (order answered : List ℕ) (start d c : ℕ) (kept : List Round) (o : Option Reply) → (d ≡ c → ⊥) → TellsBy w order answered start c kept o → TellsBy w order (answered ++ d ∷ []) start c kept o
stays_by w order answered start d c kept None ne are = are
stays_by w order answered start d c kept (Some reply) ne t = let r = t.1 in (t.0, (r.0, before_kept order answered start c d ne ∙ r.1, r.2, r.3))

-- Events

pub kept_event : (s : CompiledScript) (schedule new : Schedule) (ps qs : List Progress) (journal longer : List Event) (e : Event)
    → IsBookKept s schedule ps journal → refusal (batch_of s) schedule e ≡ None → new ≡ after (batch_of s) schedule e → longer ≡ journal ++ e ∷ []
    → ((c : ℕ) (p : Progress) → slice_get qs c ≡ Some p → TellsCall (batch_of s) new.order new.answered c p)
    → IsBookKept s new qs longer
kept_event s schedule new ps qs journal longer e k free is adds tells = record {
  script = k.script;
  allowed = subst (λ (es : List Event). AllAllowed (batch_of s) beginning es) (sym adds) (allowed_more (batch_of s) beginning journal e k.allowed (subst (λ (x : Schedule). refusal (batch_of s) x e ≡ None) k.reaches free));
  reaches = is ∙ (ap (λ x. after (batch_of s) x e) k.reaches ∙ (sym (reach_more (batch_of s) beginning journal e) ∙ ap (reach (batch_of s) beginning) (sym adds)));
  tells = tells;
}

pub set_map : (ps : List Progress) (c : ℕ) (q : Progress) → map live_of (slice_set ps c q) ≡ slice_set (map live_of ps) c (live_of q)
set_map [] c q = refl
set_map (x ∷ ps) zero q = refl
set_map (x ∷ ps) (suc c) q = ap (λ ls. live_of x ∷ ls) (set_map ps c q)

-- a call that is changed
pub map_changed : (f : Live → Live) (ps : List Progress) (c : ℕ) (p q : Progress) → slice_get ps c ≡ Some p → live_of q ≡ f (live_of p)
    → map live_of (slice_set ps c q) ≡ change_live (slice_get (map live_of ps) c) f (map live_of ps) c
map_changed f ps c p q at is =
    set_map ps c q ∙ (ap (slice_set (map live_of ps) c) is ∙ sym (changed_at (map live_of ps) c f (live_of p) (live_here ps c p at)))

-- an event that changes one call and is no commit
pub kept_one : (s : CompiledScript) (order : List ℕ) (low : ℕ) (answered : List ℕ) (c : ℕ) (ps : List Progress) (journal longer : List Event) (e : Event) (f : Live → Live) (p q : Progress)
    → IsBookKept s (the_schedule order low answered (map live_of ps)) ps journal → refusal (batch_of s) (the_schedule order low answered (map live_of ps)) e ≡ None
    → after (batch_of s) (the_schedule order low answered (map live_of ps)) e ≡ with_call (the_schedule order low answered (map live_of ps)) c f
    → longer ≡ journal ++ e ∷ [] → slice_get ps c ≡ Some p → live_of q ≡ f (live_of p) → TellsCall (batch_of s) order answered c q
    → IsBookKept s (the_schedule order low answered (map live_of (slice_set ps c q))) (slice_set ps c q) longer
kept_one s order low answered c ps journal longer e f p q k free is adds at new tells =
    kept_event s _ _ ps (slice_set ps c q) journal longer e k free (ap (the_schedule order low answered) (map_changed f ps c p q at new) ∙ sym is) adds
    (λ d x there. by d x (get_set ps c d q x there)) where
      by : (d : ℕ) (x : Progress) → ((d ≡ c) × (q ≡ x)) ⊎ ((d ≡ c → ⊥) × (slice_get ps d ≡ Some x)) → TellsCall (batch_of s) order answered d x
      by d x (inl h) = subst (λ n. TellsCall (batch_of s) order answered n x) (sym h.0) (subst (TellsCall (batch_of s) order answered c) h.1 tells)
      by d x (inr h) = k.tells d x h.1

-- the next call begins
pub kept_begun : (s : CompiledScript) (order : List ℕ) (low : ℕ) (answered : List ℕ) (n : ℕ) (ps : List Progress) (journal longer : List Event) (q : Progress)
    → IsBookKept s (the_schedule order low answered (map live_of ps)) ps journal → length ps < length s.calls → n ≡ length ps → IsFresh (length order) q → longer ≡ journal ++ B n ∷ []
    → (refusal (batch_of s) (the_schedule order low answered (map live_of ps)) (B n) ≡ None) × IsBookKept s (the_schedule order low answered (map live_of (ps ++ q ∷ []))) (ps ++ q ∷ []) longer
kept_begun s order low answered n ps journal longer q k lt is fresh adds = (free, kept_event s _ _ ps (ps ++ q ∷ []) journal longer (B n) k free (ap (the_schedule order low answered) calls) adds (λ d x at. by d x (get_last ps q d x at))) where
  long : length (map live_of ps) ≡ length ps
  long = length-map ps live_of

  below : n < length s.calls
  below = omega (arith, is, lt)

  free : refusal (batch_of s) (the_schedule order low answered (map live_of ps)) (B n) ≡ None
  free = search (rules, eq-eqb n (length (map live_of ps)) (is ∙ sym long), below)

  calls : map live_of (ps ++ q ∷ []) ≡ map live_of ps ++ begin (length order) ∷ []
  calls = map-append live_of ps (q ∷ []) ∙ ap (λ l. map live_of ps ++ l ∷ []) fresh.live

  tells : (d : ℕ) → TellsCall (batch_of s) order answered d q
  tells d = subst (λ (rs : List Round). TellsBy (batch_of s) order answered q.start d rs q.reply) (sym fresh.rounds) (subst (TellsBy (batch_of s) order answered q.start d (uncounted (length order) Plain ∷ [])) (sym fresh.reply) (inr refl))

  by : (d : ℕ) (x : Progress) → (slice_get ps d ≡ Some x) ⊎ ((d ≡ length ps) × (q ≡ x)) → TellsCall (batch_of s) order answered d x
  by d x (inl h) = k.tells d x h
  by d x (inr h) = subst (TellsCall (batch_of s) order answered d) h.1 (tells d)

pub same_calls : (ps : List Progress) (c : ℕ) (p q : Progress) → slice_get ps c ≡ Some p → live_of q ≡ live_of p → map live_of (slice_set ps c q) ≡ map live_of ps
same_calls [] c p q at new = refl
same_calls (x ∷ ps) zero p q at new = let one : x ≡ p = search (rules, at) in ap (λ l. l ∷ map live_of ps) (new ∙ ap live_of (sym one))
same_calls (x ∷ ps) (suc c) p q at new = ap (λ ls. live_of x ∷ ls) (same_calls ps c p q at new)

-- no event, and nothing that is told is changed
pub kept_same : (s : CompiledScript) (order orders : List ℕ) (low : ℕ) (answered answers : List ℕ) (c : ℕ) (ps : List Progress) (journal same : List Event) (p q : Progress)
    → IsBookKept s (the_schedule order low answered (map live_of ps)) ps journal → orders ≡ order → answers ≡ answered → same ≡ journal → slice_get ps c ≡ Some p → live_of q ≡ live_of p → TellsCall (batch_of s) order answered c q
    → IsBookKept s (the_schedule orders low answers (map live_of (slice_set ps c q))) (slice_set ps c q) same
kept_same s order orders low answered answers c ps journal same p q k o a j at new tells =
    subst (λ (x : List ℕ). IsBookKept s (the_schedule x low answers (map live_of (slice_set ps c q))) (slice_set ps c q) same) (sym o)
    (subst (λ (x : List ℕ). IsBookKept s (the_schedule order low x (map live_of (slice_set ps c q))) (slice_set ps c q) same) (sym a)
    (subst (λ (x : List Event). IsBookKept s (the_schedule order low answered (map live_of (slice_set ps c q))) (slice_set ps c q) x) (sym j) (record {
      script = k.script;
      allowed = k.allowed;
      reaches = ap (the_schedule order low answered) (same_calls ps c p q at new) ∙ k.reaches;
      tells = λ d x there. by d x (get_set ps c d q x there);
    }))) where
      by : (d : ℕ) (x : Progress) → ((d ≡ c) × (q ≡ x)) ⊎ ((d ≡ c → ⊥) × (slice_get ps d ≡ Some x)) → TellsCall (batch_of s) order answered d x
      by d x (inl h) = subst (λ n. TellsCall (batch_of s) order answered n x) (sym h.0) (subst (TellsCall (batch_of s) order answered c) h.1 tells)
      by d x (inr h) = k.tells d x h.1

-- a call commits
pub kept_commit : (s : CompiledScript) (order orders : List ℕ) (low : ℕ) (answered : List ℕ) (c : ℕ) (ps : List Progress) (journal longer : List Event) (e : Event) (f : Live → Live) (p q : Progress) (reply : Reply)
    → IsBookKept s (the_schedule order low answered (map live_of ps)) ps journal → refusal (batch_of s) (the_schedule order low answered (map live_of ps)) e ≡ None
    → after (batch_of s) (the_schedule order low answered (map live_of ps)) e ≡ with_call (the_schedule (order ++ c ∷ []) low answered (map live_of ps)) c f
    → orders ≡ order ++ c ∷ [] → longer ≡ journal ++ e ∷ [] → slice_get ps c ≡ Some p → p.reply ≡ None → live_of q ≡ f (live_of p)
    → q.reply ≡ Some reply → q.rounds.items ≡ rounds_of (batch_of s) (order ++ c ∷ []) c (round_starts_in q.rounds.items)
    → reply ≡ ((batch_of s).run c (table_at (batch_of s) order (length order))).reply
    → IsBookKept s (the_schedule orders low answered (map live_of (slice_set ps c q))) (slice_set ps c q) longer
kept_commit s order orders low answered c ps journal longer e f p q reply k free is more adds at live new replied rounds told =
    subst (λ (x : List ℕ). IsBookKept s (the_schedule x low answered (map live_of (slice_set ps c q))) (slice_set ps c q) longer) (sym more)
    (kept_event s _ _ ps (slice_set ps c q) journal longer e k free (ap (the_schedule (order ++ c ∷ []) low answered) (map_changed f ps c p q at new) ∙ sym is) adds
    (λ d x there. by d x (get_set ps c d q x there))) where
      known : Facts (batch_of s) (length journal) (the_schedule order low answered (map live_of ps))
      known = facts s _ ps journal k

      going : IsLive (the_schedule order low answered (map live_of ps)) c (live_of p)
      going = record { at = live_here ps c p at; live = ap is_some live }

      longer_order : length (order ++ c ∷ []) ≡ length order + 1
      longer_order = length-append order (c ∷ [])

      is_reply : IsReply (batch_of s) (order ++ c ∷ []) answered q.start c reply
      is_reply = (
        length order,
        before_commit order answered q.start c (stands_none answered c (live_unanswered (batch_of s) (length journal) (the_schedule order low answered (map live_of ps)) c (live_of p) known going))
            (live_apart (batch_of s) (length journal) (the_schedule order low answered (map live_of ps)) c (live_of p) known going),
        omega (arith, longer_order),
        told ∙ ap (λ db. ((batch_of s).run c db).reply) (sym (table_stays (batch_of s) order c (length order) (omega arith))),
      )

      tells : TellsCall (batch_of s) (order ++ c ∷ []) answered c q
      tells = subst (TellsBy (batch_of s) (order ++ c ∷ []) answered q.start c q.rounds.items) (sym replied) (rounds, is_reply)

      by : (d : ℕ) (x : Progress) → ((d ≡ c) × (q ≡ x)) ⊎ ((d ≡ c → ⊥) × (slice_get ps d ≡ Some x)) → TellsCall (batch_of s) (order ++ c ∷ []) answered d x
      by d x (inl h) = subst (λ n. TellsCall (batch_of s) (order ++ c ∷ []) answered n x) (sym h.0) (subst (TellsCall (batch_of s) (order ++ c ∷ []) answered c) h.1 tells)
      by d x (inr h) = grows_by (batch_of s) order answered x.start c d x.rounds.items x.reply (known.each d (live_of x) (live_here ps d x h.1)).within (k.tells d x h.1)

-- a call is answered
pub kept_answer : (s : CompiledScript) (order : List ℕ) (low : ℕ) (answered answers : List ℕ) (c : ℕ) (ps : List Progress) (journal longer : List Event) (p q : Progress) (reply : Reply)
    → IsBookKept s (the_schedule order low answered (map live_of ps)) ps journal → refusal (batch_of s) (the_schedule order low answered (map live_of ps)) (R c) ≡ None
    → answers ≡ answered ++ c ∷ [] → longer ≡ journal ++ R c ∷ [] → slice_get ps c ≡ Some p → live_of q ≡ finish (live_of p)
    → q.reply ≡ Some reply → q.rounds.items ≡ rounds_of (batch_of s) order c (round_starts_in q.rounds.items) → q.start ≡ p.start
    → reply ≡ ((batch_of s).run c (table_at (batch_of s) order p.start)).reply
    → IsBookKept s (the_schedule order low answers (map live_of (slice_set ps c q))) (slice_set ps c q) longer
kept_answer s order low answered answers c ps journal longer p q reply k free more adds at new replied rounds start told =
    subst (λ (x : List ℕ). IsBookKept s (the_schedule order low x (map live_of (slice_set ps c q))) (slice_set ps c q) longer) (sym more)
    (kept_event s _ _ ps (slice_set ps c q) journal longer (R c) k free (ap (the_schedule order low (answered ++ c ∷ [])) (map_changed finish ps c p q at new)) adds
    (λ d x there. by d x (get_set ps c d q x there))) where
      known : CallFacts (length order) (length journal) (live_of p)
      known = (facts s _ ps journal k).each c (live_of p) (live_here ps c p at)

      is_reply : IsReply (batch_of s) order (answered ++ c ∷ []) q.start c reply
      is_reply = (
        q.start,
        before_answered order answered q.start c,
        (let a = known.start in omega (arith, a, start)),
        told ∙ ap (λ n. ((batch_of s).run c (table_at (batch_of s) order n)).reply) (sym start),
      )

      tells : TellsCall (batch_of s) order (answered ++ c ∷ []) c q
      tells = subst (TellsBy (batch_of s) order (answered ++ c ∷ []) q.start c q.rounds.items) (sym replied) (rounds, is_reply)

      by : (d : ℕ) (x : Progress) → ((d ≡ c) × (q ≡ x)) ⊎ ((d ≡ c → ⊥) × (slice_get ps d ≡ Some x)) → TellsCall (batch_of s) order (answered ++ c ∷ []) d x
      by d x (inl h) = subst (λ n. TellsCall (batch_of s) order (answered ++ c ∷ []) n x) (sym h.0) (subst (TellsCall (batch_of s) order (answered ++ c ∷ []) c) h.1 tells)
      by d x (inr h) = stays_by (batch_of s) order answered x.start c d x.rounds.items x.reply (λ e. h.0 (sym e)) (k.tells d x h.1)

-- Inside

abbrev pub IsInside : Inside → Type 0
IsInside i = IsBookKept i.script (the_schedule i.order.items i.low i.answered.items (map live_of i.calls.items)) i.calls.items i.journal.items

pub script_seen : (i : Inside) (old : Booked) → the_view i ≡ old → IsInside i → IsCompiledScript old.script
script_seen i old is k = subst (λ (b : Booked). IsCompiledScript b.script) is k.script

pub few_inside : (i : Inside) → IsInside i → length i.order.items < 2 ^ 32
few_inside i k =
    let f : Facts (batch_of i.script) (length i.journal.items) (the_schedule i.order.items i.low i.answered.items (map live_of i.calls.items)) = facts i.script _ i.calls.items i.journal.items k in
    let le : done_in (map live_of i.calls.items) ≤ length (map live_of i.calls.items) = done_within _ in
    omega (arith, le, k.script.1.few, f.count, f.done)

-- a live call, as it is kept
pub record IsProgressAt (ps : List Progress) (c : ℕ) (l : Live) (p : Progress) : Type 0 where
  pub at : slice_get ps c ≡ Some p
  pub is : live_of p ≡ l
  pub going : p.reply ≡ None

none_of : {A : Type 0} (o : Option A) → is_some o ≡ false → o ≡ None
none_of None h = refl
none_of (Some x) h = absurd (search (rules, h))

pub map_get : {A B : Type 0} (f : A → B) (xs : List A) (c : ℕ) (y : B) → slice_get (map f xs) c ≡ Some y → (x : A) × (slice_get xs c ≡ Some x) × (f x ≡ y)
map_get f [] c y at = absurd (search (rules, at))
map_get f (x ∷ xs) zero y at = (x, refl, search (rules, at))
map_get f (x ∷ xs) (suc c) y at = map_get f xs c y at

pub at_call : (i : Inside) (old : Booked) (c : ℕ) (l : Live) → the_view i ≡ old → IsLive old.schedule c l → (p : Progress) × IsProgressAt i.calls.items c l p
at_call i old c l is live =
    let here : IsLive (the_view i).schedule c l = subst (λ (b : Booked). IsLive b.schedule c l) (sym is) live in
    let h = map_get live_of i.calls.items c l here.at in
    (h.0, record { at = h.1; is = h.2; going = none_of h.0.reply (ap (λ (x : Live). x.done) h.2 ∙ here.live) })

pub here_at : (i : Inside) (old : Booked) (c : ℕ) (x : Progress) → the_view i ≡ old → IsLiveCall old.schedule c → x ≡ get_or i.calls.items c x → (l : Live) × IsLive old.schedule c l × IsProgressAt i.calls.items c l x
here_at i old c x is live read =
    let h = at_call i old c live.0 is live.1 in
    let lt : c < length i.calls.items = slice_get_within i.calls.items c h.0 h.1.at in
    let at : slice_get i.calls.items c ≡ Some x = slice_get_read i.calls.items (length i.calls.items) c x refl lt read in
    let both : Some h.0 ≡ Some x = sym h.1.at ∙ at in
    let one : h.0 ≡ x = search (rules, both) in
    (live.0, live.1, record { at = at; is = subst (λ (p : Progress). live_of p ≡ live.0) one h.1.is; going = subst (λ (p : Progress). p.reply ≡ None) one h.1.going })

pub within : (i : Inside) (old : Booked) (c : ℕ) → the_view i ≡ old → IsLiveCall old.schedule c → c < length i.calls.items
within i old c is live = let h = at_call i old c live.0 is live.1 in slice_get_within i.calls.items c h.0 h.1.at

pub step_live : (old : Booked) (c : ℕ) → refusal (batch_in old) old.schedule (S c) ≡ None → IsLiveCall old.schedule c
step_live old c e = let a = live_at old.schedule c _ e in (a.0, a.1)

pub round_live : (old : Booked) (m : Mark) (c : ℕ) → refusal (batch_in old) old.schedule (round_event m c) ≡ None → IsLiveCall old.schedule c
round_live old Plain c e = let a = live_at old.schedule c _ e in (a.0, a.1)
round_live old Moved c e = let a = live_at old.schedule c _ e in (a.0, a.1)
round_live old Exclusive c e = let a = live_at old.schedule c _ e in (a.0, a.1)

pub commit_live : (old : Booked) (own : Option ℕ) (c : ℕ) → refusal (batch_in old) old.schedule (commit_event own c) ≡ None → IsLiveCall old.schedule c
commit_live old None c e = let a = live_at old.schedule c _ e in (a.0, a.1)
commit_live old (Some k) c e = let a = live_at old.schedule c _ e in (a.0, a.1)

-- a commit more finds a number
pub number_fits : (i : Inside) (old : Booked) (c : ℕ) → the_view i ≡ old → IsInside i → IsLiveCall old.schedule c → length i.order.items + 1 < 2 ^ 32
number_fits i old c is k live =
    let h = at_call i old c live.0 is live.1 in
    let f : Facts (batch_of i.script) (length i.journal.items) (the_schedule i.order.items i.low i.answered.items (map live_of i.calls.items)) = facts i.script _ i.calls.items i.journal.items k in
    let lt : done_in (map live_of i.calls.items) < length (map live_of i.calls.items) = done_below _ c (live_of h.0) (live_here i.calls.items c h.0 h.1.at) (ap is_some h.1.going) in
    omega (arith, lt, k.script.1.few, f.count, f.done)

pub steps_fit : (i : Inside) (c : ℕ) (p : Progress) → IsInside i → slice_get i.calls.items c ≡ Some p → p.steps ≤ length i.journal.items
steps_fit i c p k at = let f = facts i.script _ i.calls.items i.journal.items k in (f.each c (live_of p) (live_here i.calls.items c p at)).steps

pub start_past : (i : Inside) (c : ℕ) (p : Progress) → IsInside i → slice_get i.calls.items c ≡ Some p → p.start ≤ length i.order.items
start_past i c p k at = let f = facts i.script _ i.calls.items i.journal.items k in (f.each c (live_of p) (live_here i.calls.items c p at)).start

-- Contracts of events

pub made_on : (e : Event) (view old new : Booked) → view ≡ old → refusal (batch_in old) old.schedule e ≡ None → new.schedule ≡ after (batch_in view) view.schedule e
    → ((d : ℕ) → IsLiveCall old.schedule d → (BeginsRound e d → ⊥) → IsSettled old d → IsSettled new d) → new.journal ≡ view.journal ++ e ∷ [] → new.script ≡ view.script → Made e old new
made_on e view old new is free schedule settled journal script = record {
  allowed = free;
  schedule = schedule ∙ ap (λ (b : Booked). after (batch_in b) b.schedule e) is;
  settled = settled;
  journal = journal ∙ ap (λ (b : Booked). b.journal ++ e ∷ []) is;
  script = script ∙ ap (λ (b : Booked). b.script) is;
}

pub free_on : (e : Event) (view old : Booked) → view ≡ old → refusal (batch_in old) old.schedule e ≡ None → refusal (batch_in view) view.schedule e ≡ None
free_on e view old is free = subst (λ (b : Booked). refusal (batch_in b) b.schedule e ≡ None) (sym is) free

-- Room

abbrev pub room_for : List Progress → List (Filled Round)
room_for ps = map (λ (p : Progress). p.rounds) ps

rooms_left : (ps : List Progress) (c x n m : ℕ) (p q : Progress) → slice_get ps c ≡ Some p → n + p.rounds.room ≤ m + q.rounds.room
    → ((f : Filled Round) → slice_get (room_for ps) x ≡ Some f → m ≤ f.room) → n ≤ m
    → (f : Filled Round) → slice_get (room_for (slice_set ps c q)) x ≡ Some f → n ≤ f.room
rooms_left ps c x n m p q at le has less f there = by (get_set ps c x q h.0 h.1) where
  h : (y : Progress) × (slice_get (slice_set ps c q) x ≡ Some y) × (y.rounds ≡ f)
  h = map_get (λ (y : Progress). y.rounds) (slice_set ps c q) x f there

  had : (y : Progress) → slice_get ps x ≡ Some y → m ≤ y.rounds.room
  had y is = has y.rounds (slice_get-map (λ (z : Progress). z.rounds) ps x ∙ ap (option_map (λ (z : Progress). z.rounds)) is)

  room_is : h.0.rounds.room ≡ f.room
  room_is = ap (λ (g : Filled Round). g.room) h.2

  by : ((x ≡ c) × (q ≡ h.0)) ⊎ ((x ≡ c → ⊥) × (slice_get ps x ≡ Some h.0)) → n ≤ f.room
  by (inl e) =
      let a : m ≤ p.rounds.room = had p (ap (slice_get ps) e.0 ∙ at) in
      let b : q.rounds.room ≡ h.0.rounds.room = ap (λ (y : Progress). y.rounds.room) e.1 in
      let r = room_is in
      omega (arith, a, b, r, le)
  by (inr e) = let a : m ≤ h.0.rounds.room = had h.0 e.1 in let r = room_is in omega (arith, a, r, less)

pub room_left : (view old : Booked) (room : ℕ) (ps : List Progress) (c x n m : ℕ) (p q : Progress) → view ≡ old → view.rounds ≡ room_for ps → slice_get ps c ≡ Some p
    → n ≤ m → n + view.room ≤ m + room → n + p.rounds.room ≤ m + q.rounds.room → HasRoom old x m
    → (n ≤ room) × ((f : Filled Round) → slice_get (room_for (slice_set ps c q)) x ≡ Some f → n ≤ f.room)
room_left view old room ps c x n m p q is rounds at less all one has =
    let here : HasRoom view x m = subst (λ (b : Booked). HasRoom b x m) (sym is) has in
    let a : m ≤ view.room = here.0 in
    (omega (arith, a, all), λ f there. rooms_left ps c x n m p q at one (λ g is'. here.1 g (ap (λ fs. slice_get fs x) rounds ∙ is')) less f there)

-- Numbers that are known

in_room : (ps : List Progress) (c : ℕ) (p : Progress) → slice_get ps c ≡ Some p → slice_get (room_for ps) c ≡ Some p.rounds
in_room ps c p at = slice_get-map (λ (y : Progress). y.rounds) ps c ∙ ap (option_map (λ (y : Progress). y.rounds)) at

pub settled_here : (i : Inside) (old : Booked) (c : ℕ) (p : Progress) → the_view i ≡ old → slice_get i.calls.items c ≡ Some p → IsSettled old c → IsSome (last_number p.rounds.items)
settled_here i old c p is at has =
    let here : IsSettled (the_view i) c = subst (λ (b : Booked). IsSettled b c) (sym is) has in
    here p.rounds.items (ap (option_map kept_rounds) (in_room i.calls.items c p at))

-- the rounds that are kept of a call
kept_at : (ps : List Progress) (d : ℕ) (rs : List Round) → option_map kept_rounds (slice_get (room_for ps) d) ≡ Some rs → (p : Progress) × (slice_get ps d ≡ Some p) × (p.rounds.items ≡ rs)
kept_at ps d rs told =
    let f = map_get kept_rounds (room_for ps) d rs (slice_get-map kept_rounds (room_for ps) d ∙ told) in
    let p = map_get (λ (x : Progress). x.rounds) ps d f.0 f.1 in
    (p.0, p.1, ap kept_rounds p.2 ∙ f.2)

-- no number is lost where a call is changed whose own one isn't
pub still_settled : (i : Inside) (old : Booked) (c d : ℕ) (p q : Progress) → the_view i ≡ old → slice_get i.calls.items c ≡ Some p → (d ≡ c → IsSome (last_number p.rounds.items) → IsSome (last_number q.rounds.items)) → IsSettled old d
    → (rs : List Round) → option_map kept_rounds (slice_get (room_for (slice_set i.calls.items c q)) d) ≡ Some rs → IsSome (last_number rs)
still_settled i old c d p q is at keeps has rs told = by (get_set i.calls.items c d q y.0 y.1) where
  y : (x : Progress) × (slice_get (slice_set i.calls.items c q) d ≡ Some x) × (x.rounds.items ≡ rs)
  y = kept_at (slice_set i.calls.items c q) d rs told

  by : ((d ≡ c) × (q ≡ y.0)) ⊎ ((d ≡ c → ⊥) × (slice_get i.calls.items d ≡ Some y.0)) → IsSome (last_number rs)
  by (inl e) = subst (λ (r : List Round). IsSome (last_number r)) (ap (λ (x : Progress). x.rounds.items) e.1 ∙ y.2) (keeps e.0 (settled_here i old c p is at (subst (IsSettled old) e.0 has)))
  by (inr e) = subst (λ (r : List Round). IsSome (last_number r)) y.2 (settled_here i old d y.0 is e.1 has)

-- nor where a call begins
begun_settled : (i : Inside) (old : Booked) (d : ℕ) (q : Progress) → the_view i ≡ old → IsLiveCall old.schedule d → IsSettled old d
    → (rs : List Round) → option_map kept_rounds (slice_get (room_for (i.calls.items ++ q ∷ [])) d) ≡ Some rs → IsSome (last_number rs)
begun_settled i old d q is live has rs told = by (get_last i.calls.items q d y.0 y.1) where
  y : (x : Progress) × (slice_get (i.calls.items ++ q ∷ []) d ≡ Some x) × (x.rounds.items ≡ rs)
  y = kept_at (i.calls.items ++ q ∷ []) d rs told

  by : (slice_get i.calls.items d ≡ Some y.0) ⊎ ((d ≡ length i.calls.items) × (q ≡ y.0)) → IsSome (last_number rs)
  by (inl at) = subst (λ (r : List Round). IsSome (last_number r)) y.2 (settled_here i old d y.0 is at has)
  by (inr e) = let lt : d < length i.calls.items = within i old d is live in let at : d ≡ length i.calls.items = e.0 in absurd (omega (arith, lt, at))

-- every call has begun
pub all_begun : (i : Inside) (old : Booked) → the_view i ≡ old → IsInside i → length i.script.calls ≤ length i.calls.items → (length old.schedule.calls ≡ length old.script.calls) × IsSame old old
all_begun i old is k le =
    let f : Facts (batch_of i.script) (length i.journal.items) (the_schedule i.order.items i.low i.answered.items (map live_of i.calls.items)) = facts i.script _ i.calls.items i.journal.items k in
    let long : length (map live_of i.calls.items) ≡ length i.calls.items = length-map i.calls.items live_of in
    let here : length (the_view i).schedule.calls ≡ length (the_view i).script.calls = omega (arith, f.count, long, le) in
    (subst (λ (b : Booked). length b.schedule.calls ≡ length b.script.calls) is here, record { script = refl; schedule = refl; settled = λ c has. has; journal = refl })

settled_by : (old new : Booked) (c : ℕ) → new.rounds ≡ old.rounds → IsSettled old c → IsSettled new c
settled_by old new c same has = subst (λ (fs : List (Filled Round)). (rs : List Round) → option_map kept_rounds (slice_get fs c) ≡ Some rs → IsSome (last_number rs)) (sym same) has

-- no more than room was made
pub begun_none : (Q : NoMemory → Type 0) (i : Inside) (old new : Booked) (ps : List Progress) (r : Result (Option Begun) NoMemory) → the_view i ≡ old → ps ≡ i.calls.items
    → new.script ≡ i.script → new.schedule ≡ the_schedule i.order.items i.low i.answered.items (map live_of ps) → new.rounds ≡ room_for ps → new.journal ≡ i.journal.items → IsErrAnd r Q → HasBegun r old new
begun_none Q i old new ps (Ok b) is same script schedule rounds journal h = absurd h
begun_none Q i old new ps (Err e) is same script schedule rounds journal h = record {
  script = script ∙ ap (λ (b : Booked). b.script) is;
  schedule = schedule ∙ (ap (λ qs. the_schedule i.order.items i.low i.answered.items (map live_of qs)) same ∙ ap (λ (b : Booked). b.schedule) is);
  settled = λ c has. settled_by old new c (rounds ∙ (ap room_for same ∙ ap (λ (b : Booked). b.rounds) is)) has;
  journal = journal ∙ ap (λ (b : Booked). b.journal) is;
}

-- the next call has begun
pub begun_made : (i : Inside) (old new : Booked) (n : ℕ) (ps : List Progress) (q : Progress) → the_view i ≡ old → IsInside i → length i.calls.items < length i.script.calls → n ≡ length i.calls.items
    → IsFresh (length i.order.items) q → ps ≡ i.calls.items ++ q ∷ [] → new.script ≡ i.script → new.schedule ≡ the_schedule i.order.items i.low i.answered.items (map live_of ps) → new.rounds ≡ room_for ps → new.journal ≡ i.journal.items ++ B n ∷ []
    → Made (B n) old new
begun_made i old new n ps q is k lt number fresh more script schedule rounds journal =
    made_on (B n) (the_view i) old new is (subst (λ (b : Booked). refusal (batch_in b) b.schedule (B n) ≡ None) is free)
    (schedule ∙ ap (the_schedule i.order.items i.low i.answered.items) (ap (map live_of) more ∙ (map-append live_of i.calls.items (q ∷ []) ∙ ap (λ l. map live_of i.calls.items ++ l ∷ []) fresh.live)))
    (λ d live other has rs told. begun_settled i old d q is live has rs (ap (λ (fs : List (Filled Round)). option_map kept_rounds (slice_get fs d)) (sym (rounds ∙ ap room_for more)) ∙ told)) journal script where
      free : refusal (batch_of i.script) (the_schedule i.order.items i.low i.answered.items (map live_of i.calls.items)) (B n) ≡ None
      free = (kept_begun i.script i.order.items i.low i.answered.items n i.calls.items i.journal.items new.journal q k lt number fresh journal).0

-- A repair or a move

pub live_made : (a b : Live) → a.start ≡ b.start → a.round_starts ≡ b.round_starts → a.steps ≡ b.steps → a.done ≡ b.done → a ≡ b
live_made a b start round_starts steps done =
    ap (λ n. record { start = n; round_starts = a.round_starts; steps = a.steps; done = a.done }) start
    ∙ (ap (λ ts. record { start = b.start; round_starts = ts; steps = a.steps; done = a.done }) round_starts
    ∙ (ap (λ n. record { start = b.start; round_starts = b.round_starts; steps = n; done = a.done }) steps
    ∙ ap (λ d. record { start = b.start; round_starts = b.round_starts; steps = b.steps; done = d }) done))

pub restart_after : (w : Batch) (s : Schedule) (m : Mark) (c : ℕ) → m ≢ Exclusive → after w s (round_event m c) ≡ with_call s c (again (length s.order) m)
restart_after w s Plain c ne = refl
restart_after w s Moved c ne = refl
restart_after w s Exclusive c ne = absurd (ne refl)

some_settled : (kept all : List Round) → AreRounds kept all → IsSome (last_number kept) → kept ≡ all
some_settled kept all are has = by (last_number kept) refl has where
  by : (o : Option ℕ) → last_number kept ≡ o → IsSome o → kept ≡ all
  by None is h = absurd (search (rules, h))
  by (Some k) is h = settled kept all k are is

pub restarted : (n : ℕ) (m : Mark) (p q : Progress) → q.start ≡ n → q.steps ≡ p.steps → q.rounds.items ≡ closed m p.rounds.items ++ uncounted n m ∷ [] → q.reply ≡ p.reply → live_of q ≡ again n m (live_of p)
restarted n m p q start steps rounds reply = live_made (live_of q) (again n m (live_of p)) start round_starts steps (ap is_some reply) where
  round_starts : round_starts_in q.rounds.items ≡ round_starts_in p.rounds.items ++ record { start = n; mark = m } ∷ []
  round_starts = ap round_starts_in rounds ∙ (map-append round_start_of (closed m p.rounds.items) (uncounted n m ∷ []) ∙ ap (λ ts. ts ++ record { start = n; mark = m } ∷ []) (round_starts_closed m p.rounds.items))

pub kept_restart : (s : CompiledScript) (order : List ℕ) (low : ℕ) (answered : List ℕ) (c : ℕ) (ps : List Progress) (journal longer : List Event) (m : Mark) (p q : Progress)
    → IsBookKept s (the_schedule order low answered (map live_of ps)) ps journal → m ≢ Exclusive → refusal (batch_of s) (the_schedule order low answered (map live_of ps)) (round_event m c) ≡ None
    → (m ≡ Plain → IsSome (last_number p.rounds.items)) → slice_get ps c ≡ Some p → p.reply ≡ None
    → q.start ≡ length order → q.steps ≡ p.steps → q.rounds.items ≡ closed m p.rounds.items ++ uncounted (length order) m ∷ [] → q.reply ≡ p.reply
    → longer ≡ journal ++ round_event m c ∷ []
    → IsBookKept s (the_schedule order low answered (map live_of (slice_set ps c q))) (slice_set ps c q) longer
kept_restart s order low answered c ps journal longer m p q k ne free has at silent start steps rounds reply adds =
    kept_one s order low answered c ps journal longer (round_event m c) (again (length order) m) p q k free restarts adds at new
    (subst (TellsBy (batch_of s) order answered q.start c q.rounds.items) (sym (reply ∙ silent)) (inr known)) where
      restarts : after (batch_of s) (the_schedule order low answered (map live_of ps)) (round_event m c) ≡ with_call (the_schedule order low answered (map live_of ps)) c (again (length order) m)
      restarts = restart_after (batch_of s) (the_schedule order low answered (map live_of ps)) m c ne

      new : live_of q ≡ again (length order) m (live_of p)
      new = restarted (length order) m p q start steps rounds reply

      own : CallFacts (length order) (length journal) (live_of p)
      own = (facts s _ ps journal k).each c (live_of p) (live_here ps c p at)

      all : List Round
      all = rounds_of (batch_of s) order c (round_starts_in p.rounds.items)

      are : AreRounds p.rounds.items all
      are = subst (TellsBy (batch_of s) order answered p.start c p.rounds.items) silent (k.tells c p at)

      enough : (n : Mark) → m ≡ n → (m ≡ Moved) ⊎ (p.rounds.items ≡ all)
      enough Plain is = inr (some_settled p.rounds.items all are (has is))
      enough Moved is = inl is
      enough Exclusive is = absurd (ne is)

      known : q.rounds.items ≡ numbered None (rounds_of (batch_of s) order c (round_starts_in q.rounds.items))
      known =
          rounds ∙ (ap (λ rs. rs ++ uncounted (length order) m ∷ []) (closes m p.rounds.items all are (enough m refl))
          ∙ (ap (λ ts. closed m (rounds_of (batch_of s) order c ts) ++ uncounted (length order) m ∷ []) own.round_starts
          ∙ (sym (rounds_begun (batch_of s) order c (length order) m own.first own.rest)
          ∙ ap (λ ts. numbered None (rounds_of (batch_of s) order c ts)) (ap (λ ts. ts ++ record { start = length order; mark = m } ∷ []) (sym own.round_starts) ∙ sym (ap (λ (l : Live). l.round_starts) new)))))

-- A number

due_here : (w : Batch) (order : List ℕ) (low : ℕ) (answered : List ℕ) (c : ℕ) (ps : List Progress) (p : Progress) → slice_get ps c ≡ Some p
    → due_number w (the_schedule order low answered (map live_of ps)) c ≡ last_number (rounds_of w order c (round_starts_in p.rounds.items))
due_here w order low answered c ps p at = ap (λ o. last_number (rounds_of w order c (round_starts_of o))) (live_here ps c p at)

pub settled_live : (n : Option ℕ) (p q : Progress) → q.start ≡ p.start → q.steps ≡ p.steps → q.rounds.items ≡ numbered n p.rounds.items → q.reply ≡ p.reply → live_of q ≡ live_of p
settled_live n p q start steps rounds reply = live_made (live_of q) (live_of p) start (ap round_starts_in rounds ∙ round_starts_numbered n p.rounds.items) steps (ap is_some reply)

pub kept_settled : (s : CompiledScript) (order : List ℕ) (low : ℕ) (answered : List ℕ) (c : ℕ) (ps : List Progress) (journal : List Event) (n : ℕ) (p q : Progress)
    → IsBookKept s (the_schedule order low answered (map live_of ps)) ps journal → slice_get ps c ≡ Some p → p.reply ≡ None
    → due_number (batch_of s) (the_schedule order low answered (map live_of ps)) c ≡ Some n
    → q.start ≡ p.start → q.steps ≡ p.steps → q.rounds.items ≡ numbered (Some n) p.rounds.items → q.reply ≡ p.reply
    → IsBookKept s (the_schedule order low answered (map live_of (slice_set ps c q))) (slice_set ps c q) journal
kept_settled s order low answered c ps journal n p q k at silent due start steps rounds reply =
    kept_same s order order low answered answered c ps journal journal p q k refl refl refl at (settled_live (Some n) p q start steps rounds reply)
    (subst (TellsBy (batch_of s) order answered q.start c q.rounds.items) (sym (reply ∙ silent)) (inl known)) where
      are : AreRounds p.rounds.items (rounds_of (batch_of s) order c (round_starts_in p.rounds.items))
      are = subst (TellsBy (batch_of s) order answered p.start c p.rounds.items) silent (k.tells c p at)

      known : q.rounds.items ≡ rounds_of (batch_of s) order c (round_starts_in q.rounds.items)
      known =
          rounds ∙ (settles p.rounds.items (rounds_of (batch_of s) order c (round_starts_in p.rounds.items)) (Some n) are (sym (due_here (batch_of s) order low answered c ps p at) ∙ due)
          ∙ ap (rounds_of (batch_of s) order c) (sym (ap round_starts_in rounds ∙ round_starts_numbered (Some n) p.rounds.items)))

-- a number that was set
pub number_set : (s : CompiledScript) (order : List ℕ) (low : ℕ) (answered : List ℕ) (c : ℕ) (ps : List Progress) (journal : List Event) (n : ℕ) (p q : Progress)
    → IsBookKept s (the_schedule order low answered (map live_of ps)) ps journal → slice_get ps c ≡ Some p → q.rounds.items ≡ numbered (Some n) p.rounds.items → last_number q.rounds.items ≡ Some n
number_set s order low answered c ps journal n p q k at rounds = ap last_number rounds ∙ numbered_some p.rounds.items own.first own.rest own.round_starts where
  own : CallFacts (length order) (length journal) (live_of p)
  own = (facts s _ ps journal k).each c (live_of p) (live_here ps c p at)

  numbered_some : (xs : List Round) (t : RoundStart) (ts : List RoundStart) → round_starts_in xs ≡ t ∷ ts → last_number (numbered (Some n) xs) ≡ Some n
  numbered_some [] t ts e = absurd (search (rules, e))
  numbered_some (x ∷ xs) t ts e = last_numbered (Some n) x xs

-- the number is known after it was set
pub set_known : (ps : List Progress) (c n : ℕ) (p q : Progress) → slice_get ps c ≡ Some p → last_number q.rounds.items ≡ Some n
    → (rs : List Round) → option_map kept_rounds (slice_get (room_for (slice_set ps c q)) c) ≡ Some rs → IsSome (last_number rs)
set_known ps c n p q at last rs is = subst IsSome (sym (ap last_number (sym one) ∙ last)) (search rules) where
  there : slice_get (room_for (slice_set ps c q)) c ≡ Some q.rounds
  there = slice_get-map (λ (y : Progress). y.rounds) (slice_set ps c q) c ∙ ap (option_map (λ (y : Progress). y.rounds)) (set_there ps c q p at)

  same : Some q.rounds.items ≡ Some rs
  same = ap (option_map kept_rounds) (sym there) ∙ is

  one : q.rounds.items ≡ rs
  one = search (rules, same)

-- an event that begins a round of a call keeps the numbers of the others
pub other_round : (m : Mark) (c d : ℕ) → m ≢ Exclusive → (BeginsRound (round_event m c) d → ⊥) → d ≡ c → ⊥
other_round Plain c d ne other is = other (inl (ap A (sym is)))
other_round Moved c d ne other is = other (inr (ap M (sym is)))
other_round Exclusive c d ne other is = ne refl

-- A commit

pub commit_after : (w : Batch) (order : List ℕ) (low : ℕ) (answered : List ℕ) (ls : List Live) (own : Option ℕ) (c : ℕ)
    → after w (the_schedule order low answered ls) (commit_event own c) ≡ with_call (the_schedule (order ++ c ∷ []) low answered ls) c (committed (length order) own)
commit_after w order low answered ls None c = refl
commit_after w order low answered ls (Some k) c = refl

pub made_committed : (own : Option ℕ) (c : ℕ) (i : Inside) (old new : Booked) (orders : List ℕ) (p q : Progress) → the_view i ≡ old → refusal (batch_in old) old.schedule (commit_event own c) ≡ None
    → slice_get i.calls.items c ≡ Some p → live_of q ≡ committed (length i.order.items) own (live_of p) → orders ≡ i.order.items ++ c ∷ []
    → new.schedule ≡ the_schedule orders i.low i.answered.items (map live_of (slice_set i.calls.items c q)) → ((d : ℕ) → IsLiveCall old.schedule d → (BeginsRound (commit_event own c) d → ⊥) → IsSettled old d → IsSettled new d)
    → new.journal ≡ i.journal.items ++ commit_event own c ∷ [] → new.script ≡ i.script → Made (commit_event own c) old new
made_committed own c i old new orders p q is free at live more schedule settled journal script =
    made_on (commit_event own c) (the_view i) old new is free
    (schedule ∙ (ap (λ (o : List ℕ). the_schedule o i.low i.answered.items (map live_of (slice_set i.calls.items c q))) more
    ∙ (ap (λ (ls : List Live). the_schedule (i.order.items ++ c ∷ []) i.low i.answered.items ls) (map_changed (committed (length i.order.items) own) i.calls.items c p q at live)
    ∙ sym (commit_after (batch_of i.script) i.order.items i.low i.answered.items (map live_of i.calls.items) own c)))) settled journal script

-- its number is known, with a round of its own or without
pub own_known : (n : ℕ) (own : Option ℕ) (rs : List Round) → IsSome (last_number rs) → IsSome (last_number (with_own n own rs))
own_known n None rs has = has
own_known n (Some k) rs has = ap is_some (last_of_end rs (counted n Exclusive k))

-- the rounds of a call that commits are Runs'
pub rounds_committed : (s : CompiledScript) (order : List ℕ) (low : ℕ) (answered : List ℕ) (c : ℕ) (ps : List Progress) (journal : List Event) (own : Option ℕ) (p : Progress)
    → IsBookKept s (the_schedule order low answered (map live_of ps)) ps journal → slice_get ps c ≡ Some p → p.reply ≡ None → IsSome (last_number p.rounds.items)
    → IsOwnBy own (batch_of s) (the_schedule order low answered (map live_of ps)) c
    → with_own (length order) own p.rounds.items ≡ rounds_of (batch_of s) (order ++ c ∷ []) c (round_starts_in (with_own (length order) own p.rounds.items))
rounds_committed s order low answered c ps journal own p k at silent has number = by own number where
  known : CallFacts (length order) (length journal) (live_of p)
  known = (facts s _ ps journal k).each c (live_of p) (live_here ps c p at)

  longer : List ℕ
  longer = order ++ c ∷ []

  are : AreRounds p.rounds.items (rounds_of (batch_of s) order c (round_starts_in p.rounds.items))
  are = subst (TellsBy (batch_of s) order answered p.start c p.rounds.items) silent (k.tells c p at)

  full : p.rounds.items ≡ rounds_of (batch_of s) longer c (round_starts_in p.rounds.items)
  full = some_settled p.rounds.items (rounds_of (batch_of s) order c (round_starts_in p.rounds.items)) are has ∙ sym (rounds_stay (batch_of s) order c c (round_starts_in p.rounds.items) known.within)

  by : (own : Option ℕ) → IsOwnBy own (batch_of s) (the_schedule order low answered (map live_of ps)) c
      → with_own (length order) own p.rounds.items ≡ rounds_of (batch_of s) longer c (round_starts_in (with_own (length order) own p.rounds.items))
  by None number = full
  by (Some n) number = left ∙ (sym more ∙ ap (rounds_of (batch_of s) longer c) (ap (λ ts. ts ++ record { start = length order; mark = Exclusive } ∷ []) (sym known.round_starts) ∙ sym round_starts)) where
    round_starts : round_starts_in (p.rounds.items ++ record { start = length order; count = Some n; mark = Exclusive } ∷ []) ≡ round_starts_in p.rounds.items ++ record { start = length order; mark = Exclusive } ∷ []
    round_starts = map-append round_start_of p.rounds.items (record { start = length order; count = Some n; mark = Exclusive } ∷ [])

    f : Live → Live
    f l = finish (again (length order) Exclusive l)

    there : slice_get (change_live (slice_get (map live_of ps) c) f (map live_of ps) c) c ≡ Some (f (live_of p))
    there = ap (λ ls. slice_get ls c) (changed_at (map live_of ps) c f (live_of p) (live_here ps c p at)) ∙ set_there (map live_of ps) c (f (live_of p)) (live_of p) (live_here ps c p at)

    due : last_number (rounds_of (batch_of s) longer c ((known.first ∷ known.rest) ++ record { start = length order; mark = Exclusive } ∷ [])) ≡ Some n
    due = sym (ap (λ o. last_number (rounds_of (batch_of s) longer c (round_starts_of o))) there ∙ ap (λ ts. last_number (rounds_of (batch_of s) longer c (ts ++ record { start = length order; mark = Exclusive } ∷ []))) known.round_starts) ∙ number

    more : rounds_of (batch_of s) longer c ((known.first ∷ known.rest) ++ record { start = length order; mark = Exclusive } ∷ []) ≡ rounds_of (batch_of s) longer c (known.first ∷ known.rest) ++ record { start = length order; count = Some n; mark = Exclusive } ∷ []
    more = rounds_end (batch_of s) longer c (length order) n Exclusive known.first known.rest due

    left : p.rounds.items ++ record { start = length order; count = Some n; mark = Exclusive } ∷ [] ≡ rounds_of (batch_of s) longer c (known.first ∷ known.rest) ++ record { start = length order; count = Some n; mark = Exclusive } ∷ []
    left = ap (λ rs. rs ++ record { start = length order; count = Some n; mark = Exclusive } ∷ []) (full ∙ ap (rounds_of (batch_of s) longer c) known.round_starts)

-- An answer

-- the rounds of a call that is answered are Runs'
pub rounds_answered : (s : CompiledScript) (order : List ℕ) (low : ℕ) (answered : List ℕ) (c : ℕ) (ps : List Progress) (journal : List Event) (p : Progress)
    → IsBookKept s (the_schedule order low answered (map live_of ps)) ps journal → slice_get ps c ≡ Some p → p.reply ≡ None → IsSome (last_number p.rounds.items)
    → p.rounds.items ≡ rounds_of (batch_of s) order c (round_starts_in p.rounds.items)
rounds_answered s order low answered c ps journal p k at silent has =
    some_settled p.rounds.items (rounds_of (batch_of s) order c (round_starts_in p.rounds.items)) (subst (TellsBy (batch_of s) order answered p.start c p.rounds.items) silent (k.tells c p at)) has

pub made_answered : (c : ℕ) (i : Inside) (old new : Booked) (answers : List ℕ) (p q : Progress) → the_view i ≡ old → refusal (batch_in old) old.schedule (R c) ≡ None
    → slice_get i.calls.items c ≡ Some p → live_of q ≡ finish (live_of p) → answers ≡ i.answered.items ++ c ∷ []
    → new.schedule ≡ the_schedule i.order.items i.low answers (map live_of (slice_set i.calls.items c q)) → ((d : ℕ) → IsLiveCall old.schedule d → (BeginsRound (R c) d → ⊥) → IsSettled old d → IsSettled new d)
    → new.journal ≡ i.journal.items ++ R c ∷ [] → new.script ≡ i.script → Made (R c) old new
made_answered c i old new answers p q is free at live more schedule settled journal script =
    made_on (R c) (the_view i) old new is free
    (schedule ∙ (ap (λ (a : List ℕ). the_schedule i.order.items i.low a (map live_of (slice_set i.calls.items c q))) more
    ∙ ap (λ (ls : List Live). the_schedule i.order.items i.low (i.answered.items ++ c ∷ []) ls) (map_changed finish i.calls.items c p q at live))) settled journal script

-- What is as before

pub kept_same_told : (s : CompiledScript) (order orders : List ℕ) (low : ℕ) (answered answers : List ℕ) (c : ℕ) (ps : List Progress) (journal same : List Event) (p q : Progress)
    → IsBookKept s (the_schedule order low answered (map live_of ps)) ps journal → orders ≡ order → answers ≡ answered → same ≡ journal → slice_get ps c ≡ Some p → live_of q ≡ live_of p → q.rounds.items ≡ p.rounds.items → q.reply ≡ p.reply
    → IsBookKept s (the_schedule orders low answers (map live_of (slice_set ps c q))) (slice_set ps c q) same
kept_same_told s order orders low answered answers c ps journal same p q k o a j at new rounds reply =
    kept_same s order orders low answered answers c ps journal same p q k o a j at new
    (subst (λ n. TellsBy (batch_of s) order answered n c q.rounds.items q.reply) (sym start)
    (subst (TellsBy (batch_of s) order answered p.start c q.rounds.items) (sym reply) (subst (λ (rs : List Round). TellsBy (batch_of s) order answered p.start c rs p.reply) (sym rounds) (k.tells c p at)))) where
      start : q.start ≡ p.start
      start = ap (λ (l : Live). l.start) new

pub room_set : (ps : List Progress) (c n : ℕ) (p q : Progress) → slice_get ps c ≡ Some p → n ≤ q.rounds.room → (f : Filled Round) → slice_get (room_for (slice_set ps c q)) c ≡ Some f → n ≤ f.room
room_set ps c n p q at enough f there =
    let here : slice_get (room_for (slice_set ps c q)) c ≡ Some q.rounds = slice_get-map (λ (y : Progress). y.rounds) (slice_set ps c q) c ∙ ap (option_map (λ (y : Progress). y.rounds)) (set_there ps c q p at) in
    let both : Some q.rounds ≡ Some f = sym here ∙ there in
    let one : q.rounds ≡ f = search (rules, both) in
    subst (λ (g : Filled Round). n ≤ g.room) one enough

-- What is said of the view, inside

pub room_here : (i : Inside) (old : Booked) (c n : ℕ) (p : Progress) → the_view i ≡ old → slice_get i.calls.items c ≡ Some p → HasRoom old c n → n ≤ p.rounds.room
room_here i old c n p is at has =
    let here : HasRoom (the_view i) c n = subst (λ (b : Booked). HasRoom b c n) (sym is) has in
    here.1 p.rounds (in_room i.calls.items c p at)

-- a call whose last round has its number
pub settled_told : (i : Inside) (old : Booked) (c : ℕ) (p : Progress) → the_view i ≡ old → slice_get i.calls.items c ≡ Some p → IsSome (last_number p.rounds.items) → IsSettled old c
settled_told i old c p is at has = subst (λ (b : Booked). IsSettled b c) is (λ rs told.
    let both : Some p.rounds.items ≡ Some rs = sym (ap (option_map kept_rounds) (in_room i.calls.items c p at)) ∙ told in
    let one : p.rounds.items ≡ rs = search (rules, both) in
    subst (λ (r : List Round). IsSome (last_number r)) one has)

pub rounds_told : (i : Inside) (old : Booked) (c : ℕ) (p : Progress) → the_view i ≡ old → IsInside i → slice_get i.calls.items c ≡ Some p → p.reply ≡ None → HasRounds old c p.rounds.items
rounds_told i old c p is k at silent = subst (λ (b : Booked). HasRounds b c p.rounds.items) is (record {
  kept = ap (option_map kept_rounds) (in_room i.calls.items c p at);
  live = live_of p;
  is_live = record { at = live_here i.calls.items c p at; live = ap is_some silent };
  round_starts = refl;
  rounds = subst (TellsBy (batch_of i.script) i.order.items i.answered.items p.start c p.rounds.items) silent (k.tells c p at);
})

-- a call has one round more than it was repaired and moved
pub rounds_used : (i : Inside) (c : ℕ) (p : Progress) → IsInside i → slice_get i.calls.items c ≡ Some p → length p.rounds.items ≡ used (live_of p) + 1
rounds_used i c p k at =
    let own : CallFacts (length i.order.items) (length i.journal.items) (live_of p) = (facts i.script _ i.calls.items i.journal.items k).each c (live_of p) (live_here i.calls.items c p at) in
    let some = ap length own.round_starts in
    let many = length-map p.rounds.items round_start_of in
    omega (arith, some, many)

-- the number of a call's last round, as it is kept
pub number_kept : (i : Inside) (old : Booked) (c n : ℕ) (l : Live) (p : Progress) → the_view i ≡ old → IsInside i → IsProgressAt i.calls.items c l p → last_number p.rounds.items ≡ Some n → due_number (batch_in old) old.schedule c ≡ Some n
number_kept i old c n l p is k here has = subst (λ (b : Booked). due_number (batch_in b) b.schedule c ≡ Some n) is (due_here (batch_of i.script) i.order.items i.low i.answered.items c i.calls.items p here.at ∙ (sym (ap last_number (settled p.rounds.items all n are has)) ∙ has)) where
  all : List Round
  all = rounds_of (batch_of i.script) i.order.items c (round_starts_in p.rounds.items)

  are : AreRounds p.rounds.items all
  are = subst (TellsBy (batch_of i.script) i.order.items i.answered.items p.start c p.rounds.items) here.going (k.tells c p here.at)

-- a number that isn't kept is missing
pub unsettled_here : (i : Inside) (old : Booked) (c : ℕ) (p : Progress) → the_view i ≡ old → slice_get i.calls.items c ≡ Some p → last_number p.rounds.items ≡ None → IsSettled old c → ⊥
unsettled_here i old c p is at none has = let no : true ≡ false = sym (settled_here i old c p is at has) ∙ ap is_some none in absurd (search (rules, no))

pub missing_due : (i : Inside) (old : Booked) (c n : ℕ) (p : Progress) (o : Option ℕ) → the_view i ≡ old → slice_get i.calls.items c ≡ Some p → o ≡ last_number p.rounds.items → is_some o ≡ false → IsMissing n old c
    → due_number (batch_of i.script) (the_schedule i.order.items i.low i.answered.items (map live_of i.calls.items)) c ≡ Some n
missing_due i old c n p o is at last unknown missing =
    subst (λ (b : Booked). due_number (batch_in b) b.schedule c ≡ Some n) (sym is) (missing (unsettled_here i old c p is at (sym last ∙ none_of o unknown)))

pub room_same : (view old : Booked) (room x n m : ℕ) → view ≡ old → n ≤ m → n + view.room ≤ m + room → HasRoom old x m
    → (n ≤ room) × ((f : Filled Round) → slice_get view.rounds x ≡ Some f → n ≤ f.room)
room_same view old room x n m is less all has =
    let here : HasRoom view x m = subst (λ (b : Booked). HasRoom b x m) (sym is) has in
    let a : m ≤ view.room = here.0 in
    (omega (arith, a, all), λ f there. let b : m ≤ f.room = here.1 f there in omega (arith, b, less))

-- Which calls are live

pub live_stays : (ps : List Progress) (c : ℕ) (p q : Progress) → slice_get ps c ≡ Some p → q.reply ≡ p.reply → live_numbers (map live_of (slice_set ps c q)) ≡ live_numbers (map live_of ps)
live_stays ps c p q at same = ap live_numbers (set_map ps c q) ∙ live_kept 0 c (live_of p) (live_of q) (map live_of ps) (live_here ps c p at) (ap is_some same)

pub live_leaves : (ps : List Progress) (c : ℕ) (p q : Progress) (reply : Reply) → slice_get ps c ≡ Some p → p.reply ≡ None → q.reply ≡ Some reply
    → live_numbers (map live_of (slice_set ps c q)) ≡ without c (live_numbers (map live_of ps))
live_leaves ps c p q reply at silent answered = ap live_numbers (set_map ps c q) ∙ live_gone c (live_of p) (live_of q) (map live_of ps) (live_here ps c p at) (ap is_some silent) (ap is_some answered)

pub live_comes : (ps : List Progress) (n : ℕ) (q : Progress) → IsFresh n q → live_numbers (map live_of (ps ++ q ∷ [])) ≡ live_numbers (map live_of ps) ++ length ps ∷ []
live_comes ps n q fresh =
    ap live_numbers (map-append live_of ps (q ∷ []) ∙ ap (λ l. map live_of ps ++ l ∷ []) fresh.live)
    ∙ live_begun n (length ps) (map live_of ps) (sym (length-map ps live_of))

pub live_within : (ps : List Progress) → All (λ d. d < length ps) (live_numbers (map live_of ps))
live_within ps = subst (λ n. All (λ d. d < n) (live_numbers (map live_of ps))) (length-map ps live_of) (live_below (map live_of ps))
