-- When the law allows an event, by what is kept.
use Rattle.std.proofs.Common.{◌≡◌, ℕ, ◌+◌, ◌-◌, ◌≤◌, Bool, true, false, not, List, [], Option, Some, None, map, length, drop, refl, sym, ap, subst, ◌∙◌, arith, rules}
use Rattle.std.specs.Prelude.{◌==◌, ◌&&◌, nat_lt, slice_get}
use Rattle.std.specs.Option.{option_map, is_some}
use Rattle.std.proofs.lemmas.Bool.{eqb-true}
use Rattle.std.proofs.lemmas.List.{length-map, drop-drop}
use Rattle.std.proofs.lemmas.Option.{slice_get-map}
use Rattle.mv_values.specs.declared.calls.Reply.{Reply}
use Rattle.mv_values.specs.declared.schema.TableInfo.{TableInfo}
use Rattle.mv_history.specs.Hits.{first_hit}
use Rattle.mv_journal.specs.declared.event.Event.TheVariants.{B, A, M, C, X, R}
use Rattle.mv_lawful.specs.declared.fault.EventFault.{EventFault}
use Rattle.mv_lawful.specs.declared.fault.EventFault.TheVariants.{Order, Kind, Stale, Conflict, Idle, Rounds}
use Rattle.mv_lawful.specs.Batch.{Batch, hit_of, changes_after}
use Rattle.mv_lawful.specs.Lawful.{Live, unless, of_live, of_call, refusal}
use Rattle.mv_audit.specs.declared.schedule.Live.{Live as Kept}
use Rattle.mv_audit.specs.declared.schedule.Schedule.{Schedule as State}
use Rattle.mv_lawful.specs.Rounds.{round_starts_in, round_start_of}
use Rattle.mv_audit.specs.Schedules.{live_of, schedule_of, TellsRun, AreSince, IsLive, IsLiveCall, IsSchedule}

-- What the law sees of a call

pub live_seen : (s : State) (c : ℕ) (l : Kept) → IsLive s c l → slice_get (map live_of s.calls) c ≡ Some (live_of l)
live_seen s c l live = slice_get-map live_of s.calls c ∙ ap (option_map live_of) live.at

pub live_judged : (s : State) (c : ℕ) (l : Kept) (f : Live → Option EventFault) → IsLive s c l → of_call (schedule_of s) c f ≡ f (live_of l)
live_judged s c l f live = ap (λ o. of_live o f) (live_seen s c l live) ∙ ap (λ o. unless (not (is_some o)) Order (f (live_of l))) live.live

pub none_judged : (s : State) (c : ℕ) (f : Live → Option EventFault) → ((l : Kept) → IsLive s c l → ⊥) → of_call (schedule_of s) c f ≡ Some Order
none_judged s c f none = ap (λ o. of_live o f) (slice_get-map live_of s.calls c) ∙ by (slice_get s.calls c) refl where
  done : (l : Kept) (o : Option Reply) → l.reply ≡ o → slice_get s.calls c ≡ Some l → of_live (Some (live_of l)) f ≡ Some Order
  done l None is at = absurd (none l (record { at = at; live = is }))
  done l (Some r) is at = ap (λ o. unless (not (is_some o)) Order (f (live_of l))) is

  by : (o : Option Kept) → slice_get s.calls c ≡ o → of_live (option_map live_of o) f ≡ Some Order
  by None at = refl
  by (Some l) at = done l l.reply refl at

-- What is kept of a live call

pub drop_later : {A : Type 0} (xs ys : List A) (low n : ℕ) → low ≤ n → drop low xs ≡ drop low ys → drop n xs ≡ drop n ys
drop_later xs ys low n le h =
    let far : n ≡ low + (n - low) = omega (arith, le) in
    ap (λ m. drop m xs) far ∙ (sym (drop-drop (n - low) low xs) ∙ (ap (drop (n - low)) h ∙ (drop-drop (n - low) low ys ∙ ap (λ m. drop m ys) (sym far))))

pub since_kept : (infos : List TableInfo) (w : Batch) (s : State) (c : ℕ) (l : Kept) → IsSchedule infos w s → IsLive s c l → AreSince w s.order l.start s.commits
since_kept infos w s c l k live = record { many = k.many; since = drop_later s.commits (changes_after w w.opening s.order) s.low l.start (k.needed c l live.at live.live) k.changes }

pub hit_kept : (infos : List TableInfo) (w : Batch) (s : State) (c : ℕ) (l : Kept) (hit : Bool) → IsSchedule infos w s → IsLive s c l → ((n : ℕ) → hit ≡ is_some (first_hit n (drop l.start s.commits) [] l.records)) → hit ≡ is_some (hit_of w s.order l.start c)
hit_kept infos w s c l hit k live is =
    is (l.start + 1)
    ∙ (ap (λ cs. is_some (first_hit (l.start + 1) cs [] l.records)) (since_kept infos w s c l k live).since
    ∙ ap (λ rs. is_some (first_hit (l.start + 1) (drop l.start (changes_after w w.opening s.order)) [] rs)) (subst (TellsRun w s.order s.answered c l) live.live (k.tells c l live.at).run).0)

pub start_within : (infos : List TableInfo) (w : Batch) (s : State) (c : ℕ) (l : Kept) → IsSchedule infos w s → IsLive s c l → l.start ≤ length s.commits
start_within infos w s c l k live = let p = (k.tells c l live.at).past in let n = k.many in omega (arith, p, n)

never_below : (n : ℕ) → nat_lt n 0 ≡ false
never_below n = grind arith

-- Faults

abbrev repair_fault : Bool → Bool → Bool → Bool → Option EventFault
repair_fault reads stale hit may = unless (not reads) Kind (unless (not stale) Stale (unless hit Idle (unless may Rounds None)))

abbrev commit_fault : Bool → Bool → Bool → Option EventFault
commit_fault reads stale hit = unless (not reads) Kind (unless (not stale) Stale (unless (not hit) Conflict None))

abbrev answer_fault : Bool → Bool → Option EventFault
answer_fault reads stale = unless reads Kind (unless (not stale) Stale None)

repair_allowed : (hit may : Bool) → (hit && may) ≡ not (is_some (repair_fault false false hit may))
repair_allowed true true = refl
repair_allowed true false = refl
repair_allowed false may = refl

commit_allowed : (hit : Bool) → not hit ≡ not (is_some (commit_fault false false hit))
commit_allowed true = refl
commit_allowed false = refl

answer_allowed : (reads : Bool) → reads ≡ not (is_some (answer_fault reads false))
answer_allowed true = refl
answer_allowed false = refl

used_kept : (l : Kept) (rounds : ℕ) → nat_lt (length l.rounds - 1) rounds ≡ nat_lt (length (round_starts_in l.rounds) - 1) rounds
used_kept l rounds = ap (λ n. nat_lt (n - 1) rounds) (sym (length-map l.rounds round_start_of))

pub allows_repair : (w : Batch) (s : State) (c : ℕ) (l : Kept) (hit may : Bool) → IsLive s c l → w.read_only c ≡ false → hit ≡ is_some (hit_of w s.order l.start c) → may ≡ nat_lt (length l.rounds - 1) w.options.rounds
    → (hit && may) ≡ not (is_some (refusal w (schedule_of s) (A c)))
allows_repair w s c l hit may live writes is are =
    repair_allowed hit may
    ∙ (ap (λ b. not (is_some (repair_fault b false hit may))) (sym writes)
    ∙ (ap (λ b. not (is_some (repair_fault (w.read_only c) b hit may))) (sym (never_below l.start))
    ∙ (ap (λ b. not (is_some (repair_fault (w.read_only c) (nat_lt l.start 0) b may))) is
    ∙ (ap (λ b. not (is_some (repair_fault (w.read_only c) (nat_lt l.start 0) (is_some (hit_of w s.order l.start c)) b))) (are ∙ used_kept l w.options.rounds)
    ∙ ap (λ o. not (is_some o)) (sym (live_judged s c l _ live))))))

pub allows_last : (w : Batch) (s : State) (c : ℕ) (l : Kept) (hit may : Bool) → IsLive s c l → w.read_only c ≡ false → hit ≡ is_some (hit_of w s.order l.start c) → may ≡ nat_lt (length l.rounds - 1) w.options.rounds
    → (hit && not may) ≡ not (is_some (refusal w (schedule_of s) (X c)))
allows_last w s c l hit may live writes is are =
    repair_allowed hit (not may)
    ∙ (ap (λ b. not (is_some (repair_fault b false hit (not may)))) (sym writes)
    ∙ (ap (λ b. not (is_some (repair_fault (w.read_only c) b hit (not may)))) (sym (never_below l.start))
    ∙ (ap (λ b. not (is_some (repair_fault (w.read_only c) (nat_lt l.start 0) b (not may)))) is
    ∙ (ap (λ b. not (is_some (repair_fault (w.read_only c) (nat_lt l.start 0) (is_some (hit_of w s.order l.start c)) (not b)))) (are ∙ used_kept l w.options.rounds)
    ∙ ap (λ o. not (is_some o)) (sym (live_judged s c l _ live))))))

pub allows_commit : (w : Batch) (s : State) (c : ℕ) (l : Kept) (hit : Bool) → IsLive s c l → w.read_only c ≡ false → hit ≡ is_some (hit_of w s.order l.start c) → not hit ≡ not (is_some (refusal w (schedule_of s) (C c)))
allows_commit w s c l hit live writes is =
    commit_allowed hit
    ∙ (ap (λ b. not (is_some (commit_fault b false hit))) (sym writes)
    ∙ (ap (λ b. not (is_some (commit_fault (w.read_only c) b hit))) (sym (never_below l.start))
    ∙ (ap (λ b. not (is_some (commit_fault (w.read_only c) (nat_lt l.start 0) b))) is
    ∙ ap (λ o. not (is_some o)) (sym (live_judged s c l _ live)))))

pub allows_answer : (w : Batch) (s : State) (c : ℕ) (l : Kept) → IsLive s c l → w.read_only c ≡ not (is_some (refusal w (schedule_of s) (R c)))
allows_answer w s c l live =
    answer_allowed (w.read_only c)
    ∙ (ap (λ b. not (is_some (answer_fault (w.read_only c) b))) (sym (never_below l.start)) ∙ ap (λ o. not (is_some o)) (sym (live_judged s c l _ live)))

pub allows_move : (w : Batch) (s : State) (c : ℕ) (l : Kept) → IsLive s c l → not (is_some (refusal w (schedule_of s) (M c))) ≡ true
allows_move w s c l live = ap (λ o. not (is_some o)) (live_judged s c l (λ l. None) live)

pub refuses_none : (s : State) (c : ℕ) (f : Live → Option EventFault) → ((l : Kept) → IsLive s c l → ⊥) → not (is_some (of_call (schedule_of s) c f)) ≡ false
refuses_none s c f none = ap (λ o. not (is_some o)) (none_judged s c f none)

-- repairs and commits are refused of a call that isn't live or is read only
reader_refused : (o : Option Live) (reads : Bool) (f : Live → Option EventFault) → reads ≡ true → not (is_some (of_live o (λ l. unless (not reads) Kind (f l)))) ≡ false
reader_refused None reads f is = refl
reader_refused (Some l) reads f is = ap (λ b. not (is_some (unless (not l.done) Order (unless (not b) Kind (f l))))) is ∙ by (not l.done) where
  by : (b : Bool) → not (is_some (unless b Order (Some Kind))) ≡ false
  by true = refl
  by false = refl

pub refuses_reader : (w : Batch) (s : State) (c : ℕ) (f : Live → Option EventFault) → ((l : Kept) → IsLive s c l → w.read_only c ≡ false → ⊥) → not (is_some (of_call (schedule_of s) c (λ l. unless (not (w.read_only c)) Kind (f l)))) ≡ false
refuses_reader w s c f none = by (w.read_only c) refl where
  by : (b : Bool) → w.read_only c ≡ b → not (is_some (of_call (schedule_of s) c (λ l. unless (not (w.read_only c)) Kind (f l)))) ≡ false
  by true is = reader_refused (slice_get (map live_of s.calls) c) (w.read_only c) f is
  by false is = refuses_none s c (λ l. unless (not (w.read_only c)) Kind (f l)) (λ l live. none l live is)

pub allows_begin : (w : Batch) (s : State) (c : ℕ) (b : Bool) → b ≡ ((c == length s.calls) && nat_lt c w.count) → b ≡ not (is_some (refusal w (schedule_of s) (B c)))
allows_begin w s c b is = by b ∙ ap (λ x. not (is_some (unless x Order None))) (is ∙ ap (λ n. (c == n) && nat_lt c w.count) (sym (length-map s.calls live_of))) where
  by : (b : Bool) → b ≡ not (is_some (unless b Order None))
  by true = refl
  by false = refl

-- the call of an event that is allowed is live
pub is_live_call : (s : State) (c : ℕ) (f : Live → Option EventFault) → of_call (schedule_of s) c f ≡ None → IsLiveCall s c
is_live_call s c f h = by (slice_get s.calls c) refl (sym (ap (λ o. of_live o f) (slice_get-map live_of s.calls c)) ∙ h) where
  at : (l : Kept) (o : Option Reply) → l.reply ≡ o → slice_get s.calls c ≡ Some l → of_live (Some (live_of l)) f ≡ None → IsLiveCall s c
  at l None is got k = (l, record { at = got; live = is })
  at l (Some r) is got k =
      let no : Some Order ≡ None = sym (ap (λ o. unless (not (is_some o)) Order (f (live_of l))) is) ∙ k in
      absurd (search (rules, no))

  by : (o : Option Kept) → slice_get s.calls c ≡ o → of_live (option_map live_of o) f ≡ None → IsLiveCall s c
  by None got k = absurd (search (rules, k))
  by (Some l) got k = at l l.reply refl got k

pub next_call : (w : Batch) (s : State) (c : ℕ) → refusal w (schedule_of s) (B c) ≡ None → c ≡ length s.calls
next_call w s c h = by (c == length (map live_of s.calls)) (nat_lt c w.count) refl h ∙ length-map s.calls live_of where
  by : (a b : Bool) → (c == length (map live_of s.calls)) ≡ a → unless (a && b) Order None ≡ None → c ≡ length (map live_of s.calls)
  by true b e k = eqb-true c (length (map live_of s.calls)) e
  by false b e k = absurd (search (rules, k))
