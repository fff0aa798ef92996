-- What a journal comes to that leaves no call open.
use Rattle.std.proofs.Common.{◌≡◌, ℕ, zero, suc, ◌+◌, ◌<◌, ◌≤◌, true, false, List, [], ◌∷◌, ◌++◌, Option, Some, None, map, length, take, drop, get_or, refl, sym, ap, subst, ◌∙◌, arith, append_assoc, rules}
use Rattle.std.specs.Prelude.{◌||◌, slice_get, All, option_to_list}
use Rattle.std.specs.Option.{option_map, is_some}
use Rattle.std.proofs.lemmas.Grind.{flat_map-append}
use Rattle.std.proofs.lemmas.List.{map-append, length-map, take_all, drop_more}
use Rattle.std.proofs.lemmas.Option.{slice_get-map, slice_get_within, slice_get-get_or, slice_get_read}
use Rattle.mv_values.specs.declared.calls.Reply.{Reply}
use Rattle.mv_values.specs.declared.schema.TableInfo.{TableInfo}
use Rattle.mv_values.specs.Counts.{first_numbers}
use Rattle.mv_journal.specs.declared.event.Event.{Event}
use Rattle.mv_journal.specs.declared.outcome.HistoryLine.{HistoryLine}
use Rattle.mv_journal.specs.declared.outcome.Outcome.{Outcome}
use Rattle.mv_journal.specs.declared.outcome.Round.{Round}
use Rattle.mv_lawful.specs.declared.fault.Wrong.TheVariants.{Open}
use Rattle.mv_lawful.specs.Batch.{Batch}
use Rattle.mv_lawful.specs.Lawful.{Live, Schedule, begin, schedule_of as reached, open_call}
use Rattle.mv_lawful.specs.declared.places.Place.{Place}
use Rattle.mv_lawful.specs.Places.{start_by, start_in, places, places_by}
use Rattle.mv_lawful.specs.Rounds.{rounds_of, round_starts_in}
use Rattle.mv_lawful.specs.Outcomes.{commits_before, reply_in, reply_after, round_starts_of, history_line, outcome_at, outcome_of, IsReply}
use Rattle.mv_lawful.proofs.Serial.{stands, stands_at, all_done}
use Rattle.mv_lawful.proofs.Placing.{commits_to_place, ended_at, place_at, places_by_starts}
use Rattle.mv_audit.specs.declared.schedule.Live.{Live as Kept}
use Rattle.mv_audit.specs.declared.schedule.Schedule.{Schedule as State}
use Rattle.mv_audit.specs.Schedules.{live_of, schedule_of, rounds_by, line_of, replies_in, TellsRun, TellsCall, IsSchedule}

-- the call is done, and what is kept of it is its rounds and its reply
record Done (w : Batch) (order answers : List ℕ) (ls : List Kept) (c : ℕ) : Type 0 where
  l : Kept
  at : slice_get ls c ≡ Some l
  reply : Reply
  is : l.reply ≡ Some reply
  rounds : l.rounds ≡ rounds_of w order c (round_starts_in l.rounds)
  told : IsReply w order answers l.start c reply

some_kept : (ls : List Kept) (c : ℕ) (x : Live) → slice_get (map live_of ls) c ≡ Some x → (l : Kept) × (slice_get ls c ≡ Some l) × (live_of l ≡ x)
some_kept [] c x at = absurd (search (rules, at))
some_kept (l ∷ ls) zero x at = let same : live_of l ≡ x = search (rules, at) in (l, refl, same)
some_kept (l ∷ ls) (suc c) x at = some_kept ls c x at

done_at : (infos : List TableInfo) (w : Batch) (s : State) (c : ℕ) → IsSchedule infos w s → (x : Live) → slice_get (map live_of s.calls) c ≡ Some x → x.done ≡ true → Done w s.order s.answered s.calls c
done_at infos w s c k x at done = by h.0.reply refl (ap (λ (y : Live). y.done) h.2 ∙ done) where
  h : (l : Kept) × (slice_get s.calls c ≡ Some l) × (live_of l ≡ x)
  h = some_kept s.calls c x at

  t : TellsCall w s.order s.answered c h.0
  t = k.tells c h.0 h.1

  by : (o : Option Reply) → h.0.reply ≡ o → is_some h.0.reply ≡ true → Done w s.order s.answered s.calls c
  by None is some = let none : false ≡ true = ap is_some (sym is) ∙ some in absurd (search (rules, none))
  by (Some reply) is some = record { l = h.0; at = h.1; reply = reply; is = is; rounds = t.rounds; told = subst (TellsRun w s.order s.answered c h.0) is t.run }

shut_calls : (w : Batch) (s : State) → open_call w (schedule_of s) ≡ None → option_map Open (open_call w (schedule_of s)) ≡ None
shut_calls w s shut = ap (option_map Open) shut

done_below : (infos : List TableInfo) (w : Batch) (s : State) (c : ℕ) → IsSchedule infos w s → open_call w (schedule_of s) ≡ None → c < w.count → Done w s.order s.answered s.calls c
done_below infos w s c k shut lt = let d = all_done w (schedule_of s) (shut_calls w s shut) c lt in done_at infos w s c k d.0 d.1 d.2

all_there : (infos : List TableInfo) (w : Batch) (s : State) → IsSchedule infos w s → open_call w (schedule_of s) ≡ None → length s.calls ≡ w.count
all_there infos w s k shut = by k.orderly.count where
  long : length (map live_of s.calls) ≡ length s.calls
  long = length-map s.calls live_of

  not_fewer : length s.calls < w.count → ⊥
  not_fewer lt =
      let d = all_done w (schedule_of s) (shut_calls w s shut) (length s.calls) lt in
      let within : length s.calls < length (map live_of s.calls) = slice_get_within (map live_of s.calls) (length s.calls) d.0 d.1 in
      omega (arith, within, long)

  by : length (map live_of s.calls) ≤ w.count → length s.calls ≡ w.count
  by le = omega (arith, le, long, not_fewer)

-- Replies

take_next : {A : Type 0} (xs : List A) (k : ℕ) (x : A) → slice_get xs k ≡ Some x → take (suc k) xs ≡ take k xs ++ x ∷ []
take_next [] k x at = absurd (search (rules, at))
take_next (y ∷ xs) zero x at = let one : y ≡ x = search (rules, at) in ap (λ z. z ∷ []) one
take_next (y ∷ xs) (suc k) x at = ap (λ zs. y ∷ zs) (take_next xs k x at)

-- the start of a call, as the law sees it
start_seen : (ls : List Kept) (c : ℕ) (l : Kept) → slice_get ls c ≡ Some l → start_in (map live_of ls) c ≡ l.start
start_seen ls c l at = ap start_by (slice_get-map live_of ls c ∙ ap (option_map live_of) at)

-- what the calls come to, as the law sees them
abbrev schedule_by : List ℕ → List ℕ → List Kept → Schedule
schedule_by order answers ls = record { order = order; calls = map live_of ls; low = 0; answered = answers }

front_replies : (w : Batch) (order answers : List ℕ) (ls : List Kept) (k : ℕ) → k ≤ length ls → ((c : ℕ) → c < length ls → Done w order answers ls c)
    → replies_in (take k ls) ≡ map (reply_in w (schedule_by order answers ls)) (first_numbers k)
front_replies w order answers ls zero le all = refl
front_replies w order answers ls (suc k) le all =
    let d : Done w order answers ls k = all k (omega (arith, le)) in
    let s : Schedule = schedule_by order answers ls in
    let told : reply_in w s k ≡ d.reply = ap (λ n. reply_after w order k (commits_before order answers n k)) (start_seen ls k d.l d.at) ∙ (ap (reply_after w order k) d.told.1 ∙ sym d.told.3) in
    ap replies_in (take_next ls k d.l d.at)
    ∙ (flat_map-append (λ (l : Kept). option_to_list l.reply) (take k ls) (d.l ∷ [])
    ∙ (ap (λ o. replies_in (take k ls) ++ (option_to_list o ++ [])) d.is
    ∙ (ap (λ rs. rs ++ d.reply ∷ []) (front_replies w order answers ls k (omega (arith, le)) all)
    ∙ (ap (λ r. map (reply_in w s) (first_numbers k) ++ r ∷ []) (sym told)
    ∙ sym (map-append (reply_in w s) (first_numbers k) (k ∷ []))))))

pub replies_are : (infos : List TableInfo) (w : Batch) (s : State) → IsSchedule infos w s → open_call w (schedule_of s) ≡ None → replies_in s.calls ≡ map (reply_in w (schedule_of s)) (first_numbers w.count)
replies_are infos w s k shut =
    ap replies_in (sym (take_all (length s.calls) s.calls (omega arith)))
    ∙ (front_replies w s.order s.answered s.calls (length s.calls) (omega arith) (λ c lt. done_below infos w s c k shut (let n = all_there infos w s k shut in omega (arith, lt, n)))
    ∙ ap (λ n. map (reply_in w (schedule_of s)) (first_numbers n)) (all_there infos w s k shut))

-- Calls that are done

none_past : (xs : List Live) (c : ℕ) → slice_get xs c ≡ None → length xs ≤ c
none_past [] c is = omega arith
none_past (x ∷ xs) zero is = absurd (search (rules, is))
none_past (x ∷ xs) (suc c) is = let le : length xs ≤ c = none_past xs c is in omega (arith, le)

-- a call that has committed or was answered
done_standing : (infos : List TableInfo) (w : Batch) (s : State) (c : ℕ) → IsSchedule infos w s → (stands c s.answered || stands c s.order) ≡ true → Done w s.order s.answered s.calls c
done_standing infos w s c k here = by (slice_get (map live_of s.calls) c) refl where
  away : slice_get (map live_of s.calls) c ≡ None → ⊥
  away none =
      let both : false ≡ true = sym (k.orderly.within c (none_past (map live_of s.calls) c none)) ∙ here in
      search (rules, both)

  by : (o : Option Live) → slice_get (map live_of s.calls) c ≡ o → Done w s.order s.answered s.calls c
  by None none = absurd (away none)
  by (Some x) some = done_at infos w s c k x some (k.orderly.done c x some ∙ here)

-- Places

-- the places of calls are made of their starts
start_same : (ls : List Kept) (c : ℕ) → start_in (map begin (map (λ (l : Kept). l.start) ls)) c ≡ start_in (map live_of ls) c
start_same [] c = refl
start_same (l ∷ ls) zero = refl
start_same (l ∷ ls) (suc c) = start_same ls c

places_are : (s : State) → places_by s.order (map (λ (l : Kept). l.start) s.calls) s.answered ≡ places (schedule_of s)
places_are s =
    places_by_starts (record { order = s.order; calls = map begin (map (λ (l : Kept). l.start) s.calls); low = 0; answered = s.answered }) (schedule_of s) refl refl (start_same s.calls)

-- a call in its place is done
done_in_place : (infos : List TableInfo) (w : Batch) (s : State) (n : ℕ) (p : Place) → IsSchedule infos w s → slice_get (places (schedule_of s)) n ≡ Some p → Done w s.order s.answered s.calls p.call
done_in_place infos w s n p k at =
    done_standing infos w s p.call k
    (ended_at (schedule_of s) 0 s.order (commits_to_place n (places (schedule_of s))) p.commit p.call (place_at (schedule_of s) 0 s.order n p at))

-- an answered call is done
done_answered : (infos : List TableInfo) (w : Batch) (s : State) (n c : ℕ) → IsSchedule infos w s → slice_get s.answered n ≡ Some c → Done w s.order s.answered s.calls c
done_answered infos w s n c k at = done_standing infos w s c k (ap (λ b. b || stands c s.order) (stands_at s.answered n c at))

pub answered_there : (infos : List TableInfo) (w : Batch) (s : State) (starts : List ℕ) → IsSchedule infos w s → starts ≡ map (λ (l : Kept). l.start) s.calls → All (λ c. c < length starts) s.answered
answered_there infos w s starts k are n c lt =
    let d = done_answered infos w s n (get_or s.answered n c) k (slice_get-get_or s.answered n c lt) in
    let within : get_or s.answered n c < length s.calls = slice_get_within s.calls (get_or s.answered n c) d.l d.at in
    let long : length starts ≡ length s.calls = ap length are ∙ length-map s.calls (λ (l : Kept). l.start) in
    let there : get_or s.answered n c < length starts = omega (arith, within, long) in
    there

pub answered_past : (infos : List TableInfo) (w : Batch) (s : State) (starts : List ℕ) → IsSchedule infos w s → starts ≡ map (λ (l : Kept). l.start) s.calls → All (λ c. start_in (map begin starts) c ≤ length s.order) s.answered
answered_past infos w s starts k are n c lt =
    let d = done_answered infos w s n (get_or s.answered n c) k (slice_get-get_or s.answered n c lt) in
    let past : d.l.start ≤ length s.order = (k.tells (get_or s.answered n c) d.l d.at).past in
    let start : start_in (map begin starts) (get_or s.answered n c) ≡ d.l.start = ap (λ ns. start_in (map begin ns) (get_or s.answered n c)) are ∙ (start_same s.calls (get_or s.answered n c) ∙ start_seen s.calls (get_or s.answered n c) d.l d.at) in
    let by : start_in (map begin starts) (get_or s.answered n c) ≤ length s.order = omega (arith, past, start) in
    by

pub places_within : (infos : List TableInfo) (w : Batch) (s : State) (ps : List Place) → IsSchedule infos w s → ps ≡ places_by s.order (map (λ (l : Kept). l.start) s.calls) s.answered → All (λ (p : Place). p.call < length s.calls) ps
places_within infos w s ps k are = subst (λ (qs : List Place). All (λ (p : Place). p.call < length s.calls) qs) (sym (are ∙ places_are s)) (λ n p lt.
    let q : Place = get_or (places (schedule_of s)) n p in
    let d = done_in_place infos w s n q k (slice_get-get_or (places (schedule_of s)) n p lt) in
    slice_get_within s.calls q.call d.l d.at)

-- Rounds

lines_by : (w : Batch) (order answers : List ℕ) (ls : List Kept) (ps : List Place) → ((k : ℕ) (p : Place) → slice_get ps k ≡ Some p → Done w order answers ls p.call)
    → map (line_of ls) ps ≡ map (history_line w (schedule_by order answers ls)) ps
lines_by w order answers ls [] done = refl
lines_by w order answers ls (p ∷ ps) done =
    let d : Done w order answers ls p.call = done 0 p refl in
    let there : slice_get (map live_of ls) p.call ≡ Some (live_of d.l) = slice_get-map live_of ls p.call ∙ ap (option_map live_of) d.at in
    let same : rounds_by (slice_get ls p.call) ≡ rounds_of w order p.call (round_starts_of (slice_get (map live_of ls) p.call)) = ap rounds_by d.at ∙ (d.rounds ∙ ap (λ o. rounds_of w order p.call (round_starts_of o)) (sym there)) in
    ap (λ (rs : List Round). record { commit = p.commit; call = p.call; rounds = rs } ∷ map (line_of ls) ps) same
    ∙ ap (λ (ks : List HistoryLine). history_line w (schedule_by order answers ls) p ∷ ks) (lines_by w order answers ls ps (λ k q at. done (suc k) q at))

pub lines_are : (infos : List TableInfo) (w : Batch) (s : State) → IsSchedule infos w s
    → map (line_of s.calls) (places_by s.order (map (λ (l : Kept). l.start) s.calls) s.answered) ≡ map (history_line w (schedule_of s)) (places (schedule_of s))
lines_are infos w s k = ap (map (line_of s.calls)) (places_are s) ∙ lines_by w s.order s.answered s.calls (places (schedule_of s)) (λ n p at. done_in_place infos w s n p k at)

-- one call more is told
pub line_more : (ls : List Kept) (ps : List Place) (history : List HistoryLine) (k : ℕ) (p : Place) (l : Kept) (rs : List Round) → k < length ps → p ≡ get_or ps k p → (get_or ps k p).call < length ls → l ≡ get_or ls p.call l → rs ≡ l.rounds
    → history ++ map (line_of ls) (drop k ps) ≡ map (line_of ls) ps → (history ++ record { commit = p.commit; call = p.call; rounds = rs } ∷ []) ++ map (line_of ls) (drop (k + 1) ps) ≡ map (line_of ls) ps
line_more ls ps history k p l rs lt is within read copied before =
    let there : p.call < length ls = subst (λ (q : Place). q.call < length ls) (sym is) within in
    append_assoc history (record { commit = p.commit; call = p.call; rounds = rs } ∷ []) (map (line_of ls) (drop (k + 1) ps))
    ∙ (ap (λ (qs : List Round). history ++ record { commit = p.commit; call = p.call; rounds = qs } ∷ map (line_of ls) (drop (k + 1) ps)) (copied ∙ ap rounds_by (sym (slice_get_read ls (length ls) p.call l refl there read)))
    ∙ (ap (λ qs. history ++ map (line_of ls) qs) (sym (drop_more ps k p lt ∙ ap (λ q. q ∷ drop (k + 1) ps) (sym is)))
    ∙ before))

-- The outcome

pub outcome_told : (infos : List TableInfo) (w : Batch) (s : State) (es : List Event) (o : Outcome) → IsSchedule infos w s → schedule_of s ≡ reached w es → open_call w (schedule_of s) ≡ None → o.replies ≡ replies_in s.calls
    → o.history ≡ map (line_of s.calls) (places_by s.order (map (λ (l : Kept). l.start) s.calls) s.answered) → o.journal ≡ es → o.tables ≡ s.tables → o ≡ outcome_of w es
outcome_told infos w s es o k is shut replies history journal tables =
    ap (λ x. record { replies = x; history = o.history; journal = o.journal; tables = o.tables }) (replies ∙ replies_are infos w s k shut)
    ∙ (ap (λ x. record { replies = all; history = x; journal = o.journal; tables = o.tables }) (history ∙ lines_are infos w s k)
    ∙ (ap (λ x. record { replies = all; history = lines; journal = x; tables = o.tables }) journal
    ∙ (ap (λ x. record { replies = all; history = lines; journal = es; tables = x }) (tables ∙ k.tables)
    ∙ ap (λ (c : Schedule). outcome_at w c es) is))) where
      all : List Reply
      all = map (reply_in w (schedule_of s)) (first_numbers w.count)

      lines : List HistoryLine
      lines = map (history_line w (schedule_of s)) (places (schedule_of s))
