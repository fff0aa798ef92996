-- What a history that has ended comes to.
use Rattle.std.proofs.Common.{◌≡◌, ℕ, zero, suc, ◌+◌, ◌<◌, ◌≤◌, true, false, List, [], ◌∷◌, ◌++◌, Option, Some, None, map, length, take, drop, get_or, option_to_list, is_some, refl, sym, ap, subst, ◌∙◌, arith, append_assoc, append-nil, rules}
use Rattle.std.specs.Prelude.{slice_get, All}
use Rattle.std.specs.Option.{option_map}
use Rattle.std.proofs.lemmas.Grind.{flat_map-append}
use Rattle.std.proofs.lemmas.List.{map-append, length-map, take_all, drop_all, drop_more}
use Rattle.std.proofs.lemmas.Option.{slice_get-map, slice_get_within, slice_get-get_or, get_or_from_slice_get}
use Rattle.mv_lawful.proofs.Placing.{commits_to_place, StandsBy, place_at, places_by_starts}
use Rattle.mv_lawful.proofs.Serial.{found_in}
use Rattle.mv_lawful.proofs.Starting.{starts_same, places_told}
use Rattle.mv_lawful.proofs.Turns.{only_open}
use Rattle.mv_values.specs.declared.calls.Reply.{Reply}
use Rattle.mv_values.specs.Counts.{first_numbers}
use Rattle.mv_journal.specs.declared.event.Event.{Event}
use Rattle.mv_journal.specs.declared.outcome.HistoryLine.{HistoryLine}
use Rattle.mv_journal.specs.declared.outcome.Outcome.{Outcome}
use Rattle.mv_journal.specs.declared.outcome.Round.{Round}
use Rattle.mv_lawful.specs.declared.fault.Wrong.TheVariants.{Open}
use Rattle.mv_lawful.specs.Lawful.{Live, Schedule, begin, beginning, schedule_of, open_call, Lawful}
use Rattle.mv_lawful.specs.Rounds.{rounds_of, round_starts_in}
use Rattle.mv_lawful.specs.declared.places.Place.{Place}
use Rattle.mv_lawful.specs.Places.{start_by, start_in, places, places_by}
use Rattle.mv_lawful.specs.Outcomes.{commits_before, reply_in, reply_after, round_starts_of, history_line, outcome_at, outcome_of, IsReply}
use Rattle.mv_core.specs.declared.book.Book.TheInside.{Inside}
use Rattle.mv_core.specs.contracts.book.Book.{the_view}
use Rattle.mv_script.specs.declared.script.CompiledScript.{CompiledScript}
use Rattle.mv_core.specs.declared.progress.Progress.{Progress}
use Rattle.mv_script.specs.Scripts.{batch_of}
use Rattle.mv_core.specs.Calls.{live_of, TellsBy, rounds_by, line_of, schedule_with, replies_in}
use Rattle.mv_core.specs.Books.{Booked, IsBookKept, batch_in, last_tables}
use Rattle.mv_core.proofs.Journals.{Facts, IsDoneIn, all_done}
use Rattle.mv_core.proofs.Keeping.{the_schedule, facts, map_get, IsInside}

-- a call that is done, and what is kept of it is its rounds and its reply
record Done (s : CompiledScript) (order answered : List ℕ) (ps : List Progress) (c : ℕ) : Type 0 where
  p : Progress
  at : slice_get ps c ≡ Some p
  reply : Reply
  is : p.reply ≡ Some reply
  rounds : p.rounds.items ≡ rounds_of (batch_of s) order c (round_starts_in p.rounds.items)
  told : IsReply (batch_of s) order answered p.start c reply

done_at : (s : CompiledScript) (order : List ℕ) (low : ℕ) (answered : List ℕ) (ps : List Progress) (journal : List Event) (c : ℕ) → IsBookKept s (the_schedule order low answered (map live_of ps)) ps journal
    → (l : Live) → slice_get (map live_of ps) c ≡ Some l → l.done ≡ true → Done s order answered ps c
done_at s order low answered ps journal c k l at done = by h.0.reply refl (ap (λ (x : Live). x.done) h.2 ∙ done) (k.tells c h.0 h.1) where
  h : (p : Progress) × (slice_get ps c ≡ Some p) × (live_of p ≡ l)
  h = map_get live_of ps c l at

  by : (o : Option Reply) → h.0.reply ≡ o → is_some h.0.reply ≡ true → TellsBy (batch_of s) order answered h.0.start c h.0.rounds.items h.0.reply → Done s order answered ps c
  by None is some tells = let none : false ≡ true = ap is_some (sym is) ∙ some in absurd (search (rules, none))
  by (Some reply) is some tells =
      let both = subst (TellsBy (batch_of s) order answered h.0.start c h.0.rounds.items) is tells in
      record { p = h.0; at = h.1; reply = reply; is = is; rounds = both.0; told = both.1 }

all_there : (s : CompiledScript) (order : List ℕ) (low : ℕ) (answered : List ℕ) (ps : List Progress) (journal : List Event) → IsBookKept s (the_schedule order low answered (map live_of ps)) ps journal
    → open_call (batch_of s) (the_schedule order low answered (map live_of ps)) ≡ None → length ps ≡ length s.calls
all_there s order low answered ps journal k shut = by f.count where
  f : Facts (batch_of s) (length journal) (the_schedule order low answered (map live_of ps))
  f = facts s _ ps journal k

  long : length (map live_of ps) ≡ length ps
  long = length-map ps live_of

  not_fewer : length ps < length s.calls → ⊥
  not_fewer lt =
      let d = all_done (batch_of s) (the_schedule order low answered (map live_of ps)) shut (length ps) lt in
      let within : length ps < length (map live_of ps) = slice_get_within (map live_of ps) (length ps) d.0 d.1 in
      omega (arith, within, long)

  by : length (map live_of ps) ≤ length s.calls → length ps ≡ length s.calls
  by le = omega (arith, le, long, not_fewer)

-- Replies

reply_is : (s : CompiledScript) (order : List ℕ) (low : ℕ) (answered : List ℕ) (ps : List Progress) (c : ℕ) (d : Done s order answered ps c) → reply_in (batch_of s) (the_schedule order low answered (map live_of ps)) c ≡ d.reply
reply_is s order low answered ps c d =
    ap (λ n. reply_after (batch_of s) order c (commits_before order answered n c)) start ∙ (ap (reply_after (batch_of s) order c) d.told.1 ∙ sym d.told.3) where
      start : start_in (map live_of ps) c ≡ d.p.start
      start = ap start_by (slice_get-map live_of ps c ∙ ap (option_map live_of) d.at)

take_next : {A : Type 0} (xs : List A) (k : ℕ) (x : A) → slice_get xs k ≡ Some x → take (suc k) xs ≡ take k xs ++ x ∷ []
take_next [] k x at = absurd (search (rules, at))
take_next (y ∷ xs) zero x at = let one : y ≡ x = search (rules, at) in ap (λ z. z ∷ []) one
take_next (y ∷ xs) (suc k) x at = ap (λ zs. y ∷ zs) (take_next xs k x at)

front_replies : (s : CompiledScript) (order : List ℕ) (low : ℕ) (answered : List ℕ) (ps : List Progress) (k : ℕ) → k ≤ length ps → ((c : ℕ) → c < length ps → Done s order answered ps c)
    → replies_in (take k ps) ≡ map (reply_in (batch_of s) (the_schedule order low answered (map live_of ps))) (first_numbers k)
front_replies s order low answered ps zero le all = refl
front_replies s order low answered ps (suc k) le all =
    let d : Done s order answered ps k = all k (omega (arith, le)) in
    let given : ℕ → Reply = reply_in (batch_of s) (the_schedule order low answered (map live_of ps)) in
    ap replies_in (take_next ps k d.p d.at)
    ∙ (flat_map-append (λ (p : Progress). option_to_list p.reply) (take k ps) (d.p ∷ [])
    ∙ (ap (λ o. replies_in (take k ps) ++ (option_to_list o ++ [])) d.is
    ∙ (ap (λ rs. rs ++ d.reply ∷ []) (front_replies s order low answered ps k (omega (arith, le)) all)
    ∙ (ap (λ r. map given (first_numbers k) ++ r ∷ []) (sym (reply_is s order low answered ps k d))
    ∙ sym (map-append given (first_numbers k) (k ∷ []))))))

-- Rounds

lines_are : (s : CompiledScript) (order : List ℕ) (low : ℕ) (answered : List ℕ) (ps : List Progress) (all : List Place) → ((k : ℕ) (p : Place) → slice_get all k ≡ Some p → Done s order answered ps p.call)
    → map (line_of ps) all ≡ map (history_line (batch_of s) (the_schedule order low answered (map live_of ps))) all
lines_are s order low answered ps [] done = refl
lines_are s order low answered ps (p ∷ all) done =
    let d : Done s order answered ps p.call = done 0 p refl in
    let there : slice_get (map live_of ps) p.call ≡ Some (live_of d.p) = slice_get-map live_of ps p.call ∙ ap (option_map live_of) d.at in
    let same : rounds_by (slice_get ps p.call) ≡ rounds_of (batch_of s) order p.call (round_starts_of (slice_get (map live_of ps) p.call)) = ap rounds_by d.at ∙ (d.rounds ∙ ap (λ o. rounds_of (batch_of s) order p.call (round_starts_of o)) (sym there)) in
    ap (λ (rs : List Round). record { commit = p.commit; call = p.call; rounds = rs } ∷ map (line_of ps) all) same
    ∙ ap (λ (ls : List HistoryLine). history_line (batch_of s) (the_schedule order low answered (map live_of ps)) p ∷ ls) (lines_are s order low answered ps all (λ k q at. done (suc k) q at))

-- The outcome

pub order_within : (i : Inside) → IsInside i → All (λ c. c < length i.calls.items) i.order.items
order_within i k n c lt =
    let f : Facts (batch_of i.script) (length i.journal.items) (the_schedule i.order.items i.low i.answered.items (map live_of i.calls.items)) = facts i.script _ i.calls.items i.journal.items k in
    let b = f.back n (get_or i.order.items n c) (slice_get-get_or i.order.items n c lt) in
    let within : get_or i.order.items n c < length (map live_of i.calls.items) = slice_get_within (map live_of i.calls.items) (get_or i.order.items n c) b.0 b.1 in
    let long : length (map live_of i.calls.items) ≡ length i.calls.items = length-map i.calls.items live_of in
    (omega (arith, within, long))

-- the answered calls have begun, and not past the commits
pub answers_within : (i : Inside) → IsInside i → All (λ c. c < length i.calls.items) i.answered.items
answers_within i k n c lt =
    let f : Facts (batch_of i.script) (length i.journal.items) (the_schedule i.order.items i.low i.answered.items (map live_of i.calls.items)) = facts i.script _ i.calls.items i.journal.items k in
    let b = f.replied n (get_or i.answered.items n c) (slice_get-get_or i.answered.items n c lt) in
    let within : get_or i.answered.items n c < length (map live_of i.calls.items) = slice_get_within (map live_of i.calls.items) (get_or i.answered.items n c) b.0 b.1 in
    let long : length (map live_of i.calls.items) ≡ length i.calls.items = length-map i.calls.items live_of in
    (omega (arith, within, long))

pub answers_past : (i : Inside) → IsInside i → All (λ c. start_in (map live_of i.calls.items) c ≤ length i.order.items) i.answered.items
answers_past i k n c lt =
    let f : Facts (batch_of i.script) (length i.journal.items) (the_schedule i.order.items i.low i.answered.items (map live_of i.calls.items)) = facts i.script _ i.calls.items i.journal.items k in
    let b = f.replied n (get_or i.answered.items n c) (slice_get-get_or i.answered.items n c lt) in
    let start : start_in (map live_of i.calls.items) (get_or i.answered.items n c) ≡ b.0.start = ap start_by b.1 in
    let past = (f.each (get_or i.answered.items n c) b.0 b.1).start in
    (omega (arith, start, past))

done_inside : (i : Inside) → IsInside i → open_call (batch_of i.script) (the_schedule i.order.items i.low i.answered.items (map live_of i.calls.items)) ≡ None → (c : ℕ) → c < length i.calls.items → Done i.script i.order.items i.answered.items i.calls.items c
done_inside i k shut c lt =
    let many = all_there i.script i.order.items i.low i.answered.items i.calls.items i.journal.items k shut in
    let d = all_done (batch_of i.script) (the_schedule i.order.items i.low i.answered.items (map live_of i.calls.items)) shut c (omega (arith, lt, many)) in
    done_at i.script i.order.items i.low i.answered.items i.calls.items i.journal.items c k d.0 d.1 d.2

replies_inside : (i : Inside) → IsInside i → open_call (batch_of i.script) (the_schedule i.order.items i.low i.answered.items (map live_of i.calls.items)) ≡ None
    → replies_in i.calls.items ≡ map (reply_in (batch_of i.script) (the_schedule i.order.items i.low i.answered.items (map live_of i.calls.items))) (first_numbers (length i.script.calls))
replies_inside i k shut =
    ap replies_in (sym (take_all (length i.calls.items) i.calls.items (omega arith)))
    ∙ (front_replies i.script i.order.items i.low i.answered.items i.calls.items (length i.calls.items) (omega arith) (done_inside i k shut)
    ∙ ap (λ n. map (reply_in (batch_of i.script) (the_schedule i.order.items i.low i.answered.items (map live_of i.calls.items))) (first_numbers n)) (all_there i.script i.order.items i.low i.answered.items i.calls.items i.journal.items k shut))

pub ends_lawful : (i : Inside) → IsInside i → open_call (batch_of i.script) (the_schedule i.order.items i.low i.answered.items (map live_of i.calls.items)) ≡ None → Lawful (batch_of i.script) i.journal.items
ends_lawful i k shut =
    only_open (batch_of i.script) 1 beginning i.journal.items k.allowed
    ∙ ap (option_map Open) (ap (open_call (batch_of i.script)) (sym k.reaches) ∙ shut)

-- one call more is told
pub line_more : (ps : List Progress) (all : List Place) (history : List HistoryLine) (k : ℕ) (place : Place) (line : HistoryLine) → k < length all → place ≡ get_or all k place → line ≡ line_of ps place
    → history ++ map (line_of ps) (drop k all) ≡ map (line_of ps) all → (history ++ line ∷ []) ++ map (line_of ps) (drop (k + 1) all) ≡ map (line_of ps) all
line_more ps all history k place line lt is told before =
    append_assoc history (line ∷ []) (map (line_of ps) (drop (k + 1) all))
    ∙ (ap (λ (l : HistoryLine). history ++ l ∷ map (line_of ps) (drop (k + 1) all)) told
    ∙ (ap (λ ls. history ++ map (line_of ps) ls) (sym (drop_more all k place lt ∙ ap (λ p. p ∷ drop (k + 1) all) (sym is)))
    ∙ before))

-- the calls of the history have begun
pub places_within : (ps : List Progress) (order answered : List ℕ) → All (λ c. c < length ps) order → All (λ c. c < length ps) answered → All (λ (p : Place). p.call < length ps) (places (schedule_with ps order answered))
places_within ps order answered ordered replied k p lt = by at.commit at.call (place_at (schedule_with ps order answered) 0 order k at (slice_get-get_or (places (schedule_with ps order answered)) k p lt)) where
  at : Place
  at = get_or (places (schedule_with ps order answered)) k p

  by : (o : Option ℕ) (c : ℕ) → StandsBy (schedule_with ps order answered) 0 order (commits_to_place k (places (schedule_with ps order answered))) o c → c < length ps
  by (Some number) c h = let j = commits_to_place k (places (schedule_with ps order answered)) in subst (λ x. x < length ps) (get_or_from_slice_get order j c 0 h.1) (ordered j 0 (slice_get_within order j c h.1))
  by None c h = let it = found_in c answered h.0 in subst (λ x. x < length ps) (get_or_from_slice_get answered it.0 c 0 it.1) (replied it.0 0 (slice_get_within answered it.0 c it.1))

pub lawful_of : (i : Inside) (old : Booked) → the_view i ≡ old → IsInside i → open_call (batch_in old) old.schedule ≡ None → Lawful (batch_in old) old.journal
lawful_of i old is k shut =
    subst (λ (b : Booked). Lawful (batch_in b) b.journal) is (ends_lawful i k (subst (λ (b : Booked). open_call (batch_in b) b.schedule ≡ None) (sym is) shut))

-- the calls in their places, with their rounds
pub history_told : (i : Inside) (old : Booked) → the_view i ≡ old → IsInside i
    → map (line_of i.calls.items) (places (schedule_with i.calls.items i.order.items i.answered.items)) ≡ map (history_line (batch_in old) old.schedule) (places old.schedule)
history_told i old is k =
    ap (map (line_of i.calls.items)) (places_by_starts (schedule_with i.calls.items i.order.items i.answered.items) (the_schedule i.order.items i.low i.answered.items (map live_of i.calls.items)) refl refl (λ c. refl))
    ∙ (lines_are i.script i.order.items i.low i.answered.items i.calls.items all ended
    ∙ ap (λ (b : Booked). map (history_line (batch_in b) b.schedule) (places b.schedule)) is) where
      all : List Place
      all = places (the_schedule i.order.items i.low i.answered.items (map live_of i.calls.items))

      f : Facts (batch_of i.script) (length i.journal.items) (the_schedule i.order.items i.low i.answered.items (map live_of i.calls.items))
      f = facts i.script _ i.calls.items i.journal.items k

      one : (c : ℕ) → IsDoneIn (map live_of i.calls.items) c → Done i.script i.order.items i.answered.items i.calls.items c
      one c b = done_at i.script i.order.items i.low i.answered.items i.calls.items i.journal.items c k b.0 b.1 b.2

      by : (j : ℕ) (o : Option ℕ) (c : ℕ) → StandsBy (the_schedule i.order.items i.low i.answered.items (map live_of i.calls.items)) 0 i.order.items j o c → Done i.script i.order.items i.answered.items i.calls.items c
      by j (Some number) c h = one c (f.back j c h.1)
      by j None c h = let it = found_in c i.answered.items h.0 in one c (f.replied it.0 c it.1)

      ended : (n : ℕ) (p : Place) → slice_get all n ≡ Some p → Done i.script i.order.items i.answered.items i.calls.items p.call
      ended n p at = by (commits_to_place n all) p.commit p.call (place_at (the_schedule i.order.items i.low i.answered.items (map live_of i.calls.items)) 0 i.order.items n p at)

-- the replies, where each call is done
pub replies_told : (i : Inside) (old : Booked) → the_view i ≡ old → IsInside i → open_call (batch_in old) old.schedule ≡ None
    → replies_in i.calls.items ≡ map (reply_in (batch_in old) old.schedule) (first_numbers (batch_in old).count)
replies_told i old is k shut =
    replies_inside i k (subst (λ (b : Booked). open_call (batch_in b) b.schedule ≡ None) (sym is) shut)
    ∙ ap (λ (b : Booked). map (reply_in (batch_in b) b.schedule) (first_numbers (batch_in b).count)) is

pub outcome_told : (i : Inside) (old : Booked) (o : Outcome) → the_view i ≡ old → IsInside i
    → o.replies ≡ map (reply_in (batch_in old) old.schedule) (first_numbers (batch_in old).count) → o.history ≡ map (history_line (batch_in old) old.schedule) (places old.schedule)
    → o.journal ≡ old.journal → o.tables ≡ last_tables old → o ≡ outcome_of (batch_in old) old.journal
outcome_told i old o is k replies history journal tables =
    ap (λ x. record { replies = x; history = o.history; journal = o.journal; tables = o.tables }) replies
    ∙ (ap (λ x. record { replies = all; history = x; journal = o.journal; tables = o.tables }) history
    ∙ (ap (λ x. record { replies = all; history = lines; journal = x; tables = o.tables }) journal
    ∙ (ap (λ x. record { replies = all; history = lines; journal = old.journal; tables = x }) tables
    ∙ ap (λ (c : Schedule). outcome_at (batch_in old) c old.journal) (subst (λ (b : Booked). b.schedule ≡ schedule_of (batch_in b) b.journal) is k.reaches)))) where
      all : List Reply
      all = map (reply_in (batch_in old) old.schedule) (first_numbers (batch_in old).count)

      lines : List HistoryLine
      lines = map (history_line (batch_in old) old.schedule) (places old.schedule)

-- The starts of the calls

starts_are : (ps : List Progress) (starts : List ℕ) → starts ≡ map (λ (p : Progress). p.start) ps → starts ≡ map (λ (l : Live). l.start) (map live_of ps)
starts_are ps starts are = are ∙ by ps where
  by : (qs : List Progress) → map (λ (p : Progress). p.start) qs ≡ map (λ (l : Live). l.start) (map live_of qs)
  by [] = refl
  by (q ∷ qs) = ap (λ ns. q.start ∷ ns) (by qs)

pub starts_there : (ps : List Progress) (answered starts : List ℕ) → starts ≡ map (λ (p : Progress). p.start) ps → All (λ c. c < length ps) answered → All (λ c. c < length starts) answered
starts_there ps answered starts are all = subst (λ n. All (λ c. c < n) answered) (sym (ap length are ∙ length-map ps (λ (p : Progress). p.start))) all

pub starts_past : (ps : List Progress) (answered : List ℕ) (most : ℕ) (starts : List ℕ) → starts ≡ map (λ (p : Progress). p.start) ps → All (λ c. start_in (map live_of ps) c ≤ most) answered
    → All (λ c. start_in (map begin starts) c ≤ most) answered
starts_past ps answered most starts are all n d lt = let same = starts_same (map live_of ps) starts (starts_are ps starts are) (get_or answered n d) in let past = all n d lt in omega (arith, same, past)

pub starts_placed : (ps : List Progress) (order starts answered : List ℕ) → starts ≡ map (λ (p : Progress). p.start) ps → places_by order starts answered ≡ places (schedule_with ps order answered)
starts_placed ps order starts answered are = places_told (schedule_with ps order answered) order starts answered refl (starts_are ps starts are) refl

-- one start more is told
pub start_more : (ps : List Progress) (starts : List ℕ) (k : ℕ) (p : Progress) → k < length ps → p ≡ get_or ps k p
    → starts ++ map (λ (q : Progress). q.start) (drop k ps) ≡ map (λ (q : Progress). q.start) ps → (starts ++ p.start ∷ []) ++ map (λ (q : Progress). q.start) (drop (k + 1) ps) ≡ map (λ (q : Progress). q.start) ps
start_more ps starts k p lt is before =
    append_assoc starts (p.start ∷ []) (map (λ (q : Progress). q.start) (drop (k + 1) ps))
    ∙ (ap (λ (ns : List ℕ). starts ++ ns) (ap (map (λ (q : Progress). q.start)) (sym (drop_more ps k p lt ∙ ap (λ q. q ∷ drop (k + 1) ps) (sym is)))) ∙ before)

-- each call that is told has begun
pub place_within : (ps : List Progress) (order answered starts : List ℕ) (all : List Place) (k : ℕ) (p : Place) → All (λ c. c < length ps) order → All (λ c. c < length ps) answered
    → all ≡ places_by order starts answered → starts ≡ map (λ (q : Progress). q.start) ps → k < length all → (get_or all k p).call < length ps
place_within ps order answered starts all k p ordered replied is are lt =
    subst (All (λ (q : Place). q.call < length ps)) (sym (is ∙ starts_placed ps order starts answered are)) (places_within ps order answered ordered replied) k p lt

-- all are told
pub lines_told : (ps : List Progress) (order answered starts : List ℕ) (all : List Place) (history : List HistoryLine) (k : ℕ) → all ≡ places_by order starts answered → starts ≡ map (λ (q : Progress). q.start) ps → length all ≤ k
    → history ++ map (line_of ps) (drop k all) ≡ map (line_of ps) all → history ≡ map (line_of ps) (places (schedule_with ps order answered))
lines_told ps order answered starts all history k is are past told =
    sym (append-nil history)
    ∙ (ap (λ (qs : List Place). history ++ map (line_of ps) qs) (sym (drop_all k all past)) ∙ (told ∙ ap (map (line_of ps)) (is ∙ starts_placed ps order starts answered are)))
