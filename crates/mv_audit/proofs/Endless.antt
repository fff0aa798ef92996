-- Without collections no horizon is seen: a journal is as lawful without one, and has the same outcome.
use Rattle.std.proofs.Common.{◌≡◌, ◌+◌, ◌-◌, ℕ, not, List, [], ◌∷◌, Option, Some, None, map, take, drop, length, refl, ap, ◌∙◌}
use Rattle.std.specs.Prelude.{slice_get}
use Rattle.std.specs.List.{flat_map}
use Rattle.std.specs.Option.{is_some}
use Rattle.mv_values.specs.declared.calls.Reply.{Reply}
use Rattle.mv_values.specs.Counts.{first_numbers}
use Rattle.mv_values.specs.Tables.{Tables}
use Rattle.mv_record.specs.declared.record.Record.{Record}
use Rattle.mv_history.specs.declared.change.Change.{Change}
use Rattle.mv_history.specs.declared.change.Hit.{Hit}
use Rattle.mv_history.specs.Changes.{changes_between}
use Rattle.mv_history.specs.Hits.{first_hit}
use Rattle.mv_history.specs.Kept.{executions}
use Rattle.mv_journal.specs.declared.event.Event.{Event}
use Rattle.mv_journal.specs.declared.event.Event.TheVariants.{B, S, A, M, C, X, R, G}
use Rattle.mv_journal.specs.declared.outcome.Mark.{Mark}
use Rattle.mv_journal.specs.declared.outcome.Mark.TheVariants.{Plain, Exclusive, Moved}
use Rattle.mv_journal.specs.declared.outcome.Round.{Round}
use Rattle.mv_journal.specs.declared.outcome.HistoryLine.{HistoryLine}
use Rattle.mv_lawful.specs.declared.fault.EventFault.{EventFault}
use Rattle.mv_lawful.specs.declared.fault.EventFault.TheVariants.{Order, Kind, Stale, Conflict, Idle, Rounds}
use Rattle.mv_lawful.specs.Batch.{Batch, tables_after, table_at, records_at, changes_after, since, changes_up_to, hit_of}
use Rattle.mv_lawful.specs.Lawful.{RoundStart, Live, Schedule, Lawful, beginning, is_stale, has_round, unless, of_live, refusal, after, reach, schedule_of, or_refused, wrong_from}
use Rattle.mv_lawful.specs.declared.places.Place.{Place}
use Rattle.mv_lawful.specs.Places.{start_in, places}
use Rattle.mv_lawful.specs.Rounds.{repair_run, later_run, unless_moved, round, later_rounds, rounds_of}
use Rattle.mv_lawful.specs.Outcomes.{shown, commits_before, reply_after, reply_in, round_starts_of, history_line, outcome_at, outcome_of}

abbrev pub endless : Batch → Batch
endless w = record w { options = record w.options { horizon = None } }

-- Databases, changes and records

tables_same : (w : Batch) (db : Tables) (cs : List ℕ) → tables_after (endless w) db cs ≡ tables_after w db cs
tables_same w db [] = refl
tables_same w db (c ∷ cs) = tables_same w (w.run c db).tables cs

changes_same : (w : Batch) (db : Tables) (cs : List ℕ) → changes_after (endless w) db cs ≡ changes_after w db cs
changes_same w db [] = refl
changes_same w db (c ∷ cs) = ap (λ (l : List (List Change)). changes_between db (w.run c db).tables ∷ l) (changes_same w (w.run c db).tables cs)

records_same : (w : Batch) (order : List ℕ) (start c : ℕ) → records_at (endless w) order start c ≡ records_at w order start c
records_same w order start c = ap (λ db. (w.run c db).records) (tables_same w w.opening (take start order))

hits_same : (w : Batch) (order : List ℕ) (start c : ℕ) → hit_of (endless w) order start c ≡ hit_of w order start c
hits_same w order start c =
    ap (λ cs. first_hit (start + 1) (drop start cs) [] (records_at (endless w) order start c)) (changes_same w w.opening order)
    ∙ ap (λ rs. first_hit (start + 1) (since w order start) [] rs) (records_same w order start c)

-- The law

same_if_live : (o : Option Live) (f g : Live → Option EventFault) → ((l : Live) → f l ≡ g l) → of_live o f ≡ of_live o g
same_if_live None f g h = refl
same_if_live (Some l) f g h = ap (unless (not l.done) Order) (h l)

repair_refused : (w : Batch) (s : Schedule) (c : ℕ) → refusal (endless w) s (A c) ≡ refusal w s (A c)
repair_refused w s c = same_if_live (slice_get s.calls c) _ _ (λ l.
    ap (λ (hit : Option Hit). unless (not (w.read_only c)) Kind (unless (not (is_stale s l)) Stale (unless (is_some hit) Idle (unless (has_round w l) Rounds None)))) (hits_same w s.order l.start c))

commit_refused : (w : Batch) (s : Schedule) (c : ℕ) → refusal (endless w) s (C c) ≡ refusal w s (C c)
commit_refused w s c = same_if_live (slice_get s.calls c) _ _ (λ l.
    ap (λ (hit : Option Hit). unless (not (w.read_only c)) Kind (unless (not (is_stale s l)) Stale (unless (not (is_some hit)) Conflict None))) (hits_same w s.order l.start c))

last_refused : (w : Batch) (s : Schedule) (c : ℕ) → refusal (endless w) s (X c) ≡ refusal w s (X c)
last_refused w s c = same_if_live (slice_get s.calls c) _ _ (λ l.
    ap (λ (hit : Option Hit). unless (not (w.read_only c)) Kind (unless (not (is_stale s l)) Stale (unless (is_some hit) Idle (unless (not (has_round w l)) Rounds None)))) (hits_same w s.order l.start c))

wrong_same : (w : Batch) (n : ℕ) (s : Schedule) (es : List Event) → wrong_from (endless w) n s (shown es) ≡ wrong_from w n s (shown es)
wrong_same w n s [] = refl
wrong_same w n s (B c ∷ es) = ap (or_refused n (refusal w s (B c))) (wrong_same w (n + 1) (after w s (B c)) es)
wrong_same w n s (S c ∷ es) = wrong_same w n s es
wrong_same w n s (A c ∷ es) =
    ap (λ o. or_refused n o (wrong_from (endless w) (n + 1) (after w s (A c)) (shown es))) (repair_refused w s c)
    ∙ ap (or_refused n (refusal w s (A c))) (wrong_same w (n + 1) (after w s (A c)) es)
wrong_same w n s (M c ∷ es) = ap (or_refused n (refusal w s (M c))) (wrong_same w (n + 1) (after w s (M c)) es)
wrong_same w n s (C c ∷ es) =
    ap (λ o. or_refused n o (wrong_from (endless w) (n + 1) (after w s (C c)) (shown es))) (commit_refused w s c)
    ∙ ap (or_refused n (refusal w s (C c))) (wrong_same w (n + 1) (after w s (C c)) es)
wrong_same w n s (X c ∷ es) =
    ap (λ o. or_refused n o (wrong_from (endless w) (n + 1) (after w s (X c)) (shown es))) (last_refused w s c)
    ∙ ap (or_refused n (refusal w s (X c))) (wrong_same w (n + 1) (after w s (X c)) es)
wrong_same w n s (R c ∷ es) = ap (or_refused n (refusal w s (R c))) (wrong_same w (n + 1) (after w s (R c)) es)
wrong_same w n s (G ∷ es) = wrong_same w n s es

pub endless_lawful : (w : Batch) (es : List Event) → Lawful w (shown es) → Lawful (endless w) (shown es)
endless_lawful w es h = wrong_same w 1 beginning es ∙ h

-- The outcome

reach_same : (w : Batch) (s : Schedule) (es : List Event) → reach (endless w) s (shown es) ≡ reach w s (shown es)
reach_same w s [] = refl
reach_same w s (B c ∷ es) = reach_same w (after w s (B c)) es
reach_same w s (S c ∷ es) = reach_same w s es
reach_same w s (A c ∷ es) = reach_same w (after w s (A c)) es
reach_same w s (M c ∷ es) = reach_same w (after w s (M c)) es
reach_same w s (C c ∷ es) = reach_same w (after w s (C c)) es
reach_same w s (X c ∷ es) = reach_same w (after w s (X c)) es
reach_same w s (R c ∷ es) = reach_same w (after w s (R c)) es
reach_same w s (G ∷ es) = reach_same w s es

repair_same : (w : Batch) (order : List ℕ) (c old new : ℕ) → repair_run (endless w) order c old new ≡ repair_run w order c old new
repair_same w order c old new =
    ap (λ rs. executions rs (records_at (endless w) order new c) (changes_up_to (endless w) order old new)) (records_same w order old c)
    ∙ (ap (λ rs. executions (records_at w order old c) rs (changes_up_to (endless w) order old new)) (records_same w order new c)
    ∙ ap (λ (cs : List (List Change)). executions (records_at w order old c) (records_at w order new c) (flat_map (λ changes. changes) (take (new - old) (drop old cs)))) (changes_same w w.opening order))

run_same : (w : Batch) (order : List ℕ) (c old start : ℕ) (mark : Mark) → later_run (endless w) order c old start mark ≡ later_run w order c old start mark
run_same w order c old start Plain = repair_same w order c old start
run_same w order c old start Exclusive = repair_same w order c old start
run_same w order c old start Moved = ap length (records_same w order start c)

later_same : (w : Batch) (order : List ℕ) (c old : ℕ) (ts : List RoundStart) → later_rounds (endless w) order c old ts ≡ later_rounds w order c old ts
later_same w order c old [] = refl
later_same w order c old (t ∷ ts) =
    ap (λ n. round t (unless_moved n ts) ∷ later_rounds (endless w) order c t.start ts) (run_same w order c old t.start t.mark)
    ∙ ap (λ (rs : List Round). round t (unless_moved (later_run w order c old t.start t.mark) ts) ∷ rs) (later_same w order c t.start ts)

rounds_same : (w : Batch) (order : List ℕ) (c : ℕ) (ts : List RoundStart) → rounds_of (endless w) order c ts ≡ rounds_of w order c ts
rounds_same w order c [] = refl
rounds_same w order c (t ∷ ts) =
    ap (λ (rs : List Record). round t (unless_moved (length rs) ts) ∷ later_rounds (endless w) order c t.start ts) (records_same w order t.start c)
    ∙ ap (λ (rs : List Round). round t (unless_moved (length (records_at w order t.start c)) ts) ∷ rs) (later_same w order c t.start ts)

reply_same : (w : Batch) (s : Schedule) (c : ℕ) → reply_in (endless w) s c ≡ reply_in w s c
reply_same w s c = by (commits_before s.order s.answered (start_in s.calls c) c)
  where
    by : (o : Option ℕ) → reply_after (endless w) s.order c o ≡ reply_after w s.order c o
    by None = refl
    by (Some k) = ap (λ db. (w.run c db).reply) (tables_same w w.opening (take k s.order))

map_same : {A B : Type 0} (f g : A → B) → ((a : A) → f a ≡ g a) → (xs : List A) → map f xs ≡ map g xs
map_same f g h [] = refl
map_same f g h (x ∷ xs) = ap (λ y. y ∷ map f xs) (h x) ∙ ap (λ l. g x ∷ l) (map_same f g h xs)

same_at : (w : Batch) (s : Schedule) (es : List Event) → outcome_at (endless w) s es ≡ outcome_at w s es
same_at w s es =
    ap (λ (replies : List Reply). record { replies = replies; history = map (history_line (endless w) s) (places s); journal = es; tables = table_at (endless w) s.order (length s.order) })
    (map_same (reply_in (endless w) s) (reply_in w s) (reply_same w s) (first_numbers w.count))
    ∙ (ap (λ (history : List HistoryLine). record { replies = map (reply_in w s) (first_numbers w.count); history = history; journal = es; tables = table_at (endless w) s.order (length s.order) })
    (map_same (history_line (endless w) s) (history_line w s) (λ (p : Place). ap (λ (rs : List Round). record { commit = p.commit; call = p.call; rounds = rs }) (rounds_same w s.order p.call (round_starts_of (slice_get s.calls p.call)))) (places s))
    ∙ ap (λ (db : Tables). record { replies = map (reply_in w s) (first_numbers w.count); history = map (history_line w s) (places s); journal = es; tables = db }) (tables_same w w.opening (take (length s.order) s.order)))

pub endless_outcome : (w : Batch) (es : List Event) → outcome_of (endless w) (shown es) ≡ outcome_of w (shown es)
endless_outcome w es = ap (λ (s : Schedule). outcome_at (endless w) s (shown es)) (reach_same w beginning es) ∙ same_at w (schedule_of w (shown es)) (shown es)
