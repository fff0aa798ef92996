-- What is kept of calls stays so.
use Rattle.std.proofs.Common.{◌≡◌, ℕ, ◌+◌, ◌-◌, ◌≤◌, Bool, true, false, List, [], ◌∷◌, ◌++◌, Option, Some, None, length, take, drop, refl, sym, ap, subst, ◌∙◌, arith, length-append}
use Rattle.std.specs.Prelude.{slice_get}
use Rattle.std.specs.List.{flat_map}
use Rattle.std.proofs.lemmas.List.{map-append, take_all, length-drop}
use Rattle.mv_values.specs.declared.calls.Reply.{Reply}
use Rattle.mv_record.specs.declared.record.Record.{Record}
use Rattle.mv_history.specs.declared.change.Change.{Change}
use Rattle.mv_history.specs.Kept.{executions}
use Rattle.mv_journal.specs.declared.outcome.Mark.{Mark}
use Rattle.mv_journal.specs.declared.outcome.Mark.TheVariants.{Plain, Exclusive, Moved}
use Rattle.mv_journal.specs.declared.outcome.Round.{Round}
use Rattle.mv_lawful.specs.Batch.{Batch, table_at, records_at, changes_up_to}
use Rattle.mv_lawful.specs.Lawful.{RoundStart}
use Rattle.mv_lawful.specs.Rounds.{later_run, rounds_of, round_start_of, round_starts_in, closed, counted, last_turn_or, WithinRounds}
use Rattle.mv_audit.specs.declared.schedule.Live.{Live as Kept}
use Rattle.mv_lawful.specs.Outcomes.{IsReply}
use Rattle.mv_audit.specs.Schedules.{count_by, more_rounds, TellsRun, TellsCall, AreSince, fresh, restarted, finished, answered}
use Rattle.mv_lawful.proofs.Serial.{stands}
use Rattle.mv_lawful.proofs.Numbers.{round_starts_closed, table_stays, within_more, within_end, rounds_stay, rounds_more}
use Rattle.mv_lawful.proofs.Before.{before_stays, before_commit, before_answered, before_kept}

-- A commit more

longer : (order : List ℕ) (d : ℕ) → length (order ++ d ∷ []) ≡ length order + 1
longer order d = length-append order (d ∷ [])

run_more : (w : Batch) (order answers : List ℕ) (d c : ℕ) (l : Kept) (o : Option Reply) → l.start ≤ length order → TellsRun w order answers c l o → TellsRun w (order ++ d ∷ []) answers c l o
run_more w order answers d c l None past h =
    (h.0 ∙ ap (λ db. (w.run c db).records) (sym (table_stays w order d l.start past)), h.1 ∙ ap (λ db. (w.run c db).reply) (sym (table_stays w order d l.start past)))
run_more w order answers d c l (Some reply) past h =
    (h.0, before_stays order answers l.start c d h.0 h.1, (let k = h.2 in let n = longer order d in omega (arith, k, n)), h.3 ∙ ap (λ db. (w.run c db).reply) (sym (table_stays w order d h.0 h.2)))

pub tells_more : (w : Batch) (order answers : List ℕ) (d c : ℕ) (l : Kept) → TellsCall w order answers c l → TellsCall w (order ++ d ∷ []) answers c l
tells_more w order answers d c l t = record {
  first = t.first;
  rest = t.rest;
  are = t.are;
  start = t.start;
  past = let p = t.past in let n = longer order d in omega (arith, p, n);
  within = within_more (length order) (length (order ++ d ∷ [])) (round_starts_in l.rounds) (let n = longer order d in omega (arith, n)) t.within;
  rounds = t.rounds ∙ sym (rounds_stay w order d c (round_starts_in l.rounds) t.within);
  run = run_more w order answers d c l l.reply t.past t.run;
}

-- An answer more

run_other : (w : Batch) (order answers : List ℕ) (d c : ℕ) (l : Kept) (o : Option Reply) → (d ≡ c → ⊥) → TellsRun w order answers c l o → TellsRun w order (answers ++ d ∷ []) c l o
run_other w order answers d c l None apart h = h
run_other w order answers d c l (Some reply) apart h = (h.0, before_kept order answers l.start c d apart ∙ h.1, h.2, h.3)

pub tells_other : (w : Batch) (order answers : List ℕ) (d c : ℕ) (l : Kept) → (d ≡ c → ⊥) → TellsCall w order answers c l → TellsCall w order (answers ++ d ∷ []) c l
tells_other w order answers d c l apart t = record {
  first = t.first;
  rest = t.rest;
  are = t.are;
  start = t.start;
  past = t.past;
  within = t.within;
  rounds = t.rounds;
  run = run_other w order answers d c l l.reply apart t.run;
}

pub answered_tells : (w : Batch) (order answers : List ℕ) (c : ℕ) (l : Kept) → TellsCall w order answers c l → l.reply ≡ None → TellsCall w order (answers ++ c ∷ []) c (answered l)
answered_tells w order answers c l t live = record {
  first = t.first;
  rest = t.rest;
  are = t.are;
  start = t.start;
  past = t.past;
  within = t.within;
  rounds = t.rounds;
  run = (l.start, before_answered order answers l.start c, t.past, given);
} where
  given : l.given ≡ (w.run c (table_at w order l.start)).reply
  given = (subst (TellsRun w order answers c l) live t.run).1

-- A round more

pub fresh_tells : (w : Batch) (order answers : List ℕ) (c : ℕ) (new : List Record) (given : Reply) → new ≡ records_at w order (length order) c → given ≡ (w.run c (table_at w order (length order))).reply
    → TellsCall w order answers c (fresh (length order) new given)
fresh_tells w order answers c new given is told = record {
  first = counted (length order) Plain (length new);
  rest = [];
  are = refl;
  start = refl;
  past = omega arith;
  within = (omega arith, tt);
  rounds = ap (λ (rs : List Record). counted (length order) Plain (length rs) ∷ []) is;
  run = (is, told);
}

-- the number of a round by what is kept
count_is : (w : Batch) (order : List ℕ) (c : ℕ) (m : Mark) (start : ℕ) (old new : List Record) (commits : List (List Change)) → start ≤ length order → old ≡ records_at w order start c → new ≡ records_at w order (length order) c
    → AreSince w order start commits → count_by m old new (drop start commits) ≡ later_run w order c start (length order) m
count_is w order c m start old new commits past is are all = by m where
  long : length (drop start commits) ≡ length order - start
  long = length-drop start commits ∙ ap (λ n. n - start) all.many

  between : flat_map (λ (cs : List Change). cs) (drop start commits) ≡ changes_up_to w order start (length order)
  between =
      ap (flat_map (λ (cs : List Change). cs)) (sym (take_all (length order - start) (drop start commits) (let n = long in omega (arith, n))) ∙ ap (take (length order - start)) all.since)

  repaired : executions old new (flat_map (λ (cs : List Change). cs) (drop start commits)) ≡ executions (records_at w order start c) (records_at w order (length order) c) (changes_up_to w order start (length order))
  repaired =
      ap (λ cs. executions old new cs) between
      ∙ (ap (λ rs. executions rs new (changes_up_to w order start (length order))) is
      ∙ ap (λ rs. executions (records_at w order start c) rs (changes_up_to w order start (length order))) are)

  by : (m : Mark) → count_by m old new (drop start commits) ≡ later_run w order c start (length order) m
  by Plain = repaired
  by Exclusive = repaired
  by Moved = ap length are

-- the rounds with one more are those of the law
more_are : (w : Batch) (order answers : List ℕ) (c : ℕ) (m : Mark) (l : Kept) (new : List Record) (commits : List (List Change)) → TellsCall w order answers c l → l.reply ≡ None → new ≡ records_at w order (length order) c
    → AreSince w order l.start commits → more_rounds l (length commits) m new commits ≡ rounds_of w order c (round_starts_in l.rounds ++ record { start = length order; mark = m } ∷ [])
more_are w order answers c m l new commits t live are all =
    ap (λ n. closed m l.rounds ++ counted n m (count_by m l.records new (drop l.start commits)) ∷ []) many
    ∙ (ap (λ k. closed m l.rounds ++ counted (length order) m k ∷ []) (count_is w order c m l.start l.records new commits t.past old are all)
    ∙ (ap (λ s. closed m l.rounds ++ counted (length order) m (later_run w order c s (length order) m) ∷ []) t.start
    ∙ (ap (λ rs. closed m rs ++ counted (length order) m (later_run w order c (last_turn_or t.first.start (round_starts_in t.rest)) (length order) m) ∷ []) (t.rounds ∙ ap (λ rs. rounds_of w order c (round_starts_in rs)) t.are)
    ∙ (sym (rounds_more w order c (round_start_of t.first) (record { start = length order; mark = m }) (round_starts_in t.rest))
    ∙ ap (λ rs. rounds_of w order c (round_starts_in rs ++ record { start = length order; mark = m } ∷ [])) (sym t.are))))) where
      many : length commits ≡ length order
      many = all.many

      old : l.records ≡ records_at w order l.start c
      old = (subst (TellsRun w order answers c l) live t.run).0

-- the starts of rounds with one more
pub round_starts_more : (m : Mark) (l : Kept) (n : ℕ) (new : List Record) (commits : List (List Change)) → round_starts_in (more_rounds l n m new commits) ≡ round_starts_in l.rounds ++ record { start = n; mark = m } ∷ []
round_starts_more m l n new commits =
    map-append round_start_of (closed m l.rounds) (counted n m (count_by m l.records new (drop l.start commits)) ∷ []) ∙ ap (λ ts. ts ++ record { start = n; mark = m } ∷ []) (round_starts_closed m l.rounds)

last_more : (old n : ℕ) (m : Mark) (ts : List RoundStart) → last_turn_or old (ts ++ record { start = n; mark = m } ∷ []) ≡ n
last_more old n m [] = refl
last_more old n m (t ∷ ts) = last_more t.start n m ts

-- some rounds with one more
record Some_more (m : Mark) (n k : ℕ) (rs : List Round) : Type 0 where
  first : Round
  rest : List Round
  are : closed m rs ++ counted n m k ∷ [] ≡ first ∷ rest
  start : n ≡ last_turn_or first.start (round_starts_in rest)

first_more : (m : Mark) (n k : ℕ) (r : Round) (rs : List Round) → Some_more m n k (r ∷ rs)
first_more Plain n k r rs = record { first = r; rest = rs ++ counted n Plain k ∷ []; are = refl; start = sym (ap (last_turn_or r.start) (map-append round_start_of rs (counted n Plain k ∷ [])) ∙ last_more r.start n Plain (round_starts_in rs)) }
first_more Exclusive n k r rs = record { first = r; rest = rs ++ counted n Exclusive k ∷ []; are = refl; start = sym (ap (last_turn_or r.start) (map-append round_start_of rs (counted n Exclusive k ∷ [])) ∙ last_more r.start n Exclusive (round_starts_in rs)) }
first_more Moved n k r [] = record { first = record r { count = None }; rest = counted n Moved k ∷ []; are = refl; start = refl }
first_more Moved n k r (s ∷ rs) = record {
  first = r;
  rest = closed Moved (s ∷ rs) ++ counted n Moved k ∷ [];
  are = refl;
  start = sym (ap (last_turn_or r.start) (map-append round_start_of (closed Moved (s ∷ rs)) (counted n Moved k ∷ [])) ∙ last_more r.start n Moved (round_starts_in (closed Moved (s ∷ rs))));
}

-- a call with one more round, on the same commits
more_tells : (w : Batch) (order answers : List ℕ) (c : ℕ) (m : Mark) (l next : Kept) (new : List Record) (commits : List (List Change)) → TellsCall w order answers c l → l.reply ≡ None → new ≡ records_at w order (length order) c
    → AreSince w order l.start commits → next.start ≡ length order → next.rounds ≡ more_rounds l (length commits) m new commits → TellsRun w order answers c next next.reply → TellsCall w order answers c next
more_tells w order answers c m l next new commits t live are all start rounds run = record {
  first = some.first;
  rest = some.rest;
  are = rounds ∙ some_are;
  start = start ∙ (sym many ∙ some.start);
  past = omega (arith, start);
  within = subst (WithinRounds (length order)) (sym round_starts) (within_end (length order) (round_starts_in l.rounds) (record { start = length order; mark = m }) t.within (omega arith));
  rounds = rounds ∙ (more_are w order answers c m l new commits t live are all ∙ ap (rounds_of w order c) (sym round_starts));
  run = run;
} where
  many : length commits ≡ length order
  many = all.many

  some : Some_more m (length commits) (count_by m l.records new (drop l.start commits)) (t.first ∷ t.rest)
  some = first_more m (length commits) (count_by m l.records new (drop l.start commits)) t.first t.rest

  some_are : more_rounds l (length commits) m new commits ≡ some.first ∷ some.rest
  some_are = ap (λ rs. closed m rs ++ counted (length commits) m (count_by m l.records new (drop l.start commits)) ∷ []) t.are ∙ some.are

  round_starts : round_starts_in next.rounds ≡ round_starts_in l.rounds ++ record { start = length order; mark = m } ∷ []
  round_starts = ap round_starts_in rounds ∙ (round_starts_more m l (length commits) new commits ∙ ap (λ n. round_starts_in l.rounds ++ record { start = n; mark = m } ∷ []) many)

pub again_tells : (w : Batch) (order answers : List ℕ) (c : ℕ) (m : Mark) (l : Kept) (new : List Record) (given : Reply) (commits : List (List Change)) → TellsCall w order answers c l → l.reply ≡ None → new ≡ records_at w order (length order) c
    → given ≡ (w.run c (table_at w order (length order))).reply → AreSince w order l.start commits → TellsCall w order answers c (restarted l m new given commits)
again_tells w order answers c m l new given commits t live are told all =
    more_tells w order answers c m l (restarted l m new given commits) new commits t live are all many refl
    (are ∙ ap (λ n. records_at w order n c) (sym many), told ∙ ap (λ n. (w.run c (table_at w order n)).reply) (sym many)) where
      many : length commits ≡ length order
      many = all.many

-- A commit of its own

ended_run : (w : Batch) (order answers : List ℕ) (start c : ℕ) (reply : Reply) → stands c answers ≡ false → ((k : ℕ) → slice_get order k ≡ Some c → ⊥) → reply ≡ (w.run c (table_at w order (length order))).reply
    → IsReply w (order ++ c ∷ []) answers start c reply
ended_run w order answers start c reply away apart is =
    (length order, before_commit order answers start c away apart, (let n = longer order c in omega (arith, n)), is ∙ ap (λ db. (w.run c db).reply) (sym (table_stays w order c (length order) (omega arith))))

-- as a call that is live but for its reply
with_reply : (w : Batch) (order answers : List ℕ) (c : ℕ) (l next : Kept) → TellsCall w order answers c l → next.start ≡ l.start → next.rounds ≡ l.rounds → TellsRun w order answers c next next.reply → TellsCall w order answers c next
with_reply w order answers c l next t start rounds run = record {
  first = t.first;
  rest = t.rest;
  are = rounds ∙ t.are;
  start = start ∙ t.start;
  past = let p = t.past in omega (arith, p, start);
  within = subst (λ rs. WithinRounds (length order) (round_starts_in rs)) (sym rounds) t.within;
  rounds = rounds ∙ (t.rounds ∙ ap (λ rs. rounds_of w order c (round_starts_in rs)) (sym rounds));
  run = run;
}

pub finished_tells : (w : Batch) (order answers : List ℕ) (c : ℕ) (own : Bool) (l : Kept) (new : List Record) (commits : List (List Change)) (reply : Reply) → TellsCall w order answers c l → l.reply ≡ None
    → stands c answers ≡ false → ((k : ℕ) → slice_get order k ≡ Some c → ⊥) → new ≡ records_at w order (length order) c → AreSince w order l.start commits → reply ≡ (w.run c (table_at w order (length order))).reply
    → TellsCall w (order ++ c ∷ []) answers c (finished own l new commits reply)
finished_tells w order answers c false l new commits reply t live away apart are all is =
    with_reply w (order ++ c ∷ []) answers c l (finished false l new commits reply) (tells_more w order answers c c l t) refl refl (ended_run w order answers l.start c reply away apart is)
finished_tells w order answers c true l new commits reply t live away apart are all is =
    with_reply w (order ++ c ∷ []) answers c (restarted l Exclusive new reply commits) (finished true l new commits reply)
    (tells_more w order answers c c (restarted l Exclusive new reply commits) (again_tells w order answers c Exclusive l new reply commits t live are is all)) refl refl
    (ended_run w order answers (length commits) c reply away apart is)
