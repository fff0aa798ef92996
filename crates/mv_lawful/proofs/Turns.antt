-- The journal of one worker is lawful.
use Rattle.std.proofs.Common.{Bool, ◌≡◌, ◌≤◌, ◌<◌, ℕ, zero, suc, ◌+◌, true, false, not, List, [], ◌∷◌, ◌++◌, Some, None, length, drop, slice_set, if◌then◌else◌, refl, sym, ap, subst, ◌∙◌, arith, append-nil, length-append}
use Rattle.std.specs.Prelude.{◌==◌, ◌&&◌, nat_lt, slice_get}
use Rattle.std.specs.List.{filter}
use Rattle.std.specs.Option.{option_map, is_some}
use Rattle.std.proofs.lemmas.Bool.Decides.{eqb_tells}
use Rattle.std.proofs.lemmas.Grind.{flat_map-append}
use Rattle.std.proofs.lemmas.List.Elements.{filter-append}
use Rattle.std.proofs.lemmas.Bool.{le-ltb}
use Rattle.mv_values.specs.Tables.{Tables}
use Rattle.mv_values.specs.Counts.{first_numbers}
use Rattle.mv_record.specs.declared.record.Record.{Record}
use Rattle.mv_journal.specs.declared.event.Event.{Event}
use Rattle.mv_journal.specs.declared.event.Event.TheVariants.{B}
use Rattle.mv_history.specs.declared.change.Change.{Change}
use Rattle.mv_history.specs.Hits.{first_hit}
use Rattle.mv_lawful.specs.declared.fault.EventFault.TheVariants.{Order, Kind, Stale, Conflict}
use Rattle.mv_lawful.specs.declared.fault.Wrong.TheVariants.{Open}
use Rattle.mv_lawful.specs.Batch.{Batch, tables_after, changes_after, since, hit_of, records_at}
use Rattle.mv_lawful.specs.Lawful.{Live, Schedule, beginning, change_live, begin, finish, unless, of_live, refusal, after, reach, first_open, open_call, or_refused, wrong_from, AllAllowed}
use Rattle.mv_lawful.specs.Rounds.{is_round, MovesLate}
use Rattle.mv_lawful.specs.Outcomes.{ending, turn, in_turn}
use Rattle.mv_lawful.proofs.Lists.{get_end}

-- Journals one after another

allowed_join : (w : Batch) (s : Schedule) (es fs : List Event) → AllAllowed w s es → AllAllowed w (reach w s es) fs → AllAllowed w s (es ++ fs)
allowed_join w s [] fs h k = k
allowed_join w s (e ∷ es) fs h k = (h.0, allowed_join w (after w s e) es fs h.1 k)

reach_join : (w : Batch) (s : Schedule) (es fs : List Event) → reach w s (es ++ fs) ≡ reach w (reach w s es) fs
reach_join w s [] fs = refl
reach_join w s (e ∷ es) fs = reach_join w (after w s e) es fs

pub moves_join : (w : Batch) (s : Schedule) (es fs : List Event) → MovesLate w s es → MovesLate w (reach w s es) fs → MovesLate w s (es ++ fs)
moves_join w s [] fs h k = k
moves_join w s (e ∷ es) fs h k = (h.0, moves_join w (after w s e) es fs h.1 k)

pub only_open : (w : Batch) (n : ℕ) (s : Schedule) (es : List Event) → AllAllowed w s es → wrong_from w n s es ≡ option_map Open (open_call w (reach w s es))
only_open w n s [] h = refl
only_open w n s (e ∷ es) h = ap (λ o. or_refused n o (wrong_from w (n + 1) (after w s e) es)) h.0 ∙ only_open w (n + 1) (after w s e) es h.1

-- Numbers and calls

pub length_numbers : (n : ℕ) → length (first_numbers n) ≡ n
length_numbers zero = refl
length_numbers (suc n) = let l = length-append (first_numbers n) (n ∷ []) in let k = length_numbers n in omega (arith, l, k)

-- before any event no call has begun
pub none_at : (c : ℕ) (l : Live) → slice_get beginning.calls c ≡ Some l → ⊥
none_at c l is = cc

-- of the first n calls, those that commit, and those that are read only
abbrev pub more_commits : Bool → ℕ → List ℕ → List ℕ
more_commits true c cs = cs
more_commits false c cs = cs ++ c ∷ []

abbrev pub more_answers : Bool → ℕ → List ℕ → List ℕ
more_answers true c cs = cs ++ c ∷ []
more_answers false c cs = cs

abbrev pub commits_of : Batch → ℕ → List ℕ
commits_of w zero = []
commits_of w (suc n) = more_commits (w.read_only n) n (commits_of w n)

abbrev pub answers_of : Batch → ℕ → List ℕ
answers_of w zero = []
answers_of w (suc n) = more_answers (w.read_only n) n (answers_of w n)

-- the first n calls, after their ends
abbrev pub done_calls : Batch → ℕ → List Live
done_calls w zero = []
done_calls w (suc n) = done_calls w n ++ finish (begin (length (commits_of w n))) ∷ []

pub length_calls : (w : Batch) (n : ℕ) → length (done_calls w n) ≡ n
length_calls w zero = refl
length_calls w (suc n) = let l = length-append (done_calls w n) (finish (begin (length (commits_of w n))) ∷ []) in let k = length_calls w n in omega (arith, l, k)

set_end : (ls : List Live) (l m : Live) (k : ℕ) → length ls ≡ k → slice_set (ls ++ l ∷ []) k m ≡ ls ++ m ∷ []
set_end [] l m zero h = refl
set_end [] l m (suc k) h = absurd (omega (arith, h))
set_end (x ∷ ls) l m zero h = absurd (omega (arith, h))
set_end (x ∷ ls) l m (suc k) h = ap (λ ms. x ∷ ms) (set_end ls l m k (omega (arith, h)))

abbrev AllDone : List Live → Type 0
AllDone [] = Unit {0}
AllDone (l ∷ ls) = (l.done ≡ true) × AllDone ls

done_more : (ls : List Live) (l : Live) → AllDone ls → l.done ≡ true → AllDone (ls ++ l ∷ [])
done_more [] l h k = (k, tt)
done_more (x ∷ ls) l h k = (h.0, done_more ls l h.1 k)

all_done : (w : Batch) (n : ℕ) → AllDone (done_calls w n)
all_done w zero = tt
all_done w (suc n) = done_more (done_calls w n) (finish (begin (length (commits_of w n)))) (all_done w n) refl

none_open : (k : ℕ) (ls : List Live) → AllDone ls → first_open k ls ≡ k + length ls
none_open k [] h = omega arith
none_open k (l ∷ ls) h = ap (λ b. if b then first_open (k + 1) ls else k) h.0 ∙ (let rest = none_open (k + 1) ls h.1 in omega (arith, rest))

-- No hit

pub length_changes : (w : Batch) (db : Tables) (cs : List ℕ) → length (changes_after w db cs) ≡ length cs
length_changes w db [] = refl
length_changes w db (c ∷ cs) = ap suc (length_changes w (w.run c db).tables cs)

drop_past : (xs : List (List Change)) (n : ℕ) → length xs ≡ n → drop n xs ≡ []
drop_past [] zero h = refl
drop_past [] (suc n) h = refl
drop_past (x ∷ xs) zero h = absurd (omega (arith, h))
drop_past (x ∷ xs) (suc n) h = drop_past xs n (omega (arith, h))

pub no_commits : (number : ℕ) (before rs : List Record) → first_hit number [] before rs ≡ None
no_commits number before [] = refl
no_commits number before (r ∷ rs) = no_commits number (before ++ r ∷ []) rs

no_hit : (w : Batch) (order : List ℕ) (c : ℕ) → hit_of w order (length order) c ≡ None
no_hit w order c =
    let none : since w order (length order) ≡ [] = drop_past (changes_after w w.opening order) (length order) (length_changes w w.opening order) in
    ap (λ css. first_hit (length order + 1) css [] (records_at w order (length order) c)) none ∙ no_commits (length order + 1) [] (records_at w order (length order) c)

-- One turn

pub tables_more : (w : Batch) (db : Tables) (cs : List ℕ) (c : ℕ) → tables_after w db (cs ++ c ∷ []) ≡ (w.run c (tables_after w db cs)).tables
tables_more w db [] c = refl
tables_more w db (d ∷ cs) c = tables_more w (w.run d db).tables cs c

abbrev pub schedule : List ℕ → List ℕ → List Live → Schedule
schedule order answered calls = record { order = order; calls = calls; low = 0; answered = answered }

-- after the first n turns
abbrev pub turned : Batch → ℕ → Schedule
turned w n = schedule (commits_of w n) (answers_of w n) (done_calls w n)

-- and after the next begin
abbrev one_live : Batch → ℕ → Schedule
one_live w n = schedule (commits_of w n) (answers_of w n) (done_calls w n ++ begin (length (commits_of w n)) ∷ [])

begin_free : (w : Batch) (n : ℕ) → n < w.count → refusal w (turned w n) (B n) ≡ None
begin_free w n less = ap (λ b. unless (b && nat_lt n w.count) Order None) next ∙ ap (λ b. unless b Order None) room
  where
    next : (n == length (done_calls w n)) ≡ true
    next = let l = length_calls w n in grind (arith, eqb_tells, l)

    room : nat_lt n w.count ≡ true
    room = grind (arith, less)

-- the event that ends the call is allowed
end_free : (w : Batch) (n : ℕ) (b : Bool) → w.read_only n ≡ b → refusal w (one_live w n) (ending b n) ≡ None
end_free w n true reads =
    ap (λ o. of_live o (λ l. unless (w.read_only n) Kind (unless (not (nat_lt l.start 0)) Stale None))) (get_end (done_calls w n) (begin (length (commits_of w n))) n (sym (length_calls w n)))
    ∙ (ap (λ b. unless b Kind (unless (not (nat_lt (length (commits_of w n)) 0)) Stale None)) reads ∙ ap (λ b. unless (not b) Stale None) (le-ltb (length (commits_of w n)) 0 (omega arith)))
end_free w n false reads =
    let order = commits_of w n in
    ap (λ o. of_live o (λ l. unless (not (w.read_only n)) Kind (unless (not (nat_lt l.start 0)) Stale (unless (not (is_some (hit_of w order l.start n))) Conflict None)))) (get_end (done_calls w n) (begin (length order)) n (sym (length_calls w n)))
    ∙ (ap (λ b. unless (not b) Kind (unless (not (nat_lt (length order) 0)) Stale (unless (not (is_some (hit_of w order (length order) n))) Conflict None))) reads
    ∙ (ap (λ b. unless (not b) Stale (unless (not (is_some (hit_of w order (length order) n))) Conflict None)) (le-ltb (length order) 0 (omega arith)) ∙ ap (λ h. unless (not (is_some h)) Conflict None) (no_hit w order n)))

finished : (w : Batch) (n : ℕ) → change_live (slice_get (done_calls w n ++ begin (length (commits_of w n)) ∷ []) n) finish (done_calls w n ++ begin (length (commits_of w n)) ∷ []) n ≡ done_calls w (suc n)
finished w n =
    let l : Live = begin (length (commits_of w n)) in
    ap (λ o. change_live o finish (done_calls w n ++ l ∷ []) n) (get_end (done_calls w n) l n (sym (length_calls w n))) ∙ set_end (done_calls w n) l (finish l) n (length_calls w n)

end_done : (w : Batch) (n : ℕ) (b : Bool) → w.read_only n ≡ b → after w (one_live w n) (ending b n) ≡ turned w (suc n)
end_done w n true reads =
    ap (schedule (commits_of w n) (answers_of w n ++ n ∷ [])) (finished w n)
    ∙ ap (λ b. schedule (more_commits b n (commits_of w n)) (more_answers b n (answers_of w n)) (done_calls w (suc n))) (sym reads)
end_done w n false reads =
    ap (schedule (commits_of w n ++ n ∷ []) (answers_of w n)) (finished w n)
    ∙ ap (λ b. schedule (more_commits b n (commits_of w n)) (more_answers b n (answers_of w n)) (done_calls w (suc n))) (sym reads)

pub turn_free : (w : Batch) (n : ℕ) → n < w.count → AllAllowed w (turned w n) (turn w.read_only n)
turn_free w n less = (begin_free w n less, (end_free w n (w.read_only n) refl, tt))

pub turn_done : (w : Batch) (n : ℕ) → reach w (turned w n) (turn w.read_only n) ≡ turned w (suc n)
turn_done w n = end_done w n (w.read_only n) refl

-- All turns

pub turns_more : (read_only : ℕ → Bool) (n : ℕ) → in_turn read_only (suc n) ≡ in_turn read_only n ++ turn read_only n
turns_more read_only n = flat_map-append (turn read_only) (first_numbers n) (n ∷ []) ∙ ap (λ l. in_turn read_only n ++ l) (append-nil (turn read_only n))

pub turns_reach : (w : Batch) (n : ℕ) → reach w beginning (in_turn w.read_only n) ≡ turned w n
turns_reach w zero = refl
turns_reach w (suc n) =
    ap (reach w beginning) (turns_more w.read_only n)
    ∙ (reach_join w beginning (in_turn w.read_only n) (turn w.read_only n) ∙ (ap (λ s. reach w s (turn w.read_only n)) (turns_reach w n) ∙ turn_done w n))

pub turns_free : (w : Batch) (n : ℕ) → n ≤ w.count → AllAllowed w beginning (in_turn w.read_only n)
turns_free w zero h = tt
turns_free w (suc n) h =
    subst (AllAllowed w beginning) (sym (turns_more w.read_only n)) (allowed_join w beginning (in_turn w.read_only n) (turn w.read_only n) (turns_free w n (omega (arith, h)))
    (subst (λ s. AllAllowed w s (turn w.read_only n)) (sym (turns_reach w n)) (turn_free w n (omega (arith, h)))))

-- neither of the two events of a turn is a repair or a move
turn_late : (w : Batch) (s : Schedule) (b : Bool) (n : ℕ) → MovesLate w s (B n ∷ ending b n ∷ [])
turn_late w s true n = (tt, (tt, tt))
turn_late w s false n = (tt, (tt, tt))

pub turns_late : (w : Batch) (n : ℕ) → MovesLate w beginning (in_turn w.read_only n)
turns_late w zero = tt
turns_late w (suc n) =
    subst (MovesLate w beginning) (sym (turns_more w.read_only n))
    (moves_join w beginning (in_turn w.read_only n) (turn w.read_only n) (turns_late w n) (turn_late w (reach w beginning (in_turn w.read_only n)) (w.read_only n) n))

no_round : (c n : ℕ) (b : Bool) → filter (is_round c) (B n ∷ ending b n ∷ []) ≡ []
no_round c n true = refl
no_round c n false = refl

pub no_rounds : (read_only : ℕ → Bool) (c n : ℕ) → filter (is_round c) (in_turn read_only n) ≡ []
no_rounds read_only c zero = refl
no_rounds read_only c (suc n) =
    ap (filter (is_round c)) (turns_more read_only n)
    ∙ (filter-append (is_round c) (in_turn read_only n) (turn read_only n)
    ∙ (ap (λ l. l ++ filter (is_round c) (turn read_only n)) (no_rounds read_only c n) ∙ no_round c n (read_only n)))

pub closed : (w : Batch) (n : ℕ) → n ≡ w.count → option_map Open (open_call w (turned w n)) ≡ None
closed w n is = ap (λ c. option_map Open (if nat_lt c w.count then Some c else None)) (none_open 0 (done_calls w n) (all_done w n))
    ∙ ap (λ b. option_map Open (if b then Some (0 + length (done_calls w n)) else None)) past
  where
    past : nat_lt (0 + length (done_calls w n)) w.count ≡ false
    past = let l = length_calls w n in grind (arith, l, is)
