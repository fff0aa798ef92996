-- A loop's next turn.
use Rattle.std.proofs.Common.{◌≡◌, ℕ, zero, suc, ◌+◌, ◌-◌, ◌<◌, Bool, true, false, ◌||◌, nat_lt, List, [], ◌∷◌, ◌++◌, Option, Some, None, length, drop, slice_get, slice_set, refl, sym, ap, subst, ◌∙◌, arith, add-one, length-append}
use Rattle.std.proofs.lemmas.Bool.{lt-ltb, ltb-true}
use Rattle.mv_values.specs.declared.value.Value.{Value}
use Rattle.mv_values.specs.declared.schema.TableInfo.{TableInfo}
use Rattle.mv_catalog.specs.declared.resolved.ProcInfo.{ProcInfo}
use Rattle.mv_catalog.specs.declared.resolved.RStmt.{RStmt}
use Rattle.mv_eval.specs.declared.state.Content.TheVariants.{Turn}
use Rattle.mv_eval.specs.declared.state.State.{State}
use Rattle.mv_eval.specs.Env.{with_held}
use Rattle.mv_record.specs.declared.record.Record.{Record}
use Rattle.mv_recorded.specs.Recorded.{Site, outside, within_loop, in_turn}
use Rattle.mv_exec.specs.declared.frames.Holder.{Holder}
use Rattle.mv_exec.specs.declared.frames.Holder.TheVariants as by
use Rattle.mv_exec.specs.declared.frames.Frame.{Frame}
use Rattle.mv_exec.specs.declared.task.Task.{Task}
use Rattle.mv_exec.specs.Left.{Job, run, turns, left}
use Rattle.mv_exec.specs.Frames.{block_in, block_of, statement_before, holder_of, site_in, site_of, some_run, some_turns, turns_of, loop_rows, jobs_left, has_turn, is_left, EndsLeft, Every, IsFilled, AreFilled, IsNumbered, AreNumbered, in_next_turn, next_turn, with_turn, with_next_row}
use Rattle.mv_exec.specs.Tasks.{standing, frames_of, state_of, IsTask, StandsAsBefore, IsHeldBefore, AreHeldBefore}
use Rattle.mv_exec.proofs.Leaving.{turn_begins}
use Rattle.mv_exec.proofs.Framing.{same_last, none_past, jobs_more}
use Rattle.mv_exec.proofs.Going.{same_behind, same_turns}

-- Lists

record First (A : Type 0) (xs : List A) (n : ℕ) : Type 0 where
  it : A
  rest : drop n xs ≡ it ∷ drop (suc n) xs
  there : slice_get xs n ≡ Some it

first : {A : Type 0} (xs : List A) (n : ℕ) → n < length xs → First A xs n
first [] n lt = absurd (omega (arith, lt))
first (x ∷ xs) zero lt = record { it = x; rest = refl; there = refl }
first (x ∷ xs) (suc n) lt = let f : First _ xs n = first xs n (omega (arith, lt)) in record { it = f.it; rest = f.rest; there = f.there }

pub record FirstOf (A : Type 0) (xs : List A) (n : ℕ) : Type 0 where
  pub it : A
  pub rest : drop n xs ≡ it ∷ drop (n + 1) xs
  pub there : slice_get xs n ≡ Some it

pub first_of : {A : Type 0} (xs : List A) (n : ℕ) → nat_lt n (length xs) ≡ true → FirstOf A xs n
first_of xs n h = let f : First _ xs n = first xs n (ltb-true n (length xs) h) in record { it = f.it; rest = rw add-one f.rest; there = f.there }

pub set_last : {A : Type 0} (xs : List A) (x y : A) → slice_set (xs ++ x ∷ []) (length (xs ++ x ∷ []) - 1) y ≡ xs ++ y ∷ []
set_last xs x y = subst (λ n. slice_set (xs ++ x ∷ []) n y ≡ xs ++ y ∷ []) (omega (arith, length-append xs (x ∷ []))) (at xs)
  where
    at : (zs : List _) → slice_set (zs ++ x ∷ []) (length zs) y ≡ zs ++ y ∷ []
    at [] = refl
    at (z ∷ zs) = ap (λ l. z ∷ l) (at zs)

-- Frames

pub every_last : (P : List RStmt → Frame → Type 0) (proc : ProcInfo) (s : Option RStmt) (outer : List Frame) (p : Frame) → Every P proc s (outer ++ p ∷ []) → P (block_of proc (holder_of proc s outer) p) p
every_last P proc s [] p h = h.0
every_last P proc s (q ∷ outer) p h = every_last P proc (statement_before proc s q) outer p h.1

pub every_outer : (P : List RStmt → Frame → Type 0) (proc : ProcInfo) (s : Option RStmt) (outer : List Frame) (p : Frame) → Every P proc s (outer ++ p ∷ []) → Every P proc s outer
every_outer P proc s [] p h = tt
every_outer P proc s (q ∷ outer) p h = (h.0, every_outer P proc (statement_before proc s q) outer p h.1)

pub every_more : (P : List RStmt → Frame → Type 0) (proc : ProcInfo) (s : Option RStmt) (outer : List Frame) (p : Frame) → Every P proc s outer → P (block_of proc (holder_of proc s outer) p) p
    → Every P proc s (outer ++ p ∷ [])
every_more P proc s [] p h k = (k, tt)
every_more P proc s (q ∷ outer) p h k = (h.0, every_more P proc (statement_before proc s q) outer p h.1 k)

pub filled_last : (proc : ProcInfo) (s : Option RStmt) (outer : List Frame) (p : Frame) → AreFilled proc s (outer ++ p ∷ []) → 0 < length (block_of proc (holder_of proc s outer) p)
filled_last = every_last IsFilled

pub filled_outer : (proc : ProcInfo) (s : Option RStmt) (outer : List Frame) (p : Frame) → AreFilled proc s (outer ++ p ∷ []) → AreFilled proc s outer
filled_outer = every_outer IsFilled

pub filled_more : (proc : ProcInfo) (s : Option RStmt) (outer : List Frame) (p : Frame) → AreFilled proc s outer → 0 < length (block_of proc (holder_of proc s outer) p) → AreFilled proc s (outer ++ p ∷ [])
filled_more = every_more IsFilled

pub held_last : (n : ℕ) (outer : List Frame) (p : Frame) → AreHeldBefore n (outer ++ p ∷ []) → IsHeldBefore n p.holder
held_last n [] p h = h.0
held_last n (q ∷ outer) p h = held_last n outer p h.1

pub held_outer : (n : ℕ) (outer : List Frame) (p : Frame) → AreHeldBefore n (outer ++ p ∷ []) → AreHeldBefore n outer
held_outer n [] p h = tt
held_outer n (q ∷ outer) p h = (h.0, held_outer n outer p h.1)

pub held_more : (n : ℕ) (outer : List Frame) (p : Frame) → AreHeldBefore n outer → IsHeldBefore n p.holder → AreHeldBefore n (outer ++ p ∷ [])
held_more n [] p h k = (k, tt)
held_more n (q ∷ outer) p h k = (h.0, held_more n outer p h.1 k)

-- the innermost frame may have nothing left but a turn
either_left : (a b : Bool) → a || b ≡ true → a ≡ false → b ≡ true
either_left true b h e = cc
either_left false b h e = h

one_left : (a b : Bool) → a ≡ true → a || b ≡ true
one_left a b e = rw e refl

-- where the next turn stands in the same list
pub same_block : (proc : ProcInfo) (s : Option RStmt) (h : Holder) → block_in proc (in_next_turn h) s ≡ block_in proc h s
same_block proc s by.Procedure = refl
same_block proc s (by.Branch number b) = refl
same_block proc None (by.Loop number x k) = refl
same_block proc (Some s) (by.Loop number x k) = refl

same_holder : (n : ℕ) (h : Holder) → IsHeldBefore n h → IsHeldBefore n (in_next_turn h)
same_holder n by.Procedure h = h
same_holder n (by.Branch number b) h = h
same_holder n (by.Loop number x k) h = h

-- What is left

-- behind the first statement of a list that isn't empty
runs_block : (site : Site) (n : ℕ) (block : List RStmt) (more js : List Job) → 0 < length block → run site n block ∷ (more ++ js) ≡ (some_run site n block ++ more) ++ js
runs_block site n [] more js h = absurd (omega (arith, h))
runs_block site n (s ∷ ss) more js h = refl

turn_by : (tables : List TableInfo) (params : ℕ) (rs : List Record) (block : List RStmt) (site : Site) (h : Holder) (start at number : ℕ) (js : List Job)
    → 0 < length block → drop at block ≡ [] → has_turn rs h ≡ true → (before : List Record) (st : State)
    → left tables params ((some_run (site_in h site) number (drop at block) ++ turns_of rs site block start h) ++ js) before st
    ≡ left tables params ((some_run (site_in (in_next_turn h) site) start block ++ turns_of rs site block start (in_next_turn h)) ++ js) before (record st { env = with_next_row rs h st.env })
turn_by tables params rs block site by.Procedure start at number js some none turn before st = cc
turn_by tables params rs block site (by.Branch n b) start at number js some none turn before st = cc
turn_by tables params rs block site (by.Loop n x k) start at number js some none turn before st =
    let loop : Site = within_loop x n site in
    let rows : List (List Value) = loop_rows rs n in
    let f : FirstOf (List Value) rows k = first_of rows k turn in
    let next : State = record st { env = with_held st.env x (Turn f.it) } in
    ap (λ ss. left tables params ((some_run (in_turn k loop) number ss ++ some_turns loop start x block (drop k rows) (k + 1)) ++ js) before st) none
    ∙ (ap (λ rest. left tables params (some_turns loop start x block rest (k + 1) ++ js) before st) f.rest
    ∙ (turn_begins tables params loop start x block f.it (drop (k + 1) rows) (k + 1) js before st
    ∙ (same_behind tables params (run (in_turn (k + 1) loop) start block) (turns loop start x block (drop (k + 1) rows) (k + 1 + 1) ∷ js) (some_turns loop start x block (drop (k + 1) rows) (k + 1 + 1) ++ js) (same_turns tables params loop start x block (drop (k + 1) rows) (k + 1 + 1) js) before next
    ∙ (ap (λ is. left tables params is before next) (runs_block (in_turn (k + 1) loop) start block (some_turns loop start x block (drop (k + 1) rows) (k + 1 + 1)) js some)
    ∙ ap (λ row. left tables params ((some_run (in_turn (k + 1) loop) start block ++ some_turns loop start x block (drop (k + 1) rows) (k + 1 + 1)) ++ js) before (record st { env = with_turn x row st.env })) (sym f.there)))))

-- Tasks

-- where a turn is due at the innermost frame
pub record IsDue (proc : ProcInfo) (ps : List Frame) (outer : List Frame) (p : Frame) : Type 0 where
  pub are : ps ≡ outer ++ p ∷ []
  pub none : nat_lt p.at (length (block_of proc (holder_of proc None outer) p)) ≡ false

pub turn_due : (proc : ProcInfo) (rs : List Record) (ps outer : List Frame) (p : Frame) → IsDue proc ps outer p → EndsLeft proc rs ps → has_turn rs p.holder ≡ true
turn_due proc rs ps outer p due ends =
    either_left (nat_lt p.at (length (block_of proc (holder_of proc None outer) p))) (has_turn rs p.holder) (ends outer p due.are) due.none

-- the task in the next turn
abbrev pub after_turn : Task → List Frame → Frame → Task
after_turn old outer p =
    let was = old.variables in
    record old { variables = record was { env = with_next_row old.log.records p.holder was.env }; frames = outer ++ next_turn p ∷ []; ended = false }

next_filled : (proc : ProcInfo) (old : Task) (outer : List Frame) (p : Frame) → IsTask proc old → IsDue proc (frames_of old) outer p → 0 < length (block_of proc (holder_of proc None outer) (next_turn p))
next_filled proc old outer p t due =
    subst (λ (bl : List RStmt). 0 < length bl) (sym (same_block proc (holder_of proc None outer) p.holder)) (filled_last proc None outer p (subst (AreFilled proc None) due.are t.filled))

next_numbered : (proc : ProcInfo) (outer : List Frame) (p : Frame) → AreNumbered proc None (outer ++ p ∷ []) → AreNumbered proc None (outer ++ next_turn p ∷ [])
next_numbered proc outer p h =
    let last : IsNumbered proc (block_of proc (holder_of proc None outer) p) p = every_last (IsNumbered proc) proc None outer p h in
    every_more (IsNumbered proc) proc None outer (next_turn p) (every_outer (IsNumbered proc) proc None outer p h)
    (subst (λ bl. IsNumbered proc bl (next_turn p)) (sym (same_block proc (holder_of proc None outer) p.holder)) (last.0, refl))

pub turned_task : (proc : ProcInfo) (old : Task) (outer : List Frame) (p : Frame) → IsTask proc old → IsDue proc (frames_of old) outer p → IsTask proc (after_turn old outer p)
turned_task proc old outer p t due =
    let filled : 0 < length (block_of proc (holder_of proc None outer) (next_turn p)) = next_filled proc old outer p t due in
    record {
      filled = filled_more proc None outer (next_turn p) (filled_outer proc None outer p (subst (AreFilled proc None) due.are t.filled)) filled;
      numbers = next_numbered proc outer p (subst (AreNumbered proc None) due.are t.numbers);
      ends = λ o q e.
          let h : (outer ≡ o) × (next_turn p ≡ q) = same_last outer o (next_turn p) q e in
          subst (λ r. is_left old.log.records (block_of proc (holder_of proc None o) r) r ≡ true) h.1
          (subst (λ os. is_left old.log.records (block_of proc (holder_of proc None os) (next_turn p)) (next_turn p) ≡ true) h.0
          (one_left (nat_lt 0 (length (block_of proc (holder_of proc None outer) (next_turn p)))) (has_turn old.log.records (in_next_turn p.holder)) (lt-ltb 0 _ filled)));
      holders = held_more (length old.log.records) outer (next_turn p) (held_outer (length old.log.records) outer p (subst (AreHeldBefore (length old.log.records)) due.are t.holders))
          (same_holder (length old.log.records) p.holder (held_last (length old.log.records) outer p (subst (AreHeldBefore (length old.log.records)) due.are t.holders)));
      some = omega (arith, length-append outer (next_turn p ∷ []));
      empty = t.empty;
      definers = t.definers;
      counted = t.counted;
    }

-- a statement is there
pub turned_first : (proc : ProcInfo) (old : Task) (outer : List Frame) (p : Frame) → IsTask proc old → IsDue proc (frames_of old) outer p
    → nat_lt 0 (length (block_of proc (holder_of proc None outer) (next_turn p))) ≡ true
turned_first proc old outer p t due = lt-ltb 0 _ (next_filled proc old outer p t due)

pub turned_before : (proc : ProcInfo) (old : Task) (outer : List Frame) (p : Frame) → IsTask proc old → IsDue proc (frames_of old) outer p → StandsAsBefore proc old (after_turn old outer p)
turned_before proc old outer p t due = record {
  parameters = refl;
  records = refl;
  executed = refl;
  beginning = refl;
  left = λ tables db.
      let s : Option RStmt = holder_of proc None outer in
      let site : Site = site_of outside outer in
      let block : List RStmt = block_of proc s p in
      let js : List Job = jobs_left proc old.log.records outer in
      let st : State = state_of old db in
      let next : State = record st { env = with_next_row old.log.records p.holder st.env } in
      sym
      (ap (λ ps. left tables old.parameters (jobs_left proc old.log.records ps) old.log.records st) due.are
      ∙ (ap (λ is. left tables old.parameters is old.log.records st) (jobs_more proc old.log.records None outside outer p)
      ∙ (turn_by tables old.parameters old.log.records block site p.holder p.first p.at p.number js (filled_last proc None outer p (subst (AreFilled proc None) due.are t.filled))
      (none_past block p.at due.none) (turn_due proc old.log.records (frames_of old) outer p due t.ends) old.log.records st
      ∙ (ap (λ (bl : List RStmt). left tables old.parameters ((some_run (site_in (in_next_turn p.holder) site) p.first bl ++ turns_of old.log.records site bl p.first (in_next_turn p.holder)) ++ js) old.log.records next)
      (sym (same_block proc s p.holder))
      ∙ ap (λ is. left tables old.parameters is old.log.records next) (sym (jobs_more proc old.log.records None outside outer (next_turn p)))))));
}

pub standing_live : (b : Bool) (ps : List Frame) → b ≡ false → standing b ps ≡ ps
standing_live b ps e = ap (λ c. standing c ps) e

-- where no statement is left at the innermost frame a turn is
pub turn_owed : (proc : ProcInfo) (task : Task) (rs : List Record) (ps outer : List Frame) (p : Frame) → IsTask proc task → task.ended ≡ false → ps ≡ task.frames → rs ≡ task.log.records
    → ps ≡ outer ++ p ∷ [] → nat_lt p.at (length (block_of proc (holder_of proc None outer) p)) ≡ false → has_turn rs p.holder ≡ true
turn_owed proc task rs ps outer p t live same records are none =
    subst (λ qs. has_turn qs p.holder ≡ true) (sym records)
    (turn_due proc task.log.records (frames_of task) outer p (record { are = standing_live task.ended task.frames live ∙ (sym same ∙ are); none = none }) t.ends)
