-- What is left inside a statement.
use Rattle.std.proofs.Common.{◌≡◌, ℕ, ◌+◌, Bool, true, false, List, [], ◌∷◌, ◌++◌, Some, None, Result, Ok, Err, drop, if◌then◌else◌, refl, sym, ap, ◌∙◌, append-nil}
use Rattle.mv_catalog.specs.Statements.{size_of}
use Rattle.mv_values.specs.declared.value.Value.{Value}
use Rattle.mv_values.specs.declared.calls.End.{End}
use Rattle.mv_values.specs.declared.schema.TableInfo.{TableInfo}
use Rattle.mv_catalog.specs.declared.resolved.ProcInfo.{ProcInfo}
use Rattle.mv_catalog.specs.declared.resolved.RStmt.{RStmt, out-RStmt}
use Rattle.mv_catalog.specs.declared.resolved.RStmt.TheOpen.{RStmt-F, Assign, Select, Total, ForSelect, ForRows, Branch, Insert, Update, Delete, Print, Rollback}
use Rattle.mv_eval.specs.declared.state.State.{State}
use Rattle.mv_eval.specs.declared.state.Content.TheVariants.{Turn}
use Rattle.mv_eval.specs.Results.{then_do}
use Rattle.mv_eval.specs.Env.{with_held}
use Rattle.mv_eval.specs.Value.{value_of, is_so}
use Rattle.mv_record.specs.declared.record.Record.{Record}
use Rattle.mv_recorded.specs.Asking.{on}
use Rattle.mv_recorded.specs.Doing.{fixed_rows, itself, before_turns}
use Rattle.mv_recorded.specs.Recorded.{Site, outside, within, within_loop, in_turn}
use Rattle.mv_exec.specs.declared.frames.Holder.TheVariants as by
use Rattle.mv_effect.specs.Choosing.{Chooses}
use Rattle.mv_exec.specs.declared.frames.Frame.{Frame}
use Rattle.mv_exec.specs.Left.{Job, run, turns, left, inside}
use Rattle.mv_exec.specs.Frames.{body_in, branch_in, block_in, holder_of, site_of, some_run, some_turns, loop_rows, jobs_left}
use Rattle.mv_exec.specs.Moves.{branch_frame, loop_frame, inner_frames, after_turns, after_empty_body, after_empty_loop}
use Rattle.mv_exec.proofs.Leaving.{turn_begins, run_ends, turns_end}
use Rattle.mv_exec.proofs.Framing.{jobs_more}
use Rattle.mv_exec.proofs.Lists.{past_all}
use Rattle.mv_exec.proofs.Going.{same_run, same_turns}

-- turns over a body, none where it is empty
abbrev pub over : Site → ℕ → ℕ → List RStmt → List (List Value) → List Job
over site first x [] rows = []
over site first x (s ∷ ss) rows = some_turns site first x (s ∷ ss) rows 1

-- what is left inside a statement that has gone on
abbrev pub inner_jobs : ℕ → ℕ → Bool → Site → List (List Value) → RStmt-F RStmt → List Job
inner_jobs number n b site rows (Branch e ys ns) = if b then some_run (within number site) (n + 1) ys else some_run (within number site) (n + 1 + size_of ys) ns
inner_jobs number n b site rows (ForSelect x once cs t conds sorts body) = over (within_loop x number site) (n + 1) x body rows
inner_jobs number n b site rows (ForRows x y body) = over (within_loop x number site) (n + 1) x body rows
inner_jobs number n b site rows s = []

-- Turns of an empty body

no_body : (tables : List TableInfo) (params : ℕ) (site : Site) (n x : ℕ) (rows : List (List Value)) (k : ℕ) (js : List Job) (before : List Record) (st : State)
    → left tables params (turns site n x [] rows k ∷ js) before st ≡ left tables params js before (record st { env = after_turns x rows st.env })
no_body tables params site n x [] k js before st = turns_end tables params site n x [] k js before st
no_body tables params site n x (row ∷ rows) k js before st =
    let next : State = record st { env = with_held st.env x (Turn row) } in
    turn_begins tables params site n x [] row rows k js before st
    ∙ (run_ends tables params (in_turn k site) n (turns site n x [] rows (k + 1) ∷ js) before next
    ∙ no_body tables params site n x rows (k + 1) js before next)

all_turns : (tables : List TableInfo) (params : ℕ) (site : Site) (n x : ℕ) (body : List RStmt) (rows : List (List Value)) (js : List Job) (before : List Record) (st : State)
    → left tables params (turns site n x body rows 1 ∷ js) before st ≡ left tables params (over site n x body rows ++ js) before (record st { env = after_empty_body x body rows st.env })
all_turns tables params site n x [] rows js before st = no_body tables params site n x rows 1 js before st
all_turns tables params site n x (s ∷ ss) rows js before st = same_turns tables params site n x (s ∷ ss) rows 1 js before st

either_run : (tables : List TableInfo) (params : ℕ) (site : Site) (m n : ℕ) (ys ns : List RStmt) (b : Bool) (js : List Job) (before : List Record) (st : State)
    → left tables params ((if b then run site m ys else run site n ns) ∷ js) before st ≡ left tables params ((if b then some_run site m ys else some_run site n ns) ++ js) before st
either_run tables params site m n ys ns true js before st = same_run tables params site m ys js before st
either_run tables params site m n ys ns false js before st = same_run tables params site n ns js before st

-- it goes on with the rows that it has fixed
fixed_ok : (r : Result (List (List Value)) End) (st next : State) → before_turns r st ≡ Ok next → r ≡ Ok (on r (λ rows. rows))
fixed_ok (Ok rows) st next h = refl
fixed_ok (Err e) st next h = cc

value_ok : (r : Result Value End) (st next : State) → then_do r (λ v. Ok st) ≡ Ok next → (v : Value) × (r ≡ Ok v)
value_ok (Ok v) st next h = (v, refl)
value_ok (Err e) st next h = cc

-- what a statement holds, where it goes on
pub inside_left : (tables : List TableInfo) (params : ℕ) (y : RStmt-F RStmt) (number n : ℕ) (site : Site) (b : Bool) (js : List Job) (before : List Record) (st next to : State)
    → itself tables y st ≡ Ok next → Chooses st.env b y
    → left tables params (inside tables number y n site st ++ js) before to
    ≡ left tables params (inner_jobs number n b site (on (fixed_rows tables y st) (λ rows. rows)) y ++ js) before (record to { env = after_empty_loop y (on (fixed_rows tables y st) (λ rows. rows)) to.env })
inside_left tables params (Assign x e) number n site b js before st next to h c = refl
inside_left tables params (Select cs xs t conds sorts offset) number n site b js before st next to h c = refl
inside_left tables params (Total agg x t conds) number n site b js before st next to h c = refl
inside_left tables params (ForSelect x once cs t conds sorts body) number n site b js before st next to h c =
    let fixed : Result (List (List Value)) End = fixed_rows tables (ForSelect x once cs t conds sorts body) st in
    let rows : List (List Value) = on fixed (λ rows. rows) in
    ap (λ r. left tables params (on r (λ rows. turns (within_loop x number site) (n + 1) x body rows 1 ∷ []) ++ js) before to) (fixed_ok fixed st next h)
    ∙ all_turns tables params (within_loop x number site) (n + 1) x body rows js before to
inside_left tables params (ForRows x y body) number n site b js before st next to h c =
    all_turns tables params (within_loop x number site) (n + 1) x body (on (fixed_rows tables (ForRows x y body) st) (λ rows. rows)) js before to
inside_left tables params (Branch e ys ns) number n site b js before st next to h c =
    let v : (v : Value) × (value_of e st.env [] ≡ Ok v) = value_ok (value_of e st.env []) st next h in
    ap (λ r. left tables params (on r (λ v. (if is_so v then run (within number site) (n + 1) ys else run (within number site) (n + 1 + size_of ys) ns) ∷ []) ++ js) before to) v.1
    ∙ (ap (λ d. left tables params ((if d then run (within number site) (n + 1) ys else run (within number site) (n + 1 + size_of ys) ns) ∷ js) before to) (sym (c v.0 v.1))
    ∙ either_run tables params (within number site) (n + 1) (n + 1 + size_of ys) ys ns b js before to)
inside_left tables params (Insert t es) number n site b js before st next to h c = refl
inside_left tables params (Update t items conds) number n site b js before st next to h c = refl
inside_left tables params (Delete t conds) number n site b js before st next to h c = refl
inside_left tables params (Print es) number n site b js before st next to h c = refl
inside_left tables params (Rollback reason) number n site b js before st next to h c = refl

-- Frames inside

entered_jobs : (proc : ProcInfo) (rs : List Record) (os : List Frame) (number : ℕ) (b : Bool) (first : ℕ) (block : List RStmt)
    → block_in proc (by.Branch number b) (holder_of proc None os) ≡ block
    → jobs_left proc rs (os ++ branch_frame (by.Branch number b) first block) ≡ some_run (within number (site_of outside os)) first block ++ jobs_left proc rs os
entered_jobs proc rs os number b first [] e = ap (jobs_left proc rs) (append-nil os)
entered_jobs proc rs os number b first (s ∷ ss) e =
    jobs_more proc rs None outside os (record { holder = by.Branch number b; first = first; at = 0; number = first })
    ∙ ap (λ bl. (some_run (within number (site_of outside os)) first bl ++ []) ++ jobs_left proc rs os) e

looped_jobs : (proc : ProcInfo) (rs : List Record) (os : List Frame) (number x first : ℕ) (body : List RStmt)
    → block_in proc (by.Loop number x 0) (holder_of proc None os) ≡ body
    → jobs_left proc rs (os ++ loop_frame number x first body) ≡ over (within_loop x number (site_of outside os)) first x body (loop_rows rs number) ++ jobs_left proc rs os
looped_jobs proc rs os number x first [] e = ap (jobs_left proc rs) (append-nil os)
looped_jobs proc rs os number x first (s ∷ ss) e =
    let loop : Site = within_loop x number (site_of outside os) in
    let n : ℕ = size_of (s ∷ ss) in
    jobs_more proc rs None outside os (record { holder = by.Loop number x 0; first = first; at = n; number = first + n })
    ∙ (ap (λ bl. (some_run (in_turn 0 loop) (first + n) (drop n bl) ++ some_turns loop first x bl (loop_rows rs number) 1) ++ jobs_left proc rs os) e
    ∙ ap (λ bl. (some_run (in_turn 0 loop) (first + n) bl ++ some_turns loop first x (s ∷ ss) (loop_rows rs number) 1) ++ jobs_left proc rs os) (past_all (s ∷ ss)))

-- a frame inside a statement is left what the statement holds
pub inner_left : (proc : ProcInfo) (rs : List Record) (os : List Frame) (s : RStmt) (y : RStmt-F RStmt) (number n : ℕ) (b : Bool)
    → holder_of proc None os ≡ Some s → out-RStmt s ≡ y
    → jobs_left proc rs (os ++ inner_frames number n b y) ≡ inner_jobs number n b (site_of outside os) (loop_rows rs number) y ++ jobs_left proc rs os
inner_left proc rs os s (Assign x e) number n b at is = ap (jobs_left proc rs) (append-nil os)
inner_left proc rs os s (Select cs xs t conds sorts offset) number n b at is = ap (jobs_left proc rs) (append-nil os)
inner_left proc rs os s (Total agg x t conds) number n b at is = ap (jobs_left proc rs) (append-nil os)
inner_left proc rs os s (ForSelect x once cs t conds sorts body) number n b at is =
    looped_jobs proc rs os number x (n + 1) body (ap (block_in proc (by.Loop number x 0)) at ∙ ap body_in is)
inner_left proc rs os s (ForRows x y body) number n b at is =
    looped_jobs proc rs os number x (n + 1) body (ap (block_in proc (by.Loop number x 0)) at ∙ ap body_in is)
inner_left proc rs os s (Branch e ys ns) number n true at is =
    entered_jobs proc rs os number true (n + 1) ys (ap (block_in proc (by.Branch number true)) at ∙ ap (branch_in true) is)
inner_left proc rs os s (Branch e ys ns) number n false at is =
    entered_jobs proc rs os number false (n + 1 + size_of ys) ns (ap (block_in proc (by.Branch number false)) at ∙ ap (branch_in false) is)
inner_left proc rs os s (Insert t es) number n b at is = ap (jobs_left proc rs) (append-nil os)
inner_left proc rs os s (Update t items conds) number n b at is = ap (jobs_left proc rs) (append-nil os)
inner_left proc rs os s (Delete t conds) number n b at is = ap (jobs_left proc rs) (append-nil os)
inner_left proc rs os s (Print es) number n b at is = ap (jobs_left proc rs) (append-nil os)
inner_left proc rs os s (Rollback reason) number n b at is = ap (jobs_left proc rs) (append-nil os)
