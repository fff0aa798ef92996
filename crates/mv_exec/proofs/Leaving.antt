-- What is left of a run from its next statement on.
use Rattle.std.proofs.Common.{◌≡◌, ℕ, ◌+◌, Bool, true, false, List, [], ◌∷◌, ◌++◌, Result, Ok, Err, map, length, if◌then◌else◌, refl, sym, ap, subst, ◌∙◌, append-nil, append_assoc}
use Rattle.mv_catalog.specs.Statements.{size, total_size, size_of}
use Rattle.mv_values.specs.Tables.{key_columns}
use Rattle.mv_values.specs.declared.value.Value.{Value}
use Rattle.mv_values.specs.declared.schema.TableInfo.{TableInfo}
use Rattle.mv_values.specs.declared.calls.Call.{Call}
use Rattle.mv_values.specs.declared.calls.End.{End}
use Rattle.mv_values.specs.Tables.{Tables}
use Rattle.mv_catalog.specs.declared.resolved.ProcInfo.{ProcInfo}
use Rattle.mv_catalog.specs.declared.resolved.RStmt.{RStmt, roll-RStmt, map-RStmt}
use Rattle.mv_catalog.specs.declared.resolved.RStmt.TheOpen.{RStmt-F, Assign, Select, Total, ForSelect, ForRows, Branch, Insert, Update, Delete, Print, Rollback}
use Rattle.mv_eval.specs.declared.state.State.{State}
use Rattle.mv_eval.specs.declared.state.Content.TheVariants.{Turn}
use Rattle.mv_eval.specs.Results.{then_do}
use Rattle.mv_eval.specs.Env.{with_found, with_held, turns_at}
use Rattle.mv_eval.specs.Value.{value_of, is_so}
use Rattle.mv_eval.specs.Rows.{tests_of}
use Rattle.mv_eval.specs.Alone.{Does, alone, does, stmt_step, each_turn, loop_over, fixed, matching_in, is_turn}
use Rattle.mv_eval.specs.TableAfter.{begun}
use Rattle.mv_record.specs.declared.record.Record.{Record}
use Rattle.mv_recorded.specs.Asking.{on}
use Rattle.mv_recorded.specs.Doing.{fixed_rows, itself, before_turns}
use Rattle.mv_recorded.specs.Recorded.{Recorder, Site, tell, tell_step, tell_turns, tell_loop, tell_statements, own_record, outside, recorded, within, within_loop, in_turn}
use Rattle.mv_recorded.proofs.Following.{body_is}
use Rattle.mv_recorded.proofs.Unrolled.{with_tells, tell_is, does_is}
use Rattle.mv_exec.specs.Left.{Job, run, turns, left, inside}

-- One after another

-- two parts and what comes behind them, and the second part and what comes behind it behind the first
in_turns : (these before : List Record) (out : Result State End) (more : State → List Record) (d : Does) (behind : List Record → State → List Record)
    → (these ++ on out more) ++ on (then_do out d) (behind (before ++ (these ++ on out more)))
    ≡ these ++ on out (λ s. more s ++ on (d s) (behind ((before ++ these) ++ more s)))
in_turns these before (Ok s) more d behind =
    append_assoc these (more s) (on (d s) (behind (before ++ (these ++ more s))))
    ∙ ap (λ rs. these ++ (more s ++ on (d s) (behind rs))) (sym (append_assoc before these (more s)))
in_turns these before (Err e) more d behind = append-nil (these ++ [])

-- nothing is left of no statements, and of no turns
pub run_ends : (tables : List TableInfo) (params : ℕ) (site : Site) (n : ℕ) (js : List Job) (before : List Record) (st : State)
    → left tables params (run site n [] ∷ js) before st ≡ left tables params js before st
run_ends tables params site n js before st = ap (λ rs. left tables params js rs st) (append-nil before)

pub turns_end : (tables : List TableInfo) (params : ℕ) (site : Site) (n x : ℕ) (body : List RStmt) (k : ℕ) (js : List Job) (before : List Record) (st : State)
    → left tables params (turns site n x body [] k ∷ js) before st ≡ left tables params js before st
turns_end tables params site n x body k js before st = ap (λ rs. left tables params js rs st) (append-nil before)

-- the next turn of a loop is its body, behind which the others are left
pub turn_begins : (tables : List TableInfo) (params : ℕ) (site : Site) (n x : ℕ) (body : List RStmt) (row : List Value) (rows : List (List Value)) (k : ℕ) (js : List Job)
    (before : List Record) (st : State)
    → left tables params (turns site n x body (row ∷ rows) k ∷ js) before st
    ≡ left tables params (run (in_turn k site) n body ∷ turns site n x body rows (k + 1) ∷ js) before (record st { env = with_held st.env x (Turn row) })
turn_begins tables params site n x body row rows k js before st =
    let next : State = record st { env = with_held st.env x (Turn row) } in
    let these : List Record = tell_statements tables params body n (in_turn k site) before next in
    in_turns these before (alone tables body next) (tell_turns x (alone tables body) (tell_statements tables params body) rows (k + 1) n site (before ++ these))
    (each_turn x (alone tables body) rows) (left tables params js)

-- the first of statements, behind which the others are left
pub first_of_run : (tables : List TableInfo) (params : ℕ) (site : Site) (n : ℕ) (s : RStmt) (ss : List RStmt) (js : List Job) (before : List Record) (st : State)
    → let these : List Record = tell tables params s n site before st in
    left tables params (run site n (s ∷ ss) ∷ js) before st ≡ these ++ on (does tables s st) (left tables params (run site (n + size s) ss ∷ js) (before ++ these))
first_of_run tables params site n s ss js before st =
    let these : List Record = tell tables params s n site before st in
    in_turns these before (does tables s st) (tell_statements tables params ss (n + size s) site (before ++ these)) (alone tables ss) (left tables params js)

-- A statement

-- what it leaves, and what is left behind it
abbrev Split : List TableInfo → ℕ → List Record → Result State End → List Job → List Record → List Record
Split tables params these out js before = these ++ on out (left tables params js (before ++ these))

-- its own record, and then what it holds and what is left behind it
abbrev Begins : List TableInfo → ℕ → RStmt-F RStmt → ℕ → Site → List Record → State → List Job → Type 0
Begins tables params y n site before st js =
    Split tables params (tell_step tables params (with_tells tables params y) n site before st) (stmt_step tables (map-RStmt RStmt Does (does tables) y) st) js before
    ≡ own_record tables params y n site before st
    ∷ on (itself tables y st) (left tables params (inside tables (length before) y n site st ++ js) (before ++ own_record tables params y n site before st ∷ []))

-- what is told inside a statement behind its own record
inner_turns : (tables : List TableInfo) (params : ℕ) (own : Record) (before : List Record) (r : Result (List (List Value)) End) (x : ℕ) (body : List RStmt) (n : ℕ) (site : Site) (st : State) (js : List Job)
    (number : ℕ) (again : Does) → again ≡ alone tables body
    → let tells : Recorder = tell_statements tables params body in
    Split tables params (own ∷ on r (λ rows. tell_loop x again tells rows n site (before ++ own ∷ []) st)) (then_do r (λ rows. loop_over x (alone tables body) rows st)) js before
    ≡ own ∷ on (before_turns r st) (left tables params (on r (λ rows. turns site n x body rows 1 ∷ []) ++ js) (before ++ own ∷ []))
inner_turns tables params own before (Ok rows) x body n site st js number again same =
    let next : State = record st { env = with_found st.env (is_turn rows) } in
    subst (λ d. Split tables params (own ∷ tell_loop x d (tell_statements tables params body) rows n site (before ++ own ∷ []) st) (loop_over x (alone tables body) rows st) js before
    ≡ own ∷ left tables params (turns site n x body rows 1 ∷ js) (before ++ own ∷ []) next) (sym same)
    (ap (λ rs. own ∷ (tell_turns x (alone tables body) (tell_statements tables params body) rows 1 n site (before ++ own ∷ []) next ++ on (each_turn x (alone tables body) rows next) (left tables params js rs)))
    (sym (append_assoc before (own ∷ []) (tell_turns x (alone tables body) (tell_statements tables params body) rows 1 n site (before ++ own ∷ []) next))))
inner_turns tables params own before (Err e) x body n site st js number again same = refl

-- a branch behind its IF's own record
branch_runs : (tables : List TableInfo) (params : ℕ) (own : Record) (before : List Record) (b : Bool) (ys ns : List RStmt) (m n : ℕ) (site : Site) (st : State) (js : List Job)
    → Split tables params (own ∷ (if b then tell_statements tables params ys m site (before ++ own ∷ []) st else tell_statements tables params ns n site (before ++ own ∷ []) st)) (if b then alone tables ys st else alone tables ns st) js before
    ≡ own ∷ left tables params ((if b then run site m ys else run site n ns) ∷ js) (before ++ own ∷ []) st
branch_runs tables params own before true ys ns m n site st js =
    ap (λ rs. own ∷ (tell_statements tables params ys m site (before ++ own ∷ []) st ++ on (alone tables ys st) (left tables params js rs)))
    (sym (append_assoc before (own ∷ []) (tell_statements tables params ys m site (before ++ own ∷ []) st)))
branch_runs tables params own before false ys ns m n site st js =
    ap (λ rs. own ∷ (tell_statements tables params ns n site (before ++ own ∷ []) st ++ on (alone tables ns st) (left tables params js rs)))
    (sym (append_assoc before (own ∷ []) (tell_statements tables params ns n site (before ++ own ∷ []) st)))

branch_begins : (tables : List TableInfo) (params : ℕ) (own : Record) (before : List Record) (r : Result Value End) (ys ns : List RStmt) (m n : ℕ) (site : Site) (st : State) (js : List Job)
    → Split tables params (own ∷ on r (λ v. if is_so v then tell_statements tables params ys m site (before ++ own ∷ []) st else tell_statements tables params ns n site (before ++ own ∷ []) st))
    (then_do r (λ v. if is_so v then alone tables ys st else alone tables ns st)) js before
    ≡ own ∷ on (then_do r (λ v. Ok st)) (left tables params (on r (λ v. (if is_so v then run site m ys else run site n ns) ∷ []) ++ js) (before ++ own ∷ []))
branch_begins tables params own before (Ok v) ys ns m n site st js = branch_runs tables params own before (is_so v) ys ns m n site st js
branch_begins tables params own before (Err e) ys ns m n site st js = refl

then_loops : {A : Type 0} (r : Result A End) (rows : A → List (List Value)) (d : List (List Value) → Result State End)
    → then_do (then_do r (λ a. Ok (rows a))) d ≡ then_do r (λ a. d (rows a))
then_loops (Ok a) rows d = refl
then_loops (Err e) rows d = refl

sizes_map : (tables : List TableInfo) (params : ℕ) (ss : List RStmt) → map (λ (s : RStmt × Recorder). size s.0) (map (λ s. (s, tell tables params s)) ss) ≡ map size ss
sizes_map tables params [] = refl
sizes_map tables params (s ∷ ss) = ap (λ l. size s ∷ l) (sizes_map tables params ss)

sizes_same : (tables : List TableInfo) (params : ℕ) (ss : List RStmt) → total_size (map (λ (s : RStmt × Recorder). size s.0) (map (λ s. (s, tell tables params s)) ss)) ≡ size_of ss
sizes_same tables params ss = ap total_size (sizes_map tables params ss)

statement_begins : (tables : List TableInfo) (params : ℕ) (y : RStmt-F RStmt) (n : ℕ) (site : Site) (before : List Record) (st : State) (js : List Job) → Begins tables params y n site before st js
statement_begins tables params (Assign x e) n site before st js = refl
statement_begins tables params (Select cs xs t conds sorts offset) n site before st js = refl
statement_begins tables params (Total agg x t conds) n site before st js = refl
statement_begins tables params (ForSelect x once cs t conds sorts body) n site before st js =
    let own : Record = own_record tables params (ForSelect x once cs t conds sorts body) n site before st in
    let rows : Result (List (List Value)) End = fixed_rows tables (ForSelect x once cs t conds sorts body) st in
    let number : ℕ = length before in
    ap (λ out. Split tables params (tell_step tables params (with_tells tables params (ForSelect x once cs t conds sorts body)) n site before st) out js before)
    (sym (then_loops (tests_of (key_columns tables t) conds st.env) (λ tests. fixed once cs sorts (matching_in t tests st)) (λ rows. loop_over x (alone tables body) rows st)))
    ∙ inner_turns tables params own before rows x body (n + 1) (within_loop x number site) st js number _ (body_is tables params body)
statement_begins tables params (ForRows x y body) n site before st js =
    let own : Record = own_record tables params (ForRows x y body) n site before st in
    let number : ℕ = length before in
    inner_turns tables params own before (Ok (turns_at st.env y)) x body (n + 1) (within_loop x number site) st js number _ (body_is tables params body)
statement_begins tables params (Branch e ys ns) n site before st js =
    let own : Record = own_record tables params (Branch e ys ns) n site before st in
    let number : ℕ = length before in
    ap (λ m. Split tables params (own ∷ on (value_of e st.env []) (λ v. if is_so v then tell_statements tables params ys (n + 1) (within number site) (before ++ own ∷ []) st
    else tell_statements tables params ns (n + 1 + m) (within number site) (before ++ own ∷ []) st)) (then_do (value_of e st.env []) (λ v. if is_so v then alone tables ys st else alone tables ns st)) js before)
    (sizes_same tables params ys)
    ∙ branch_begins tables params own before (value_of e st.env []) ys ns (n + 1) (n + 1 + size_of ys) (within number site) st js
statement_begins tables params (Insert t es) n site before st js = refl
statement_begins tables params (Update t items conds) n site before st js = refl
statement_begins tables params (Delete t conds) n site before st js = refl
statement_begins tables params (Print es) n site before st js = refl
statement_begins tables params (Rollback reason) n site before st js = refl

-- the next statement leaves its own record; then comes what it holds, and what is left behind it
pub statement_first : (tables : List TableInfo) (params : ℕ) (y : RStmt-F RStmt) (site : Site) (n : ℕ) (ss : List RStmt) (js : List Job) (before : List Record) (st : State)
    → let own : Record = own_record tables params y n site before st in
    left tables params (run site n (roll-RStmt y ∷ ss) ∷ js) before st
    ≡ own ∷ on (itself tables y st) (left tables params (inside tables (length before) y n site st ++ run site (n + size (roll-RStmt y)) ss ∷ js) (before ++ own ∷ []))
statement_first tables params y site n ss js before st =
    let behind : List Job = run site (n + size (roll-RStmt y)) ss ∷ js in
    first_of_run tables params site n (roll-RStmt y) ss js before st
    ∙ (ap (λ these. Split tables params these (does tables (roll-RStmt y) st) behind before) (tell_is tables params y n site before st)
    ∙ (ap (λ out. Split tables params (tell_step tables params (with_tells tables params y) n site before st) out behind before) (does_is tables y st)
    ∙ statement_begins tables params y n site before st behind))

-- Whole runs

none_behind : (rs : List Record) (out : Result State End) → rs ++ on out (λ s. []) ≡ rs
none_behind rs (Ok s) = append-nil rs
none_behind rs (Err e) = append-nil rs

-- at the beginning of a call all its records are left
pub all_left : (tables : List TableInfo) (proc : ProcInfo) (call : Call) (db : Tables)
    → left tables (length call.arguments) (run outside 1 proc.body ∷ []) [] (begun proc call db) ≡ recorded tables proc call db
all_left tables proc call db = none_behind (recorded tables proc call db) (alone tables proc.body (begun proc call db))
