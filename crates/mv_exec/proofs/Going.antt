-- What is left goes on the same.
use Rattle.std.proofs.Common.{◌≡◌, ℕ, List, [], ◌∷◌, ◌++◌, Result, Ok, Err, refl, ap}
use Rattle.mv_values.specs.declared.value.Value.{Value}
use Rattle.mv_values.specs.declared.calls.End.{End}
use Rattle.mv_values.specs.declared.schema.TableInfo.{TableInfo}
use Rattle.mv_catalog.specs.declared.resolved.RStmt.{RStmt}
use Rattle.mv_eval.specs.declared.state.State.{State}
use Rattle.mv_record.specs.declared.record.Record.{Record}
use Rattle.mv_recorded.specs.Asking.{on}
use Rattle.mv_recorded.specs.Recorded.{Site}
use Rattle.mv_exec.specs.Left.{Job, run, turns, does_job, tells_job, left}
use Rattle.mv_exec.specs.Frames.{some_run, some_turns}
use Rattle.mv_exec.proofs.Leaving.{run_ends, turns_end}

-- the same is left behind all records and from all states
abbrev pub Same : List TableInfo → ℕ → List Job → List Job → Type 0
Same tables params js ks = (before : List Record) (st : State) → left tables params js before st ≡ left tables params ks before st

same_on : (r : Result State End) (f g : State → List Record) → ((st : State) → f st ≡ g st) → on r f ≡ on r g
same_on (Ok st) f g h = h st
same_on (Err e) f g h = refl

pub same_behind : (tables : List TableInfo) (params : ℕ) (j : Job) (js ks : List Job) → Same tables params js ks → Same tables params (j ∷ js) (j ∷ ks)
same_behind tables params j js ks h before st =
    let these : List Record = tells_job tables params j before st in
    ap (λ rest. these ++ rest) (same_on (does_job tables j st) (left tables params js (before ++ these)) (left tables params ks (before ++ these)) (h (before ++ these)))

pub same_all_behind : (tables : List TableInfo) (params : ℕ) (is js ks : List Job) → Same tables params js ks → Same tables params (is ++ js) (is ++ ks)
same_all_behind tables params [] js ks h = h
same_all_behind tables params (i ∷ is) js ks h = same_behind tables params i (is ++ js) (is ++ ks) (same_all_behind tables params is js ks h)

-- a run of no statements, and turns of no rows, may be left out
pub same_run : (tables : List TableInfo) (params : ℕ) (site : Site) (n : ℕ) (ss : List RStmt) (js : List Job) → Same tables params (run site n ss ∷ js) (some_run site n ss ++ js)
same_run tables params site n [] js before st = run_ends tables params site n js before st
same_run tables params site n (s ∷ ss) js before st = refl

pub same_turns : (tables : List TableInfo) (params : ℕ) (site : Site) (n x : ℕ) (body : List RStmt) (rows : List (List Value)) (k : ℕ) (js : List Job)
    → Same tables params (turns site n x body rows k ∷ js) (some_turns site n x body rows k ++ js)
same_turns tables params site n x body [] k js before st = turns_end tables params site n x body k js before st
same_turns tables params site n x body (row ∷ rows) k js before st = refl
