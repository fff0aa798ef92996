-- Defines the position of a running call in its procedure, and what is left from there. This project's own.
use Rattle.std.specs.Prelude.{◌≡◌, ◌≤◌, ◌<◌, ℕ, ◌+◌, ◌-◌, Bool, true, false, ◌||◌, nat_lt, List, [], ◌∷◌, ◌++◌, Option, Some, None, length, take, drop, slice_get}
use Rattle.mv_values.specs.declared.value.Value.{Value}
use Rattle.mv_catalog.specs.declared.resolved.ProcInfo.{ProcInfo}
use Rattle.mv_catalog.specs.declared.resolved.RStmt.{RStmt, out-RStmt}
use Rattle.mv_catalog.specs.declared.resolved.RStmt.TheOpen.{RStmt-F, ForSelect, ForRows, Branch}
use Rattle.mv_eval.specs.declared.state.Env.{Env}
use Rattle.mv_eval.specs.declared.state.Content.TheVariants.{Turn}
use Rattle.mv_eval.specs.Env.{with_held}
use Rattle.mv_record.specs.declared.record.Record.{Record}
use Rattle.mv_recorded.specs.Recorded.{Site, outside, within, within_loop, in_turn}
use Rattle.mv_recorded.specs.Own.{rows_of}
use Rattle.mv_exec.specs.declared.frames.Holder.{Holder}
use Rattle.mv_exec.specs.declared.frames.Holder.TheVariants as by
use Rattle.mv_exec.specs.declared.frames.Frame.{Frame}
use Rattle.mv_catalog.specs.Statements.{size_of}
use Rattle.mv_graph.specs.declared.graph.Step.{Step}
use Rattle.mv_graph.specs.Steps.{HasText, TellsOf}
use Rattle.mv_exec.specs.Left.{Job, run, turns}

-- Lists of statements

-- the branches of an IF, and the body of a FOR
abbrev pub branch_in : Bool → RStmt-F RStmt → List RStmt
branch_in true (Branch e ys ns) = ys
branch_in false (Branch e ys ns) = ns
branch_in b s = []

abbrev pub body_in : RStmt-F RStmt → List RStmt
body_in (ForSelect x once cs t conds sorts body) = body
body_in (ForRows x y body) = body
body_in s = []

abbrev pub branch_of : Bool → RStmt → List RStmt
branch_of b s = branch_in b (out-RStmt s)

abbrev pub body_of : RStmt → List RStmt
body_of s = body_in (out-RStmt s)

-- the list that the holder names: the procedure's body, or a list of the statement that holds it
abbrev pub block_in : ProcInfo → Holder → Option RStmt → List RStmt
block_in proc by.Procedure s = proc.body
block_in proc (by.Branch number b) None = []
block_in proc (by.Branch number b) (Some s) = branch_of b s
block_in proc (by.Loop number x k) None = []
block_in proc (by.Loop number x k) (Some s) = body_of s

-- the list of a frame that this statement holds, and the statement before the frame, which holds the next frame
abbrev pub block_of : ProcInfo → Option RStmt → Frame → List RStmt
block_of proc s p = block_in proc p.holder s

abbrev pub statement_before : ProcInfo → Option RStmt → Frame → Option RStmt
statement_before proc s p = slice_get (block_of proc s p) (p.at - 1)

-- the statement that holds what lies inside the innermost frame, if this statement holds the first frame
abbrev pub holder_of : ProcInfo → Option RStmt → List Frame → Option RStmt
holder_of proc s [] = s
holder_of proc s (p ∷ ps) = holder_of proc (statement_before proc s p) ps

-- Sites

abbrev pub is_loop : Holder → Bool
is_loop by.Procedure = false
is_loop (by.Branch number b) = false
is_loop (by.Loop number x k) = true

abbrev pub site_in : Holder → Site → Site
site_in by.Procedure site = site
site_in (by.Branch number b) site = within number site
site_in (by.Loop number x k) site = in_turn k (within_loop x number site)

abbrev pub site_of : Site → List Frame → Site
site_of site [] = site
site_of site (p ∷ ps) = site_of (site_in p.holder site) ps

-- What is left

abbrev pub loop_rows : List Record → ℕ → List (List Value)
loop_rows rs number = rows_of (slice_get rs number)

abbrev pub some_run : Site → ℕ → List RStmt → List Job
some_run site n [] = []
some_run site n (s ∷ ss) = run site n (s ∷ ss) ∷ []

abbrev pub some_turns : Site → ℕ → ℕ → List RStmt → List (List Value) → ℕ → List Job
some_turns site n x body [] k = []
some_turns site n x body (row ∷ rows) k = turns site n x body (row ∷ rows) k ∷ []

-- the turns of a loop that are left
abbrev pub turns_of : List Record → Site → List RStmt → ℕ → Holder → List Job
turns_of rs site block first by.Procedure = []
turns_of rs site block first (by.Branch number b) = []
turns_of rs site block first (by.Loop number x k) = some_turns (within_loop x number site) first x block (drop k (loop_rows rs number)) (k + 1)

-- what is left at a frame in this list: the statements from it on, and the turns after this one
abbrev pub jobs_here : List Record → List RStmt → Site → Frame → List Job
jobs_here rs block site p = some_run (site_in p.holder site) p.number (drop p.at block) ++ turns_of rs site block p.first p.holder

-- what is left at frames, of which each lies in the statement that the one before has passed: the inner ones come first
abbrev pub jobs_of : ProcInfo → List Record → Option RStmt → Site → List Frame → List Job
jobs_of proc rs s site [] = []
jobs_of proc rs s site (p ∷ ps) = jobs_of proc rs (statement_before proc s p) (site_in p.holder site) ps ++ jobs_here rs (block_of proc s p) site p

abbrev pub jobs_left : ProcInfo → List Record → List Frame → List Job
jobs_left proc rs ps = jobs_of proc rs None outside ps

-- there is a turn after this one
abbrev pub has_turn : List Record → Holder → Bool
has_turn rs by.Procedure = false
has_turn rs (by.Branch number b) = false
has_turn rs (by.Loop number x k) = nat_lt k (length (loop_rows rs number))

-- there is a statement at the frame or after it, or a turn
abbrev pub is_left : List Record → List RStmt → Frame → Bool
is_left rs block p = nat_lt p.at (length block) || has_turn rs p.holder

-- something is left at the innermost frame
abbrev pub EndsLeft : ProcInfo → List Record → List Frame → Type 0
EndsLeft proc rs ps = (outer : List Frame) (p : Frame) → ps ≡ outer ++ p ∷ [] → is_left rs (block_of proc (holder_of proc None outer) p) p ≡ true

-- of the first i frames this many stay: nothing is left inside them
pub record StaysTo (proc : ProcInfo) (rs : List Record) (ps : List Frame) (i stay : ℕ) : Type 0 where
  pub within : stay ≤ i
  pub same : jobs_left proc rs (take stay ps) ≡ jobs_left proc rs (take i ps)
  pub ends : EndsLeft proc rs (take stay ps)

-- the property holds of each frame and the list in which it lies
abbrev pub Every : (List RStmt → Frame → Type 0) → ProcInfo → Option RStmt → List Frame → Type 0
Every P proc s [] = Unit {0}
Every P proc s (p ∷ ps) = P (block_of proc s p) p × Every P proc (statement_before proc s p) ps

-- each frame lies in a list that isn't empty
abbrev pub IsFilled : List RStmt → Frame → Type 0
IsFilled block p = 0 < length block

abbrev pub AreFilled : ProcInfo → Option RStmt → List Frame → Type 0
AreFilled = Every IsFilled

-- the text has the statements of its list at their number, and the frame's number tells how many of them are left
abbrev pub IsNumbered : ProcInfo → List RStmt → Frame → Type 0
IsNumbered proc block p = HasText proc p.first block × (p.number + size_of (drop p.at block) ≡ p.first + size_of block)

abbrev pub AreNumbered : ProcInfo → Option RStmt → List Frame → Type 0
AreNumbered proc = Every (IsNumbered proc) proc

-- this is the innermost frame, after those outside it, and it is before this statement
pub record HoldsFrame (proc : ProcInfo) (ps outer : List Frame) (p : Frame) (s : RStmt) : Type 0 where
  pub are : ps ≡ outer ++ p ∷ []
  pub stands : slice_get (block_of proc (holder_of proc None outer) p) p.at ≡ Some s

abbrev pub IsFrameAt : ProcInfo → List Frame → Frame → RStmt → Type 0
IsFrameAt proc ps p s = (outer : List Frame) × HoldsFrame proc ps outer p s

-- the innermost frame is before the statement of this step
pub record IsAtStep (proc : ProcInfo) (ps : List Frame) (p : Frame) (step : Step) : Type 0 where
  pub s : RStmt
  pub at : IsFrameAt proc ps p s
  pub tells : TellsOf proc s step

-- Turns

abbrev pub in_next_turn : Holder → Holder
in_next_turn by.Procedure = by.Procedure
in_next_turn (by.Branch number b) = by.Branch number b
in_next_turn (by.Loop number x k) = by.Loop number x (k + 1)

-- the frame before the first statement of the next turn
abbrev pub next_turn : Frame → Frame
next_turn p = record { holder = in_next_turn p.holder; first = p.first; at = 0; number = p.first }

-- the frame itself, or if a turn is due the frame in that turn
abbrev pub frame_due : Bool → Frame → Frame
frame_due true p = next_turn p
frame_due false p = p

abbrev pub with_turn : ℕ → Option (List Value) → Env → Env
with_turn x None env = env
with_turn x (Some row) env = with_held env x (Turn row)

-- the variables in the next turn
abbrev pub with_next_row : List Record → Holder → Env → Env
with_next_row rs by.Procedure env = env
with_next_row rs (by.Branch number b) env = env
with_next_row rs (by.Loop number x k) env = with_turn x (slice_get (loop_rows rs number) k) env
