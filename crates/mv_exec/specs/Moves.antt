-- Defines where a running call continues after a record. This project's own.
use Rattle.std.specs.Prelude.{ℕ, ◌+◌, Bool, List, [], ◌∷◌, if◌then◌else◌}
use Rattle.mv_values.specs.declared.value.Value.{Value}
use Rattle.mv_catalog.specs.Statements.{size_of}
use Rattle.mv_catalog.specs.declared.resolved.RStmt.{RStmt}
use Rattle.mv_catalog.specs.declared.resolved.RStmt.TheOpen.{RStmt-F, ForSelect, ForRows, Branch}
use Rattle.mv_eval.specs.declared.state.Env.{Env}
use Rattle.mv_eval.specs.declared.state.Content.TheVariants.{Turn}
use Rattle.mv_eval.specs.Env.{with_held}
use Rattle.mv_exec.specs.declared.frames.Holder.{Holder}
use Rattle.mv_exec.specs.declared.frames.Holder.TheVariants as by
use Rattle.mv_exec.specs.declared.frames.Frame.{Frame}

-- before the first statement of a list that isn't empty
abbrev pub branch_frame : Holder → ℕ → List RStmt → List Frame
branch_frame h first [] = []
branch_frame h first (s ∷ ss) = record { holder = h; first = first; at = 0; number = first } ∷ []

-- before the first turn of a loop whose body isn't empty: past all its statements
abbrev pub loop_frame : ℕ → ℕ → ℕ → List RStmt → List Frame
loop_frame number x first [] = []
loop_frame number x first (s ∷ ss) = record { holder = by.Loop number x 0; first = first; at = size_of (s ∷ ss); number = first + size_of (s ∷ ss) } ∷ []

-- the frame inside a statement; the numbers are those of its record and of the statement, and an IF takes this branch
abbrev pub inner_frames : ℕ → ℕ → Bool → RStmt-F RStmt → List Frame
inner_frames number n b (Branch e ys ns) = if b then branch_frame (by.Branch number b) (n + 1) ys else branch_frame (by.Branch number b) (n + 1 + size_of ys) ns
inner_frames number n b (ForSelect x once cs t conds sorts body) = loop_frame number x (n + 1) body
inner_frames number n b (ForRows x y body) = loop_frame number x (n + 1) body
inner_frames number n b s = []

-- the frame after a statement of this size
abbrev pub frame_after : ℕ → Frame → Frame
frame_after size p = record p { at = p.at + 1; number = p.number + size }

-- the variables after turns of an empty body, which only set the loop's row
abbrev pub after_turns : ℕ → List (List Value) → Env → Env
after_turns x [] env = env
after_turns x (row ∷ rows) env = after_turns x rows (with_held env x (Turn row))

abbrev pub after_empty_body : ℕ → List RStmt → List (List Value) → Env → Env
after_empty_body x [] rows env = after_turns x rows env
after_empty_body x (s ∷ ss) rows env = env

-- a loop with an empty body runs all its turns at once
abbrev pub after_empty_loop : RStmt-F RStmt → List (List Value) → Env → Env
after_empty_loop (ForSelect x once cs t conds sorts body) rows env = after_empty_body x body rows env
after_empty_loop (ForRows x y body) rows env = after_empty_body x body rows env
after_empty_loop s rows env = env
