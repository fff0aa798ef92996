-- Calls that run alone, one after another: their replies, and the database after each of them. This project's own.
use Rattle.std.specs.Prelude.{◌≡◌, ℕ, zero, suc, ◌+◌, ◌<◌, List, [], ◌∷◌, ◌++◌, Option, Some, None, Result, Ok, Err, All, AllPairs, map, length, slice_get, slice_index}
use Rattle.mv_values.specs.declared.calls.Argument.{Argument}
use Rattle.mv_values.specs.declared.calls.Argument.TheVariants.{One, Many}
use Rattle.mv_values.specs.declared.calls.Call.{Call}
use Rattle.mv_values.specs.declared.calls.Reply.{Reply}
use Rattle.mv_values.specs.declared.calls.End.{End}
use Rattle.mv_values.specs.Tables.{Tables}
use Rattle.mv_values.specs.Counts.{first_numbers}
use Rattle.mv_catalog.specs.declared.resolved.Program.{Program}
use Rattle.mv_catalog.specs.declared.resolved.ProcInfo.{ProcInfo}
use Rattle.mv_eval.specs.declared.state.Content.{Content}
use Rattle.mv_eval.specs.declared.state.Content.TheVariants.{Scalar, Turns}
use Rattle.mv_eval.specs.declared.state.Env.{Env}
use Rattle.mv_eval.specs.declared.state.State.{State}
use Rattle.mv_eval.specs.Env.{unset}
use Rattle.mv_eval.specs.Alone.{alone}

abbrev pub argument_held : Argument → Content
argument_held (One v) = Scalar v
argument_held (Many rows) = Turns rows

-- the variables that a call begins with: its arguments, the declared variables, and `:found`
abbrev pub entered : ProcInfo → Call → Env
entered proc call = record {
  held = (map argument_held call.arguments ++ map Scalar proc.defaults) ++ unset ∷ [];
  found = length call.arguments + length proc.defaults;
}

abbrev pub begun : ProcInfo → Call → Tables → State
begun proc call db = record { env = entered proc call; tables = db; lines = [] }

-- what a call of a procedure does alone on a database
abbrev pub result_in : Program → Option ProcInfo → Call → Tables → Result State End
result_in p None call db = Ok (record { env = record { held = []; found = 0 }; tables = db; lines = [] })
result_in p (Some proc) call db = alone p.resolved.tables proc.body (begun proc call db)

abbrev pub result_at : Program → Option Call → Tables → Result State End
result_at p None db = Ok (record { env = record { held = []; found = 0 }; tables = db; lines = [] })
result_at p (Some call) db = result_in p (slice_get p.resolved.procedures call.procedure) call db

-- what the call of this number does alone on a database
abbrev pub result_of : Program → ℕ → Tables → Result State End
result_of p c db = result_at p (slice_get p.resolved.calls c) db

-- the database after a result; it is unchanged if the call was rolled back
abbrev pub tables_left : Tables → Result State End → Tables
tables_left db (Ok st) = st.tables
tables_left db (Err e) = db

-- its lines and no end, or no lines and its end
abbrev pub reply_in : Result State End → Reply
reply_in (Ok st) = record { lines = st.lines; end = None }
reply_in (Err e) = record { lines = []; end = Some e }

-- the reply of a call that doesn't run
abbrev pub no_reply : Reply
no_reply = record { lines = []; end = None }

-- the database after the first k calls of the order
abbrev pub table_after : Program → List ℕ → ℕ → Tables
table_after p order zero = p.opening
table_after p order (suc k) = tables_left (table_after p order k) (result_of p (slice_index order k) (table_after p order k))

-- the reply of the k-th call of the order, counted from 1
abbrev pub reply_of : Program → List ℕ → ℕ → Reply
reply_of p order zero = no_reply
reply_of p order (suc k) = reply_in (result_of p (slice_index order k) (table_after p order k))

-- all calls of the program in order
abbrev pub call_order : Program → List ℕ
call_order p = first_numbers (length p.resolved.calls)

-- the order has calls of the program, each at most once
abbrev pub IsOrder : Program → List ℕ → Type 0
IsOrder p order = All (λ c. c < length p.resolved.calls) order × AllPairs (λ a b. a ≡ b → ⊥) order

-- each call of the order has its reply
abbrev pub RepliesOf : Program → List ℕ → List Reply → Type 0
RepliesOf p order replies = (k : ℕ) → k < length order → slice_get replies (slice_index order k) ≡ Some (reply_of p order (suc k))

-- a call that is rolled back has no lines, and leaves the database as it was before it
abbrev pub StoppedUnchanged : Program → List ℕ → List Reply → Type 0
StoppedUnchanged p order replies =
    (k : ℕ) → k < length order → (r : Reply) (e : End) → slice_get replies (slice_index order k) ≡ Some r → r.end ≡ Some e
    → (r.lines ≡ []) × (table_after p order (suc k) ≡ table_after p order k)

-- a call that isn't in the order has a reply without lines
abbrev pub OthersSilent : Program → List ℕ → List Reply → Type 0
OthersSilent p order replies = (c : ℕ) → c < length p.resolved.calls → All (λ d. d ≡ c → ⊥) order → slice_get replies c ≡ Some no_reply
