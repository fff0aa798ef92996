-- What a record determines of the state after its statement. That a record has the whole effect of its statement is
-- this project's own.
use Rattle.std.specs.Prelude.{◌≡◌, ◌≤◌, List, [], ◌∷◌, ◌++◌, Some, None, Result, Ok, Err, option_to_list, length}
use Rattle.mv_values.specs.declared.calls.End.{End}
use Rattle.mv_values.specs.Patching.{applied}
use Rattle.mv_catalog.specs.declared.resolved.RStmt.TheOpen.{RStmt-F, Select}
use Rattle.mv_eval.specs.declared.state.Env.{Env}
use Rattle.mv_eval.specs.declared.state.State.{State}
use Rattle.mv_eval.specs.Env.{with_value}
use Rattle.mv_record.specs.declared.record.Slot.{Slot}
use Rattle.mv_record.specs.declared.record.Record.{Record}

-- the variables after these are set, in order
abbrev pub with_slots : List Slot → Env → Env
with_slots [] env = env
with_slots (s ∷ ss) env = with_slots ss (with_value env s.slot s.value)

-- the state after a record
abbrev pub behind : Record → State → State
behind r st = record { env = with_slots r.sets st.env; tables = applied r.writes st.tables; lines = st.lines ++ option_to_list r.line }

-- a record that ends the call has no effect other than the end
pub record EndsOnly (e : End) (r : Record) : Type 0 where
  pub sets : r.sets ≡ []
  pub rows : r.rows ≡ []
  pub writes : r.writes ≡ []
  pub line : r.line ≡ None
  pub end : r.end ≡ Some e

-- a record determines the result of its statement in a state
abbrev pub TellsEffect : Record → State → Result State End → Type 0
TellsEffect r st (Ok next) = (r.end ≡ None) × (next ≡ behind r st)
TellsEffect r st (Err e) = EndsOnly e r

-- each target of a SELECT has a column
abbrev pub HasColumns : {X : Type 0} → RStmt-F X → Type 0
HasColumns (Select cs xs t conds sorts offset) = length xs ≤ length cs
HasColumns s = Unit {0}
