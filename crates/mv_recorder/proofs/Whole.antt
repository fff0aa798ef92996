-- Whole calls.
use Rattle.std.proofs.Common.{◌≡◌, List, Option, Some, None, Result, length, sym, ap, subst, arith}
use Rattle.mv_values.specs.declared.schema.TableInfo.{TableInfo}
use Rattle.mv_values.specs.declared.calls.Call.{Call}
use Rattle.mv_values.specs.declared.calls.End.{End}
use Rattle.mv_values.specs.Tables.{Tables}
use Rattle.mv_catalog.specs.declared.resolved.ProcInfo.{ProcInfo}
use Rattle.mv_catalog.specs.Text.{IsProcedure, vars_of}
use Rattle.mv_eval.specs.declared.state.State.{State}
use Rattle.mv_eval.specs.TableAfter.{begun, reply_in}
use Rattle.mv_recorder.specs.Running.{AreFit, Ends, replied}
use Rattle.mv_recorder.specs.Scenes.{AreSound, IsSound}

-- the statements of a procedure are well formed
pub procedure_fit : (tables : List TableInfo) (proc : ProcInfo) → IsProcedure tables proc → AreFit tables 1 proc.body
procedure_fit tables proc h = record { vars = vars_of proc; well = h.body; small = omega (arith, h.short) }

-- a call begins on sound tables
pub begun_sound : (tables : List TableInfo) (proc : ProcInfo) (call : Call) (db : Tables) (st : State) → IsProcedure tables proc → length call.arguments ≡ length proc.params → AreSound tables db → st ≡ begun proc call db
    → IsSound tables st.env st.tables
begun_sound tables proc call db st h count sound is =
    subst (λ (w : State). IsSound tables w.env w.tables) (sym is) (record { tables = sound; found = omega (arith, h.few, h.declared, count) })

-- the reply of a call that ended so
pub reply_is : (end : Option End) (st : State) (out : Result State End) → Ends end st out → replied end st.lines ≡ reply_in out
reply_is None st out h = sym (ap reply_in h)
reply_is (Some e) st out h = sym (ap reply_in h)
