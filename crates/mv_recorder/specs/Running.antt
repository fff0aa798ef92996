-- A run of statements that leaves records.
use Rattle.std.specs.Prelude.{◌≡◌, ◌<◌, ◌+◌, ◌^◌, ℕ, List, [], Option, Some, None, Result, Ok, Err, if◌then◌else◌}
use Rattle.mv_values.specs.declared.calls.End.{End}
use Rattle.mv_values.specs.declared.calls.Reply.{Reply}
use Rattle.mv_values.specs.declared.schema.TableInfo.{TableInfo}
use Rattle.mv_values.specs.declared.value.Value.{Value}
use Rattle.mv_catalog.specs.declared.resolved.RStmt.{RStmt}
use Rattle.mv_catalog.specs.declared.resolved.RStmt.TheOpen.{RStmt-F, ForSelect, ForRows, Branch}
use Rattle.mv_catalog.specs.Statements.{all_well, IsWell, size_of}
use Rattle.mv_catalog.specs.Types.{Vars}
use Rattle.mv_eval.specs.declared.state.State.{State}
use Rattle.mv_eval.specs.declared.state.Stop.{Stop}
use Rattle.mv_eval.specs.declared.state.Stop.TheVariants.{Memory, Ended}
use Rattle.mv_eval.specs.Results.{then_do}
use Rattle.mv_eval.specs.Value.{value_of, is_so}
use Rattle.mv_eval.specs.Alone.{Does, alone, each_turn}
use Rattle.mv_record.specs.declared.record.Record.{Record}
use Rattle.mv_recorded.specs.Asking.{on}
use Rattle.mv_recorded.specs.Recorded.{Site, tell_statements, tell_turns, within, within_loop}

-- these are the records of statements that went on or ended; nothing is said where memory ran out
abbrev pub Leave : {A : Type 0} → Result A Stop → List Record → List Record → Type 0
Leave (Ok x) left meant = left ≡ meant
Leave (Err Memory) left meant = Unit {0}
Leave (Err (Ended e)) left meant = left ≡ meant

-- with some variables in scope the statement is well formed
abbrev pub IsFit : List TableInfo → RStmt → Type 0
IsFit infos s = (vars : Vars) × IsWell infos s vars

-- statements of a text, of which the first has this number: with some variables in scope each is well formed, and their
-- numbers are small
pub record AreFit (infos : List TableInfo) (n : ℕ) (ss : List RStmt) : Type 0 where
  pub vars : Vars
  pub well : all_well (IsWell infos) ss vars
  pub small : n + size_of ss < 2 ^ 16

-- the branches of an IF, of which the first begins with this number
pub record IsBranchFit (infos : List TableInfo) (n : ℕ) (ys ns : List RStmt) : Type 0 where
  pub first : AreFit infos n ys
  pub second : AreFit infos (n + size_of ys) ns

-- the statements that a statement holds, of which the first has this number
abbrev pub HoldsFit : List TableInfo → ℕ → RStmt-F RStmt → Type 0
HoldsFit infos n (ForSelect x once cs t conds sorts body) = AreFit infos n body
HoldsFit infos n (ForRows x y body) = AreFit infos n body
HoldsFit infos n (Branch e ys ns) = IsBranchFit infos n ys ns
HoldsFit infos n s = Unit {0}

-- the records of what a statement holds, after its own record, which has this number and these rows
abbrev pub tell_held : List TableInfo → ℕ → RStmt-F RStmt → List (List Value) → ℕ → ℕ → Site → List Record → State → List Record
tell_held tables params (ForSelect x once cs t conds sorts body) rows own n site before st =
    tell_turns x (alone tables body) (tell_statements tables params body) rows 1 n (within_loop x own site) before st
tell_held tables params (ForRows x y body) rows own n site before st = tell_turns x (alone tables body) (tell_statements tables params body) rows 1 n (within_loop x own site) before st
tell_held tables params (Branch e ys ns) rows own n site before st =
    on (value_of e st.env []) (λ v. if is_so v then tell_statements tables params ys n (within own site) before st
    else tell_statements tables params ns (n + size_of ys) (within own site) before st)
tell_held tables params s rows own n site before st = []

-- what a statement does after itself
abbrev pub does_held : List TableInfo → RStmt-F RStmt → List (List Value) → Does
does_held tables (ForSelect x once cs t conds sorts body) rows st = each_turn x (alone tables body) rows st
does_held tables (ForRows x y body) rows st = each_turn x (alone tables body) rows st
does_held tables (Branch e ys ns) rows st = then_do (value_of e st.env []) (λ v. if is_so v then alone tables ys st else alone tables ns st)
does_held tables s rows st = Ok st

-- how statements ended: in this state, or with this end
abbrev pub Ends : Option End → State → Result State End → Type 0
Ends None st outcome = outcome ≡ Ok st
Ends (Some e) st outcome = outcome ≡ Err e

-- the reply of a call with this end, or without one and with these lines
abbrev pub replied : Option End → List (List ℕ) → Reply
replied None lines = record { lines = lines; end = None }
replied (Some e) lines = record { lines = []; end = Some e }
