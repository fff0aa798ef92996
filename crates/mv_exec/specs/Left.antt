-- Defines what is left of a run from a frame on: the records that it will still add. This project's own.
use Rattle.std.specs.Prelude.{ℕ, ◌+◌, List, [], ◌∷◌, ◌++◌, if◌then◌else◌}
use Rattle.mv_catalog.specs.Statements.{size_of}
use Rattle.mv_values.specs.declared.value.Value.{Value}
use Rattle.mv_values.specs.declared.schema.TableInfo.{TableInfo}
use Rattle.mv_catalog.specs.declared.resolved.RStmt.{RStmt}
use Rattle.mv_catalog.specs.declared.resolved.RStmt.TheOpen.{RStmt-F, ForSelect, ForRows, Branch}
use Rattle.mv_eval.specs.declared.state.State.{State}
use Rattle.mv_eval.specs.Value.{value_of, is_so}
use Rattle.mv_eval.specs.Alone.{Does, alone, each_turn}
use Rattle.mv_record.specs.declared.record.Record.{Record}
use Rattle.mv_recorded.specs.Asking.{on}
use Rattle.mv_recorded.specs.Doing.{fixed_rows}
use Rattle.mv_recorded.specs.Recorded.{Site, tell_statements, tell_turns, within, within_loop}

-- a part of what is left: statements one after another, of which the first has this number in the text; or turns of a
-- loop, of which the first has this number
pub data Job : Type 0 where
  run : Site → ℕ → List RStmt → Job
  turns : Site → ℕ → ℕ → List RStmt → List (List Value) → ℕ → Job

-- how a job changes the state
abbrev pub does_job : List TableInfo → Job → Does
does_job tables (run site n ss) = alone tables ss
does_job tables (turns site n x body rows k) = each_turn x (alone tables body) rows

-- the records that a job adds after others
abbrev pub tells_job : List TableInfo → ℕ → Job → List Record → State → List Record
tells_job tables params (run site n ss) before st = tell_statements tables params ss n site before st
tells_job tables params (turns site n x body rows k) before st = tell_turns x (alone tables body) (tell_statements tables params body) rows k n site before st

-- the records that these jobs add, one after another
abbrev pub left : List TableInfo → ℕ → List Job → List Record → State → List Record
left tables params [] before st = []
left tables params (j ∷ js) before st =
    let these : List Record = tells_job tables params j before st in
    these ++ on (does_job tables j st) (left tables params js (before ++ these))

-- the jobs inside a statement whose record has this number, from the state before it: the branch that it takes, or all
-- its turns
abbrev pub inside : List TableInfo → ℕ → RStmt-F RStmt → ℕ → Site → State → List Job
inside tables number (ForSelect x once cs t conds sorts body) n site st =
    on (fixed_rows tables (ForSelect x once cs t conds sorts body) st) (λ rows. turns (within_loop x number site) (n + 1) x body rows 1 ∷ [])
inside tables number (ForRows x y body) n site st =
    on (fixed_rows tables (ForRows x y body) st) (λ rows. turns (within_loop x number site) (n + 1) x body rows 1 ∷ [])
inside tables number (Branch e ys ns) n site st =
    on (value_of e st.env []) (λ v. (if is_so v then run (within number site) (n + 1) ys else run (within number site) (n + 1 + size_of ys) ns) ∷ [])
inside tables number s n site st = []
