-- The records of a full run of a procedure on a database, in the order of execution, up to and including the first
-- record with an end. That each executed statement leaves one record is this project's own.
use Rattle.std.specs.Prelude.{ℕ, ◌+◌, List, [], ◌∷◌, ◌++◌, Option, Some, None, Result, map, length, slice_get, if◌then◌else◌}
use Rattle.mv_values.specs.declared.value.Value.{Value}
use Rattle.mv_values.specs.declared.schema.TableInfo.{TableInfo}
use Rattle.mv_values.specs.declared.calls.Call.{Call}
use Rattle.mv_values.specs.declared.calls.End.{End}
use Rattle.mv_values.specs.Tables.{Tables}
use Rattle.mv_catalog.specs.declared.resolved.ProcInfo.{ProcInfo}
use Rattle.mv_catalog.specs.declared.resolved.Program.{Program}
use Rattle.mv_catalog.specs.declared.resolved.RStmt.{RStmt}
use Rattle.mv_catalog.specs.declared.resolved.RStmt.TheOpen.{RStmt-F, ForSelect, ForRows, Branch}
use Rattle.mv_catalog.specs.declared.resolved.RStmt.TheFolds.{para-RStmt}
use Rattle.mv_catalog.specs.Statements.{size, total_size}
use Rattle.mv_eval.specs.declared.state.State.{State}
use Rattle.mv_eval.specs.declared.state.Content.TheVariants.{Turn}
use Rattle.mv_eval.specs.Env.{with_found, with_held}
use Rattle.mv_eval.specs.Value.{value_of, is_so}
use Rattle.mv_eval.specs.Alone.{Does, alone, does, is_turn}
use Rattle.mv_eval.specs.TableAfter.{begun, reply_in, tables_left}
use Rattle.mv_record.specs.declared.record.Record.{Record}
use Rattle.mv_record.specs.Runs.{Behavior}
use Rattle.mv_record.specs.Effects.{record_of}
use Rattle.mv_recorded.specs.Reading.{Loop, expressions, reads_of}
use Rattle.mv_recorded.specs.Asking.{on}
use Rattle.mv_recorded.specs.Doing.{fixed_rows, effect_of}

-- the site of statements in a run: the number of the record that directly controls them, the enclosing loops, innermost
-- first, and their iterations, outermost first
pub record Site : Type 0 where
  pub parent : Option ℕ
  pub loops : List Loop
  pub turns : List ℕ

-- the site in an IF, in a FOR, and in an iteration of it
abbrev pub within : ℕ → Site → Site
within number site = record site { parent = Some number }

abbrev pub within_loop : ℕ → ℕ → Site → Site
within_loop x number site = record { parent = Some number; loops = record { row = x; number = number } ∷ site.loops; turns = site.turns }

abbrev pub in_turn : ℕ → Site → Site
in_turn k site = record site { turns = site.turns ++ k ∷ [] }

-- the record of a statement itself, given its number in the text, its site, and the records and the state before it;
-- the first `params` variables are parameters
abbrev pub own_record : {X : Type 0} → List TableInfo → ℕ → RStmt-F X → ℕ → Site → List Record → State → Record
own_record tables params s n site before st =
    record_of (record { statement = n; turns = site.turns }) site.parent (reads_of params site.loops before (expressions s)) (effect_of tables s st)

-- the records of statements, if the first statement has this number in the text
abbrev pub Recorder : Type 0
Recorder = ℕ → Site → List Record → State → List Record

-- the records of statements in order
abbrev pub tell_all : List TableInfo → List (RStmt × Recorder) → Recorder
tell_all tables [] n site before st = []
tell_all tables (s ∷ ss) n site before st =
    let these : List Record = s.1 n site before st in
    these ++ on (does tables s.0 st) (tell_all tables ss (n + size s.0) site (before ++ these))

-- the records of the iterations of a loop, of which the first has number `k`
abbrev pub tell_turns : ℕ → Does → Recorder → List (List Value) → ℕ → Recorder
tell_turns x body tells [] k n site before st = []
tell_turns x body tells (row ∷ rows) k n site before st =
    let next : State = record st { env = with_held st.env x (Turn row) } in
    let these : List Record = tells n (in_turn k site) before next in
    these ++ on (body next) (tell_turns x body tells rows (k + 1) n site (before ++ these))

-- the records of a loop over rows
abbrev pub tell_loop : ℕ → Does → Recorder → List (List Value) → Recorder
tell_loop x body tells rows n site before st = tell_turns x body tells rows 1 n site before (record st { env = with_found st.env (is_turn rows) })

-- the effect of a list of statements, and its size
abbrev pub body_of : List TableInfo → List (RStmt × Recorder) → Does
body_of tables body = alone tables (map (λ s. s.0) body)

abbrev pub size_of : List (RStmt × Recorder) → ℕ
size_of body = total_size (map (λ s. size s.0) body)

-- the records of the statements in a statement whose own record has this number
abbrev pub tell_inner : List TableInfo → RStmt-F (RStmt × Recorder) → ℕ → Recorder
tell_inner tables (ForSelect x once cs t conds sorts body) number n site before st =
    on (fixed_rows tables (ForSelect x once cs t conds sorts body) st) (λ rows. tell_loop x (body_of tables body) (tell_all tables body) rows n (within_loop x number site) before st)
tell_inner tables (ForRows x y body) number n site before st =
    on (fixed_rows tables (ForRows x y body) st) (λ rows. tell_loop x (body_of tables body) (tell_all tables body) rows n (within_loop x number site) before st)
tell_inner tables (Branch e ys ns) number n site before st =
    on (value_of e st.env []) (λ v. if is_so v then tell_all tables ys n (within number site) before st
    else tell_all tables ns (n + size_of ys) (within number site) before st)
tell_inner tables s number n site before st = []

-- the record of a statement, followed by those of the statements in it
abbrev pub tell_step : List TableInfo → ℕ → RStmt-F (RStmt × Recorder) → Recorder
tell_step tables params s n site before st =
    let own : Record = own_record tables params s n site before st in
    own ∷ tell_inner tables s (length before) (n + 1) site (before ++ own ∷ []) st

abbrev pub tell : List TableInfo → ℕ → RStmt → Recorder
tell tables params = para-RStmt Recorder (tell_step tables params)

-- the records of a list of statements
abbrev pub tell_statements : List TableInfo → ℕ → List RStmt → Recorder
tell_statements tables params ss = tell_all tables (map (λ s. (s, tell tables params s)) ss)

-- the site outside all statements
abbrev pub outside : Site
outside = record { parent = None; loops = []; turns = [] }

-- the records of a full run of a call of a procedure on a database
abbrev pub recorded : List TableInfo → ProcInfo → Call → Tables → List Record
recorded tables proc call db = tell_statements tables (length call.arguments) proc.body 1 outside [] (begun proc call db)

-- the records of a call on a database; none if the procedure doesn't exist
abbrev pub records_in : Program → Option ProcInfo → Call → Tables → List Record
records_in p None call db = []
records_in p (Some proc) call db = recorded p.resolved.tables proc call db

abbrev pub records_at : Program → Option Call → Tables → List Record
records_at p None db = []
records_at p (Some call) db = records_in p (slice_get p.resolved.procedures call.procedure) call db

abbrev pub records : Program → ℕ → Tables → List Record
records p c db = records_at p (slice_get p.resolved.calls c) db

-- the results of the calls of a procedure: these records, and the reply and the database of the machine that runs the
-- call alone
abbrev pub meaning : List TableInfo → ProcInfo → Behavior
meaning tables proc call db =
    let outcome : Result State End = alone tables proc.body (begun proc call db) in
    record { records = recorded tables proc call db; reply = reply_in outcome; tables = tables_left db outcome }
