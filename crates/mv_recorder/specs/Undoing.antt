-- Changes of rows, and how to undo them. This project's own.
use Rattle.std.specs.Prelude.{◌≡◌, List, [], ◌∷◌, slice_set, Result, Ok, Err}
use Rattle.mv_values.specs.Patching.{placed}
use Rattle.mv_values.specs.Tables.{rows_at, Tables}
use Rattle.mv_eval.specs.declared.state.Stop.{Stop}
use Rattle.mv_eval.specs.declared.state.Stop.TheVariants.{Memory, Ended}
use Rattle.mv_recorder.specs.declared.undo.Was.{Was}

-- the database with the row under a key as it was
abbrev pub put_back : Was → Tables → Tables
put_back was db = slice_set db was.table (placed was.key was.row (rows_at db was.table))

-- the last row is put back first
abbrev pub all_back : List Was → Tables → Tables
all_back [] db = db
all_back (was ∷ earlier) db = put_back was (all_back earlier db)

-- putting all back leads to the same database as before
abbrev pub KeepsBack : List Was → Tables → List Was → Tables → Type 0
KeepsBack before db after new = all_back after new ≡ all_back before db

-- so it does, unless memory ran out
abbrev pub StaysBack : Result (Unit {0}) Stop → List Was → Tables → List Was → Tables → Type 0
StaysBack (Ok x) before db after new = KeepsBack before db after new
StaysBack (Err Memory) before db after new = Unit {0}
StaysBack (Err (Ended e)) before db after new = KeepsBack before db after new
