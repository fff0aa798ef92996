-- Defines the script of a board and its passes. This project's own.
use Rattle.std.specs.Prelude.{ℕ, List}
use Rattle.atomic_table.specs.Seated.{TableId}
use Rattle.mv_values.specs.declared.calls.Call.{Call}
use Rattle.mv_values.specs.declared.calls.Options.{Options}
use Rattle.mv_values.specs.declared.rows.Keyed.{Keyed}
use Rattle.mv_graph.specs.declared.graph.Graph.{Graph}

-- the script of a board and its passes
pub record BoardScript : Type 0 where
  -- the graphs of the procedures
  pub graphs : List Graph
  -- the calls; a history is a list of their numbers
  pub calls : List Call
  -- the database that the calls begin with
  pub opening : List (List Keyed)
  -- how calls are executed
  pub options : Options
  -- the number of shards, each of which has a mark on the board
  pub shards : ℕ

-- what contracts see of a board without a name: its identity, and its script
pub record Made : Type 0 where
  pub board : TableId
  pub script : BoardScript
