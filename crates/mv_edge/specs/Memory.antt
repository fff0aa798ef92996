-- What contracts see of a source and of a sink in memory.
use Rattle.std.specs.Prelude.{◌≡◌, ◌<◌, ℕ, List, length}
use Rattle.mv_edge.specs.declared.fault_plan.FaultPlan.{FaultPlan}

-- a source: the bytes that are left, which calls fail, and how many calls and faults it had
pub record SourceState : Type 0 where
  pub left : List ℕ
  pub plan : FaultPlan

-- a sink: the bytes that were written, the room for more, which calls fail, and how many calls and faults it had
pub record SinkState : Type 0 where
  pub written : List ℕ
  pub room : ℕ
  pub plan : FaultPlan

-- the piece isn't empty, and the sink has no room
abbrev pub IsTooFull : SinkState → List ℕ → Type 0
IsTooFull sink piece = (0 < length piece) × (sink.room ≡ 0)
