-- Threads may share a gate.
use Rattle.std.proofs.Common.{ℕ, List, [], ◌∷◌}
use denote.RattleType.{RattleType}
use denote.Struct.Declared.{shape}
use denote.Struct.Tuple.{TupleAt, field_at, type_at}
use denote.Param.Send.{IsSend, IsSync, sendable, view_send, recorded_send, recorded_sync, struct_send, struct_sync}
use Rattle.std.proofs.Crossing as std
use Rattle.std.proofs.sync.Mutex.TheSendSync as mutex
use Rattle.mv_values.proofs.list.List.TheSendSync as list
use Rattle.mv_seats.specs.declared.board.Making.{Ghosts}
use Rattle.mv_seats.proofs.board.Board.TheSendSync as board
use Rattle.mv_grace.specs.declared.grace.Naming.{Ghosts as Words}
use Rattle.mv_grace.proofs.grace.Grace.TheSendSync as grace
use Rattle.mv_shards.proofs.ledger.Ledger.TheSendSync as ledger
use Rattle.mv_shards.proofs.shards.Shards.TheSendSync as shards
use Rattle.mv_core.proofs.Crossing.{book_send, shared_sync}
use Rattle.mv_gate.specs.contracts.scheduler.Scheduler as Scheduler
use Rattle.mv_gate.specs.contracts.scheduler.Scheduler.TheInside as Inside
use Rattle.mv_gate.proofs.reader_pins.ReaderPins.TheSendSync as reader_pins
use Rattle.mv_gate.specs.contracts.state.GateState as GateState
use Rattle.mv_gate.specs.contracts.gate.Gate as Gate

-- what the lock guards
scheduler_send : (N : RattleType) (m : Ghosts N.Denot) (w : Words N.Denot) → IsSend (Scheduler.the_row N m w)
scheduler_send N m w =
    view_send (Inside.the_row N m w) _ _ _ _
    (recorded_send (Inside.the_field N m w).row _ _ (Inside.the_type N m w).to_one
    (struct_send (shape (Inside.the_type N m w)) (book_send, (ledger.the_send N m w, (search (list.the_send, std.crosses, sendable) depth 40, tt)))))

state_send : (N : RattleType) (m : Ghosts N.Denot) (w : Words N.Denot) → IsSend (GateState.the_row N m w)
state_send N m w =
    recorded_send (GateState.the_field N m w).row _ _ (GateState.the_type N m w).to_one
    (struct_send (shape (GateState.the_type N m w)) (scheduler_send N m w, (reader_pins.the_field_send N m w, (search (std.crosses, sendable) depth 40, tt))))

gate_field_sync : (N : RattleType) (m : Ghosts N.Denot) (w : Words N.Denot) → IsSync (Gate.the_field N m w).row
gate_field_sync N m w =
    struct_sync (shape (Gate.the_type N m w))
    (board.the_field_sync N m, (shards.the_field_sync N m w, (grace.the_field_sync N w, (shared_sync, (mutex.the_sync (GateState.the_row N m w) (state_send N m w), tt)))))

-- threads may share a gate
pub gate_sync : (N : RattleType) (m : Ghosts N.Denot) (w : Words N.Denot) → IsSync (Gate.the_row N m w)
gate_sync N m w = recorded_sync (Gate.the_field N m w).row _ _ (Gate.the_type N m w).to_one (gate_field_sync N m w)

-- threads may share a closure that borrows four things if they may share those
pub four_sync : (name : List ℕ) (A B C D : RattleType) → IsSync A → IsSync B → IsSync C → IsSync D → IsSync (TupleAt name (A ∷ B ∷ C ∷ D ∷ []))
four_sync name A B C D a b c d =
    let Rs = A ∷ B ∷ C ∷ D ∷ [] in recorded_sync (field_at name Rs).row _ _ (type_at name Rs).to_one (struct_sync (shape (type_at name Rs)) (a, (b, (c, (d, tt)))))
