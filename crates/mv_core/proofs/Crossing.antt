-- The history of a run may cross threads.
use denote.Struct.Declared.{shape}
use denote.Param.Send.{IsSend, IsSync, sendable, view_send, view_sync, recorded_send, recorded_sync, struct_send, struct_sync}
use Rattle.std.proofs.Crossing as std
use Rattle.std.proofs.MapsCrossing as maps
use Rattle.mv_values.proofs.list.List.TheSendSync as list
use Rattle.mv_values.proofs.boxed.Boxed.TheSendSync as boxed
use Rattle.mv_values.proofs.txt.Txt.TheSendSync as txt
use Rattle.mv_values.proofs.value.Value.TheSendSync as value
use Rattle.mv_values.proofs.op.Op.TheSendSync as op
use Rattle.mv_values.proofs.calls.Call.TheSendSync as call
use Rattle.mv_values.proofs.calls.Options.TheSendSync as options
use Rattle.mv_values.proofs.rows.Rows.TheSendSync as rows
use Rattle.mv_values.proofs.schema.TableInfo.TheSendSync as table
use Rattle.mv_ast.proofs.tree.OneOp.TheSendSync as one
use Rattle.mv_ast.proofs.tree.TwoOp.TheSendSync as two
use Rattle.mv_catalog.proofs.resolved.RSort.TheSendSync as sort
use Rattle.mv_catalog.proofs.resolved.RAgg.TheSendSync as agg
use Rattle.mv_catalog.proofs.resolved.ParamInfo.TheSendSync as param
use Rattle.mv_catalog.proofs.resolved.RExprKind.TheLaws.TheKnot as expr
use Rattle.mv_catalog.proofs.resolved.RStmt.TheLaws.TheKnot as stmt
use Rattle.mv_graph.specs.contracts.graph.Graph as Graph
use Rattle.mv_graph.proofs.graph.Node.TheSendSync as node
use Rattle.mv_changes.proofs.recent.Recent.TheSendSync as recent
use Rattle.mv_journal.proofs.event.Event.TheSendSync as event
use Rattle.mv_script.specs.contracts.script.CompiledScript as CompiledScript
use Rattle.mv_core.specs.contracts.book.Book as Book
use Rattle.mv_core.specs.contracts.book.Book.TheInside as Inside
use Rattle.mv_core.specs.contracts.shared.SharedScript as Shared
use Rattle.mv_core.specs.contracts.shared.SharedScript.TheInside as SharedInside
use Rattle.mv_core.proofs.live.LiveCalls.TheSendSync as live
use Rattle.mv_core.proofs.progress.Progress.TheSendSync as progress
use Rattle.mv_core.proofs.roomy.Roomy.TheSendSync as roomy

-- the parts of a graph
ruleset parts = (list.the_send, boxed.the_send, txt.the_send, value.the_field_send, value.the_send, op.the_field_send, op.the_send, one.the_field_send, one.the_send, two.the_field_send, two.the_send, sort.the_field_send, sort.the_send, agg.the_field_send, agg.the_send, param.the_field_send, param.the_send, table.the_field_send, table.the_send, node.the_field_send, node.the_send)

pub graph_send : IsSend Graph.the_row
graph_send = search (parts, std.crosses, expr.crosses, stmt.crosses, sendable) depth 60 fits 20000

pub script_send : IsSend CompiledScript.the_row
script_send = search (graph_send, list.the_send, call.the_field_send, call.the_send, rows.the_send, options.the_field_send, options.the_send, std.crosses, sendable) depth 60 fits 20000

-- threads may share a script, too
ruleset shares = (list.the_sync, boxed.the_sync, txt.the_sync, value.the_field_sync, value.the_sync, op.the_field_sync, op.the_sync, one.the_field_sync, one.the_sync, two.the_field_sync, two.the_sync, sort.the_field_sync, sort.the_sync, agg.the_field_sync, agg.the_sync, param.the_field_sync, param.the_sync, table.the_field_sync, table.the_sync, node.the_field_sync, node.the_sync)

pub graph_sync : IsSync Graph.the_row
graph_sync = search (shares, std.crosses, expr.crosses, stmt.crosses, sendable) depth 60 fits 20000

pub script_sync : IsSync CompiledScript.the_row
script_sync = search (graph_sync, list.the_sync, call.the_field_sync, call.the_sync, rows.the_sync, options.the_field_sync, options.the_sync, std.crosses, sendable) depth 60 fits 20000

pub shared_send : IsSend Shared.the_row
shared_send = view_send SharedInside.the_row _ _ _ _ (recorded_send (SharedInside.the_field).row _ _ (SharedInside.the_type).to_one (struct_send (shape SharedInside.the_type) (std.Arc-send CompiledScript.the_row script_send script_sync, tt)))

pub shared_sync : IsSync Shared.the_row
shared_sync = view_sync SharedInside.the_row _ _ _ _ (recorded_sync (SharedInside.the_field).row _ _ (SharedInside.the_type).to_one (struct_sync (shape SharedInside.the_type) (std.Arc-sync CompiledScript.the_row script_send script_sync, tt)))

ruleset others = (roomy.the_send, progress.the_send, progress.the_field_send, live.the_send, recent.the_send, event.the_send, event.the_field_send, std.crosses, sendable)

pub book_send : IsSend Book.the_row
book_send =
    view_send Inside.the_row _ _ _ _
    (recorded_send (Inside.the_field).row _ _ (Inside.the_type).to_one
    (struct_send (shape Inside.the_type)
    (shared_send, (search others depth 60 fits 20000, (search others depth 60 fits 20000, (search others depth 60 fits 20000, (live.the_send, (recent.the_send, (search others depth 60 fits 20000, (search others depth 60 fits 20000, (search others depth 60 fits 20000, tt)))))))))))
