use Rattle.std.proofs.Common.{◌≡◌, ◌+◌, ◌++◌, drop, map, length}
use Rattle.mv_catalog.specs.Statements.{size, total_size}
use Rattle.mv_graph.specs.Nodes.{body_nodes}
use Rattle.mv_compile.proofs.nodes.+nodes.Given as goal

abbrev pub invariant-add_nodes-loop-statement : goal.invariant-add_nodes-loop-statement
invariant-add_nodes-loop-statement l = record {
  nodes : l.nodes ++ body_nodes l.slots.tables.now l.slots.params l.slots.found (drop l.statement-index l.statements) (length l.nodes + 1) l.holder l.loops
      ≡ l.fn.nodes ++ body_nodes l.slots.tables.now l.slots.params l.slots.found l.statements (length l.fn.nodes + 1) l.holder l.loops;
  room : length l.nodes + total_size (map size (drop l.statement-index l.statements)) ≡ length l.fn.nodes + total_size (map size l.statements);
}
