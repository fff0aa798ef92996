use Rattle.std.proofs.Common.{◌∙◌, ap, ◌++◌, ◌+◌, length}
use Rattle.std.proofs.lemmas.Result.{on_ok_weaker}
use Rattle.mv_graph.specs.Nodes.{nodes_of}
use Rattle.mv_compile.proofs.Adding.{both_branches, own_first, one_more, one_more_counted}
use Rattle.mv_compile.proofs.nodes.+nodes.Goals as goal

pub add_held-returns-in_ok-add_nodes-in-Branch : goal.add_held-returns-in_ok-add_nodes-in-Branch
add_held-returns-in_ok-add_nodes-in-Branch t c = on_ok_weaker c.add_nodes-in-Branch.result (λ h.
    both_branches c.args.slots.tables.now c.args.slots.params c.args.slots.found c.args.nodes.now c.add_nodes.new.nodes c.add_nodes-in-Branch.new.nodes c.args.statement.now c.in-Branch.test c.in-Branch.yes c.in-Branch.no
    c.as_slice-in-Branch.result.now c.as_slice-in-Branch-2.result.now c.len.result c.args.loops.now c.in-Branch.is c.as_slice-in-Branch.ensures c.as_slice-in-Branch-2.ensures c.len.ensures
    c.in_ok-add_nodes-in-Branch.ensures.nodes h) c.add_nodes-in-Branch.ensures.nodes

pub add_node-returns : goal.add_node-returns
add_node-returns t c =
    on_ok_weaker c.add_held.result (λ h.
    own_first c.args.slots.tables.now c.args.slots.params c.args.slots.found c.args.nodes.now c.push.new.self c.add_held.new.nodes c.in_ok-own_node.field-0 c.args.statement.now c.args.holder c.args.loops.now
    c.in_ok-own_node.ensures c.in_ok-push.ensures.ok h) c.add_held.ensures

pub add_nodes-loop-statement-preserved : goal.add_nodes-loop-statement-preserved
add_nodes-loop-statement-preserved t c =
    let tables = c.args.slots.tables.now in
    let params = c.args.slots.params in
    let found = c.args.slots.found in
    let i = c.loop-statement.statement-index in
    let is = c.in_ok-add_node.ensures ∙ ap (λ s. c.loop-statement.nodes ++ nodes_of tables params found s (length c.loop-statement.nodes + 1) c.args.holder c.args.loops.now) c.statement-item.is in
    record {
      nodes =
          one_more tables params found c.loop-statement.nodes c.add_node.new.nodes c.args.statements.now i c.statement-item.result c.args.holder c.args.loops.now c.loop-statement-test.true is
          ∙ c.loop-statement.invariant.nodes;
      room =
          one_more_counted tables params found c.loop-statement.nodes c.add_node.new.nodes c.args.statements.now i c.statement-item.result c.args.holder c.args.loops.now c.loop-statement-test.true is
          ∙ c.loop-statement.invariant.room;
    }
