use Rattle.std.proofs.Common.{rules, sym}
use Rattle.mv_core.proofs.Taking.{call_there, graph_there, here_call}
use Rattle.mv_core.proofs.running.find_call.Goals as goal

pub unreachable-requires : goal.unreachable-requires
unreachable-requires c = call_there c.args.script.now c.args.number c.requires.script c.requires.number (search (rules, c.call_at.ensures, c.in_default.not-Some))

pub unreachable-requires-in_default-graph_for : goal.unreachable-requires-in_default-graph_for
unreachable-requires-in_default-graph_for c =
    graph_there c.args.script.now c.args.number c.in-Some.call.now c.requires.script c.requires.number (sym c.in-Some.ensures) (search (rules, c.graph_for.ensures, c.in_default-graph_for.not-Some))

pub returns : goal.returns
returns c = here_call c.args.script.now c.args.number c.in-Some.call.now c.in-Some-graph_for.graph.now c.in-Some.ensures c.in-Some-graph_for.ensures
