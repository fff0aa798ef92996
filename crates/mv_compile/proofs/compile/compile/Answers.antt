use Rattle.std.proofs.Common.{◌∙◌, ap, map, subst, sym}
use Rattle.std.specs.List.{All}
use Rattle.mv_graph.specs.Nodes.{IsSound}
use Rattle.mv_compile.specs.Compiled.{graph_of}
use Rattle.mv_compile.proofs.Meaning.{are_graphs, mean_text}
use Rattle.mv_compile.proofs.Small.{all_sound}
use Rattle.mv_compile.proofs.compile.compile.Goals as goal

pub returns-clause-nodes : goal.returns-clause-nodes
returns-clause-nodes c = are_graphs c.args.resolved.now c.in_ok-graphs.graphs (c.in_ok-graphs.ensures ∙ ap (map (graph_of c.args.resolved.now.tables)) c.as_slice.ensures)

pub returns-clause-means : goal.returns-clause-means
returns-clause-means c = mean_text c.args.resolved.now c.in_ok-graphs.graphs (c.in_ok-graphs.ensures ∙ ap (map (graph_of c.args.resolved.now.tables)) c.as_slice.ensures)

pub returns-clause-sound : goal.returns-clause-sound
returns-clause-sound c =
    subst (All IsSound) (sym (c.in_ok-graphs.ensures ∙ ap (map (graph_of c.args.resolved.now.tables)) c.as_slice.ensures)) (all_sound c.args.resolved.now c.requires)

pub graphs_of-requires-clause-few : goal.graphs_of-requires-clause-few
graphs_of-requires-clause-few c = c.requires.few

pub graphs_of-requires-clause-each : goal.graphs_of-requires-clause-each
graphs_of-requires-clause-each c = c.requires.tables
