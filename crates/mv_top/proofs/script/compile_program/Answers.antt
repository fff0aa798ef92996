use Rattle.std.proofs.Common.{◌∙◌, List, ap, subst, sym}
use Rattle.mv_graph.specs.declared.graph.Graph.{Graph}
use Rattle.mv_script.specs.Scripts.{IsCompiledScript, batch_of as script_batch}
use Rattle.mv_top.proofs.Scripts.{script_is, batch_is}
use Rattle.mv_top.proofs.script.compile_program.Goals as goal

pub returns-clause-script : goal.returns-clause-script
returns-clause-script c =
    subst (λ (gs : List Graph). IsCompiledScript (record { graphs = gs; calls = c.args.program.resolved.calls; opening = c.args.program.opening; options = c.args.options }))
    (sym c.in_ok-graphs.ensures.graphs) (script_is c.args.program c.args.options c.requires.whole c.requires.few)

pub returns-clause-batch : goal.returns-clause-batch
returns-clause-batch c =
    ap (λ (gs : List Graph). script_batch (record { graphs = gs; calls = c.args.program.resolved.calls; opening = c.args.program.opening; options = c.args.options })) c.in_ok-graphs.ensures.graphs
    ∙ batch_is c.args.program c.args.options
