use Rattle.std.proofs.Common.{◌∙◌, ap, subst, sym}
use Rattle.mv_catalog.specs.declared.resolved.Program.{Program}
use Rattle.mv_script.specs.Scripts.{IsCompiledScript, batch_of as script_batch}
use Rattle.mv_top.proofs.Scripts.{script_by, script_is, batch_is}
use Rattle.mv_top.proofs.script.script_of.Goals as goal

pub returns-clause-script : goal.returns-clause-script
returns-clause-script c =
    let program : Program = record { resolved = c.args.resolved.now; opening = c.args.opening } in
    subst IsCompiledScript (sym (script_by program c.args.options c.in_ok-graphs.graphs c.in_ok-copy.field-0 c.in_ok-graphs.ensures.graphs c.in_ok-copy.ensures))
    (script_is program c.args.options c.requires.whole c.requires.few)

pub returns-clause-batch : goal.returns-clause-batch
returns-clause-batch c =
    let program : Program = record { resolved = c.args.resolved.now; opening = c.args.opening } in
    ap script_batch (script_by program c.args.options c.in_ok-graphs.graphs c.in_ok-copy.field-0 c.in_ok-graphs.ensures.graphs c.in_ok-copy.ensures)
    ∙ batch_is program c.args.options
