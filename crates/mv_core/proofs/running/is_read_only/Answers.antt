use Rattle.std.proofs.Common.{sym, ap, ◌∙◌}
use Rattle.mv_script.specs.Scripts.{reads_in, reads_by}
use Rattle.mv_core.proofs.running.is_read_only.Goals as goal

pub returns : goal.returns
returns c =
    let at = c.find_call.ensures in
    c.read_only.ensures ∙ (sym (ap reads_by at.graph_is) ∙ sym (ap (reads_in c.args.script.now.graphs) at.call_is))
