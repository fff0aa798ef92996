use Rattle.std.proofs.Common.{◌≡◌, [], Result, Ok, Err, IfOk, refl, sym, subst}
use Rattle.mv_ast.specs.declared.tree.Script.{Script}
use Rattle.mv_ast.specs.Keys.{HasKeys}
use Rattle.mv_ast.specs.Limits.{script_passes}
use Rattle.mv_names.specs.Faults.{faults}
use Rattle.mv_resolve.specs.declared.refused.NameFault.{NameFault}
use Rattle.mv_catalog.specs.declared.resolved.Resolved.{Resolved}
use Rattle.mv_resolve.specs.Resolving.{Resolves}
use Rattle.mv_catalog.specs.Text.{FitsText}
use Rattle.mv_resolve.proofs.Whole.{fits_text}
use Rattle.mv_resolve.proofs.resolve.resolve.Goals as goal

all_fit : (script : Script) (r : Result Resolved NameFault) → Resolves script r → script_passes script ≡ [] → HasKeys script → IfOk r FitsText
all_fit script (Ok r) is kept keys = subst FitsText (sym is.1) (fits_text script is.0 kept keys)
all_fit script (Err e) is kept keys = tt

pub returns : goal.returns
returns c =
    let all : c.as_slice-2.result.now ≡ faults c.args.script =
    rw (c.as_slice-2.ensures, c.in_ok-check_parts.ensures, c.in_ok-check_order.ensures, c.in_ok-parts.ensures, c.as_slice.ensures, c.new-faults.ensures) (refl {a = faults c.args.script}) in
    let is = c.answer.ensures c.args.script all c.in_ok-parts.ensures in
    record { resolves = is; fits = all_fit c.args.script c.answer.result is }
