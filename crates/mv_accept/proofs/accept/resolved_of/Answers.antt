use Rattle.std.proofs.Common.{Ok, Err}
use Rattle.std.proofs.lemmas.Result.{err_from_is_err_and}
use Rattle.mv_accept.specs.Accepting.{Spells, SpellsNothing, Means, HasFault}
use Rattle.mv_accept.proofs.Chain.{passed, failed}
use Rattle.mv_accept.proofs.Naming.{named, misnamed}
use Rattle.mv_accept.proofs.Fitting.{kept_limits, has_keys}
use Rattle.mv_accept.proofs.accept.resolved_of.Goals as goal

pub returns-in_err-script-clause-exact : goal.returns-in_err-script-clause-exact
returns-in_err-script-clause-exact c =
    let p = err_from_is_err_and c.from_residual.result c.from_residual.ensures.1 in
    rw (p.1, p.2) (failed (Spells c.args.bytes.now) (SpellsNothing c.args.bytes.now) Means HasFault c.in_err-script.field-0.0 c.in_err-script.ensures)

pub returns-clause-exact : goal.returns-clause-exact
returns-clause-exact c =
    passed (Spells c.args.bytes.now) (SpellsNothing c.args.bytes.now) Means HasFault c.in_ok-script.script (Ok c.in_ok-resolve.field-0) c.in_ok-script.ensures
    (named c.in_ok-script.script c.in_ok-resolve.field-0 c.in_ok-resolve.ensures.resolves.0 c.in_ok-resolve.ensures.resolves.1)

pub returns-in_err-resolve-clause-exact : goal.returns-in_err-resolve-clause-exact
returns-in_err-resolve-clause-exact c =
    let p = err_from_is_err_and c.from_residual-in_err-resolve.result c.from_residual-in_err-resolve.ensures.1 in
    rw (p.1, p.2)
    (passed (Spells c.args.bytes.now) (SpellsNothing c.args.bytes.now) Means HasFault c.in_ok-script.script (Err _) c.in_ok-script.ensures
    (misnamed c.in_ok-script.script c.in_err-resolve.field-0.0 c.in_err-resolve.ensures.resolves))

pub returns-clause-whole : goal.returns-clause-whole
returns-clause-whole c =
    c.in_ok-resolve.ensures.fits (kept_limits c.args.bytes.now c.in_ok-script.script c.in_ok-script.ensures.found) (has_keys c.args.bytes.now c.in_ok-script.script c.in_ok-script.ensures.found)
