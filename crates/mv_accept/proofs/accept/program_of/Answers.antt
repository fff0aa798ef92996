use Rattle.std.proofs.Common.{Ok, Err}
use Rattle.std.proofs.lemmas.Result.{err_from_is_err_and}
use Rattle.mv_accept.specs.Accepting.{StandsFor, StandsForNothing, Opens, HasNoRows}
use Rattle.mv_accept.proofs.Chain.{passed, failed}
use Rattle.mv_accept.proofs.Naming.{opened, not_opened}
use Rattle.mv_accept.proofs.Fitting.{fitting, few}
use Rattle.mv_accept.proofs.accept.program_of.Goals as goal

pub returns-in_err-resolved-clause-exact : goal.returns-in_err-resolved-clause-exact
returns-in_err-resolved-clause-exact c =
    let p = err_from_is_err_and c.from_residual.result c.from_residual.ensures.1 in
    rw (p.1, p.2) (failed (StandsFor c.args.bytes.now) (StandsForNothing c.args.bytes.now) (Opens c.args.bytes.now) (HasNoRows c.args.bytes.now) c.in_err-resolved.field-0.0 c.in_err-resolved.ensures.exact)

pub opening-requires : goal.opening-requires
opening-requires c = fitting c.args.bytes.now c.in_ok-resolved.resolved c.in_ok-resolved.ensures.exact.found

pub returns-in-Ok-clause-exact : goal.returns-in-Ok-clause-exact
returns-in-Ok-clause-exact c =
    passed (StandsFor c.args.bytes.now) (StandsForNothing c.args.bytes.now) (Opens c.args.bytes.now) (HasNoRows c.args.bytes.now) c.in_ok-resolved.resolved (Ok _) c.in_ok-resolved.ensures.exact
    (opened c.args.bytes.now c.in_ok-resolved.resolved c.in-Ok.opening c.in-Ok.ensures.opened c.in-Ok.ensures.only c.in-Ok.ensures.told)

pub returns-in-Ok-clause-whole : goal.returns-in-Ok-clause-whole
returns-in-Ok-clause-whole c = record { text = c.in_ok-resolved.ensures.whole; opening = c.in-Ok.ensures.database c.in_ok-resolved.ensures.whole }

pub returns-in-Ok-clause-few : goal.returns-in-Ok-clause-few
returns-in-Ok-clause-few c = few c.args.bytes.now c.in_ok-resolved.resolved c.in_ok-resolved.ensures.exact.found

pub returns-in-Err-clause-exact : goal.returns-in-Err-clause-exact
returns-in-Err-clause-exact c =
    passed (StandsFor c.args.bytes.now) (StandsForNothing c.args.bytes.now) (Opens c.args.bytes.now) (HasNoRows c.args.bytes.now) c.in_ok-resolved.resolved (Err c.of_opening.result) c.in_ok-resolved.ensures.exact
    (not_opened c.args.bytes.now c.in_ok-resolved.resolved c.in-Err.fault c.of_opening.result c.of_opening.ensures c.in-Err.ensures.only c.in-Err.ensures.refused c.in-Err.ensures.told)
