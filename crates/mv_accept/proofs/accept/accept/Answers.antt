use Rattle.std.proofs.lemmas.Result.{err_from_is_err_and}
use Rattle.mv_values.proofs.There.{parents_have_one_key}
use Rattle.mv_catalog.proofs.References.{one_keys}
use Rattle.mv_accept.specs.Accepting.{Loads, LoadsNothing, HasNoOrphan, HasOrphan}
use Rattle.mv_accept.proofs.Chain.{none_found, test_passed, test_failed}
use Rattle.mv_accept.proofs.Orphaned.{no_orphan, orphan_lost, orphan_cause, orphan_told}
use Rattle.mv_accept.proofs.accept.accept.Goals as goal

pub returns-in_err-program-clause-exact : goal.returns-in_err-program-clause-exact
returns-in_err-program-clause-exact c =
    let p = err_from_is_err_and c.from_residual.result c.from_residual.ensures.1 in
    rw (p.1, p.2) (none_found (Loads c.args.bytes.now) (LoadsNothing c.args.bytes.now) HasNoOrphan HasOrphan c.in_err-program.field-0.0 c.in_err-program.ensures.exact)

pub parents-requires : goal.parents-requires
parents-requires c =
    let program = c.in_ok-program.program in
    parents_have_one_key program.resolved.tables program.opening (one_keys program.resolved.tables c.in_ok-program.ensures.whole.text.parents) c.in_ok-program.ensures.whole.opening.keys

pub returns-in-Ok-clause-exact : goal.returns-in-Ok-clause-exact
returns-in-Ok-clause-exact c =
    test_passed (Loads c.args.bytes.now) (LoadsNothing c.args.bytes.now) HasNoOrphan HasOrphan c.in_ok-program.program c.in_ok-program.ensures.exact c.in-Ok.ensures (no_orphan c.in_ok-program.program c.in-Ok.ensures)

pub returns-in-Err-clause-exact : goal.returns-in-Err-clause-exact
returns-in-Err-clause-exact c =
    let program = c.in_ok-program.program in
    test_failed (Loads c.args.bytes.now) (LoadsNothing c.args.bytes.now) HasNoOrphan HasOrphan program c.of_parents.result c.in_ok-program.ensures.exact
    (orphan_lost program c.in-Err.fault c.of_parents.result c.in-Err.ensures c.of_parents.ensures)
    (orphan_cause program c.in-Err.fault c.of_parents.result c.in-Err.ensures c.of_parents.ensures)
    (orphan_told program c.in-Err.fault c.of_parents.result c.in-Err.ensures c.of_parents.ensures)
