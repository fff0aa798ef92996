use Rattle.mv_unit_tests.proofs.stores.a_commit_is_read_from_its_number_on.Goals as goal

pub commit-requires-clause-clean : goal.commit-requires-clause-clean
commit-requires-clause-clean c = c.in_ok-store.ensures.own 5
