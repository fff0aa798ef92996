use Rattle.std.proofs.Common.{sym, subst}
use Rattle.mv_record.specs.Databases.{IsDatabaseOf}
use Rattle.mv_journal_tests.proofs.alone.full_run.Goals as goal

pub run_call-requires-clause-database : goal.run_call-requires-clause-database
run_call-requires-clause-database c = subst (IsDatabaseOf c.args.program.now.resolved.tables) (sym c.in_ok-tables.ensures) c.requires.opening
