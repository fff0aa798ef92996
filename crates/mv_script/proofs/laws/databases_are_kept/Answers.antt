use Rattle.mv_script.proofs.Databases.{run_database, table_database}
use Rattle.mv_script.proofs.laws.databases_are_kept.Goals as goal

pub returns-clause-calls : goal.returns-clause-calls
returns-clause-calls c = run_database

pub returns-clause-tables : goal.returns-clause-tables
returns-clause-tables c = table_database
