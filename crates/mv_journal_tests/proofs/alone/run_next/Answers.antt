use Rattle.std.proofs.Common.{[], ◌∷◌, sym, subst}
use Rattle.mv_record.specs.Databases.{IsDatabaseOf}
use Rattle.mv_journal_tests.proofs.alone.run_next.Goals as goal

pub returns : goal.returns
returns c = record {
  text = c.requires.text;
  opening =
      subst (IsDatabaseOf c.args.program.now.resolved.tables) (sym c.in_ok-serial.ensures.tables)
      (c.databases_are_kept.ensures.calls c.args.program.now c.requires (c.args.call ∷ []) 1);
}
