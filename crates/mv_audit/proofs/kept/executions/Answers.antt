use Rattle.std.proofs.Common.{length, sym, ap, subst, ◌∙◌}
use Rattle.mv_history.specs.Kept.{zip_paths}
use Rattle.mv_soundness.proofs.Keeping.{Climbs, climbs_of}
use Rattle.mv_soundness.proofs.Placing.{many_paths}
use Rattle.mv_audit.proofs.kept.executions.Goals as goal

pub compared-requires : goal.compared-requires
compared-requires c = record {
  old_whole = ap length (c.as_slice.ensures ∙ c.in_ok-old_paths.ensures) ∙ many_paths c.args.old.now;
  new_whole = ap length (c.as_slice-2.ensures ∙ c.in_ok-new_paths.ensures) ∙ many_paths c.args.new.now;
  old_climbs = subst (λ ps. Climbs (zip_paths ps c.args.old.now)) (sym (c.as_slice.ensures ∙ c.in_ok-old_paths.ensures)) (climbs_of c.args.old.now c.requires.old);
  new_climbs = subst (λ ps. Climbs (zip_paths ps c.args.new.now)) (sym (c.as_slice-2.ensures ∙ c.in_ok-new_paths.ensures)) (climbs_of c.args.new.now c.requires.new);
}
