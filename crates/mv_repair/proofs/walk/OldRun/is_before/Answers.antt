use Rattle.std.proofs.Common.{sym, ap, arith}
use Rattle.std.proofs.lemmas.Option.{slice_get_past}
use Rattle.mv_record.specs.Paths.{paths}
use Rattle.mv_repair.specs.Walking.{is_before}
use Rattle.mv_soundness.proofs.Placing.{many_paths}
use Rattle.mv_repair.proofs.walk.OldRun.is_before.Goals as goal

pub returns-then-self-len-clause-is : goal.returns-then-self-len-clause-is
returns-then-self-len-clause-is c =
    sym (ap (λ q. is_before q c.args.path.now) (slice_get_past (paths c.args.past.now) c.args.self.now.at (omega (arith, c.if-self-len.true, c.len.ensures, many_paths c.args.past.now))))
