use Rattle.std.proofs.Common.{map}
use Rattle.mv_eval.specs.Rows.{projected}
use Rattle.mv_eval.proofs.Once.{distinct_is}
use Rattle.mv_eval.proofs.fixing.distinct_rows.Goals as goal

pub returns : goal.returns
returns g c = rw (c.as_slice.ensures.value, c.in_ok-found.ensures, distinct_is (projected c.args.columns.now (map g.R.Stored.keyed c.args.rows.now))) at c.without_repeats.ensures
