use Rattle.std.proofs.Common.{arith}
use Rattle.std.proofs.lemmas.Option.{slice_get_within}
use Rattle.mv_audit.proofs.Dropping.{least_more}
use Rattle.mv_audit.proofs.trimming.oldest_start.Goals as goal

pub loop-live-preserved : goal.loop-live-preserved
loop-live-preserved c = record {
  within = omega (arith, c.lesser-least.ensures.within, c.loop-live.invariant.within);
  least = least_more c.args.calls.now c.loop-live.live-index c.live-item.result c.loop-live.least c.lesser-least.result c.loop-live-test.true c.live-item.is c.lesser-least.ensures.within c.lesser-least.ensures.live c.loop-live.invariant.least;
}

pub returns-clause-least : goal.returns-clause-least
returns-clause-least c n l at live = c.loop-live.invariant.least n l (let lt = slice_get_within c.args.calls.now n l at in omega (arith, lt, c.loop-live-test.false)) at live
