use Rattle.std.proofs.Common.{length, drop, ap, ◌∙◌}
use Rattle.std.proofs.lemmas.List.{length-set, drop-set-lt}
use Rattle.mv_audit.proofs.trimming.forget.Goals as goal

pub loop-at-preserved : goal.loop-at-preserved
loop-at-preserved c = record {
  many = ap length c.set.ensures ∙ (length-set c.loop-at.commits c.loop-at.at c.new.result ∙ c.loop-at.invariant.many);
  later = ap (drop c.args.to) c.set.ensures ∙ (drop-set-lt c.args.to c.loop-at.commits c.loop-at.at c.new.result c.loop-at-test.true ∙ c.loop-at.invariant.later);
}
