use Rattle.std.proofs.lemmas.Result.{IfOk-weaker}
use Rattle.mv_index.proofs.Choosing.{only_given}
use Rattle.mv_index.proofs.lens.KeyLens.whole_key.Goals as goal

pub returns-in-One-clause-only : goal.returns-in-One-clause-only
returns-in-One-clause-only c = rw c.in-One.is (IfOk-weaker c.whole_key.result _ _ (λ key only. only_given key c.in-One.len c.args.tests.now only) c.whole_key.ensures.only)
