use Rattle.std.proofs.Common.{◌≡◌, List, subst}
use Rattle.std.specs.Prelude.{IfOk}
use Rattle.mv_why.specs.declared.cause.Cause.{Cause}
use Rattle.mv_why.proofs.Ending.{sound_of, causes_are}
use Rattle.mv_why.proofs.causes.causes.Goals as goal

pub causes_along-requires : goal.causes_along-requires
causes_along-requires c = sound_of c.args.old.now c.args.fresh.now c.args.since.now c.in_ok-runs.runs c.in_ok-runs.ensures c.requires

pub returns : goal.returns
returns c =
    subst (λ (l : List Cause). IfOk c.causes_along.result (λ (causes : List Cause). causes ≡ l)) (causes_are c.args.old.now c.args.fresh.now c.args.since.now c.in_ok-runs.runs c.in_ok-runs.ensures) c.causes_along.ensures
