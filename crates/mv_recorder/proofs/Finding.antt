-- What an attempt finds, by what is said of it.
use Rattle.std.proofs.Common.{Result, Ok, Err}
use Rattle.mv_eval.specs.declared.state.Stop.{Stop}
use Rattle.mv_eval.specs.declared.state.Stop.TheVariants.{Memory, Ended}
use Rattle.mv_record.specs.declared.effect.Effect.{Effect}
use Rattle.mv_recorder.specs.Scenes.{Finds}

pub finds_weaker : {P Q : Effect → Type 0} (r : Result Effect Stop) → ((e : Effect) → P e → Q e) → Finds r P → Finds r Q
finds_weaker (Ok e) go h = go e h
finds_weaker (Err Memory) go h = tt
finds_weaker (Err (Ended d)) go h = go _ h
