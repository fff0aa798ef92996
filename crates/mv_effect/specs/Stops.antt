-- Statements that are stopped.
use Rattle.std.specs.Prelude.{◌≡◌, List, [], Result, Ok, Err}
use Rattle.mv_values.specs.declared.pred.Pred.{Pred}
use Rattle.mv_eval.specs.declared.state.Stop.{Stop}
use Rattle.mv_eval.specs.declared.state.Stop.TheVariants.{Memory, Ended}
use Rattle.mv_log.specs.Logged.{Logged}
use Rattle.mv_record.specs.declared.effect.Effect.{Effect}
use Rattle.mv_recorded.specs.Effects.{only_end}

-- the log after a statement that was stopped after it asked this: its effect only ends the call. There is none if memory
-- ran out
abbrev pub EndsBy : List Pred → Stop → Logged → Logged → Type 0
EndsBy preds Memory before after = ⊥
EndsBy preds (Ended e) before after = after ≡ record before { effect = only_end preds e }

-- what a statement asks, or its effect if it is stopped before. It is stopped too if memory ran out
abbrev pub GivesOrEnds : {A : Type 0} → Result A Stop → Result A Effect → Type 0
GivesOrEnds (Ok asked) meant = meant ≡ Ok asked
GivesOrEnds (Err Memory) meant = Unit {0}
GivesOrEnds (Err (Ended e)) meant = meant ≡ Err (only_end [] e)

-- the result of a step with what it left behind
abbrev pub leaving : {A B : Type 0} → Result A Stop → B → Result B Stop
leaving (Ok done) left = Ok left
leaving (Err stop) left = Err stop
