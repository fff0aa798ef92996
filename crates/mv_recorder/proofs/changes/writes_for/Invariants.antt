use Rattle.std.proofs.Common.{◌≡◌, ◌++◌, Ok, drop, map}
use Rattle.mv_table.specs.Entries.{seen}
use Rattle.mv_eval.specs.Results.{then_do}
use Rattle.mv_recorded.specs.Effects.{changes, new_of}
use Rattle.mv_recorder.proofs.changes.writes_for.Given as goal

abbrev pub invariant-loop-item : goal.invariant-loop-item
invariant-loop-item l =
    then_do (changes l.update.table l.update.items.now (new_of l.scene.infos.now l.update.table l.scene.env.now l.update.items.now) (map seen (drop l.item-index l.rows))) (λ ws. Ok (l.writes ++ ws))
    ≡ changes l.update.table l.update.items.now (new_of l.scene.infos.now l.update.table l.scene.env.now l.update.items.now) (map seen l.rows)
