use Rattle.std.proofs.Common.{◌≡◌, [], ◌∷◌, ◌++◌, List, Some, None, OnOk, map, true, sym, ap, subst, ◌∙◌}
use Rattle.std.specs.Prelude.{IfOk}
use Rattle.mv_table.specs.Entries.{seen}
use Rattle.mv_recorded.specs.Own.{Each}
use Rattle.mv_checks.specs.Checking.{meant, MayAsk}
use Rattle.mv_checks.proofs.Referring.{row_may}
use Rattle.mv_recorder.proofs.changes.inserted.Goals as goal

pub run_checks-requires-clause-may_ask : goal.run_checks-requires-clause-may_ask
run_checks-requires-clause-may_ask c =
    let is = ap (map (meant [])) c.as_slice.ensures ∙ c.in_ok-checks.ensures in
    subst (Each (MayAsk c.args.scene.now.infos.now)) (sym is) (row_may c.args.scene.now.infos.now c.requires.sound.tables.parents c.args.table c.args.item c.requires.table)
