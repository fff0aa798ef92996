use Rattle.std.proofs.Common.{◌≡◌, ◌++◌, drop}
use Rattle.std.specs.List.{flat_map}
use Rattle.mv_names.specs.Faults as meant
use Rattle.mv_names.proofs.items.check_key.Given as goal

abbrev pub invariant-loop-name : goal.invariant-loop-name
invariant-loop-name l = l.faults ++ flat_map (meant.missing_key l.columns) (drop l.name-index l.key) ≡ l.fn.faults ++ flat_map (meant.missing_key l.columns) l.key
