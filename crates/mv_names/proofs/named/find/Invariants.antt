use Rattle.std.proofs.Common.{◌≡◌, drop}
use Rattle.mv_names.specs.Named.{first_named}
use Rattle.mv_names.proofs.named.find.Given as goal

abbrev pub invariant-loop-item : goal.invariant-loop-item
invariant-loop-item g l = first_named g.T.Named.name_of (drop l.item-index l.items) l.name ≡ first_named g.T.Named.name_of l.items l.name
