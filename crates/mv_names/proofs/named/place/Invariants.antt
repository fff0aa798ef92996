use Rattle.std.proofs.Common.{◌≡◌, ◌+◌, drop}
use Rattle.mv_names.specs.Named.{place_named}
use Rattle.mv_names.proofs.named.place.Given as goal

abbrev pub invariant-loop-i : goal.invariant-loop-i
invariant-loop-i g l = l.i + place_named g.T.Named.name_of (drop l.i l.items) l.name ≡ place_named g.T.Named.name_of l.items l.name
