use Rattle.std.proofs.Common.{◌≡◌, ◌≤◌, ◌++◌, length, map, drop}
use Rattle.mv_lawful.specs.Lawful.{begin}
use Rattle.mv_lawful.specs.Places.{places_from, places_by}
use Rattle.mv_lawful.proofs.places.places_of.Given as goal

abbrev pub invariant-loop-i : goal.invariant-loop-i
invariant-loop-i l = record {
  within : l.i ≤ length l.order;
  are : l.places ++ places_from (record { order = l.order; calls = map begin l.starts; low = 0; answered = l.answered }) l.i (drop l.i l.order) ≡ places_by l.order l.starts l.answered;
}
