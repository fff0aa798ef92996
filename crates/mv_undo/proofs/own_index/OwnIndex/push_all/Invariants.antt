use Rattle.std.proofs.Common.{◌≡◌, ◌≤◌, ◌++◌, All, drop, take}
use Rattle.mv_undo.specs.declared.place.Place.{Place}
use Rattle.mv_undo.specs.Owned.{owned_by, places_before}
use Rattle.mv_undo.specs.Owning.{undo_of}
use Rattle.mv_undo.specs.Indexed.{IsIndexOf}
use Rattle.mv_undo.proofs.own_index.OwnIndex.push_all.Given as goal

abbrev pub invariant-loop-at : goal.invariant-loop-at
invariant-loop-at l = record {
  index : IsIndexOf l.self l.writes;
  last : All (λ (p : Place). p.number ≤ l.number) l.self.places;
  before : places_before l.number l.self.places ≡ l.fn.self.places;
  all : owned_by l.self.places l.writes ++ undo_of l.number (drop l.at (take l.to l.writes)) ≡ owned_by l.fn.self.places l.writes ++ undo_of l.number (drop l.from (take l.to l.writes));
}
