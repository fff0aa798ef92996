-- Defines what is known of a record before its statement is executed.
use Rattle.std.specs.Prelude.{ℕ, List, Option}
use Rattle.mv_record.specs.declared.record.Read.{Read}
use Rattle.mv_record.specs.declared.record.Spot.{Spot}

-- the place, controller and definers of a record
pub record Ahead : Type 0 where
  pub spot : Spot
  pub parent : Option ℕ
  pub reads : List Read
