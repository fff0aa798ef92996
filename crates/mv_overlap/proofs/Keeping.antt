-- No event changes the script.
use Rattle.std.proofs.Common.{◌≡◌, ℕ, Result, Ok, Err}
use Rattle.mv_journal.specs.declared.event.Event.{Event}
use Rattle.mv_core.specs.declared.drive.DriveFault.{DriveFault}
use Rattle.mv_core.specs.declared.drive.DriveFault.TheVariants.{Refused, Open, NoMemory}
use Rattle.mv_core.specs.Books.{Booked}
use Rattle.mv_core.specs.Drives.{TakesLine}

pub taken_keeps : (e : Event) (n : ℕ) (old new : Booked) (r : Result (Unit {0}) DriveFault) → TakesLine e n old new r → new.script ≡ old.script
taken_keeps e n old new (Ok x) taken = taken.script
taken_keeps e n old new (Err (Refused m f)) taken = taken.2.script
taken_keeps e n old new (Err (Open c)) taken = absurd taken
taken_keeps e n old new (Err NoMemory) taken = taken.script
