-- Frames at which nothing is left are dropped.
use Rattle.std.proofs.Common.{◌≡◌, ◌<◌, ℕ, zero, suc, Bool, List, [], ◌∷◌, ◌++◌, Option, None, length, take, subst}
use Rattle.mv_catalog.specs.declared.resolved.ProcInfo.{ProcInfo}
use Rattle.mv_catalog.specs.declared.resolved.RStmt.{RStmt}
use Rattle.mv_exec.specs.declared.frames.Frame.{Frame}
use Rattle.mv_record.specs.declared.record.Record.{Record}
use Rattle.mv_exec.specs.Frames.{block_of, holder_of, statement_before, is_left, Every, IsFilled, AreFilled, IsNumbered, AreNumbered}
use Rattle.mv_exec.specs.Tasks.{AreHeldBefore}
use Rattle.mv_exec.proofs.Turning.{every_last, filled_last}

pub every_front : (P : List RStmt → Frame → Type 0) (proc : ProcInfo) (s : Option RStmt) (n : ℕ) (ps : List Frame) → Every P proc s ps → Every P proc s (take n ps)
every_front P proc s zero ps h = tt
every_front P proc s (suc n) [] h = tt
every_front P proc s (suc n) (p ∷ ps) h = (h.0, every_front P proc (statement_before proc s p) n ps h.1)

pub filled_front : (proc : ProcInfo) (s : Option RStmt) (n : ℕ) (ps : List Frame) → AreFilled proc s ps → AreFilled proc s (take n ps)
filled_front = every_front IsFilled

pub held_front : (m n : ℕ) (ps : List Frame) → AreHeldBefore m ps → AreHeldBefore m (take n ps)
held_front m zero ps h = tt
held_front m (suc n) [] h = tt
held_front m (suc n) (p ∷ ps) h = (h.0, held_front m n ps h.1)

-- whether something is left at the innermost frame, told of any list in which it may lie
pub left_at : (proc : ProcInfo) (rs : List Record) (ps outer : List Frame) (p : Frame) (b : Bool) → AreFilled proc None ps → AreNumbered proc None ps → ps ≡ outer ++ p ∷ []
    → ((block : List RStmt) → IsNumbered proc block p → 0 < length block → b ≡ is_left rs block p) → b ≡ is_left rs (block_of proc (holder_of proc None outer) p) p
left_at proc rs ps outer p b filled numbers are tells =
    tells (block_of proc (holder_of proc None outer) p) (every_last (IsNumbered proc) proc None outer p (subst (AreNumbered proc None) are numbers))
    (filled_last proc None outer p (subst (AreFilled proc None) are filled))
