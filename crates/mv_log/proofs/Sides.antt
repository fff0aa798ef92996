-- Sides, and predicates within the lists.
use Rattle.std.proofs.Common.{◌≡◌, ◌<◌, ℕ, zero, suc, List, [], ◌∷◌, Option, Some, None, length, take, drop, get_or, refl, arith}
use Rattle.mv_log.specs.declared.head.Range.{Range}
use Rattle.mv_log.specs.declared.head.Side.{Side}
use Rattle.mv_log.specs.declared.head.Asked.{Asked}
use Rattle.mv_log.specs.declared.head.Marks.{Marks}
use Rattle.mv_log.specs.Parts.{part}
use Rattle.mv_log.specs.Fitting.{IsBelow, SideFits, SidesFit, AskedFit}
use Rattle.mv_log.specs.Heads.{blank, side_at, side_of}

pub side_got : (es : List Side) (i : ℕ) (d : Side) → i < length es → side_at es i ≡ get_or es i d
side_got [] i d l = let no : ⊥ = omega arith in absurd no
side_got (e ∷ es) zero d l = refl
side_got (e ∷ es) (suc i) d l = side_got es i d (omega arith)

pub blank_fits : (m : Marks) → SideFits m blank
blank_fits m = record {
  preds = record { order = omega arith; within = omega arith };
  rows = record { order = omega arith; within = omega arith };
  writes = record { order = omega arith; within = omega arith };
  lines = record { order = omega arith; within = omega arith };
  ends = record { order = omega arith; within = omega arith };
}

pub side_at_fits : (m : Marks) (es : List Side) (i : ℕ) → i < length es → SidesFit m es → SideFits m (side_at es i)
side_at_fits m [] i l f = let no : ⊥ = omega arith in absurd no
side_at_fits m (e ∷ es) zero l f = f.0
side_at_fits m (e ∷ es) (suc i) l f = side_at_fits m es i (omega arith) f.1

pub side_fits : (m : Marks) (es : List Side) (at : Option ℕ) → IsBelow (length es) at → SidesFit m es → SideFits m (side_of es at)
side_fits m es None l f = blank_fits m
side_fits m es (Some i) l f = side_at_fits m es i l f

pub asked_drop : (m : Marks) (n : ℕ) (qs : List Asked) → AskedFit m qs → AskedFit m (drop n qs)
asked_drop m zero qs f = f
asked_drop m (suc n) [] f = tt
asked_drop m (suc n) (a ∷ qs) f = asked_drop m n qs f.1

pub asked_take : (m : Marks) (n : ℕ) (qs : List Asked) → AskedFit m qs → AskedFit m (take n qs)
asked_take m zero qs f = tt
asked_take m (suc n) [] f = tt
asked_take m (suc n) (a ∷ qs) f = (f.0, asked_take m n qs f.1)

pub asked_part : (m : Marks) (r : Range) (qs : List Asked) → AskedFit m qs → AskedFit m (part r qs)
asked_part m r qs f = asked_drop m r.from (take r.to qs) (asked_take m r.to qs f)
