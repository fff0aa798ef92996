-- Verdicts that compare texts, whose numbers are written in digits.
use Rattle.std.proofs.Common.{refl}
use Rattle.std.specs.Fmt.{digits}
use Rattle.mv_audit.specs.Examples.{Repaired, ChangedCount, NoEnd, ZeroAhead, Further, NoLastEnd}

pub repaired : Repaired
unfolding digits
repaired = refl

pub count : ChangedCount
unfolding digits
count = refl

pub no_end : NoEnd
unfolding digits
no_end = refl

pub zero : ZeroAhead
unfolding digits
zero = refl

pub further : Further
unfolding digits
further = refl

pub no_last_end : NoLastEnd
unfolding digits
no_last_end = refl
