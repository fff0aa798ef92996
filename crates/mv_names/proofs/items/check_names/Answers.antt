use Rattle.std.proofs.Common.{append_assoc}
use Rattle.mv_names.proofs.items.check_names.Goals as goal

pub returns : goal.returns
returns c =
    rw (c.in_ok-check_doubles-2.ensures.faults, c.in_ok-check_doubles.ensures.faults, c.in_ok-check_doubles.ensures.taken, c.as_slice.ensures, c.as_slice-2.ensures) (append_assoc c.args.faults.now _ _)
