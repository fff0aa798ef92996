use Rattle.std.proofs.Common.{refl}
use Rattle.mv_serial.proofs.calls.rolled_back.Goals as goal

pub returns-clause-tables : goal.returns-clause-tables
returns-clause-tables c = c.in_ok-undo_all.ensures

pub returns-clause-reply : goal.returns-clause-reply
returns-clause-reply c = rw c.new.ensures refl
