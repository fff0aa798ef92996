use Rattle.std.proofs.Common.{rules}
use Rattle.mv_print.specs.Printing.{written}
use Rattle.mv_print.proofs.pieces.write_int.Goals as goal

pub returns : goal.returns
unfolding written
returns c = search rules
