use Rattle.std.proofs.Common.{subst, sym, ◌∙◌, arith}
use Rattle.std.specs.List.{All}
use Rattle.mv_values.specs.Printable.{IsPrintable}
use Rattle.mv_eval.proofs.Printing.{decimal_printable}
use Rattle.mv_eval.proofs.expr.add_number.Goals as goal

pub append-requires-2 : goal.append-requires-2
append-requires-2 c =
    subst (All IsPrintable) (sym (c.as_bytes.ensures.value ∙ c.format.ensures.text)) (decimal_printable c.unsigned_abs.result (omega (arith, c.unsigned_abs.ensures.bound)))
