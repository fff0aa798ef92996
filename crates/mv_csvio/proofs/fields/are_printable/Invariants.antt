use Rattle.std.proofs.Common.{◌≡◌, drop}
use Rattle.std.specs.List.{list_all}
use Rattle.mv_values.specs.Printable.{is_printable}
use Rattle.mv_csvio.proofs.fields.are_printable.Given as goal

abbrev pub invariant-loop-byte : goal.invariant-loop-byte
invariant-loop-byte l = list_all is_printable (drop l.byte-index l.field) ≡ list_all is_printable l.fn.field
