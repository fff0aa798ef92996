use Rattle.std.proofs.Common.{◌≡◌, ◌++◌, decimal, take}
use Rattle.std.specs.List.{flat_map}
use Rattle.mv_tpccgen.proofs.writing.write_each.Given as goal

abbrev pub invariant-loop-number : goal.invariant-loop-number
invariant-loop-number l = l.text ≡ l.fn.text ++ flat_map (λ number. decimal number ++ l.separator) (take l.number-index l.numbers)
