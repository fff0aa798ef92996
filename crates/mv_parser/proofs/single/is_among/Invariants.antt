use Rattle.std.proofs.Common.{◌≡◌, drop}
use Rattle.mv_parser.specs.Reading.{is_among}
use Rattle.mv_parser.proofs.single.is_among.Given as goal

abbrev pub invariant-loop-other : goal.invariant-loop-other
invariant-loop-other l = is_among (drop l.other-index l.kinds) l.kind ≡ is_among l.fn.kinds l.fn.kind
