-- One step of the search for the first fault.
use Rattle.std.specs.Prelude.{Option, Some, None, if◌then◌else◌}
use Rattle.mv_names.specs.declared.fault.TokenFault.{TokenFault}
use Rattle.mv_names.specs.First.{is_before}

-- the earlier of the first fault so far and another one
abbrev pub earlier_of : Option TokenFault → TokenFault → TokenFault
earlier_of None f = f
earlier_of (Some best) f = if is_before f best then f else best
