-- Defines what a chain holds: no row, one row, or versions with commits or patches.
use Rattle.std.specs.Prelude.{◌==◌, ◌&&◌, Bool, length, [], Some}
use Rattle.mv_chain.specs.declared.chain.Form.{Form}
use Rattle.mv_chain.specs.declared.chain.Form.TheVariants.{Nothing, Only, History}
use Rattle.mv_chain.specs.Versions.{Versions, blank}

-- the versions have no commits and no patches
abbrev pub is_plain : Versions → Bool
is_plain v = (length v.commits == 0) && (length v.own == 0)

abbrev pub versions_of : Form → Versions
versions_of Nothing = blank
versions_of (Only row) = record { base = Some row; commits = []; own = [] }
versions_of (History h) = h.value
