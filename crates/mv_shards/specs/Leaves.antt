-- Defines what a reader shows to a shard. This project's own.
use Rattle.std.specs.Prelude.{◌≡◌, ℕ, Option, Some, None}
use Rattle.atomic_table.specs.Seated.{TableId}
use Rattle.mv_grace.specs.Rule.{Pin}
use Rattle.mv_seats.specs.Scripts.{BoardScript}

-- readers need pins: no horizon is given, and a word is named that counts them
abbrev pub NeedPins : BoardScript → TableId → Type 0
NeedPins s word = (s.options.horizon ≡ None) × (word.words ≡ 1)

-- who shows a pin of this start, or none, may read after n commits
abbrev pub IsLeave : BoardScript → TableId → Option ℕ → ℕ → Type 0
IsLeave s word shown n = NeedPins s word → shown ≡ Some n

-- the start of a pin, if there is one
abbrev pub start_shown : Option Pin → Option ℕ
start_shown None = None
start_shown (Some p) = Some p.reader.start
