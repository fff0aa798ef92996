-- Defines what the gate's lock keeps of the readers of its shards. This project's own.
use Rattle.std.specs.Prelude.{◌≡◌, ◌≤◌, ◌<◌, ◌+◌, ◌*◌, ℕ, List, Option, Some, None, length, slice_index_or, slice_set}
use Rattle.atomic_table.specs.Seated.{TableId}
use Rattle.mv_grace.specs.declared.books.Books.{Books}
use Rattle.mv_grace.specs.Epochs.{out_of}
use Rattle.mv_grace.specs.Rule.{Pin}
use Rattle.mv_lawful.specs.Lawful.{Live, Schedule}
use Rattle.mv_seats.specs.Scripts.{BoardScript}
use Rattle.mv_shards.specs.Leaves.{IsLeave, start_shown}
use Rattle.mv_core.specs.Calls.{IsLive}
use Rattle.mv_gate.specs.declared.answers.Answer.{Answer}
use Rattle.mv_gate.specs.declared.answers.Answer.TheVariants.{Committed, Answered, Repaired, Moved, Lost}

-- how many readers a pin stands for, if one is shown
abbrev pub count : Option ℕ → ℕ
count None = 0
count (Some start) = 1

-- a reader with this start may be admitted
pub record MayAdmit (b : Books) (start : ℕ) : Type 0 where
  pub base : b.current.base ≤ start
  pub room : out_of b < 2000000000

-- no epoch's base is above the number of commits. Each call that has begun has two readers at most. Each live call has a
-- second pin of its start, if readers need one
pub record AreReaders (s : BoardScript) (word : TableId) (b : Books) (pins : List (Option Pin)) (schedule : Schedule) : Type 0 where
  pub base : b.current.base ≤ length schedule.order
  pub out : out_of b ≤ 2 * length schedule.calls
  pub few : length schedule.calls ≤ 1000000
  pub count : length pins ≡ length schedule.calls
  pub each : (c : ℕ) (l : Live) → IsLive schedule c l → IsLeave s word (start_shown (slice_index_or pins c None)) l.start

-- how many readers have the second pin of a call
abbrev pub second_at : List (Option Pin) → ℕ → ℕ
second_at pins c = count (start_shown (slice_index_or pins c None))

-- After an attempt with this answer

-- the second pins, where this one was admitted for the call's new start
abbrev pub pins_after : Answer → ℕ → Option Pin → List (Option Pin) → List (Option Pin)
pins_after (Committed n) c pin pins = slice_set pins c None
pins_after (Answered n) c pin pins = slice_set pins c None
pins_after Repaired c pin pins = slice_set pins c pin
pins_after Moved c pin pins = slice_set pins c pin
pins_after Lost c pin pins = pins

-- how many readers go, of whom this many had the second pin before, and this many the new one
abbrev pub seconds_gone : Answer → ℕ → ℕ → ℕ
seconds_gone (Committed n) old new = old + new
seconds_gone (Answered n) old new = old + new
seconds_gone Repaired old new = old
seconds_gone Moved old new = old
seconds_gone Lost old new = new

-- how many readers go, of whom so many have the pin of the call's new start
abbrev pub firsts_gone : Answer → ℕ → ℕ
firsts_gone (Committed n) new = new
firsts_gone (Answered n) new = new
firsts_gone Repaired new = 0
firsts_gone Moved new = 0
firsts_gone Lost new = new
