-- Defines the meaning of a name before it is picked.
use Rattle.std.specs.Prelude.{[], None}
use Rattle.atomic_table.specs.Seated.{TableId}
use Rattle.mv_seats.specs.Scripts.{BoardScript}

-- no board
abbrev pub no_board : TableId
no_board = record { words = 0; slots = 0; views_name = 0; atom = 0; block = 0; offset = 0; slot_names = [] }

-- no script
abbrev pub no_script : BoardScript
no_script = record { graphs = []; calls = []; opening = []; options = record { rounds = 0; horizon = None }; shards = 0 }
