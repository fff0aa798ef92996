-- Defines the script of a board as the script of a run. This project's own.
use Rattle.mv_lawful.specs.Batch.{Batch}
use Rattle.mv_seats.specs.Scripts.{BoardScript}
use Rattle.mv_script.specs.declared.script.CompiledScript.{CompiledScript}
use Rattle.mv_script.specs.Scripts.{batch_of}

-- the script of a run, of a board's
abbrev pub script_in : BoardScript → CompiledScript
script_in s = record { graphs = s.graphs; calls = s.calls; opening = s.opening; options = s.options }

-- its batch, in the words of the law of journals
abbrev pub batch : BoardScript → Batch
batch s = batch_of (script_in s)
