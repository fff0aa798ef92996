use Rattle.mv_gate.proofs.gate.run.Given as goal

abbrev pub ghosts-run_named-N-Making : goal.ghosts-run_named-N-Making
ghosts-run_named-N-Making g a = record { board = a.blank.board; script = a.blank.script }

abbrev pub ghosts-run_named-N-Naming : goal.ghosts-run_named-N-Naming
ghosts-run_named-N-Naming g a = record { word = a.grace }
