use Rattle.mv_gate_tests.proofs.starts.shown_of.Given as goal

abbrev pub ghosts-shown-N-Making : goal.ghosts-shown-N-Making
ghosts-shown-N-Making g a = record { board = a.blank.board; script = a.blank.script }

abbrev pub ghosts-shown-N-Naming : goal.ghosts-shown-N-Naming
ghosts-shown-N-Naming g a = record { word = a.grace }
