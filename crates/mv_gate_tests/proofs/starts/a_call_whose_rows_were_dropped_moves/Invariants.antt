use Rattle.mv_gate_tests.proofs.starts.a_call_whose_rows_were_dropped_moves.Given as goal

abbrev pub ghosts-dropped-N-Making : goal.ghosts-dropped-N-Making
ghosts-dropped-N-Making g a = record { board = a.blank.board; script = a.blank.script }

abbrev pub ghosts-dropped-N-Naming : goal.ghosts-dropped-N-Naming
ghosts-dropped-N-Naming g a = record { word = a.grace }
