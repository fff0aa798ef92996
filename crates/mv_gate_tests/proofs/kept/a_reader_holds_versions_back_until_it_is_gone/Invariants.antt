use Rattle.mv_gate_tests.proofs.kept.a_reader_holds_versions_back_until_it_is_gone.Given as goal

abbrev pub ghosts-counts-N-Making : goal.ghosts-counts-N-Making
ghosts-counts-N-Making g a = record { board = a.blank.board; script = a.blank.script }

abbrev pub ghosts-counts-N-Naming : goal.ghosts-counts-N-Naming
ghosts-counts-N-Naming g a = record { word = a.grace }
