use Rattle.mv_unit_tests.proofs.passes.mark_is_raised.Given as goal

abbrev pub ghosts-install_one : goal.ghosts-install_one
ghosts-install_one g a = record { board = a.blank.board; script = a.blank.script }
