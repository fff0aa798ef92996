use Rattle.mv_unit_tests.proofs.passes.each_call_is_appended_once.Given as goal

abbrev pub ghosts-append_all : goal.ghosts-append_all
ghosts-append_all g a = record { board = a.blank.board; script = a.blank.script }
