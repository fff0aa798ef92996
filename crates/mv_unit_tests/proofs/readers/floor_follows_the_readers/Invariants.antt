use Rattle.mv_unit_tests.proofs.readers.floor_follows_the_readers.Given as goal

abbrev pub ghosts-follow : goal.ghosts-follow
ghosts-follow g a = record { word = a.blank }
