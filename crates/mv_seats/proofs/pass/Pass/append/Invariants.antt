use Rattle.mv_seats.proofs.pass.Pass.append.Given as goal

abbrev pub ghosts-append_named : goal.ghosts-append_named
ghosts-append_named g a = record { number = a.call }
