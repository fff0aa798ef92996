use Rattle.mv_seats.proofs.pass.Pass.hand.Given as goal

abbrev pub ghosts-hand_named : goal.ghosts-hand_named
ghosts-hand_named g a = record { number = a.shard }
