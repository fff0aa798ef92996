use Rattle.mv_gate_tests.proofs.readers.a_reader_beside_workers_reads_prefixes.Given as goal

abbrev pub ghosts-starts_beside-N-Making : goal.ghosts-starts_beside-N-Making
ghosts-starts_beside-N-Making g a = record { board = a.blank.board; script = a.blank.script }

abbrev pub ghosts-starts_beside-N-Naming : goal.ghosts-starts_beside-N-Naming
ghosts-starts_beside-N-Naming g a = record { word = a.grace }
