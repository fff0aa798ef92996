use Rattle.std.proofs.Common.{◌≡◌, ◌++◌, drop, map}
use Rattle.mv_recorder.specs.Sites.{site_of}
use Rattle.mv_recorder.proofs.Reading.{read_at}
use Rattle.mv_recorder.proofs.reads.reads_of.Given as goal

abbrev pub invariant-loop-x : goal.invariant-loop-x
invariant-loop-x l = l.reads ++ map (read_at (site_of l.site).loops l.records) (drop l.x-index l.x-items) ≡ map (read_at (site_of l.site).loops l.records) l.x-items
