use Rattle.std.proofs.Common.{take}
use Rattle.mv_store.specs.Changes.{HasPut}
use Rattle.mv_store.proofs.store.Store.put_all.Given as goal

abbrev pub invariant-loop-write : goal.invariant-loop-write
invariant-loop-write l = HasPut l.call (take l.write-index l.writes) l.fn.self l.self
