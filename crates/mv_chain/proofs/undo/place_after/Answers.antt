use Rattle.std.proofs.Common.{rules}
use Rattle.std.specs.Prelude.{nat_le}
use Rattle.std.proofs.lemmas.Fn.{always_returns_same}
use Rattle.mv_chain.proofs.Versions.{parted, later_is}
use Rattle.mv_chain.proofs.undo.place_after.Goals as goal

pub returns-clause-later : goal.returns-clause-later
returns-clause-later c =
    later_is c.args.n c.args.undos.now c.partition_point.result c.partition_point.ensures.bound
    (c.partition_point.ensures.partitioned (λ u. nat_le u.commit c.args.n) (always_returns_same _ _ _ (λ a r f h. search rules)) (parted c.args.n c.args.undos.now c.requires))
