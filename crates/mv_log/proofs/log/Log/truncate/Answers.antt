-- The first records stay, and their writes.
use Rattle.std.proofs.Common.{sym, subst}
use Rattle.mv_undo.specs.Indexed.{Indexed, IsIndexOf}
use Rattle.mv_log.specs.declared.log.Log.TheInside.{Inside}
use Rattle.mv_log.proofs.Cutting.{cut, cut_whole}
use Rattle.mv_log.proofs.log.Log.truncate.Goals as goal

pub first-closed-requires : goal.first-closed-requires
first-closed-requires c = c.self.invariant.from.writes

pub drop_from-requires : goal.drop_from-requires
drop_from-requires c = subst (IsIndexOf c.self.inside.own) (sym c.first-closed.ensures) c.self.invariant.own.index

pub invariant_of-self : goal.invariant_of-self
invariant_of-self c =
    let p : Inside = c.self.inside in
    let j : Indexed = c.drop_from.new.self in
    rw c.truncate.ensures (rw c.keep_to.ensures (cut_whole p c.args.len j (subst (IsIndexOf j) c.first-closed.ensures c.drop_from.ensures.index) c.drop_from.ensures.places c.self.invariant))

pub returns : goal.returns
returns c = rw c.truncate.ensures (rw c.keep_to.ensures (rw (sym c.self.view_is) (cut c.self.inside c.args.len c.drop_from.new.self c.self.invariant)))
