use Rattle.std.proofs.Common.{sym, ◌∙◌}
use Rattle.mv_undo.proofs.Taking.{fewer_later, last_first, last_later, sought_later}
use Rattle.mv_undo.proofs.ends.first_sought.Goals as goal

pub is_sought-requires-clause-last : goal.is_sought-requires-clause-last
is_sought-requires-clause-last c = last_first c.args.items.now c.args.direction c.in-Some.place.now c.in-Some.later.now c.loop-place.left.now c.in-Some.ensures c.loop-place.invariant.last

pub returns-then-is_sought-clause-last : goal.returns-then-is_sought-clause-last
returns-then-is_sought-clause-last c = last_later c.args.items.now c.args.direction c.in-Some.place.now c.in-Some.later.now c.loop-place.left.now c.in-Some.ensures c.loop-place.invariant.last

pub loop-place-smaller : goal.loop-place-smaller
loop-place-smaller c = fewer_later c.args.direction c.in-Some.place.now c.in-Some.later.now c.loop-place.left.now c.in-Some.ensures

pub loop-place-preserved : goal.loop-place-preserved
loop-place-preserved c = record {
  last = last_later c.args.items.now c.args.direction c.in-Some.place.now c.in-Some.later.now c.loop-place.left.now c.in-Some.ensures c.loop-place.invariant.last;
  same =
      sym (sought_later c.args.pred.now c.args.number c.args.items.now c.args.direction c.in-Some.place.now c.in-Some.later.now c.loop-place.left.now c.in-Some.ensures (sym c.is_sought.ensures ∙ c.if-is_sought.false))
      ∙ c.loop-place.invariant.same;
}
