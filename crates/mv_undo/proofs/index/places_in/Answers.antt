use Rattle.std.proofs.Common.{◌∷◌, subst, sym}
use Rattle.std.specs.Prelude.{pos}
use Rattle.mv_values.specs.declared.value.Value.TheVariants.{Int}
use Rattle.mv_undo.specs.Indexing.{is_below, end_in, AreLast, HasNone}
use Rattle.mv_undo.proofs.Indexing.{cut_order, none_in, part_last, span_cut}
use Rattle.mv_undo.proofs.index.places_in.Goals as goal

pub part-requires-clause-order : goal.part-requires-clause-order
part-requires-clause-order c =
    let low = c.count_below-from.ensures.below in
    cut_order (is_below c.args.items.now (Int (pos c.args.table) ∷ c.args.span.now.low)) (is_below c.args.items.now (end_in c.args.table c.args.span.now)) c.args.order.now c.count_below-from.result c.count_before_end-to.result
    (span_cut c.args.items.now c.args.table c.args.span.now c.requires.forward) c.count_below-from.ensures.within low c.count_before_end-to.ensures.before

pub returns-clause-last : goal.returns-clause-last
returns-clause-last c =
    subst (AreLast c.args.items.now) (sym c.part.ensures) (part_last c.args.items.now c.args.order.now c.count_below-from.result c.count_before_end-to.result c.count_before_end-to.ensures.within c.requires.indexed.are)

pub returns-clause-each : goal.returns-clause-each
returns-clause-each c = λ key within none.
    let low = c.count_below-from.ensures.below in
    c.requires.indexed.each c.args.table key
    (none_in c.args.items.now c.args.order.now c.count_below-from.result c.count_before_end-to.result c.args.table c.args.span.now c.count_before_end-to.ensures.within low c.count_before_end-to.ensures.before key within
    (subst (HasNone c.args.items.now c.args.table key) c.part.ensures none))
