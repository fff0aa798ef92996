use Rattle.std.proofs.Common.{rules, ◌≡◌, ◌∙◌, ap, sym, subst, map, List, Option, to_z, of_z, w64, arith}
use Rattle.std.proofs.lemmas.Int.{ints}
use Rattle.std.proofs.lemmas.List.{take_all}
use Rattle.std.specs.Option.{option_copied}
use Rattle.mv_values.specs.declared.rows.Keyed.{Keyed}
use Rattle.mv_tpccsum.specs.declared.totals.Totals.{Totals}
use Rattle.mv_tpccsum.specs.Tables.{entry_of}
use Rattle.mv_tpccsum.specs.Grouping.{IsGroups, IsSmall, with_number}
use Rattle.mv_tpccsum.proofs.Grouped.{groups_more, small}
use Rattle.mv_tpccsum.proofs.totals.totals_of.Goals as goal

pub with_number-totals-requires : goal.with_number-totals-requires
with_number-totals-requires c =
    subst (λ (o : Option Totals). IsSmall o) (sym c.get.ensures) (small c.loop-item.item-index _ _ (c.loop-item.invariant c.in_ok-key.key) (omega arith))

pub loop-item-preserved : goal.loop-item-preserved
loop-item-preserved c =
    let number = c.number_at-number.result in
    let same : to_z w64 (of_z w64 number) ≡ number = omega (arith, ints, c.number_at-number.type_inv) in
    groups_more c.args.numbers.now.key c.args.numbers.now.place c.args.numbers.now.rows.now c.loop-item.item-index c.item-item.result c.loop-item.groups c.put.new.self c.in_ok-key.key c.number_at-number.result c.with_number-totals.result
    (omega arith) c.item-item.is (search rules) (search rules) c.loop-item.invariant (omega (arith, ints, c.number_at-number.type_inv)) (omega (arith, ints, c.number_at-number.type_inv))
    (c.with_number-totals.ensures ∙ (ap (with_number (option_copied c.get.result)) same ∙ ap (λ (o : Option Totals). with_number o number) c.get.ensures)) c.in_ok-put.ensures.at

pub returns : goal.returns
returns c =
    let rows = c.args.numbers.now.rows.now in
    let whole = take_all c.loop-item.item-index rows (omega arith) in
    subst (λ n. IsGroups n (map (entry_of c.args.numbers.now.key c.args.numbers.now.place) rows) c.loop-item.groups) (omega arith)
    (subst (λ (xs : List Keyed). IsGroups c.loop-item.item-index (map (entry_of c.args.numbers.now.key c.args.numbers.now.place) xs) c.loop-item.groups) whole c.loop-item.invariant)
