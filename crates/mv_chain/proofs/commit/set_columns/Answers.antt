use Rattle.std.proofs.Common.{◌<◌, pos, length, rules}
use Rattle.mv_values.specs.declared.patch.Assign.{Assign}
use Rattle.mv_values.specs.declared.value.Value.TheVariants.{Int}
use Rattle.mv_chain.proofs.Columns.{one_exchanged}
use Rattle.mv_chain.proofs.commit.set_columns.Goals as goal

pub loop-at-preserved : goal.loop-at-preserved
loop-at-preserved c =
    let d : Assign = record { column = 0; value = Int (pos 0) } in
    let within : c.loop-at.at < length c.args.items.now = search rules in
    one_exchanged c.args.items.now c.args.row.now c.loop-at.at c.loop-at.items c.exchange.new.items c.loop-at.row c.exchange.new.row d c.loop-at.invariant within (c.exchange.ensures d).0 (c.exchange.ensures d).1
