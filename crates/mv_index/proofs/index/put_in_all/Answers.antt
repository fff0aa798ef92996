use Rattle.std.proofs.Common.{arith}
use Rattle.std.proofs.lemmas.List.Elements.{AllWithin-none}
use Rattle.mv_index.specs.Indexing.{HasKey}
use Rattle.mv_index.proofs.Adding.{all_grow, grow_then, same_count, have_to_end}
use Rattle.mv_index.proofs.index.put_in_all.Goals as goal

pub loop-at-init : goal.loop-at-init
loop-at-init c = record {
  grow = all_grow c.args.table c.args.key.now c.args.row.now c.args.columns.now.items;
  have = AllWithin-none (HasKey c.args.table c.args.key.now c.args.row.now) c.args.columns.now.items 0;
}

pub put_at-requires : goal.put_at-requires
put_at-requires c =
    let same = same_count c.args.table c.args.key.now c.args.row.now c.args.columns.now.items c.loop-at.columns.items c.loop-at.invariant.grow in
    omega (arith, same, c.loop-at-test.true)

pub loop-at-preserved : goal.loop-at-preserved
loop-at-preserved c = record {
  grow = grow_then c.args.table c.args.key.now c.args.row.now c.args.columns.now.items c.loop-at.columns.items c.put_at.new.columns.items c.loop-at.invariant.grow c.in_ok-put_at.ensures.grow;
  have = c.in_ok-put_at.ensures.have c.loop-at.invariant.have;
}

pub returns-in_err-put_at-clause-grow : goal.returns-in_err-put_at-clause-grow
returns-in_err-put_at-clause-grow c = grow_then c.args.table c.args.key.now c.args.row.now c.args.columns.now.items c.loop-at.columns.items c.put_at.new.columns.items c.loop-at.invariant.grow c.in_err-put_at.ensures.grow

pub returns-clause-have : goal.returns-clause-have
returns-clause-have c =
    let same = same_count c.args.table c.args.key.now c.args.row.now c.args.columns.now.items c.loop-at.columns.items c.loop-at.invariant.grow in
    have_to_end c.args.table c.args.key.now c.args.row.now c.loop-at.columns.items c.loop-at.at (omega (arith, same, c.loop-at-test.false)) c.loop-at.invariant.have
