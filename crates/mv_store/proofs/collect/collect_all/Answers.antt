use Rattle.std.proofs.Common.{sym, subst}
use Rattle.mv_store.specs.declared.change.VersionChange.TheVariants.{Collect}
use Rattle.mv_store.specs.Kept.{AreKeptVersions, after_change, AreDone}
use Rattle.mv_store.proofs.Collecting.{none_collected, one_collected, one_kept, all_collected, noted_same}
use Rattle.mv_store.proofs.collect.collect_all.Goals as goal

pub loop-written-init : goal.loop-written-init
loop-written-init c = record { index = λ is. is; versions = λ last kept. (none_collected c.args.low c.args.tables.now.items, kept) }

pub loop-written-preserved : goal.loop-written-preserved
loop-written-preserved c = record {
  index = λ is. c.change_all.ensures.index (c.loop-written.invariant.index is);
  versions = λ last kept.
      let w = c.in-Some.written in
      let now = c.loop-written.tables.items in
      let new = c.change_all.new.tables.items in
      let before = c.loop-written.invariant.versions last kept in
      let done = subst (λ ss. AreDone (after_change (Collect c.args.low)) ss now new) c.as_slice.ensures c.change_all.ensures.versions in (
        one_collected c.args.low now new w done c.args.tables.now.items c.change_all.ensures.rows before.0,
        one_kept c.args.low now new w done c.loop-written.table_keys c.take_due.new.self last before.1 c.in-Some.ensures.calls c.in-Some.ensures.due.0 c.in-Some.ensures.due.1,
      );
}

pub returns-clause-versions : goal.returns-clause-versions
returns-clause-versions c = λ last kept.
    let now = c.loop-written.tables.items in
    let before = c.loop-written.invariant.versions last kept in (
      all_collected c.args.low last c.args.tables.now.items now c.loop-written.table_keys before.1 c.in_default.ensures.rest.1 before.0,
      subst (λ s. AreKeptVersions now s last) (sym (noted_same c.take_due.new.self c.loop-written.table_keys c.in_default.ensures.calls c.in_default.ensures.rest.0)) before.1,
    )
