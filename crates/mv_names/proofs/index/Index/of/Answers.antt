use Rattle.std.proofs.Common.{sym, ◌∙◌}
use Rattle.indexmap.proofs.CallerLemmas.{insert_entry-new}
use Rattle.mv_names.proofs.Indexing.{one_more, one_known, none_copied, some_copied}
use Rattle.mv_names.proofs.index.Index.of.Goals as goal

pub loop-i-preserved : goal.loop-i-preserved
loop-i-preserved g c =
    let none = sym c.get.ensures.value ∙ none_copied c.get.result (sym c.if-is_some.ensures) in
    let name = c.as_slice-name.ensures.bytes ∙ c.name.ensures in
    one_more g.T.Named.name_of c.args.items.now c.loop-i.i c.index-items-i.result c.as_slice-name.result c.loop-i.places.entries c.insert.new.self.entries c.loop-i-test.true c.index-items-i.is name
    (c.in_ok-insert.ensures.entries ∙ insert_entry-new _ c.loop-i.places c.as_slice-name.result c.loop-i.i none) c.loop-i.invariant

pub loop-i-preserved-then-is_some : goal.loop-i-preserved-then-is_some
loop-i-preserved-then-is_some g c =
    let name = c.as_slice-name.ensures.bytes ∙ c.name.ensures in
    let value = rw name at c.get.ensures.value in
    let some = some_copied c.get.result (sym c.if-is_some.ensures) in
    one_known g.T.Named.name_of c.args.items.now c.loop-i.i c.index-items-i.result some.0 c.loop-i.places.entries c.loop-i-test.true c.index-items-i.is (sym value ∙ some.1) c.loop-i.invariant
