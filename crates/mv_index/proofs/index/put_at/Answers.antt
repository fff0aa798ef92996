use Rattle.std.proofs.Common.{subst, ◌∙◌, ◌+◌, slice_set}
use Rattle.std.specs.Prelude.{OnOk}
use Rattle.std.specs.List.{AllZip, AllWithin}
use Rattle.std.proofs.lemmas.List.{get_or_default}
use Rattle.mv_index.specs.Indexing.{Column, Grows, HasKey}
use Rattle.mv_index.proofs.Adding.{all_grow, grow_set, have_more}
use Rattle.mv_index.proofs.index.put_at.Goals as goal

pub returns-clause-grow : goal.returns-clause-grow
returns-clause-grow c =
    let items = c.args.columns.now.items in
    let new = c.put.new.self in
    let row = c.as_slice.result.now in
    subst (λ row. AllZip (Grows c.args.table c.args.key.now row) items (slice_set items c.args.at new)) c.as_slice.ensures
    (grow_set c.args.table c.args.key.now row items items c.args.at new (all_grow c.args.table c.args.key.now row items) c.requires
    (subst (λ (p : Column). Grows c.args.table c.args.key.now row p new) (c.index_mut.ensures.value ∙ get_or_default items c.args.at c.index_mut.result.now new c.requires) c.put.ensures.grows))

pub returns-clause-have : goal.returns-clause-have
returns-clause-have c =
    let items = c.args.columns.now.items in
    let new = c.put.new.self in
    subst (λ row. OnOk c.put.result (AllWithin (HasKey c.args.table c.args.key.now row) items 0 c.args.at → AllWithin (HasKey c.args.table c.args.key.now row) (slice_set items c.args.at new) 0 (c.args.at + 1))) c.as_slice.ensures
    (have_more c.args.table c.args.key.now c.as_slice.result.now c.put.result items c.args.at new c.requires c.put.ensures.has)
