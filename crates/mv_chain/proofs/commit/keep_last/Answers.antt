use Rattle.std.proofs.Common.{pos, sym, ◌∙◌}
use Rattle.mv_values.specs.declared.patch.Assign.{Assign}
use Rattle.mv_values.specs.declared.value.Value.TheVariants.{Int}
use Rattle.mv_chain.proofs.Compact.{dropped_one, kept_one}
use Rattle.mv_chain.proofs.commit.keep_last.Goals as goal

pub returns-then-is_set_later : goal.returns-then-is_set_later
returns-then-is_set_later c all h =
    let d : Assign = record { column = 0; value = Int (pos 0) } in
    dropped_one all c.args.kept c.args.at c.args.items.now d h c.requires.within (sym (rw c.as_slice.ensures at (c.is_set_later.ensures d)) ∙ c.if-is_set_later.true)

pub returns : goal.returns
returns c all h =
    let d : Assign = record { column = 0; value = Int (pos 0) } in
    kept_one all c.args.kept c.args.at c.args.items.now c.keep.new.items d h c.requires.within (sym (rw c.as_slice.ensures at (c.is_set_later.ensures d)) ∙ c.if-is_set_later.false) (c.keep.ensures d)
