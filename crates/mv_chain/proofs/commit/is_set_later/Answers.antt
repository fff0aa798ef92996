use Rattle.std.proofs.Common.{◌+◌, ap, ◌∙◌, drop, get_or}
use Rattle.std.proofs.lemmas.List.{get_or_default, take_rest}
use Rattle.mv_values.specs.declared.patch.Assign.{Assign}
use Rattle.mv_values.specs.Patching.{is_set}
use Rattle.mv_chain.proofs.commit.is_set_later.Goals as goal

pub returns : goal.returns
returns c d =
    let items = c.args.items.now in
    c.is_set.ensures
    ∙ (ap (is_set (get_or items c.args.at c.index-items-at.result).column) (take_rest items (c.args.at + 1))
    ∙ ap (λ (a : Assign). is_set a.column (drop (c.args.at + 1) items)) (get_or_default items c.args.at c.index-items-at.result d c.requires))
