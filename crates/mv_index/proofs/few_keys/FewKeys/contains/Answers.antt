use Rattle.std.proofs.Common.{ap, ◌∙◌}
use Rattle.std.specs.Option.{is_some}
use Rattle.mv_table.specs.Entries.{item_of}
use Rattle.mv_index.specs.Listed.{listed}
use Rattle.mv_index.proofs.Few.{place_tells}
use Rattle.mv_index.proofs.few_keys.FewKeys.contains.Goals as goal

pub returns : goal.returns
returns c =
    c.is_ok.ensures.value
    ∙ (place_tells c.as_slice.result.now c.args.key.now c.place_of.result c.place_of.ensures ∙ ap (λ es. is_some (item_of es c.args.key.now)) (ap listed c.as_slice.ensures.value ∙ c.self.view_is))
