use Rattle.std.proofs.Common.{ap, subst, ◌∙◌}
use Rattle.std.specs.List.{filter}
use Rattle.mv_table.specs.Entries.{KeysRise}
use Rattle.mv_table.specs.Spans.{is_within}
use Rattle.mv_index.specs.Listed.{listed}
use Rattle.mv_index.proofs.Few.{listed_rise, listed_within}
use Rattle.mv_index.proofs.few_keys.FewKeys.within.Goals as goal

pub returns-clause-items : goal.returns-clause-items
returns-clause-items c =
    ap listed c.part_within.ensures
    ∙ (listed_within (is_within c.args.span.now) c.as_slice.result.now ∙ ap (filter (λ e. is_within c.args.span.now e.0)) (ap listed c.as_slice.ensures.value ∙ c.self.view_is))

pub returns-clause-rising : goal.returns-clause-rising
returns-clause-rising c = subst KeysRise c.self.view_is (listed_rise c.self.inside.keys.items c.self.invariant)
