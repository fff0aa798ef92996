use Rattle.std.proofs.Common.{rules}
use Rattle.std.proofs.lemmas.Fn.{always_returns_same}
use Rattle.mv_values.specs.Order.{key_order}
use Rattle.mv_index.proofs.Few.{found_place}
use Rattle.mv_index.proofs.few_keys.place_of.Goals as goal

pub returns : goal.returns
returns c =
    found_place c.args.keys.now c.args.key.now c.binary_search_by.result c.requires c.binary_search_by.ensures.bound
    (c.binary_search_by.ensures.position (λ other. key_order other c.args.key.now) (always_returns_same _ _ _ (λ a r f h. search rules)))
