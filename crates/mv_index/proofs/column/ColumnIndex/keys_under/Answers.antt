use Rattle.std.proofs.Common.{◌≡◌, subst, ◌∙◌}
use Rattle.std.specs.BTreeMap.{is_at}
use Rattle.std.specs.Map.{lookup}
use Rattle.std.specs.Option.{option_copied}
use Rattle.mv_values.specs.Order.{value_order}
use Rattle.mv_index.specs.Indexing.{Column}
use Rattle.mv_index.proofs.Values.{looked_up}
use Rattle.mv_index.proofs.column.ColumnIndex.keys_under.Goals as goal

pub returns : goal.returns
returns c = subst (λ (p : Column). option_copied c.get.result ≡ lookup (is_at (value_order c.args.value.now)) p.entries) c.self.view_is (c.get.ensures.value ∙ looked_up c.args.value.now c.self.inside.values.entries)
