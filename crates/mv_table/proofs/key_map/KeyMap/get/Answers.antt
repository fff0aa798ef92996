use Rattle.std.proofs.Common.{◌≡◌, ◌∙◌, subst}
use Rattle.std.specs.Option.{option_copied}
use Rattle.mv_table.specs.Entries.{item_of}
use Rattle.mv_table.proofs.Entries.{entries_looked_up}
use Rattle.mv_table.proofs.key_map.KeyMap.get.Goals as goal

pub returns : goal.returns
returns g c = subst (λ es. option_copied c.get.result ≡ item_of es c.args.key.now) c.self.view_is (c.get.ensures.value ∙ entries_looked_up c.args.key.now c.self.inside.entries.entries)
