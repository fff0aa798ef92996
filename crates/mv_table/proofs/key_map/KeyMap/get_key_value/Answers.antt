use Rattle.std.proofs.Common.{◌≡◌, ◌∙◌, subst}
use Rattle.std.specs.Option.{option_map}
use Rattle.mv_table.specs.Entries.{item_of}
use Rattle.mv_table.proofs.Entries.{entries_looked_up, tied_keys}
use Rattle.mv_table.proofs.key_map.KeyMap.get_key_value.Goals as goal

pub returns-clause-key : goal.returns-clause-key
returns-clause-key g c = tied_keys (λ e. e.0.now) c.args.key.now c.get_key_value.result c.get_key_value.ensures.same_key

pub returns-clause-item : goal.returns-clause-item
returns-clause-item g c =
    subst (λ es. option_map (λ e. e.1.now) c.get_key_value.result ≡ item_of es c.args.key.now) c.self.view_is (c.get_key_value.ensures.value ∙ entries_looked_up c.args.key.now c.self.inside.entries.entries)
