use Rattle.std.proofs.Common.{◌≡◌, ◌∙◌, ap, sym, subst, []}
use Rattle.std.specs.Prelude.{Option, List}
use Rattle.mv_values.specs.declared.value.Value.{Value}
use Rattle.mv_chain.specs.Versions.{Versions}
use Rattle.mv_chain.proofs.Versions.{based}
use Rattle.mv_chain.proofs.history.History.set_base.Goals as goal

abbrev base_on : Option (List Value) → Versions → Versions
base_on base v = record v { base = base }

pub returns : goal.returns
returns c =
    based c.self.inside.undos.items c.self.inside.row c.args.base c.self.inside.own.items (subst (λ v. v.commits ≡ []) (sym c.self.view_is) c.requires)
    ∙ ap (base_on c.args.base) c.self.view_is
