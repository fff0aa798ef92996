use Rattle.std.proofs.Common.{◌≡◌, refl, sym, ap, ◌∙◌, subst, Some}
use Rattle.std.specs.Option.{IsSome, option_copied_mut}
use Rattle.mv_table.specs.Entries.{item_of}
use Rattle.mv_table.specs.Lending.{HasItem}
use Rattle.mv_table.proofs.Entries.{entries_looked_up, entries_updated, entries_rise}
use Rattle.mv_table.proofs.Changing.{on_some, lent_item}
use Rattle.mv_table.proofs.key_map.KeyMap.get_mut.Goals as goal

pub returns : goal.returns
returns g c =
    let key = c.args.key.now in
    let old = c.self.inside.entries.entries in
    let there : option_copied_mut c.get_mut.result ≡ item_of old key = c.get_mut.ensures.value ∙ entries_looked_up key old in (
      (
        refl,
        (λ w. on_some c.get_mut.result _ (λ r is.
            let held = c.get_mut.follows.holds w in
            let some : item_of old key ≡ Some r.now = sym there ∙ ap option_copied_mut is in
            let found = sym c.get_mut.ensures.value ∙ ap option_copied_mut is in
            subst (λ es. HasItem key w es (c.get_mut.follows.lender w).entries) c.self.view_is
            (lent_item key w r.now old (c.get_mut.follows.lender w).entries (entries_rise old c.get_mut.ensures.ordered) some held.0
            (λ other. entries_updated key other (Some w) old (c.get_mut.follows.lender w).entries ((held.3 (subst IsSome (sym found) refl)).0 other))
            (entries_rise (c.get_mut.follows.lender w).entries held.4)))),
        ap (λ m. m.entries) c.get_mut.follows.holds-at-none ∙ c.self.view_is,
      ),
      record { lends = tt; item = there ∙ ap (λ es. item_of es key) c.self.view_is },
    )
