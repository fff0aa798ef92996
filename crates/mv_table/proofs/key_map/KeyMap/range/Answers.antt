use Rattle.std.proofs.Common.{◌≡◌, sym, ap, ◌∙◌, subst}
use Rattle.std.specs.List.{filter}
use Rattle.mv_table.specs.Entries.{KeysRise}
use Rattle.mv_table.specs.Spans.{is_within}
use Rattle.mv_table.proofs.Entries.{entries_rise, entries_between_keys, entries_from_key}
use Rattle.mv_table.proofs.key_map.KeyMap.range.Goals as goal

pub returns-in-Some-clause-items : goal.returns-in-Some-clause-items
returns-in-Some-clause-items g c =
    subst (λ es. c.range.result ≡ filter (λ e. is_within c.args.span.now e.0) es) c.self.view_is
    (c.range.ensures.between tt
    ∙ (entries_between_keys c.args.span.now.low c.in-Some.high c.self.inside.entries.entries
    ∙ ap (λ h. filter (λ e. is_within (record { low = c.args.span.now.low; high = h }) e.0) c.self.inside.entries.entries) (sym c.in-Some.is)))

pub returns-in-Some-clause-rising : goal.returns-in-Some-clause-rising
returns-in-Some-clause-rising g c = subst KeysRise c.self.view_is (entries_rise c.self.inside.entries.entries c.range.ensures.ordered)

pub returns-in-None-clause-items : goal.returns-in-None-clause-items
returns-in-None-clause-items g c =
    subst (λ es. c.range-in-None.result ≡ filter (λ e. is_within c.args.span.now e.0) es) c.self.view_is
    (c.range-in-None.ensures.between tt
    ∙ (entries_from_key c.args.span.now.low c.self.inside.entries.entries
    ∙ ap (λ h. filter (λ e. is_within (record { low = c.args.span.now.low; high = h }) e.0) c.self.inside.entries.entries) (sym c.in-None.is)))

pub returns-in-None-clause-rising : goal.returns-in-None-clause-rising
returns-in-None-clause-rising g c = subst KeysRise c.self.view_is (entries_rise c.self.inside.entries.entries c.range-in-None.ensures.ordered)
