use Rattle.std.proofs.Common.{rules, ◌≡◌, suc, length, ap, ◌∙◌}
use Rattle.mv_journal.specs.declared.outcome.Round.{Round}
use Rattle.mv_core.specs.Rooms.{Filled}
use Rattle.mv_lawful.specs.Rounds.{numbered}
use Rattle.mv_core.proofs.Numbers.{set_last}
use Rattle.mv_core.proofs.roomy.Roomy+Round.number_last.Goals as goal

pub returns-in-Some-clause-items : goal.returns-in-Some-clause-items
returns-in-Some-clause-items c =
    let long : length c.self.inside.items.items ≡ suc c.in-Some.at = search (rules, c.in-Some.ensures, c.len.ensures) in
    set_last c.args.count c.self.inside.items.items c.in-Some.at c.index_mut.result.now long c.index_mut.ensures.value
    ∙ ap (λ (f : Filled Round). numbered c.args.count f.items) c.self.view_is
