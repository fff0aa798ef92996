use Rattle.std.proofs.Common.{◌+◌, List, sym, ap, subst, ◌∙◌}
use Rattle.mv_changes.specs.declared.recent.Committed.{Committed}
use Rattle.mv_changes.specs.Commits.{changes_in, AreNumbered}
use Rattle.mv_journal_tests.proofs.repairs.before_repair.Goals as goal

pub run_whole-requires : goal.run_whole-requires
run_whole-requires c = (c.in-Some.ensures.live.live, c.in-Some.ensures.live.is_live)

pub since-requires-clause-live : goal.since-requires-clause-live
since-requires-clause-live c = (c.in-Some.ensures.live.live, c.in-Some.ensures.live.is_live)

pub returns : goal.returns
returns c =
    let h = c.in-Some.ensures.live in
    record {
      live = h.live;
      is_live = h.is_live;
      number = c.in-Ok.ensures.number;
      records = c.in-Ok.ensures.records h.live h.is_live;
      changes = ap (λ (cs : List Committed). changes_in cs) c.in_ok-since.ensures ∙ c.since.ensures.changes h.live h.is_live;
      numbers = subst (AreNumbered (h.live.start + 1)) (sym c.in_ok-since.ensures) (c.since.ensures.numbers h.live h.is_live);
    }
