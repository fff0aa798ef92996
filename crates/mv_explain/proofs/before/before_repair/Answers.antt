use Rattle.std.proofs.Common.{rules}
use Rattle.mv_core.specs.Calls.{IsLiveCall}
use Rattle.mv_core.proofs.Changed.{some_rounds}
use Rattle.mv_explain.specs.Explained.{AreBefore}
use Rattle.mv_explain.proofs.before.before_repair.Goals as goal

pub run_whole-requires : goal.run_whole-requires
run_whole-requires c = some_rounds {Q = IsLiveCall c.args.core.now.book.schedule c.args.call} c.rounds.result c.rounds.ensures.live (search (rules, c.is_none.ensures, c.if-is_none.false)) (λ rounds h. (h.live, h.is_live))

pub copy_since-requires-clause-live : goal.copy_since-requires-clause-live
copy_since-requires-clause-live c = some_rounds {Q = IsLiveCall c.args.core.now.book.schedule c.args.call} c.rounds.result c.rounds.ensures.live (search (rules, c.is_none.ensures, c.if-is_none.false)) (λ rounds h. (h.live, h.is_live))

pub returns-in_ok-since-in-Ok-clause-some : goal.returns-in_ok-since-in-Ok-clause-some
returns-in_ok-since-in-Ok-clause-some c =
    some_rounds {Q = AreBefore c.args.core.now.book c.args.call c.in-Ok.task.log.records c.in_ok-since-in-Ok.since} c.rounds.result c.rounds.ensures.live (search (rules, c.is_none.ensures, c.if-is_none.false)) (λ rounds h. record {
      live = h.live;
      is_live = h.is_live;
      number = c.in-Ok.ensures.number;
      records = c.in-Ok.ensures.records h.live h.is_live;
      changes = c.in_ok-since-in-Ok.ensures.changes h.live h.is_live;
      numbers = c.in_ok-since-in-Ok.ensures.numbers h.live h.is_live;
    })
