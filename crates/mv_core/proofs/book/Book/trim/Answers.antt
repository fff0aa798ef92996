use Rattle.std.proofs.Common.{rules, arith, ◌≡◌, length, map, max}
use Rattle.mv_lawful.proofs.Lows.{oldest_most}
use Rattle.mv_lawful.specs.Lawful.{oldest}
use Rattle.mv_script.specs.Scripts.{batch_of}
use Rattle.mv_core.specs.Calls.{live_of}
use Rattle.mv_core.proofs.Keeping.{the_schedule}
use Rattle.mv_core.proofs.Lows.{needless_told}
use Rattle.mv_core.proofs.Recents.{recent_below, recent_long, recent_trimmed}
use Rattle.mv_core.proofs.book.Book.trim.Goals as goal

needless : (c : goal.After-trim-arg-1) → c.max-needless.result ≡ max c.self.inside.low (oldest (length c.self.inside.order.items) (map live_of c.self.inside.calls.items))
needless c = needless_told c.self.inside c.args.self.now c.oldest_start.result c.max-needless.result c.self.view_is c.oldest_start.ensures (search (rules, c.max-needless.ensures))

pub trim-requires-clause-rises : goal.trim-requires-clause-rises
trim-requires-clause-rises c =
    let is = needless c in
    recent_below (batch_of c.self.inside.script) (the_schedule c.self.inside.order.items c.self.inside.low c.self.inside.answered.items (map live_of c.self.inside.calls.items)) c.max-needless.result c.self.inside.recent c.self.invariant.recent (omega (arith, is))

pub trim-requires-clause-within : goal.trim-requires-clause-within
trim-requires-clause-within c =
    let long = recent_long (batch_of c.self.inside.script) (the_schedule c.self.inside.order.items c.self.inside.low c.self.inside.answered.items (map live_of c.self.inside.calls.items)) c.self.inside.recent c.self.invariant.recent in
    let within = c.self.invariant.recent.within in
    let le = oldest_most (length c.self.inside.order.items) (map live_of c.self.inside.calls.items) in
    let is = needless c in
    omega (arith, long, within, le, is)

pub invariant_of-self : goal.invariant_of-self
invariant_of-self c = record {
  kept = c.self.invariant.kept;
  live = c.self.invariant.live;
  recent =
      let is = needless_told c.self.inside c.args.self.now c.oldest_start.result c.max-needless.result c.self.view_is c.oldest_start.ensures (search (rules, c.max-needless.ensures)) in
      recent_trimmed (batch_of c.self.inside.script) c.self.inside.order.items c.self.inside.low c.self.inside.answered.items c.self.inside.low c.max-needless.result (map live_of c.self.inside.calls.items) c.self.inside.recent c.trim.new.self c.self.invariant.recent
      c.self.invariant.recent.within (omega (arith, is)) (omega (arith, is)) (omega (arith, is)) c.trim.ensures.low c.trim.ensures.commits;
}
