use Rattle.std.proofs.Common.{◌≡◌, ◌≤◌, ◌<◌, map, min, length, All}
use Rattle.mv_core.specs.Calls.{live_of}
use Rattle.mv_core.specs.Lives.{least_start}
use Rattle.mv_core.proofs.live.LiveCalls.oldest_start.Given as goal

abbrev pub invariant-loop-call : goal.invariant-loop-call
invariant-loop-call l = record {
  so_far : min l.oldest (least_start l.n (map live_of l.calls) l.call-iterator) ≡ least_start l.n (map live_of l.calls) l.fn.self;
  most : l.oldest ≤ l.n;
  within : All (λ c. c < length l.calls) l.call-iterator;
}
