use Rattle.std.proofs.Common.{rules, arith, ◌≡◌, ◌<◌, ◌∷◌, min, map, length, All, subst, sym, ap, ◌∙◌}
use Rattle.mv_core.specs.Calls.{live_of}
use Rattle.mv_core.specs.Lives.{least_start}
use Rattle.mv_core.proofs.Lives.{least_first, least_more, all_tail, all_head}
use Rattle.mv_core.proofs.live.LiveCalls.oldest_start.Goals as goal

pub loop-call-init : goal.loop-call-init
loop-call-init c =
    let is : c.into_iter-call-iterator.result ≡ c.args.self.now = search (rules, c.into_iter-call-iterator.ensures.into_iter_gives, c.iter-call-items.ensures.rest, c.self.view_is) in
    record {
      so_far = subst (λ cs. min c.args.n (least_start c.args.n (map live_of c.args.calls.now) cs) ≡ least_start c.args.n (map live_of c.args.calls.now) c.args.self.now) (sym is) (least_first c.args.n (map live_of c.args.calls.now) c.args.self.now);
      most = omega arith;
      within = subst (All (λ x. x < length c.args.calls.now)) (sym is) c.requires;
    }

pub loop-call-preserved : goal.loop-call-preserved
loop-call-preserved c =
    let next : c.loop-call.call-iterator ≡ c.in-Some.call.now ∷ c.next.new.self = search (rules, c.in-Some.ensures.steps) in
    let less : c.min-oldest.result ≡ min c.loop-call.oldest c.index-calls-call.result.start = search (rules, c.min-oldest.ensures) in
    let most = c.loop-call.invariant.most in
    record {
      so_far =
          ap (λ m. min m (least_start c.args.n (map live_of c.args.calls.now) c.next.new.self)) less
          ∙ (least_more c.loop-call.oldest c.args.n c.args.calls.now c.loop-call.call-iterator c.next.new.self c.in-Some.call.now c.index-calls-call.result next (all_head (length c.args.calls.now) c.in-Some.call.now c.loop-call.call-iterator c.next.new.self next c.loop-call.invariant.within) c.index-calls-call.is
          ∙ c.loop-call.invariant.so_far);
      most = omega (arith, less, most);
      within = all_tail (length c.args.calls.now) c.in-Some.call.now c.loop-call.call-iterator c.next.new.self next c.loop-call.invariant.within;
    }
