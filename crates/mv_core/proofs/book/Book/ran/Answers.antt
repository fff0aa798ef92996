use Rattle.std.proofs.Common.{arith, rules, ◌<◌, ◌≤◌, ◌+◌, ◌^◌, List, length, refl, ap, ◌∙◌, sym}
use Rattle.mv_journal.specs.declared.event.Event.TheVariants.{S}
use Rattle.mv_lawful.specs.Lawful.{Live}
use Rattle.mv_core.specs.Calls.{IsLive}
use Rattle.mv_script.specs.Scripts.{batch_of}
use Rattle.mv_core.proofs.Keeping.{live_stays, the_schedule, here_at, IsProgressAt, map_changed, kept_one, step_live, steps_fit, made_on, free_on, room_left, still_settled}
use Rattle.mv_core.proofs.Recents.{recent_set}
use Rattle.mv_core.proofs.book.Book.ran.Goals as goal

here : (c : goal.After-self-1) → (l : Live) × IsLive c.args.self.now.schedule c.args.call l × IsProgressAt c.self.inside.calls.items c.args.call l c.index_mut.result.now
here c = here_at c.self.inside c.args.self.now c.args.call c.index_mut.result.now c.self.view_is (step_live c.args.self.now c.args.call c.requires.allowed) c.index_mut.ensures.value

pub overflow_add-index_mut : goal.overflow_add-index_mut
overflow_add-index_mut c =
    let le : c.index_mut.result.now.steps ≤ length c.self.inside.journal.items = steps_fit c.self.inside c.args.call c.index_mut.result.now c.self.invariant.kept (here_at c.self.inside c.args.self.now c.args.call c.index_mut.result.now c.self.view_is (step_live c.args.self.now c.args.call c.requires.allowed) c.index_mut.ensures.value).2.at in
    let few : length c.self.inside.journal.items + 1 < 2 ^ 64 = c.put.ensures.few in
    let fits : c.index_mut.result.now.steps + 1 < 2 ^ 64 = omega (arith, le, few) in
    search (rules, fits)

pub invariant_of-self : goal.invariant_of-self
invariant_of-self c = record {
  kept =
      kept_one _ _ _ _ c.args.call c.self.inside.calls.items _ _ (S c.args.call) (λ l. record l { steps = l.steps + 1 }) c.index_mut.result.now _ c.self.invariant.kept
      (free_on (S c.args.call) _ c.args.self.now c.self.view_is c.requires.allowed) refl c.put.ensures.items (here c).2.at refl (c.self.invariant.kept.tells c.args.call c.index_mut.result.now (here c).2.at);
  live = c.self.invariant.live ∙ sym (live_stays c.self.inside.calls.items c.args.call c.index_mut.result.now _ (here c).2.at refl);
  recent = recent_set (batch_of c.self.inside.script) c.self.inside.order.items c.self.inside.low c.self.inside.answered.items c.args.call c.self.inside.calls.items c.index_mut.result.now _ c.self.inside.recent c.self.invariant.recent (here c).2.at (here c).2.going (omega arith);
}

pub returns-clause-made : goal.returns-clause-made
returns-clause-made c =
    made_on (S c.args.call) _ c.args.self.now _ c.self.view_is c.requires.allowed
    (ap (λ (ls : List Live). the_schedule c.self.inside.order.items c.self.inside.low c.self.inside.answered.items ls) (map_changed (λ l. record l { steps = l.steps + 1 }) c.self.inside.calls.items c.args.call c.index_mut.result.now _ (here c).2.at refl))
    (λ d live other has. still_settled c.self.inside c.args.self.now c.args.call d c.index_mut.result.now _ c.self.view_is (here c).2.at (λ is some. some) has) c.put.ensures.items refl

pub returns-clause-room : goal.returns-clause-room
returns-clause-room c x n has =
    room_left _ c.args.self.now _ c.self.inside.calls.items c.args.call x n (n + 1) c.index_mut.result.now _ c.self.view_is refl (here c).2.at (omega arith) (let r = c.put.ensures.room in omega (arith, r)) (omega arith) has
