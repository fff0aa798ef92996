use Rattle.std.proofs.Common.{◌≡◌, Bool, true, false, ℕ, Option, Ok, sym, refl, subst, ◌∙◌, rules}
use Rattle.std.specs.Prelude.{not}
use Rattle.mv_core.specs.Cores.{HasBegunCall, BeginsTask}
use Rattle.mv_core.proofs.Turning.{begun_live}
use Rattle.mv_journal_tests.proofs.live.begin_and_step.Goals as goal

left : (more : Bool) → false ≡ not more → more ≡ true
left true e = refl
left false e = absurd (search (rules, e))

pub ended-requires : goal.ended-requires
ended-requires c = begun_live c.in-Some.call c.args.core.now.book c.begin.new.self.book (subst (λ (o : Option ℕ). HasBegunCall (Ok o) c.args.core.now.book c.begin.new.self.book) c.in-Some.is c.in_ok-call.ensures.made)

pub first_step-requires-clause-live : goal.first_step-requires-clause-live
first_step-requires-clause-live c = begun_live c.in-Some.call c.args.core.now.book c.begin.new.self.book (subst (λ (o : Option ℕ). HasBegunCall (Ok o) c.args.core.now.book c.begin.new.self.book) c.in-Some.is c.in_ok-call.ensures.made)

pub first_step-requires-clause-left : goal.first_step-requires-clause-left
first_step-requires-clause-left c l live = left _ (sym c.if-ended.false ∙ c.ended.ensures l live)

pub first_step-requires-clause-fresh : goal.first_step-requires-clause-fresh
first_step-requires-clause-fresh c = (subst (λ (o : Option ℕ). BeginsTask (Ok o) c.args.core.now c.begin.new.self) c.in-Some.is c.in_ok-call.ensures.task).0
