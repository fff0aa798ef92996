use Rattle.std.proofs.Common.{◌≡◌, false, Option, Some, None, is_some, sym, ◌∙◌, arith, rules}
use Rattle.std.specs.Prelude.{IfNone}
use Rattle.mv_core.proofs.Changed.{some_rounds}
use Rattle.mv_core.proofs.Refusing.{open_at, open_next}
use Rattle.mv_core.proofs.engine.Core.open_call.Goals as goal

of_none : {A : Type 0} {Q : Type 0} (o : Option A) → IfNone o Q → is_some o ≡ false → Q
of_none None q e = q
of_none (Some x) q e = absurd (search (rules, e))

pub returns-then-is_some : goal.returns-then-is_some
returns-then-is_some c =
    open_at c.args.self.now.book c.loop-call.call c.loop-call.invariant
    (some_rounds c.rounds.result c.rounds.ensures.live (sym c.is_some.ensures ∙ c.if-is_some.true) (λ rounds h. (h.live, h.is_live)))
    (let lt = c.loop-call-test.true in let le = c.begun-call-end.ensures.within in omega (arith, lt, le))

pub loop-call-preserved : goal.loop-call-preserved
loop-call-preserved c =
    open_next c.args.self.now.book.schedule c.loop-call.call c.loop-call.invariant (of_none c.rounds.result c.rounds.ensures.none (sym c.is_some.ensures ∙ c.if-is_some.false))
    (let lt = c.loop-call-test.true in let is = c.begun-call-end.ensures.begun in omega (arith, lt, is))
