use Rattle.std.proofs.Common.{arith, ◌≡◌, length, ap, sym, ◌∙◌}
use Rattle.std.specs.Prelude.{nat_lt}
use Rattle.mv_graph.specs.Nodes.{meaning_of}
use Rattle.mv_lawful.specs.Lawful.{used}
use Rattle.mv_core.specs.Books.{batch_in}
use Rattle.mv_core.proofs.Refusing.{step_is, step_past, used_rounds}
use Rattle.mv_core.proofs.Changed.{not_one}
use Rattle.mv_core.proofs.tasks.has_step.Goals as goal

pub has_more-requires : goal.has_more-requires
has_more-requires c none =
    let h = c.in-Some.ensures.live in
    let t = c.requires.task h.live h.is_live in
    let many = used_rounds c.args.book.now c.args.call (length c.args.book.now.schedule.order) h.live c.in-Some.rounds.now h h.is_live t.round_starts in
    let one = c.if-rounds-eq1.true in
    let first : used h.live ≡ 0 = omega (arith, many, one) in
    let le = t.steps none first in
    let is = c.steps.ensures h.live h.is_live in
    omega (arith, le, is)

pub returns-then-rounds-eq1 : goal.returns-then-rounds-eq1
returns-then-rounds-eq1 c l live =
    let t = c.requires.task l live in
    let many = used_rounds c.args.book.now c.args.call (length c.args.book.now.schedule.order) l c.in-Some.rounds.now c.in-Some.ensures.live live t.round_starts in
    let one = c.if-rounds-eq1.true in
    let first : used l ≡ 0 = omega (arith, many, one) in
    sym (step_is c.args.book.now.script c.args.book.now.schedule c.args.call l c.args.running.now c.has_more.result c.requires.script c.requires.number t first
    (λ n is. c.has_more.ensures.known n is ∙ ap (λ x. nat_lt x n) (c.steps.ensures l live))
    (λ none g call db rest is rise leaves. c.has_more.ensures.unknown none g call db rest is rise leaves ∙ ap (λ n. nat_lt n (length (meaning_of g call db).records)) (c.steps.ensures l live)))

pub returns-else-rounds-eq1 : goal.returns-else-rounds-eq1
returns-else-rounds-eq1 c l live =
    let many = used_rounds c.args.book.now c.args.call (length c.args.book.now.schedule.order) l c.in-Some.rounds.now c.in-Some.ensures.live live (c.requires.task l live).round_starts in
    let past : used l ≡ 0 → ⊥ = λ first. c.if-rounds-eq1.false (omega (arith, many, first)) in
    not_one (length c.in-Some.rounds.now) c.if-rounds-eq1.false ∙ sym (step_past (batch_in c.args.book.now) c.args.book.now.schedule c.args.call l past)
