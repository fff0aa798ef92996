use Rattle.std.proofs.Common.{◌<◌, ◌≤◌, ◌^◌, ℕ, List, map, length, sym, subst, ap, ◌∙◌}
use Rattle.std.specs.Prelude.{All}
use Rattle.mv_lawful.specs.Places.{start_in, places}
use Rattle.mv_core.specs.declared.progress.Progress.{Progress}
use Rattle.mv_core.specs.Calls.{live_of, line_of, schedule_with}
use Rattle.mv_core.proofs.Keeping.{few_inside}
use Rattle.mv_core.proofs.Ending.{order_within, answers_within, answers_past, history_told}
use Rattle.mv_core.proofs.book.Book.copies.Goals as goal

pub history_of-requires-clause-few : goal.history_of-requires-clause-few
history_of-requires-clause-few c = subst (λ (xs : List ℕ). length xs < 2 ^ 32) (sym c.as_slice-2.ensures) (few_inside c.self.inside c.self.invariant.kept)

pub history_of-requires-clause-order : goal.history_of-requires-clause-order
history_of-requires-clause-order c =
    subst (λ (ps : List Progress). All (λ n. n < length ps) c.as_slice-2.result.now) (sym c.as_slice.ensures.value)
    (subst (All (λ n. n < length c.self.inside.calls.items)) (sym c.as_slice-2.ensures) (order_within c.self.inside c.self.invariant.kept))

pub history_of-requires-clause-answered : goal.history_of-requires-clause-answered
history_of-requires-clause-answered c =
    subst (λ (ps : List Progress). All (λ n. n < length ps) c.as_slice-3.result.now) (sym c.as_slice.ensures.value)
    (subst (All (λ n. n < length c.self.inside.calls.items)) (sym c.as_slice-3.ensures) (answers_within c.self.inside c.self.invariant.kept))

pub history_of-requires-clause-past : goal.history_of-requires-clause-past
history_of-requires-clause-past c =
    subst (λ (ps : List Progress). All (λ n. start_in (map live_of ps) n ≤ length c.as_slice-2.result.now) c.as_slice-3.result.now) (sym c.as_slice.ensures.value)
    (subst (λ (xs : List ℕ). All (λ n. start_in (map live_of c.self.inside.calls.items) n ≤ length xs) c.as_slice-3.result.now) (sym c.as_slice-2.ensures)
    (subst (All (λ n. start_in (map live_of c.self.inside.calls.items) n ≤ length c.self.inside.order.items)) (sym c.as_slice-3.ensures) (answers_past c.self.inside c.self.invariant.kept)))

pub returns-clause-history : goal.returns-clause-history
returns-clause-history c =
    c.in_ok-history.ensures
    ∙ (ap (λ (ps : List Progress). map (line_of ps) (places (schedule_with ps c.as_slice-2.result.now c.as_slice-3.result.now))) c.as_slice.ensures.value
    ∙ (ap (λ (xs : List ℕ). map (line_of c.self.inside.calls.items) (places (schedule_with c.self.inside.calls.items xs c.as_slice-3.result.now))) c.as_slice-2.ensures
    ∙ (ap (λ (xs : List ℕ). map (line_of c.self.inside.calls.items) (places (schedule_with c.self.inside.calls.items c.self.inside.order.items xs))) c.as_slice-3.ensures
    ∙ history_told c.self.inside c.args.self.now c.self.view_is c.self.invariant.kept)))
