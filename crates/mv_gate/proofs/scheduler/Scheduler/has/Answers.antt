use Rattle.std.proofs.Common.{◌≡◌, true, sym, subst, ◌∙◌}
use mathlib.Core.List.{IsPrefix}
use Rattle.mv_core.specs.Books.{Booked}
use Rattle.mv_gate.specs.Gates.{Holding, IsKnown, IsWhole}
use Rattle.mv_gate.proofs.Numbers.{starts_eq, eq_starts}
use Rattle.mv_gate.proofs.Holding.{known_whole, known_by, known_from, known_seen}
use Rattle.mv_gate.proofs.scheduler.Scheduler.has.Goals as goal

pub returns-clause-known : goal.returns-clause-known
returns-clause-known g c =
    let b : Booked = c.self.inside.book in
    let h : Holding = record { call = c.held.inside.call; start = c.held.inside.start; from = c.held.inside.from; task = c.held.inside.task } in
    known_seen c.args.self.now b c.args.held.now h _ c.self.view_is c.held.view_is (
      λ t. known_by b h c.in-Some.rounds.now c.start-start.result c.in-Some.ensures.live c.start-start.ensures.value (c.if-start-number.false ∙ c.number.ensures.number)
          (sym c.repaired_from.ensures ∙ starts_eq c.repaired_from.result h.from (sym c.eq.ensures ∙ t)),
      λ k. c.eq.ensures ∙ eq_starts c.repaired_from.result h.from (c.repaired_from.ensures ∙ known_from b h c.in-Some.rounds.now c.in-Some.ensures.live k),
    )

pub returns-clause-whole : goal.returns-clause-whole
returns-clause-whole g c t ended =
    let s = g.N.Making.script in
    let b : Booked = c.self.inside.book in
    let h : Holding = record { call = c.held.inside.call; start = c.held.inside.start; from = c.held.inside.from; task = c.held.inside.task } in
    let seen : IsPrefix h.start.knows.seen b.schedule.order =
    subst (λ (x : Holding). IsPrefix x.start.knows.seen b.schedule.order) (sym c.held.view_is) (subst (λ (x : Booked). IsPrefix c.args.held.now.start.knows.seen x.schedule.order) (sym c.self.view_is) c.requires) in
    let known : IsKnown b h =
    known_by b h c.in-Some.rounds.now c.start-start.result c.in-Some.ensures.live c.start-start.ensures.value (c.if-start-number.false ∙ c.number.ensures.number)
    (sym c.repaired_from.ensures ∙ starts_eq c.repaired_from.result h.from (sym c.eq.ensures ∙ t)) in
    subst (λ (x : Booked). IsWhole x c.args.held.now.call c.args.held.now.task) c.self.view_is
    (subst (λ (x : Holding). IsWhole b x.call x.task) c.held.view_is
    (known_whole s b c.self.inside.ledger c.self.inside.starts.items h c.self.invariant c.held.invariant seen known (subst (λ (x : Holding). x.task.ended ≡ true) (sym c.held.view_is) ended)))
