use Rattle.std.proofs.Common.{rules, ap, ◌∙◌, sym, subst, ℕ}
use mathlib.Core.Option.{none}
use Rattle.atomic_table.specs.Table.{step, Me}
use Rattle.mv_seats.specs.Knowing.{Knows}
use Rattle.mv_seats.specs.Rule.{View, Counted}
use Rattle.mv_seats.proofs.Meeting.{begin_met}
use Rattle.mv_seats.proofs.Steps.{joins, counts}
use Rattle.mv_seats.proofs.pass.Pass.meet.Goals as goal

pub join_seat-requires : goal.join_seat-requires
join_seat-requires g c = (search rules, search rules, search rules, search rules, joins _ _ _ _ _ c.self.invariant.live (ap (λ (k : Knows). k.role) c.other.view_is ∙ c.requires))

pub load-requires : goal.load-requires
load-requires g c = (search rules, search rules, counts _ _ _ _ (step c.args.board.now.table.shared.table_id.slots 0 0 0 none) (λ e. c.self.invariant.live (ap (λ (m : Me ℕ View). m.0.knows.role) (sym c.join_seat.ensures.2) ∙ e)))

pub returns-clause-mine : goal.returns-clause-mine
returns-clause-mine g c =
    let counted = subst (λ (m : Me ℕ View). Counted m.0 c.load.result) c.join_seat.ensures.2 c.load.ensures.2.1 in
    let after = ap (λ (m : Me ℕ View). m.0.knows.seen) c.load.ensures.2.0 ∙ ap (λ (m : Me ℕ View). m.0.knows.seen) c.join_seat.ensures.2 in
    rw (← ap (λ (k : Knows). k.seen) c.self.view_is, after) (begin_met c.self.inside.seat.me.0 c.other.inside.seat.me.0 _ counted).0

pub returns-clause-theirs : goal.returns-clause-theirs
returns-clause-theirs g c =
    let counted = subst (λ (m : Me ℕ View). Counted m.0 c.load.result) c.join_seat.ensures.2 c.load.ensures.2.1 in
    let after = ap (λ (m : Me ℕ View). m.0.knows.seen) c.load.ensures.2.0 ∙ ap (λ (m : Me ℕ View). m.0.knows.seen) c.join_seat.ensures.2 in
    rw (← ap (λ (k : Knows). k.seen) c.other.view_is, after) (begin_met c.self.inside.seat.me.0 c.other.inside.seat.me.0 _ counted).1
