use Rattle.std.proofs.Common.{◌<◌, length, Some, ap, sym, subst, ◌∙◌, rules}
use Rattle.mv_core.specs.Calls.{IsLiveCall}
use Rattle.mv_core.specs.Books.{Booked}
use Rattle.mv_gate.proofs.Starts.{entry_there, entry_read}
use Rattle.mv_gate.proofs.Leaving.{start_past, start_touched}
use Rattle.mv_gate.proofs.scheduler.Scheduler.start_of.Goals as goal

pub start-number-requires : goal.start-number-requires
start-number-requires g c = subst (λ (b : Booked). IsLiveCall b.schedule c.args.call) (sym c.self.view_is) c.requires

pub index-requires : goal.index-requires
index-requires g c =
    let lt : c.args.call < length c.self.inside.starts.items =
    entry_there g.N.Making.script c.self.inside.book.schedule c.self.inside.starts.items c.args.call c.self.invariant.touched (subst (λ (b : Booked). IsLiveCall b.schedule c.args.call) (sym c.self.view_is) c.requires) in
    search (rules, lt)

pub start_at-requires-clause-past : goal.start_at-requires-clause-past
start_at-requires-clause-past g c =
    start_past g.N.Making.script c.self.inside.book c.self.inside.ledger c.self.inside.starts.items c.args.call c.start-number.result c.self.invariant (subst (λ (b : Booked). IsLiveCall b.schedule c.args.call) (sym c.self.view_is) c.requires) c.start-number.ensures.value

pub start_at-requires-clause-touched : goal.start_at-requires-clause-touched
start_at-requires-clause-touched g c =
    start_touched g.N.Making.script c.self.inside.book c.self.inside.ledger c.self.inside.starts.items c.args.call c.start-number.result c.index.result.now _ c.self.invariant
    (subst (λ (b : Booked). IsLiveCall b.schedule c.args.call) (sym c.self.view_is) c.requires) c.start-number.ensures.value c.index.ensures (c.in-Some.is ∙ ap Some (sym c.in_ok-touched.ensures))

pub unreachable-requires : goal.unreachable-requires
unreachable-requires g c =
    let had = entry_read g.N.Making.script c.self.inside.book.schedule c.self.inside.starts.items c.args.call c.index.result.now c.self.invariant.touched (subst (λ (b : Booked). IsLiveCall b.schedule c.args.call) (sym c.self.view_is) c.requires) c.index.ensures in
    c.in_default.not-Some had.0 had.1
