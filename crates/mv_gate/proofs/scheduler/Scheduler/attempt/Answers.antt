use Rattle.std.proofs.Common.{refl, ap, sym, subst, ◌∙◌, rules}
use Rattle.mv_core.specs.Books.{Booked, IsSame}
use Rattle.mv_core.proofs.Changed.{same_self}
use Rattle.mv_gate.specs.Gates.{Holding, IsWhole, IsKnown, Tells}
use Rattle.mv_gate.proofs.Holding.{known_start}
use Rattle.mv_gate.proofs.Leaving.{seen_before, lost_apart}
use Rattle.mv_shards.specs.Leaves.{start_shown}
use Rattle.mv_gate.proofs.Pins.{leave_in, leave_back}
use Rattle.mv_gate.proofs.scheduler.Scheduler.attempt.Goals as goal

pub has-requires : goal.has-requires
has-requires g c = seen_before _ _ _ _ _ c.pass_for-seen.ensures.same c.learn.ensures.same c.pass_for-seen.ensures.seen c.learn.ensures.seen

pub returns-then-not-has-clause-ok : goal.returns-then-not-has-clause-ok
returns-then-not-has-clause-ok g c = subst (λ (b : Booked). IsSame c.args.self.now b) (sym c.learn.ensures.same) (same_self c.args.self.now)

pub returns-then-not-has-clause-lost : goal.returns-then-not-has-clause-lost
returns-then-not-has-clause-lost g c lost known =
    lost_apart (IsKnown c.learn.new.self c.pass_for-seen.new.self) _ (search rules) c.if-not-has.ensures.known
    (subst (λ (h : Holding). IsKnown c.learn.new.self h) (sym c.pass_for-seen.ensures.same) (subst (λ (b : Booked). IsKnown b c.args.ready.held) (sym c.learn.ensures.same) known))

pub decide-requires-clause-whole : goal.decide-requires-clause-whole
decide-requires-clause-whole g c =
    subst (λ (h : Holding). IsWhole c.learn.new.self h.call h.task) (sym c.held.view_is)
    (c.if-not-has.ensures.whole (search rules) (ap (λ (h : Holding). h.task.ended) c.pass_for-seen.ensures.same ∙ c.args.ready.ended))

pub decide-requires-clause-start : goal.decide-requires-clause-start
decide-requires-clause-start g c = known_start c.learn.new.self _ (subst (λ (h : Holding). IsKnown c.learn.new.self h) (sym c.held.view_is) (c.if-not-has.ensures.known.0 (search rules)))

pub decide-requires-clause-tells : goal.decide-requires-clause-tells
decide-requires-clause-tells g c =
    subst (λ (h : Holding). Tells h.task.log.records c.args.ready.output) (sym c.held.view_is)
    (subst (λ (h : Holding). Tells h.task.log.records c.args.ready.output) (sym c.pass_for-seen.ensures.same) c.args.ready.tells)

pub decide-requires-clause-last : goal.decide-requires-clause-last
decide-requires-clause-last g c = leave_in g.N.Making.script g.N.Naming.word (start_shown c.args.last.now) c.learn.new.self c.args.self.now c.learn.ensures.same c.requires.last

pub returns-clause-last : goal.returns-clause-last
returns-clause-last g c = leave_back g.N.Making.script g.N.Naming.word (start_shown c.decide.new.last) c.learn.new.self c.args.self.now _ c.learn.ensures.same refl c.decide.ensures.last
