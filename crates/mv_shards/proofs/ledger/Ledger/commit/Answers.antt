use Rattle.std.proofs.Common.{◌≡◌, ◌<◌, ◌+◌, ◌++◌, ◌∷◌, [], sym, subst, false, length}
use Rattle.std.specs.List.{list_any}
use lib.Dec.{eqb}
use Rattle.mv_history.specs.Changes.{changes_between}
use Rattle.mv_shards.specs.Histories.{tables_at}
use Rattle.mv_shards.specs.Installing.{Leads}
use Rattle.mv_shards.specs.Ledgers.{Entered}
use Rattle.mv_shards.proofs.Ledgers.{ledger_learns, ledger_may, ledger_commits}
use Rattle.mv_shards.proofs.ledger.Ledger.commit.Goals as goal

pub install-requires : goal.install-requires
install-requires g c =
    ledger_may g.N.Making.script c.self.inside.commits c.args.call c.args.writes.now c.self.inside.pass c.self.inside.touched c.self.invariant c.requires.call
    (subst (λ (v : Entered). list_any (eqb c.args.call) v.knows.seen ≡ false) (sym c.self.view_is) c.requires.fresh)
    (subst (λ (v : Entered). Leads g.N.Making.script v.knows c.args.call c.args.writes.now) (sym c.self.view_is) c.requires.leads)

pub invariant_of-self : goal.invariant_of-self
invariant_of-self g c = ledger_learns g.N.Making.script c.self.inside.commits c.self.inside.pass c.install.new.pass c.self.inside.touched c.self.invariant c.in_err-n.ensures.err.grown c.in_err-n.ensures.err.seen

pub invariant_of-self-2 : goal.invariant_of-self-2
invariant_of-self-2 g c =
    let s = g.N.Making.script in
    let call = c.args.call in
    ledger_commits s c.self.inside.commits c.in_ok-n.n call c.args.writes.now c.args.changes.now c.self.inside.pass c.install.new.pass c.self.inside.touched c.touch.new.touched c.self.invariant c.in_ok-n.ensures.ok c.touch.ensures.each c.touch.ensures.size
    (subst (λ (v : Entered). c.args.changes.now ≡ changes_between (tables_at s v.knows.seen v.commits) (tables_at s (v.knows.seen ++ call ∷ []) (v.commits + 1))) (sym c.self.view_is) c.requires.changes)
    (subst (λ (v : Entered). Leads s v.knows call c.args.writes.now) (sym c.self.view_is) c.requires.leads)
