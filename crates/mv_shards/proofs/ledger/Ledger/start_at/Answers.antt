use Rattle.std.proofs.Common.{◌≤◌, List, ℕ, sym, subst}
use Rattle.mv_seats.specs.Knowing.{Knows}
use Rattle.mv_shards.specs.Ledgers.{Entered, AreLastChanges}
use Rattle.mv_shards.specs.Reads.{IsStart}
use Rattle.mv_shards.proofs.Ledgers.{ledger_start_at}
use Rattle.mv_shards.proofs.ledger.Ledger.start_at.Goals as goal

pub of-requires : goal.of-requires
of-requires g c =
    let s = g.N.Making.script in
    subst (λ (k : Knows). IsStart s c.args.number k c.args.touched) (sym c.note.ensures.note)
    (ledger_start_at s c.self.inside.commits c.args.number c.self.inside.pass c.self.inside.touched c.args.touched c.self.invariant (subst (λ (v : Entered). c.args.number ≤ v.commits) (sym c.self.view_is) c.requires.past)
    (subst (λ (v : Entered). AreLastChanges s v.knows.seen c.args.number c.args.touched) (sym c.self.view_is) c.requires.touched))
