use Rattle.std.proofs.Common.{◌≡◌, sym, subst, List, ℕ}
use Rattle.mv_seats.specs.Knowing.{Knows, plain}
use Rattle.mv_shards.specs.Reads.{IsStart}
use Rattle.mv_shards.proofs.Stored.{grown_met}
use Rattle.mv_shards.proofs.Ledgers.{ledger_learns, ledger_start}
use Rattle.mv_shards.proofs.ledger.Ledger.start.Goals as goal

pub invariant_of-self : goal.invariant_of-self
invariant_of-self g c =
    ledger_learns g.N.Making.script c.self.inside.commits c.self.inside.pass c.meet.new.self c.self.inside.touched c.self.invariant
    (grown_met c.self.inside.pass c.note-theirs.result c.meet.new.self c.meet.ensures.met c.meet.ensures.mine) (c.meet.ensures.gate c.self.invariant.role)

pub of-requires : goal.of-requires
of-requires g c =
    let s = g.N.Making.script in
    let n = c.self.inside.commits in
    let l = ledger_learns s n c.self.inside.pass c.meet.new.self c.self.inside.touched c.self.invariant (grown_met c.self.inside.pass c.note-theirs.result c.meet.new.self c.meet.ensures.met c.meet.ensures.mine) (c.meet.ensures.gate c.self.invariant.role) in
    subst (λ (k : Knows). IsStart s n k c.in_ok-touched.touched) (sym c.note.ensures.note)
    (subst (λ (t : List ℕ). IsStart s n (plain c.meet.new.self) t) (sym c.in_ok-touched.ensures) (ledger_start s n c.meet.new.self c.self.inside.touched l))
