use Rattle.std.proofs.Common.{sym, subst}
use Rattle.mv_seats.specs.Knowing.{Knows}
use Rattle.mv_shards.specs.Parts.{eight}
use Rattle.mv_shards.specs.Reads.{MayRead}
use Rattle.mv_shards.proofs.Ledgers.{ledger_reads}
use Rattle.mv_shards.proofs.ledger.Ledger.view.Goals as goal

pub of-requires-clause-may : goal.of-requires-clause-may
of-requires-clause-may g c =
    subst (λ (k : Knows). MayRead g.N.Making.script eight c.self.inside.commits k) (sym c.note-pass.ensures.note)
    (ledger_reads g.N.Making.script c.self.inside.commits c.self.inside.pass c.self.inside.touched c.self.invariant)
