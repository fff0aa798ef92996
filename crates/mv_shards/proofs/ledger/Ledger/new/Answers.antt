use Rattle.std.proofs.Common.{◌++◌, ◌∙◌, ap, replicate, List, ℕ}
use Rattle.mv_shards.proofs.Ledgers.{ledger_opens}
use Rattle.mv_shards.proofs.ledger.Ledger.new.Goals as goal

pub invariant_of-result : goal.invariant_of-result
invariant_of-result g c =
    ledger_opens g.N.Making.script c.args.pass c.append.new.self c.requires.role c.requires.seen c.requires.script (c.in_ok-append.ensures.ok ∙ ap (λ (l : List ℕ). l ++ replicate 8 0) c.new-touched.ensures)
