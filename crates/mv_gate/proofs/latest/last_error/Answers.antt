use Rattle.std.proofs.Common.{ℕ, ◌<◌, sym, subst, length}
use Rattle.std.specs.Prelude.{◌≡◌}
use Rattle.mv_view.specs.declared.view.Refused.TheVariants.{Stale}
use Rattle.mv_lawful.specs.Rounds.{IsPast}
use Rattle.mv_shards.specs.Kept.{IsLow}
use Rattle.mv_gate.proofs.Seeing.{not_past}
use Rattle.mv_gate.proofs.latest.last_error.Goals as goal

pub refused-requires-clause-low : goal.refused-requires-clause-low
refused-requires-clause-low g c =
    subst (λ n. (start low : ℕ) → c.args.why ≡ Stale start low → (n < low) × IsLow g.N.Making.script.options.horizon low (length c.args.seen.seen)) (sym c.commits-commits.ensures.commits) c.requires.low

pub unreachable-requires : goal.unreachable-requires
unreachable-requires g c = not_past g.N.Making.script.options.horizon c.args.ledger.now.commits (subst (λ n. IsPast g.N.Making.script.options.horizon n c.args.ledger.now.commits) c.commits-commits.ensures.commits c.in-Ok.ensures.past)
