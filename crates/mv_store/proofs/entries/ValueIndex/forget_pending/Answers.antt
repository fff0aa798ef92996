use Rattle.std.proofs.Common.{sym, ap, ◌∙◌}
use Rattle.std.specs.Prelude.{◌&&◌}
use Rattle.mv_chain.specs.Having.{patch_has}
use Rattle.mv_store.proofs.Indexing.{forgets_itself, forgets_as}
use Rattle.mv_store.proofs.entries.ValueIndex.forget_pending.Goals as goal

pub returns-then-not-is_by : goal.returns-then-not-is_by
returns-then-not-is_by g c =
    forgets_itself c.args.table c.args.key.now (g.K.Valued.versions c.args.kept.now) _ c.args.self.now (λ n v. ap (λ b. b && patch_has n v c.args.pending.now.patch) (sym c.is_by.ensures ∙ c.if-not-is_by.true))

pub returns : goal.returns
returns g c =
    forgets_as c.args.table c.args.key.now (g.K.Valued.versions c.args.kept.now) (λ n v. patch_has n v c.args.pending.now.patch) _ c.args.self.now c.forget.new.self
    (λ n v. ap (λ b. b && patch_has n v c.args.pending.now.patch) (sym (sym c.is_by.ensures ∙ c.if-not-is_by.false))) c.forget.ensures
