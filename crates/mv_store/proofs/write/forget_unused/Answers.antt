use Rattle.std.proofs.Common.{refl, ap, subst}
use Rattle.std.specs.Prelude.{◌||◌}
use Rattle.std.specs.Option.{option_copied}
use Rattle.mv_chain.specs.Having.{patch_has, earlier_has}
use Rattle.mv_store.specs.Indexed.{Forgets}
use Rattle.mv_store.specs.Kept.{versions_in}
use Rattle.mv_store.proofs.Indexing.{forgets_then}
use Rattle.mv_store.proofs.write.forget_unused.Goals as goal

pub returns : goal.returns
returns c =
    let w = c.args.write.now in
    subst (λ v. Forgets w.table w.key (λ n x. patch_has n x w.patch || earlier_has n x (option_copied c.args.earlier)) v c.args.index.now c.forget_earlier.new.index) (ap versions_in c.get-chain.ensures)
    (forgets_then w.table w.key _ (λ n v. patch_has n v w.patch) (λ n v. earlier_has n v (option_copied c.args.earlier)) _ c.args.index.now c.forget.new.self c.forget_earlier.new.index (λ n v. refl) c.forget.ensures c.forget_earlier.ensures)
