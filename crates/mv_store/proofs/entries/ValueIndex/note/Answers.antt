use Rattle.std.proofs.Common.{subst}
use Rattle.mv_chain.specs.Having.{patch_has}
use Rattle.mv_store.specs.Indexed.{MayNote}
use Rattle.mv_store.proofs.Indexing.{of_columns}
use Rattle.mv_store.proofs.entries.ValueIndex.note.Goals as goal

pub returns-clause-some : goal.returns-clause-some
returns-clause-some c = subst (λ old. MayNote c.args.table c.args.key.now (λ n v. patch_has n v c.args.patch.now) old c.note_patch.new.index) c.self.view_is c.note_patch.ensures.some

pub invariant_of-self : goal.invariant_of-self
invariant_of-self c = of_columns c.self.inside.columns c.self.inside.index c.note_patch.new.index c.note_patch.ensures.some.indexed c.self.invariant
