use Rattle.std.proofs.Common.{subst}
use Rattle.std.specs.Option.{option_copied}
use Rattle.mv_undo.specs.Indexing.{DoesAll}
use Rattle.mv_undo.proofs.Growing.{both_last}
use Rattle.mv_undo.proofs.state.patch_after.Goals as goal

pub returns-in_ok-compose-in-Some : goal.returns-in_ok-compose-in-Some
returns-in_ok-compose-in-Some c = λ ws h.
    both_last c.in-Some.patch.now c.in_ok-compose-in-Some.field-0 c.args.write.now ws (subst (λ first. DoesAll (option_copied first) ws) c.in-Some.is h) c.in_ok-compose-in-Some.ensures
