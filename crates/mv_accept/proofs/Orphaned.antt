-- Rows without their parents are told exactly.
use Rattle.std.proofs.Common.{◌≡◌, ◌⊎◌, inl, inr, List, Some, None, slice_get, refl, sym, ap, ◌∙◌}
use Rattle.mv_values.specs.References.{Orphan}
use Rattle.mv_catalog.specs.declared.resolved.Program.{Program}
use Rattle.mv_opening.specs.declared.fault.ParentFault.{ParentFault}
use Rattle.mv_opening.specs.declared.fault.ParentFault.TheVariants as parent
use Rattle.mv_opening.specs.Parents.{TellsOrphan}
use Rattle.mv_accept.specs.declared.refusal.ScriptRefusal.{ScriptRefusal}
use Rattle.mv_accept.specs.declared.refusal.ScriptRefusal.TheVariants as why
use Rattle.mv_accept.specs.declared.accept.NotAccepted.{NotAccepted}
use Rattle.mv_accept.specs.declared.accept.NotAccepted.TheVariants.{Refused, NoMemory}
use Rattle.mv_accept.specs.Exact.{HasCause}
use Rattle.mv_accept.specs.Accepting.{table_name, orphans_of, HasNoOrphan, HasOrphan}
use Rattle.mv_accept.specs.Telling.{OfParents}

-- a program without such rows has none to tell
pub no_orphan : (program : Program) → HasNoOrphan program → (refusal : ScriptRefusal) → HasOrphan program refusal → ⊥
no_orphan program none refusal (orphan, first, is) = (let no : None ≡ Some orphan = sym (ap (λ os. slice_get os 0) none) ∙ first in cc)

pub orphan_lost : (program : Program) (fault : ParentFault) (told : NotAccepted) → TellsOrphan (orphans_of program) fault → OfParents program.resolved fault told → HasNoOrphan program → told ≡ NoMemory
orphan_lost program (parent.Missing t r c) told first of none =
    (let no : None ≡ Some (record { table = t; row = r; column = c }) = sym (ap (λ os. slice_get os 0) none) ∙ first in cc)
orphan_lost program parent.NoMemory (Refused refusal) first of none = absurd of
orphan_lost program parent.NoMemory NoMemory first of none = refl

pub orphan_cause : (program : Program) (fault : ParentFault) (told : NotAccepted) → TellsOrphan (orphans_of program) fault → OfParents program.resolved fault told → HasCause (HasOrphan program) told
orphan_cause program (parent.Missing t r c) (Refused refusal) first of = (record { table = t; row = r; column = c }, first, of)
orphan_cause program parent.NoMemory (Refused refusal) first of = absurd of
orphan_cause program fault NoMemory first of = tt

abbrev orphan_line : Program → Orphan → ScriptRefusal
orphan_line program orphan = why.MissingParent (table_name program.resolved orphan.table) orphan.row orphan.column

same_orphan : (all : List Orphan) (o p : Orphan) → slice_get all 0 ≡ Some o → slice_get all 0 ≡ Some p → o ≡ p
same_orphan all o p h k = (let same : Some o ≡ Some p = sym h ∙ k in cc)

pub orphan_told : (program : Program) (fault : ParentFault) (told : NotAccepted) → TellsOrphan (orphans_of program) fault → OfParents program.resolved fault told
    → (refusal : ScriptRefusal) → HasOrphan program refusal → (told ≡ Refused refusal) ⊎ (told ≡ NoMemory)
orphan_told program (parent.Missing t r c) (Refused other) first of refusal (orphan, is, line) =
    let same = same_orphan (orphans_of program) (record { table = t; row = r; column = c }) orphan first is in
    inl (ap Refused (of ∙ (ap (orphan_line program) same ∙ sym line)))
orphan_told program parent.NoMemory (Refused other) first of refusal h = absurd of
orphan_told program fault NoMemory first of refusal h = inr refl
