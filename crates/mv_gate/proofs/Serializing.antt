-- The calls are serializable by the outcome of a run.
use Rattle.std.proofs.Common.{Result, Ok, Err, sym, subst}
use Rattle.std.specs.Prelude.{IfOk}
use Rattle.mv_journal.specs.declared.outcome.Outcome.{Outcome}
use Rattle.mv_lawful.specs.Batch.{Batch, ReadersKeepTables}
use Rattle.mv_lawful.specs.Serializable.{IsSerializable}
use Rattle.mv_lawful.proofs.Serializing.{lawful_is_serializable}
use Rattle.mv_gate.specs.Gates.{IsOutcome}

pub serializable_left : (w : Batch) {E : Type 0} (result : Result Outcome E) → IfOk result (λ o. ReadersKeepTables w) → IfOk result (IsOutcome w) → IfOk result (IsSerializable w)
serializable_left w (Ok outcome) keeps is = subst (IsSerializable w) (sym is.outcome) (lawful_is_serializable w outcome.journal keeps is.lawful)
serializable_left w (Err e) keeps is = tt

-- what holds anyway
pub if_ok : {A E : Type 0} (result : Result A E) (P : Type 0) → P → IfOk result (λ a. P)
if_ok (Ok a) P h = h
if_ok (Err e) P h = tt
