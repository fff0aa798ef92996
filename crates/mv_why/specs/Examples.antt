-- Causes of small runs, worked out by hand. This project's own.
use Rattle.std.specs.Prelude.{◌≡◌, ℕ, pos, List, [], ◌∷◌, Some, None}
use Rattle.mv_values.specs.declared.value.Value.TheVariants.{Int}
use Rattle.mv_values.specs.declared.op.Op.TheVariants.{Ge}
use Rattle.mv_record.specs.declared.record.Record.{Record}
use Rattle.mv_record.specs.Samples.{key, reads, sets, blank, look, change}
use Rattle.mv_history.specs.declared.change.Change.{Change}
use Rattle.mv_history.specs.Examples.{balance, transfer, poor_tell, rich_tell, count_both, third_column, write_and_look}
use Rattle.mv_changes.specs.declared.recent.Committed.{Committed}
use Rattle.mv_why.specs.declared.cause.Cause.{Cause}
use Rattle.mv_why.specs.declared.cause.Reason.TheVariants.{New, Controller, Reads, Hit, Touched}
use Rattle.mv_why.specs.Causes.{cause_of, causes_of}

abbrev pub commit : ℕ → List Change → Committed
commit number changes = record { commit = number; changes = changes }

-- the causes of a repair on the database after one commit
abbrev pub Tells : List Record → List Record → List Change → List Cause → Type 0
Tells old fresh changes causes = causes_of old fresh (commit 1 changes ∷ []) ≡ causes

-- another transfer changed the fees
abbrev pub OnlyTheFee : Type 0
OnlyTheFee = Tells (transfer 1) (transfer 2) (balance 0 0 1 ∷ balance 3 100 90 ∷ []) (cause_of 4 (Hit 1 0 (key 0)) ∷ [])

-- account 1 became rich. The IF reads the same record as before, which isn't kept. The SET is new. The PRINT of x reads
-- what it sets, and its initial value before
abbrev pub NewDefiner : Type 0
NewDefiner =
    Tells poor_tell rich_tell (balance 1 100 105 ∷ [])
    (cause_of 0 (Hit 1 0 (key 1)) ∷ cause_of 1 (Reads (Some 0) (Some 0)) ∷ cause_of 2 New ∷ cause_of 4 (Reads None (Some 2)) ∷ [])

-- no predicate sees the change by itself; the call's own write of the key makes it a hit
abbrev pub AfterOwnWrite : Type 0
AfterOwnWrite = Tells (count_both 0) (count_both 1) (third_column ∷ []) (cause_of 1 (Hit 1 0 (key 1)) ∷ cause_of 2 (Reads (Some 1) (Some 1)) ∷ [])

-- SELECT of account 1 INTO x, IF by x, in it UPDATE of account 2 by x, which account 2 changes too
abbrev pub guarded : ℕ → List Record
guarded was = look 1 1 0 3 was ∷ record (blank 2) { reads = reads 0 0 ∷ [] } ∷ record (change 3 2 3 was) { parent = Some 1; reads = reads 0 0 ∷ [] } ∷ []

-- a record in an IF that isn't kept has the IF for its reason, and not its reads or the change
abbrev pub InAnIf : Type 0
InAnIf =
    Tells (guarded 100) (guarded 105) (balance 1 100 105 ∷ balance 2 100 90 ∷ [])
    (cause_of 0 (Hit 1 0 (key 1)) ∷ cause_of 1 (Reads (Some 0) (Some 0)) ∷ cause_of 2 (Controller 1) ∷ [])

-- SELECT of all accounts from number 1 on
abbrev pub look_from_one : ℕ → List Record
look_from_one n = record (blank 1) { preds = record { table = 0; tests = record { column = 0; key_place = Some 0; op = Ge; value = Int (pos 1) } ∷ []; columns = 1 ∷ [] } ∷ []; sets = sets 0 n ∷ [] } ∷ []

-- two commits hit the record, and the first is told
abbrev pub LeastCommit : Type 0
LeastCommit =
    causes_of (look_from_one 100) (look_from_one 101) (commit 3 (balance 0 0 1 ∷ []) ∷ commit 4 (balance 7 0 1 ∷ []) ∷ commit 5 (balance 2 0 1 ∷ []) ∷ [])
    ≡ cause_of 0 (Hit 4 0 (key 7)) ∷ []

-- two changes of a commit hit the record, and the one with the lesser key is told
abbrev pub LeastKey : Type 0
LeastKey = Tells (look_from_one 100) (look_from_one 101) (balance 0 0 1 ∷ balance 2 0 1 ∷ balance 7 0 1 ∷ []) (cause_of 0 (Hit 1 0 (key 2)) ∷ [])

-- SELECT of account 1, UPDATE of the account with this number, SELECT of account 2
abbrev pub moves_to : ℕ → ℕ → List Record
moves_to account was = look 1 1 0 3 was ∷ record (change 2 account 3 was) { reads = reads 0 0 ∷ [] } ∷ look 3 2 1 3 was ∷ []

-- the old run wrote account 2, and the new run doesn't
abbrev pub TouchedByOld : Type 0
TouchedByOld =
    Tells (moves_to 2 100) (moves_to 5 105) (balance 1 100 105 ∷ [])
    (cause_of 0 (Hit 1 0 (key 1)) ∷ cause_of 1 (Reads (Some 0) (Some 0)) ∷ cause_of 2 (Touched (2 ∷ [])) ∷ [])

-- the new run writes it, and the old run didn't
abbrev pub TouchedByNew : Type 0
TouchedByNew =
    Tells (moves_to 5 100) (moves_to 2 105) (balance 1 100 105 ∷ [])
    (cause_of 0 (Hit 1 0 (key 1)) ∷ cause_of 1 (Reads (Some 0) (Some 0)) ∷ cause_of 2 (Touched (2 ∷ [])) ∷ [])

-- SELECT of account 1, an IF that the old run goes through with statement 3 and the new run with statement 4, UPDATEs
-- of account 2, SELECT of account 2
abbrev pub by_branch : ℕ → ℕ → List Record
by_branch statement was =
    look 1 1 0 3 was ∷ record (blank 2) { reads = reads 0 0 ∷ [] } ∷ record (change statement 2 3 was) { parent = Some 1 } ∷ look 5 2 1 3 was ∷ []

-- both runs wrote it, each by a statement of its own, and the one that is earlier in the program is told
abbrev pub TouchedByBoth : Type 0
TouchedByBoth =
    Tells (by_branch 4 100) (by_branch 3 105) (balance 1 100 105 ∷ [])
    (cause_of 0 (Hit 1 0 (key 1)) ∷ cause_of 1 (Reads (Some 0) (Some 0)) ∷ cause_of 2 New ∷ cause_of 3 (Touched (3 ∷ [])) ∷ [])

-- a write that is kept touches nothing
abbrev pub KeptWrite : Type 0
KeptWrite = Tells (write_and_look 100) (write_and_look 105) (balance 2 100 105 ∷ []) (cause_of 2 (Hit 1 0 (key 2)) ∷ [])

-- all records are kept
abbrev pub NothingToTell : Type 0
NothingToTell = Tells (transfer 1) (transfer 1) (balance 8 0 1 ∷ []) []
