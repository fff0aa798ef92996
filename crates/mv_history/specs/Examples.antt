-- Examples of hits and of kept records, worked out by hand.
use Rattle.std.specs.Prelude.{◌≡◌, ℕ, pos, decimal, List, [], ◌∷◌, Some, None}
use Rattle.mv_values.specs.declared.value.Value.TheVariants.{Int}
use Rattle.mv_values.specs.declared.op.Op.TheVariants.{Eq}
use Rattle.mv_record.specs.declared.record.Record.{Record}
use Rattle.mv_history.specs.declared.change.Change.{Change}
use Rattle.mv_history.specs.Changes.{changes_between}
use Rattle.mv_history.specs.Hits.{first_hit}
use Rattle.mv_history.specs.Kept.{kept_paths, executions}
use Rattle.mv_record.specs.Samples.{key, account, asks, test, writes_column, reads, reads_default, sets, blank, look, change, print}

-- a change of an account's balance
abbrev pub balance : ℕ → ℕ → ℕ → Change
balance a from to = record { table = 0; key = key a; before = Some (account a from).row; after = Some (account a to).row }

-- a row that stays is no change; an inserted row has only an after, a deleted row only a before
abbrev pub RowsDiffer : Type 0
RowsDiffer =
    changes_between ((account 1 5 ∷ account 2 5 ∷ account 3 5 ∷ []) ∷ []) ((account 1 5 ∷ account 2 6 ∷ account 4 7 ∷ []) ∷ [])
    ≡ balance 2 5 6 ∷ record { table = 0; key = key 3; before = Some (account 3 5).row; after = None } ∷ record { table = 0; key = key 4; before = None; after = Some (account 4 7).row } ∷ []

-- SELECT of account 1, IF, UPDATE of it, of account 2 and of the fees
abbrev pub transfer : ℕ → List Record
transfer fees = look 1 1 3 4 100 ∷ record (blank 2) { reads = reads 3 0 ∷ [] } ∷ change 4 1 4 90 ∷ change 5 2 4 110 ∷ change 6 0 4 fees ∷ []

-- another transfer changed only the fees: only the fee is taken again
abbrev pub OnlyTheFee : Type 0
OnlyTheFee =
    (first_hit 1 ((balance 0 0 1 ∷ balance 3 100 90 ∷ []) ∷ []) [] (transfer 1) ≡ Some (record { number = 4; commit = 1 }))
    × (kept_paths (transfer 1) (transfer 2) (balance 0 0 1 ∷ balance 3 100 90 ∷ []) ≡ (1 ∷ []) ∷ (2 ∷ []) ∷ (4 ∷ []) ∷ (5 ∷ []) ∷ [])
    × (executions (transfer 1) (transfer 2) (balance 0 0 1 ∷ balance 3 100 90 ∷ []) ≡ 1)

-- SELECT bal INTO :b, SET :b = :b + 5, UPDATE .. SET bal = :b, PRINT :b
abbrev pub add : ℕ → ℕ → List Record
add was is =
    look 1 1 2 3 was
    ∷ record (blank 2) { reads = reads 2 0 ∷ []; sets = sets 2 is ∷ [] }
    ∷ record (blank 3) { reads = reads 2 1 ∷ []; preds = asks 1 []; sets = sets 3 1 ∷ []; writes = writes_column 1 1 is }
    ∷ print 4 (reads 2 1 ∷ []) (decimal is) ∷ []

-- the balance that was read has changed, and all other records depend on it
abbrev pub AllAgain : Type 0
AllAgain = kept_paths (add 100 105) (add 107 112) (balance 1 100 107 ∷ []) ≡ []

-- SELECT bal INTO :b .. WHERE id = 1; IF :b > 100 THEN SET :x = 1; END IF; SELECT bal INTO :z .. WHERE id = 2;
-- PRINT :x; PRINT :z;
abbrev pub poor_tell : List Record
poor_tell =
    look 1 1 0 3 100 ∷ record (blank 2) { reads = reads 0 0 ∷ [] }
    ∷ look 4 2 2 3 100 ∷ print 5 (reads_default 1 ∷ []) (decimal 0) ∷ print 6 (reads 2 2 ∷ []) (decimal 100) ∷ []

abbrev pub rich_tell : List Record
rich_tell =
    look 1 1 0 3 105 ∷ record (blank 2) { reads = reads 0 0 ∷ [] } ∷ record (blank 3) { parent = Some 1; sets = sets 1 1 ∷ [] }
    ∷ look 4 2 2 3 100 ∷ print 5 (reads 1 2 ∷ []) (decimal 1) ∷ print 6 (reads 2 3 ∷ []) (decimal 100) ∷ []

-- the PRINT of x has a new definer, so it isn't kept; the old run alone doesn't show that. The SELECT of account 2 and
-- its PRINT are kept, although the PRINT's definer has another number
abbrev pub NewDefiner : Type 0
NewDefiner = kept_paths poor_tell rich_tell (balance 1 100 105 ∷ []) ≡ (4 ∷ []) ∷ (6 ∷ []) ∷ []

-- UPDATE m SET d = 1 WHERE k = 1; SELECT COUNT(*) INTO :n FROM m WHERE d = 1 AND e = 1; PRINT :n
abbrev pub count_both : ℕ → List Record
count_both n =
    record (blank 1) { preds = asks 1 []; sets = sets 1 1 ∷ []; writes = writes_column 1 1 1 }
    ∷ record (blank 2) { preds = record { table = 0; tests = test 1 Eq 1 ∷ test 2 Eq 1 ∷ []; columns = [] } ∷ []; sets = sets 0 n ∷ sets 1 1 ∷ [] }
    ∷ print 3 (reads 0 1 ∷ []) (decimal n) ∷ []

abbrev pub third_column : Change
third_column = record { table = 0; key = key 1; before = Some (Int (pos 1) ∷ Int (pos 0) ∷ Int (pos 0) ∷ []); after = Some (Int (pos 1) ∷ Int (pos 0) ∷ Int (pos 1) ∷ []) }

-- no predicate sees the change by itself; the call's own write of the key makes it a hit
abbrev pub OwnWriteCounts : Type 0
OwnWriteCounts =
    (first_hit 1 ((third_column ∷ []) ∷ []) [] (count_both 0) ≡ Some (record { number = 1; commit = 1 }))
    × (kept_paths (count_both 0) (count_both 1) (third_column ∷ []) ≡ (1 ∷ []) ∷ [])

-- UPDATE of account 1, SELECT of it, SELECT of account 2
abbrev pub write_and_look : ℕ → List Record
write_and_look second = change 1 1 1 101 ∷ look 2 1 0 1 101 ∷ look 3 2 0 1 second ∷ []

-- a write that is kept doesn't touch the records that read its row after it
abbrev pub KeptWriteStays : Type 0
KeptWriteStays = kept_paths (write_and_look 100) (write_and_look 105) (balance 2 100 105 ∷ []) ≡ (1 ∷ []) ∷ (2 ∷ []) ∷ []

-- a write that isn't kept does: the SELECT of account 1 is executed again, although no change hits it
abbrev pub OtherWriteTouches : Type 0
OtherWriteTouches = kept_paths (change 1 1 1 101 ∷ look 2 1 0 1 101 ∷ []) (change 1 1 1 106 ∷ look 2 1 0 1 106 ∷ []) (balance 1 100 105 ∷ []) ≡ []
