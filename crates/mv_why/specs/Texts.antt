-- Texts of the causes of small runs, worked out by hand. This project's own.
use Rattle.std.specs.Prelude.{◌≡◌, pos, List, [], ◌∷◌, codes}
use Rattle.mv_values.specs.declared.schema.TableInfo.{TableInfo}
use Rattle.mv_values.specs.declared.value.Value.TheVariants.{Int, Text}
use Rattle.mv_values.specs.Texts.{lines_text}
use Rattle.mv_history.specs.Examples.{balance, transfer, poor_tell, rich_tell}
use Rattle.mv_why.specs.declared.cause.Reason.TheVariants.{Hit, Touched}
use Rattle.mv_why.specs.Examples.{commit, guarded}
use Rattle.mv_why.specs.Text.{reason_text, repair_text}

-- the table of the accounts
abbrev pub accounts : List TableInfo
accounts = record { name = codes "acc"; columns = []; key = [] } ∷ []

abbrev pub FeeText : Type 0
FeeText =
    repair_text accounts 1 1 (transfer 1) (transfer 2) (commit 1 (balance 0 0 1 ∷ balance 3 100 90 ∷ []) ∷ [])
    ≡ lines_text (codes "why 1 start 1" ∷ codes "6 hit 1 acc 0" ∷ [])

abbrev pub DefinerText : Type 0
DefinerText =
    repair_text accounts 1 1 poor_tell rich_tell (commit 1 (balance 1 100 105 ∷ []) ∷ [])
    ≡ lines_text (codes "why 1 start 1" ∷ codes "1 hit 1 acc 1" ∷ codes "2 reads 1 1" ∷ codes "3 new" ∷ codes "5 reads default 3" ∷ [])

abbrev pub HolderText : Type 0
HolderText =
    repair_text accounts 12 3 (guarded 100) (guarded 105) (commit 3 (balance 1 100 105 ∷ balance 2 100 90 ∷ []) ∷ [])
    ≡ lines_text (codes "why 12 start 3" ∷ codes "1 hit 3 acc 1" ∷ codes "2 reads 1 1" ∷ codes "3 controller 2" ∷ [])

-- the statement 3 in the turn 12 of the FOR that is statement 1
abbrev pub TurnText : Type 0
TurnText = reason_text accounts [] [] (Touched (1 ∷ 12 ∷ 3 ∷ [])) ≡ codes "touched 1.12.3"

-- a key of two columns
abbrev pub KeyText : Type 0
KeyText = reason_text accounts [] [] (Hit 4 0 (Int (pos 7) ∷ Text (codes "it's") ∷ [])) ≡ codes "hit 4 acc 7,'it''s'"
