-- Records of small procedures, computed by hand.
use Rattle.std.specs.Prelude.{◌≡◌, ℕ, pos, true, false, List, [], ◌∷◌, Some, None}
use Rattle.mv_values.specs.declared.value.Value.{Value}
use Rattle.mv_values.specs.declared.value.Value.TheVariants.{Int, Text}
use Rattle.mv_values.specs.declared.op.Op.TheVariants.{Eq, Lt, Ge}
use Rattle.mv_values.specs.declared.rows.Keyed.{Keyed}
use Rattle.mv_values.specs.declared.patch.Patch.TheVariants as patch
use Rattle.mv_values.specs.declared.calls.Call.{Call}
use Rattle.mv_values.specs.declared.calls.Argument.{Argument}
use Rattle.mv_values.specs.declared.calls.Argument.TheVariants.{One, Many}
use Rattle.mv_values.specs.declared.calls.End.TheVariants.{Own, Overflow, ZeroDivisor}
use Rattle.mv_values.specs.declared.schema.TableInfo.{TableInfo}
use Rattle.mv_values.specs.declared.schema.ColType.TheVariants as column
use Rattle.mv_ast.specs.declared.tree.TwoOp.{TwoOp}
use Rattle.mv_ast.specs.declared.tree.TwoOp.TheVariants.{Add, Sub, Div, Compare}
use Rattle.mv_ast.specs.Texts.{greatest}
use Rattle.mv_catalog.specs.declared.resolved.RExpr.{RExpr}
use Rattle.mv_catalog.specs.declared.resolved.RExprKind.{RExprKind}
use Rattle.mv_catalog.specs.declared.resolved.RExprKind.TheViews.{roll-RExprKind}
use Rattle.mv_catalog.specs.declared.resolved.RExprKind.TheOpen.{RExprKind-F}
use Rattle.mv_catalog.specs.declared.resolved.RExprKind.TheOpen as kind
use Rattle.mv_catalog.specs.declared.resolved.RCond.{RCond}
use Rattle.mv_catalog.specs.declared.resolved.RAgg.TheVariants.{Sum}
use Rattle.mv_catalog.specs.declared.resolved.ProcInfo.{ProcInfo}
use Rattle.mv_catalog.specs.declared.resolved.RStmt.{RStmt, roll-RStmt}
use Rattle.mv_catalog.specs.declared.resolved.RStmt.TheOpen.{RStmt-F, Assign, Select, Total, ForSelect, ForRows, Branch, Insert, Update, Delete, Print, Rollback}
use Rattle.mv_record.specs.declared.record.Record.{Record}
use Rattle.mv_record.specs.Paths.{paths}
use Rattle.mv_record.specs.Samples.{account, asks, writes_balance, reads, reads_default, sets, blank}
use Rattle.mv_recorded.specs.Recorded.{recorded}

-- Expressions

-- an expression of this kind
abbrev pub expr : RExprKind-F RExprKind RExpr → RExpr
expr d = record { kind = roll-RExprKind d }

abbrev pub constant : Value → RExpr
constant v = expr (kind.Const v)

abbrev pub var : ℕ → RExpr
var x = expr (kind.Var x)

abbrev pub field : ℕ → ℕ → RExpr
field x c = expr (kind.Field x c)

abbrev pub col : ℕ → RExpr
col c = expr (kind.Col c)

abbrev pub two : TwoOp → RExpr → RExpr → RExpr
two op a b = expr (kind.Two op a b)

-- Accounts with a number, a balance and a note

abbrev pub acc : List TableInfo
acc = record {
  name = [];
  columns = record { name = []; kind = column.Int; refers = None } ∷ record { name = []; kind = column.Int; refers = None } ∷ record { name = []; kind = column.Text 20; refers = None } ∷ [];
  key = 0 ∷ [];
} ∷ []

-- two accounts besides the one for fees
abbrev pub bank : List (List Keyed)
bank = (account 0 0 ∷ account 1 100 ∷ account 2 100 ∷ []) ∷ []

-- WHERE id = x
abbrev pub of_account : RExpr → List RCond
of_account x = record { column = 0; op = Eq; right = x } ∷ []

-- Records

abbrev pub call_of : List Argument → Call
call_of arguments = record { procedure = 0; arguments = arguments }

abbrev pub number_of : ℕ → Argument
number_of n = One (Int (pos n))

-- SELECT bal INTO x FROM acc WHERE id = :a
abbrev pub read_balance : ℕ → RStmt-F RStmt
read_balance x = Select (1 ∷ []) (x ∷ []) 0 (of_account (var 0)) [] None

-- PROCEDURE add (:a, :x): the variables are a, x, b and `:found`

abbrev pub add_amount : RStmt-F RStmt
add_amount = Assign 2 (two Add (var 2) (var 1))

abbrev pub set_balance : RStmt-F RStmt
set_balance = Update 0 (record { column = 1; right = var 2 } ∷ []) (of_account (var 0))

abbrev pub tell_balance : RStmt-F RStmt
tell_balance = Print (var 2 ∷ [])

abbrev pub add : ProcInfo
add = record {
  name = [];
  params = [];
  read_only = false;
  defaults = Int (pos 0) ∷ [];
  body = roll-RStmt (read_balance 2) ∷ roll-RStmt add_amount ∷ roll-RStmt set_balance ∷ roll-RStmt tell_balance ∷ [];
}

abbrev pub add_read : Record
add_read = record (blank 1) { preds = asks 1 (1 ∷ []); sets = sets 2 100 ∷ sets 3 1 ∷ [] }

abbrev pub add_sum : Record
add_sum = record (blank 2) { reads = reads 2 0 ∷ []; sets = sets 2 105 ∷ [] }

abbrev pub add_write : Record
add_write = record (blank 3) { reads = reads 2 1 ∷ []; preds = asks 1 []; sets = sets 3 1 ∷ []; writes = writes_balance 1 105 }

abbrev pub add_line : Record
add_line = record (blank 4) { reads = reads 2 1 ∷ []; line = Some (49 ∷ 48 ∷ 53 ∷ []) }

-- the UPDATE and the PRINT read the sum
abbrev pub AddsFive : Type 0
AddsFive = recorded acc add (call_of (number_of 1 ∷ number_of 5 ∷ [])) bank ≡ add_read ∷ add_sum ∷ add_write ∷ add_line ∷ []

abbrev pub add_overflow : Record
add_overflow = record (blank 2) { reads = reads 2 0 ∷ []; end = Some Overflow }

-- the second record ends the call, and sets nothing
abbrev pub AddOverflows : Type 0
AddOverflows = recorded acc add (call_of (number_of 1 ∷ number_of greatest ∷ [])) bank ≡ add_read ∷ add_overflow ∷ []

-- PROCEDURE raise (:a, :x): UPDATE acc SET bal = bal + :x WHERE id = :a

abbrev pub raise_balance : RStmt-F RStmt
raise_balance = Update 0 (record { column = 1; right = two Add (col 1) (var 1) } ∷ []) (of_account (var 0))

abbrev pub raise : ProcInfo
raise = record { name = []; params = []; read_only = false; defaults = []; body = roll-RStmt raise_balance ∷ [] }

-- the UPDATE faults after it looked at rows: its record has a predicate and an end, but no writes
abbrev pub UpdateOverflows : Type 0
UpdateOverflows =
    recorded acc raise (call_of (number_of 1 ∷ number_of greatest ∷ [])) bank ≡ record (blank 1) { preds = asks 1 (1 ∷ []); end = Some Overflow } ∷ []

-- PROCEDURE look (:a): the variables are a, b and `:found`; SELECT bal INTO :b FROM acc WHERE id = :a; PRINT :b, :found

abbrev pub tell_found : RStmt-F RStmt
tell_found = Print (var 1 ∷ var 2 ∷ [])

abbrev pub look : ProcInfo
look = record { name = []; params = []; read_only = false; defaults = Int (pos 0) ∷ []; body = roll-RStmt (read_balance 1) ∷ roll-RStmt tell_found ∷ [] }

abbrev pub look_read : Record
look_read = record (blank 1) { preds = asks 7 (1 ∷ []); sets = sets 2 0 ∷ [] }

abbrev pub look_line : Record
look_line = record (blank 2) { reads = reads_default 1 ∷ reads 2 0 ∷ []; line = Some (48 ∷ 44 ∷ 48 ∷ []) }

-- a SELECT without a row sets only `:found`: its target keeps its default
abbrev pub LooksInVain : Type 0
LooksInVain = recorded acc look (call_of (number_of 7 ∷ [])) bank ≡ look_read ∷ look_line ∷ []

-- PROCEDURE transfer (:a, :c, :x): the variables are a, c, x, b and `:found`

-- IF :b < :x THEN ROLLBACK 'no funds'; END IF
abbrev pub no_funds : List ℕ
no_funds = 110 ∷ 111 ∷ 32 ∷ 102 ∷ 117 ∷ 110 ∷ 100 ∷ 115 ∷ []

abbrev pub look_at_funds : RStmt-F RStmt
look_at_funds = Branch (two (Compare Lt) (var 3) (var 2)) (roll-RStmt (Rollback no_funds) ∷ []) []

abbrev pub take_amount : RStmt-F RStmt
take_amount = Update 0 (record { column = 1; right = two Sub (col 1) (var 2) } ∷ []) (of_account (var 0))

abbrev pub give_amount : RStmt-F RStmt
give_amount = Update 0 (record { column = 1; right = two Add (col 1) (var 2) } ∷ []) (of_account (var 1))

abbrev pub take_fee : RStmt-F RStmt
take_fee = Update 0 (record { column = 1; right = two Add (col 1) (constant (Int (pos 1))) } ∷ []) (of_account (constant (Int (pos 0))))

abbrev pub transfer : ProcInfo
transfer = record {
  name = [];
  params = [];
  read_only = false;
  defaults = Int (pos 0) ∷ [];
  body = roll-RStmt (read_balance 3) ∷ roll-RStmt look_at_funds ∷ roll-RStmt take_amount ∷ roll-RStmt give_amount ∷ roll-RStmt take_fee ∷ [];
}

abbrev pub call_transfer : ℕ → Call
call_transfer x = call_of (number_of 1 ∷ number_of 2 ∷ number_of x ∷ [])

abbrev pub read_first : Record
read_first = record (blank 1) { preds = asks 1 (1 ∷ []); sets = sets 3 100 ∷ sets 4 1 ∷ [] }

-- an IF reads the variables of its condition, and sets nothing
abbrev pub looked : Record
looked = record (blank 2) { reads = reads 3 0 ∷ [] }

-- the controller is the record of the IF, which has number 1
abbrev pub rolled_back : Record
rolled_back = record (blank 3) { parent = Some 1; end = Some (Own no_funds) }

abbrev pub debited : Record
debited = record (blank 4) { preds = asks 1 (1 ∷ []); sets = sets 4 1 ∷ []; writes = writes_balance 1 90 }

abbrev pub given : Record
given = record (blank 5) { preds = asks 2 (1 ∷ []); sets = sets 4 1 ∷ []; writes = writes_balance 2 110 }

abbrev pub fee_taken : Record
fee_taken = record (blank 6) { preds = asks 0 (1 ∷ []); sets = sets 4 1 ∷ []; writes = writes_balance 0 1 }

-- the statements in the IF aren't executed, but they count in the numbers of the statements after it
abbrev pub Transfers : Type 0
Transfers = recorded acc transfer (call_transfer 10) bank ≡ read_first ∷ looked ∷ debited ∷ given ∷ fee_taken ∷ []

-- no record follows the ROLLBACK; an IF adds nothing to the paths of the statements in it
abbrev pub TransferRollsBack : Type 0
TransferRollsBack =
    (recorded acc transfer (call_transfer 150) bank ≡ read_first ∷ looked ∷ rolled_back ∷ [])
    × (paths (read_first ∷ looked ∷ rolled_back ∷ []) ≡ (1 ∷ []) ∷ (2 ∷ []) ∷ (3 ∷ []) ∷ [])

-- PROCEDURE total (:lines ROWS): FOR :l IN :lines DO SET :n = :n + :l.q; END FOR; the variables are lines, n,
-- `:found` and l

abbrev pub add_line_amount : RStmt-F RStmt
add_line_amount = Assign 1 (two Add (var 1) (field 3 0))

abbrev pub over_lines : RStmt-F RStmt
over_lines = ForRows 3 0 (roll-RStmt add_line_amount ∷ [])

abbrev pub total : ProcInfo
total = record { name = []; params = []; read_only = false; defaults = Int (pos 0) ∷ []; body = roll-RStmt over_lines ∷ [] }

abbrev pub lines : List (List Value)
lines = (Int (pos 5) ∷ []) ∷ (Int (pos 7) ∷ []) ∷ []

abbrev pub loop_record : Record
loop_record = record (blank 1) { sets = sets 2 1 ∷ []; rows = lines }

abbrev pub first_turn : Record
first_turn =
    record (blank 2) { spot = record { statement = 2; turns = 1 ∷ [] }; parent = Some 0; reads = reads_default 1 ∷ reads 3 0 ∷ []; sets = sets 1 5 ∷ [] }

abbrev pub second_turn : Record
second_turn =
    record (blank 2) { spot = record { statement = 2; turns = 2 ∷ [] }; parent = Some 0; reads = reads 1 1 ∷ reads 3 0 ∷ []; sets = sets 1 12 ∷ [] }

-- iterations count from 1; the row is read from the FOR's record, and the sum from the iteration before; each iteration
-- has its own paths
abbrev pub AddsUp : Type 0
AddsUp =
    (recorded [] total (call_of (Many lines ∷ [])) [] ≡ loop_record ∷ first_turn ∷ second_turn ∷ [])
    × (paths (loop_record ∷ first_turn ∷ second_turn ∷ []) ≡ (1 ∷ []) ∷ (1 ∷ 1 ∷ 2 ∷ []) ∷ (1 ∷ 2 ∷ 2 ∷ []) ∷ [])

-- PROCEDURE close (:least): the variables are least, n, `:found` and r

abbrev pub delete_found : RStmt-F RStmt
delete_found = Delete 0 (of_account (field 3 0))

-- FOR :r IN SELECT id FROM acc WHERE bal >= :least ORDER BY bal DESC DO DELETE FROM acc WHERE id = :r.id; END FOR
abbrev pub over_accounts : RStmt-F RStmt
over_accounts =
    ForSelect 3 false (0 ∷ []) 0 (record { column = 1; op = Ge; right = var 0 } ∷ []) (record { column = 1; descending = true } ∷ []) (roll-RStmt delete_found ∷ [])

-- SELECT SUM(bal) INTO :n FROM acc
abbrev pub sum_up_balances : RStmt-F RStmt
sum_up_balances = Total (Sum 1) 1 0 []

-- INSERT INTO acc VALUES (9, :n, 'x')
abbrev pub open_account : RStmt-F RStmt
open_account = Insert 0 (constant (Int (pos 9)) ∷ var 1 ∷ constant (Text (120 ∷ [])) ∷ [])

abbrev pub close : ProcInfo
close = record {
  name = [];
  params = [];
  read_only = false;
  defaults = Int (pos 0) ∷ [];
  body = roll-RStmt over_accounts ∷ roll-RStmt sum_up_balances ∷ roll-RStmt open_account ∷ [];
}

abbrev pub rich_bank : List (List Keyed)
rich_bank = (account 0 7 ∷ account 1 100 ∷ account 2 200 ∷ []) ∷ []

abbrev pub for_record : Record
for_record = record (blank 1) {
  preds = record { table = 0; tests = record { column = 1; key_place = None; op = Ge; value = Int (pos 50) } ∷ []; columns = 0 ∷ 1 ∷ [] } ∷ [];
  sets = sets 2 1 ∷ [];
  rows = (Int (pos 2) ∷ []) ∷ (Int (pos 1) ∷ []) ∷ [];
}

-- the DELETE of this account in this iteration
abbrev pub deleted : ℕ → ℕ → Record
deleted k a = record (blank 2) {
  spot = record { statement = 2; turns = k ∷ [] };
  parent = Some 0;
  reads = reads 3 0 ∷ [];
  preds = asks a [];
  sets = sets 2 1 ∷ [];
  writes = record { table = 0; key = Int (pos a) ∷ []; patch = patch.Delete } ∷ [];
}

abbrev pub sum_record : Record
sum_record = record (blank 3) { preds = record { table = 0; tests = []; columns = 1 ∷ [] } ∷ []; sets = sets 1 7 ∷ sets 2 1 ∷ [] }

abbrev pub opened : Record
opened = record (blank 4) {
  reads = reads 1 3 ∷ [];
  preds = asks 9 [];
  sets = sets 2 1 ∷ [];
  writes = record { table = 0; key = Int (pos 9) ∷ []; patch = patch.Insert (Int (pos 9) ∷ Int (pos 7) ∷ Text (120 ∷ []) ∷ []) } ∷ [];
}

-- a FOR queries the columns that it lists and sorts by, and fixes its rows; an INSERT queries its key
abbrev pub Closes : Type 0
Closes =
    recorded acc close (call_of (number_of 50 ∷ [])) rich_bank ≡ for_record ∷ deleted 1 2 ∷ deleted 2 1 ∷ sum_record ∷ opened ∷ []

-- PROCEDURE second (): the variables are b and `:found`;
-- SELECT id, bal INTO :b, :b FROM acc ORDER BY bal DESC OFFSET :b

abbrev pub read_twice : RStmt-F RStmt
read_twice = Select (0 ∷ 1 ∷ []) (0 ∷ 0 ∷ []) 0 [] (record { column = 1; descending = true } ∷ []) (Some (var 0))

abbrev pub second : ProcInfo
second = record { name = []; params = []; read_only = false; defaults = Int (pos 1) ∷ []; body = roll-RStmt read_twice ∷ [] }

-- a target named twice is set once, to the later value; a column is selected once
abbrev pub ReadsTwice : Type 0
ReadsTwice =
    recorded acc second (call_of []) rich_bank ≡ record (blank 1) {
      reads = reads_default 0 ∷ [];
      preds = record { table = 0; tests = []; columns = 0 ∷ 1 ∷ [] } ∷ [];
      sets = sets 0 100 ∷ sets 1 1 ∷ [];
    } ∷ []

-- PROCEDURE wrong (:a): DELETE FROM acc WHERE id = :a / 0

abbrev pub delete_wrong : RStmt-F RStmt
delete_wrong = Delete 0 (of_account (two Div (var 0) (constant (Int (pos 0)))))

abbrev pub wrong : ProcInfo
wrong = record { name = []; params = []; read_only = false; defaults = []; body = roll-RStmt delete_wrong ∷ [] }

-- the DELETE faults before it looks at rows, so it has no predicate
abbrev pub DividesByZero : Type 0
DividesByZero = recorded acc wrong (call_of (number_of 1 ∷ [])) bank ≡ record (blank 1) { end = Some ZeroDivisor } ∷ []
