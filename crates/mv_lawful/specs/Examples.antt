-- Journals of small calls, worked out by hand. The calls are of a bank's procedures: `add` adds to an account and
-- prints the sum, `transfer` moves money and takes a fee into account 0, `put` inserts an account, `rich` counts the
-- accounts with 100 or more, `tell` prints whether account 1 has more than 100, and the balance of account 2. This
-- project's own.
use Rattle.std.specs.Prelude.{◌≡◌, ℕ, zero, suc, pos, ◌+◌, ◌-◌, ◌==◌, nat_lt, not, List, [], ◌∷◌, ◌++◌, Option, Some, None, ℤ, map, length, codes, decimal, if◌then◌else◌}
use Rattle.std.specs.List.{filter, list_any}
use Rattle.std.specs.Option.{is_some}
use Rattle.mv_values.specs.declared.value.Value.{Value}
use Rattle.mv_values.specs.declared.value.Value.TheVariants.{Int, Text}
use Rattle.mv_values.specs.declared.op.Op.TheVariants.{Eq, Ge}
use Rattle.mv_values.specs.declared.calls.End.{End}
use Rattle.mv_values.specs.declared.calls.End.TheVariants.{Own, Duplicate}
use Rattle.mv_values.specs.declared.calls.Reply.{Reply}
use Rattle.mv_values.specs.declared.patch.Patch.TheVariants as patch
use Rattle.mv_values.specs.declared.rows.Keyed.{Keyed}
use Rattle.mv_values.specs.Patching.{row_of, applied}
use Rattle.mv_values.specs.Tables.{rows_at, Tables}
use Rattle.mv_record.specs.declared.record.Record.{Record}
use Rattle.mv_record.specs.declared.record.Read.{Read}
use Rattle.mv_record.specs.Runs.{Run, writes_in, lines_in, end_in}
use Rattle.mv_record.specs.Samples.{key, account, asks, test, writes_column, writes_balance, reads, reads_default, sets, blank, look, change, print}
use Rattle.mv_journal.specs.declared.event.Event.{Event}
use Rattle.mv_journal.specs.declared.event.Event.TheVariants.{B, S, A, M, C, X, R, G}
use Rattle.mv_journal.specs.declared.outcome.Mark.TheVariants.{Plain, Exclusive, Moved}
use Rattle.mv_journal.specs.declared.outcome.Round.{Round}
use Rattle.mv_journal.specs.declared.outcome.HistoryLine.{HistoryLine}
use Rattle.mv_lawful.specs.declared.fault.EventFault.TheVariants.{Order, Kind, Stale, Conflict, Idle, Rounds}
use Rattle.mv_lawful.specs.declared.fault.Wrong.TheVariants.{Refused, Open}
use Rattle.mv_lawful.specs.Batch.{Batch, hit_of}
use Rattle.mv_lawful.specs.Lawful.{Lawful, wrong_with, schedule_of}
use Rattle.mv_lawful.specs.Outcomes.{outcome_of}

-- Databases

abbrev pub natural : ℤ → ℕ
natural (pos n) = n
natural i = 0

abbrev pub number : Value → ℕ
number (Int i) = natural i
number (Text t) = 0

abbrev pub second_of : List Value → ℕ
second_of [] = 0
second_of (k ∷ []) = 0
second_of (k ∷ b ∷ vs) = number b

abbrev pub balance_in : Option (List Value) → ℕ
balance_in None = 0
balance_in (Some row) = second_of row

-- the balance of an account
abbrev pub balance : Tables → ℕ → ℕ
balance db a = balance_in (row_of (rows_at db 0) (key a))

abbrev pub five : Tables
five = (account 0 0 ∷ account 1 100 ∷ account 2 100 ∷ account 3 100 ∷ account 4 100 ∷ []) ∷ []

-- Runs

abbrev pub run_with : Option End → List Record → Tables → Run
run_with None rs db = record { records = rs; reply = record { lines = lines_in rs; end = None }; tables = applied (writes_in rs) db }
run_with (Some e) rs db = record { records = rs; reply = record { lines = []; end = Some e }; tables = db }

-- a run with these records
abbrev pub run_of : List Record → Tables → Run
run_of rs db = run_with (end_in rs) rs db

abbrev pub add : ℕ → ℕ → Tables → Run
add a x db = run_of (
    look 1 a 2 3 (balance db a)
    ∷ record (blank 2) { reads = reads 2 0 ∷ []; sets = sets 2 (balance db a + x) ∷ [] }
    ∷ record (blank 3) { reads = reads 2 1 ∷ []; preds = asks a []; sets = sets 3 1 ∷ []; writes = writes_balance a (balance db a + x) }
    ∷ print 4 (reads 2 1 ∷ []) (decimal (balance db a + x)) ∷ []) db

abbrev pub poor : Record
poor = record (blank 3) { parent = Some 1; end = Some (Own (codes "no funds")) }

abbrev pub moves : ℕ → ℕ → ℕ → Tables → List Record
moves a c x db = change 4 a 4 (balance db a - x) ∷ change 5 c 4 (balance db c + x) ∷ change 6 0 4 (balance db 0 + 1) ∷ []

abbrev pub transfer : ℕ → ℕ → ℕ → Tables → Run
transfer a c x db = run_of (look 1 a 3 4 (balance db a) ∷ record (blank 2) { reads = reads 3 0 ∷ [] } ∷ (if nat_lt (balance db a) x then poor ∷ [] else moves a c x db)) db

abbrev pub insert_row : ℕ → ℕ → Record
insert_row k v =
    record (blank 1) { preds = asks k []; sets = sets 2 1 ∷ []; writes = record { table = 0; key = key k; patch = patch.Insert (Int (pos k) ∷ Int (pos v) ∷ Text [] ∷ []) } ∷ [] }

abbrev pub put : ℕ → ℕ → Tables → Run
put k v db = run_of ((if is_some (row_of (rows_at db 0) (key k)) then record (blank 1) { preds = asks k []; end = Some Duplicate } else insert_row k v) ∷ []) db

abbrev pub count_rich : Tables → ℕ
count_rich db = length (filter (λ (item : Keyed). not (nat_lt (second_of item.row) 100)) (rows_at db 0))

abbrev pub rich : Tables → Run
rich db = run_of (
    record (blank 1) { preds = record { table = 0; tests = test 1 Ge 100 ∷ []; columns = [] } ∷ []; sets = sets 0 (count_rich db) ∷ sets 1 1 ∷ [] }
    ∷ print 2 (reads 0 0 ∷ []) (decimal (count_rich db)) ∷ []) db

-- what `tell` executes after its IF; these reads define x, and the record of this number reads z
abbrev pub rest_of_tell : List Read → ℕ → ℕ → Tables → List Record
rest_of_tell definer x z db = look 4 2 2 3 (balance db 2) ∷ print 5 definer (decimal x) ∷ print 6 (reads 2 z ∷ []) (decimal (balance db 2)) ∷ []

abbrev pub tell : Tables → Run
tell db = run_of (look 1 1 0 3 (balance db 1) ∷ record (blank 2) { reads = reads 0 0 ∷ [] } ∷ (
    if nat_lt 100 (balance db 1) then record (blank 3) { parent = Some 1; sets = sets 1 1 ∷ [] } ∷ rest_of_tell (reads 1 2 ∷ []) 1 3 db
    else rest_of_tell (reads_default 1 ∷ []) 0 2 db)) db

-- prints the balance of an account
abbrev pub see : ℕ → Tables → Run
see a db = run_of (look 1 a 1 2 (balance db a) ∷ print 2 (reads 1 0 ∷ []) (decimal (balance db a)) ∷ []) db

-- Batch

abbrev pub run_in : List (Tables → Run) → ℕ → Tables → Run
run_in [] c db = run_of [] db
run_in (run ∷ runs) zero db = run db
run_in (run ∷ runs) (suc c) db = run_in runs c db

-- calls of which these are read only
abbrev pub batch_with : List ℕ → Tables → List (Tables → Run) → ℕ → Option ℕ → Batch
batch_with readers db runs rounds horizon = record { run = run_in runs; read_only = λ c. list_any (λ d. d == c) readers; count = length runs; opening = db; options = record { rounds = rounds; horizon = horizon } }

abbrev pub batch : Tables → List (Tables → Run) → ℕ → Option ℕ → Batch
batch = batch_with []

-- batch on five accounts, with three rounds and no horizon
abbrev pub bank : List (Tables → Run) → Batch
bank runs = batch five runs 3 None

abbrev pub plain : ℕ → ℕ → Round
plain start n = record { start = start; count = Some n; mark = Plain }

-- a call with its rounds, that hasn't got its place yet
abbrev pub line : ℕ → List Round → HistoryLine
line c rounds = record { commit = None; call = c; rounds = rounds }

-- the commits of these calls, in this order
abbrev pub numbered_from : ℕ → List HistoryLine → List HistoryLine
numbered_from n [] = []
numbered_from n (l ∷ ls) = record l { commit = Some n } ∷ numbered_from (n + 1) ls

-- a journal is lawful, and the calls stand so
abbrev pub Stands : Batch → List Event → List HistoryLine → Type 0
Stands w es history = Lawful w es × ((outcome_of w es).history ≡ history)

-- a journal is lawful, and its commits have these rounds
abbrev pub Comes : Batch → List Event → List HistoryLine → Type 0
Comes w es history = Stands w es (numbered_from 1 history)

abbrev pub Answers : Batch → List Event → List Reply → Tables → Type 0
Answers w es replies tables = ((outcome_of w es).replies ≡ replies) × ((outcome_of w es).tables ≡ tables)

abbrev pub says : List ℕ → Reply
says numbers = record { lines = map decimal numbers; end = None }

-- the second call is repaired after the first has committed
abbrev pub repaired_second : List Event
repaired_second = B 0 ∷ B 1 ∷ C 0 ∷ A 1 ∷ C 1 ∷ []

-- Repairs

-- transfers between other accounts: the change hits the UPDATE of the fee, and only that is executed again
abbrev pub OnlyTheFee : Type 0
OnlyTheFee =
    let w : Batch = bank (transfer 1 2 10 ∷ transfer 3 4 10 ∷ []) in
    Comes w repaired_second (line 0 (plain 0 5 ∷ []) ∷ line 1 (plain 0 5 ∷ plain 1 1 ∷ []) ∷ [])
    × Answers w repaired_second (says [] ∷ says [] ∷ []) ((account 0 2 ∷ account 1 90 ∷ account 2 110 ∷ account 3 90 ∷ account 4 110 ∷ []) ∷ [])
    × (hit_of w (0 ∷ []) 0 1 ≡ Some (record { number = 4; commit = 1 }))

-- both add to one account: the change hits the SELECT, and all is executed again
abbrev pub AllAgain : Type 0
AllAgain =
    let w : Batch = bank (add 1 5 ∷ add 1 7 ∷ []) in
    Comes w repaired_second (line 0 (plain 0 4 ∷ []) ∷ line 1 (plain 0 4 ∷ plain 1 4 ∷ []) ∷ [])
    × Answers w repaired_second (says (105 ∷ []) ∷ says (112 ∷ []) ∷ []) ((account 0 0 ∷ account 1 112 ∷ account 2 100 ∷ account 3 100 ∷ account 4 100 ∷ []) ∷ [])
    × (hit_of w (0 ∷ []) 0 1 ≡ Some (record { number = 0; commit = 1 }))

-- adding zero changes no row, so it hits nothing
abbrev pub NothingAdded : Type 0
NothingAdded =
    let w : Batch = bank (add 1 0 ∷ add 1 7 ∷ []) in
    Comes w (B 0 ∷ B 1 ∷ C 0 ∷ C 1 ∷ []) (line 0 (plain 0 4 ∷ []) ∷ line 1 (plain 0 4 ∷ []) ∷ []) × (hit_of w (0 ∷ []) 0 1 ≡ None)

-- a row that a COUNT didn't find before hits it
abbrev pub NewRowCounts : Type 0
NewRowCounts =
    let w : Batch = bank (put 7 100 ∷ rich ∷ []) in
    Comes w repaired_second (line 0 (plain 0 1 ∷ []) ∷ line 1 (plain 0 2 ∷ plain 1 2 ∷ []) ∷ [])
    × ((outcome_of w repaired_second).replies ≡ says [] ∷ says (5 ∷ []) ∷ []) × (hit_of w (0 ∷ []) 0 1 ≡ Some (record { number = 0; commit = 1 }))

-- the PRINT of x has a definer that the old run didn't have; the SELECT of account 2 and its PRINT are kept
abbrev pub NewDefiner : Type 0
NewDefiner =
    let w : Batch = bank (add 1 5 ∷ tell ∷ []) in
    Comes w repaired_second (line 0 (plain 0 4 ∷ []) ∷ line 1 (plain 0 5 ∷ plain 1 4 ∷ []) ∷ []) × ((outcome_of w repaired_second).replies ≡ says (105 ∷ []) ∷ says (1 ∷ 100 ∷ []) ∷ [])

-- a call that would roll back goes through on the later table; in the other order it rolls back
abbrev pub OtherBranch : Type 0
OtherBranch =
    let w : Batch = bank (transfer 1 2 150 ∷ add 1 60 ∷ []) in
    let es : List Event = B 0 ∷ B 1 ∷ C 1 ∷ A 0 ∷ C 0 ∷ [] in
    let round_starts : List Event = B 0 ∷ C 0 ∷ B 1 ∷ C 1 ∷ [] in
    Comes w es (line 1 (plain 0 4 ∷ []) ∷ line 0 (plain 0 3 ∷ plain 1 5 ∷ []) ∷ [])
    × Answers w es (says [] ∷ says (160 ∷ []) ∷ []) ((account 0 1 ∷ account 1 10 ∷ account 2 250 ∷ account 3 100 ∷ account 4 100 ∷ []) ∷ [])
    × Comes w round_starts (line 0 (plain 0 3 ∷ []) ∷ line 1 (plain 1 4 ∷ []) ∷ [])
    × ((outcome_of w round_starts).replies ≡ record { lines = []; end = Some (Own (codes "no funds")) } ∷ says (160 ∷ []) ∷ [])

-- two calls insert one key: the later one ends
abbrev pub SameKey : Type 0
SameKey =
    let w : Batch = bank (put 7 1 ∷ put 7 2 ∷ []) in
    Comes w repaired_second (line 0 (plain 0 1 ∷ []) ∷ line 1 (plain 0 1 ∷ plain 1 1 ∷ []) ∷ []) × ((outcome_of w repaired_second).replies ≡ says [] ∷ record { lines = []; end = Some Duplicate } ∷ [])

-- two columns of one row: no predicate sees the change by itself; the call's own write of the key makes it a hit

abbrev pub triple : ℕ → ℕ → Tables
triple d e = (record { key = key 1; row = Int (pos 1) ∷ Int (pos d) ∷ Int (pos e) ∷ [] } ∷ []) ∷ []

abbrev pub set_column : ℕ → Record
set_column c = record (blank 1) { preds = asks 1 []; sets = sets 1 1 ∷ []; writes = writes_column 1 c 1 }

abbrev pub third_of : List Value → ℕ
third_of [] = 0
third_of (k ∷ []) = 0
third_of (k ∷ d ∷ []) = 0
third_of (k ∷ d ∷ e ∷ vs) = number e

abbrev pub third_in : Option (List Value) → ℕ
third_in None = 0
third_in (Some row) = third_of row

-- UPDATE m SET e = 1 WHERE k = 1
abbrev pub set_third : Tables → Run
set_third db = run_of (set_column 2 ∷ []) db

-- UPDATE m SET d = 1 WHERE k = 1; SELECT COUNT(*) INTO :n FROM m WHERE d = 1 AND e = 1; PRINT :n
abbrev pub count_both : Tables → Run
count_both db =
    let n : ℕ = third_in (row_of (rows_at db 0) (key 1)) in
    run_of (
    set_column 1
    ∷ record (blank 2) { preds = record { table = 0; tests = test 1 Eq 1 ∷ test 2 Eq 1 ∷ []; columns = [] } ∷ []; sets = sets 0 n ∷ sets 1 1 ∷ [] }
    ∷ print 3 (reads 0 1 ∷ []) (decimal n) ∷ []) db

abbrev pub OwnWriteCounts : Type 0
OwnWriteCounts =
    let w : Batch = batch (triple 0 0) (set_third ∷ count_both ∷ []) 3 None in
    Comes w repaired_second (line 0 (plain 0 1 ∷ []) ∷ line 1 (plain 0 3 ∷ plain 1 2 ∷ []) ∷ [])
    × Answers w repaired_second (says [] ∷ says (1 ∷ []) ∷ []) (triple 1 1) × (hit_of w (0 ∷ []) 0 1 ≡ Some (record { number = 1; commit = 1 }))

-- UPDATE .. SET bal = bal + 1 WHERE id = 1, SELECT bal .. WHERE id = 1, SELECT bal .. WHERE id = 2
abbrev pub write_and_look : Tables → Run
write_and_look db = run_of (change 1 1 1 (balance db 1 + 1) ∷ look 2 1 0 1 (balance db 1 + 1) ∷ look 3 2 0 1 (balance db 2) ∷ []) db

-- a kept write touches nothing: the records that read after it stay, and only the SELECT of the other account is
-- executed again
abbrev pub KeptWriteStays : Type 0
KeptWriteStays =
    let w : Batch = bank (add 2 5 ∷ write_and_look ∷ []) in
    Comes w repaired_second (line 0 (plain 0 4 ∷ []) ∷ line 1 (plain 0 3 ∷ plain 1 1 ∷ []) ∷ [])

-- One step, moves, low

-- with no rounds the repair commits in the same step; with one round it must not
abbrev pub InOneStep : Type 0
InOneStep =
    let runs : List (Tables → Run) = transfer 1 2 10 ∷ transfer 3 4 10 ∷ [] in
    let es : List Event = B 0 ∷ B 1 ∷ C 0 ∷ X 1 ∷ [] in
    Comes (batch five runs 0 None) es (line 0 (plain 0 5 ∷ []) ∷ line 1 (plain 0 5 ∷ record { start = 1; count = Some 1; mark = Exclusive } ∷ []) ∷ [])
    × (wrong_with (batch five runs 1 None) es ≡ Some (Refused 4 Rounds))

abbrev pub FirstFaults : Type 0
FirstFaults =
    let w : Batch = bank (add 1 5 ∷ add 1 7 ∷ []) in
    (wrong_with w (B 0 ∷ B 1 ∷ C 0 ∷ C 1 ∷ []) ≡ Some (Refused 4 Conflict))
    × (wrong_with w (B 0 ∷ A 0 ∷ []) ≡ Some (Refused 2 Idle))
    × (wrong_with w (B 1 ∷ []) ≡ Some (Refused 1 Order))
    × (wrong_with w (B 0 ∷ S 0 ∷ S 0 ∷ S 0 ∷ S 0 ∷ S 0 ∷ []) ≡ Some (Refused 6 Order))
    × (wrong_with w (B 0 ∷ C 0 ∷ []) ≡ Some (Open 1))
    × (wrong_with w [] ≡ Some (Open 0))

-- a stale call is moved; it may neither go on nor be repaired
abbrev pub StaleMoves : Type 0
StaleMoves =
    let w : Batch = batch five (add 1 5 ∷ add 2 5 ∷ add 3 5 ∷ []) 3 (Some 1) in
    let es : Event → List Event = λ e. B 0 ∷ B 1 ∷ B 2 ∷ C 0 ∷ C 1 ∷ G ∷ e ∷ C 2 ∷ [] in
    Comes w (es (M 2)) (line 0 (plain 0 4 ∷ []) ∷ line 1 (plain 0 4 ∷ []) ∷ line 2 (record { start = 0; count = None; mark = Plain } ∷ record { start = 2; count = Some 4; mark = Moved } ∷ []) ∷ [])
    × (wrong_with w (es (S 2)) ≡ Some (Refused 7 Stale))
    × (wrong_with w (es (A 2)) ≡ Some (Refused 7 Stale))

-- low is the oldest start of a live call, not the newest: call 0 isn't stale
abbrev pub OldestStart : Type 0
OldestStart =
    let w : Batch = bank (add 1 5 ∷ add 2 5 ∷ add 3 5 ∷ []) in
    let es : List Event = B 0 ∷ B 1 ∷ C 1 ∷ B 2 ∷ G ∷ [] in
    ((schedule_of w es).low ≡ 0) × Lawful w (es ++ C 0 ∷ C 2 ∷ [])

-- Read only calls

-- the line of a commit with this number
abbrev pub commit : ℕ → ℕ → List Round → HistoryLine
commit n c rounds = record { commit = Some n; call = c; rounds = rounds }

-- an answered call stands at its start: before a commit that it doesn't see, although that was made before its answer
abbrev pub AnsweredAtStart : Type 0
AnsweredAtStart =
    let w : Batch = batch_with (1 ∷ []) five (add 1 5 ∷ see 1 ∷ []) 3 None in
    let early : List Event = B 0 ∷ B 1 ∷ C 0 ∷ R 1 ∷ [] in
    let late : List Event = B 0 ∷ C 0 ∷ B 1 ∷ R 1 ∷ [] in
    Stands w early (line 1 (plain 0 2 ∷ []) ∷ commit 1 0 (plain 0 4 ∷ []) ∷ [])
    × ((outcome_of w early).replies ≡ says (105 ∷ []) ∷ says (100 ∷ []) ∷ [])
    × Stands w late (commit 1 0 (plain 0 4 ∷ []) ∷ line 1 (plain 1 2 ∷ []) ∷ [])
    × ((outcome_of w late).replies ≡ says (105 ∷ []) ∷ says (105 ∷ []) ∷ [])

-- those of one start stand in the order of their answers, and between two commits
abbrev pub AnsweredBetween : Type 0
AnsweredBetween =
    let w : Batch = batch_with (1 ∷ 2 ∷ []) five (add 1 5 ∷ see 1 ∷ see 2 ∷ add 1 7 ∷ []) 3 None in
    Stands w (B 0 ∷ C 0 ∷ B 1 ∷ B 2 ∷ B 3 ∷ C 3 ∷ R 2 ∷ S 1 ∷ R 1 ∷ [])
    (commit 1 0 (plain 0 4 ∷ []) ∷ line 2 (plain 1 2 ∷ []) ∷ line 1 (plain 1 2 ∷ []) ∷ commit 2 3 (plain 1 4 ∷ []) ∷ [])

-- a read only call is neither committed nor repaired, and no other is answered
abbrev pub OtherKind : Type 0
OtherKind =
    let w : Batch = batch_with (1 ∷ []) five (add 1 5 ∷ see 1 ∷ []) 0 None in
    (wrong_with w (B 0 ∷ B 1 ∷ C 0 ∷ C 1 ∷ []) ≡ Some (Refused 4 Kind))
    × (wrong_with w (B 0 ∷ B 1 ∷ C 0 ∷ A 1 ∷ []) ≡ Some (Refused 4 Kind))
    × (wrong_with w (B 0 ∷ B 1 ∷ C 0 ∷ X 1 ∷ []) ≡ Some (Refused 4 Kind))
    × (wrong_with w (B 0 ∷ R 0 ∷ []) ≡ Some (Refused 2 Kind))
    × (wrong_with w (B 0 ∷ B 1 ∷ C 0 ∷ R 1 ∷ R 1 ∷ []) ≡ Some (Refused 5 Order))
    × (wrong_with w (B 0 ∷ B 1 ∷ C 0 ∷ []) ≡ Some (Open 1))

-- a stale call is moved before it is answered
abbrev pub StaleAnswer : Type 0
StaleAnswer =
    let w : Batch = batch_with (2 ∷ []) five (add 1 5 ∷ add 2 5 ∷ see 1 ∷ []) 3 (Some 1) in
    let es : List Event = B 0 ∷ B 1 ∷ B 2 ∷ C 0 ∷ C 1 ∷ G ∷ [] in
    (wrong_with w (es ++ R 2 ∷ []) ≡ Some (Refused 7 Stale))
    × Stands w (es ++ M 2 ∷ R 2 ∷ [])
    (commit 1 0 (plain 0 4 ∷ []) ∷ commit 2 1 (plain 0 4 ∷ []) ∷ line 2 (record { start = 0; count = None; mark = Plain } ∷ record { start = 2; count = Some 2; mark = Moved } ∷ []) ∷ [])
    × ((outcome_of w (es ++ M 2 ∷ R 2 ∷ [])).replies ≡ says (105 ∷ []) ∷ says (105 ∷ []) ∷ says (105 ∷ []) ∷ [])
