-- The records of a statement: its own, and those of what it holds.
use Rattle.std.proofs.Common.{◌≡◌, ℕ, ◌+◌, Bool, true, false, List, [], ◌∷◌, ◌++◌, append_assoc, append-nil, Result, Ok, Err, map, length, if◌then◌else◌, refl, sym, ap, ◌∙◌}
use Rattle.mv_values.specs.declared.value.Value.{Value}
use Rattle.mv_values.specs.declared.pred.Test.{Test}
use Rattle.mv_values.specs.declared.schema.TableInfo.{TableInfo}
use Rattle.mv_values.specs.declared.calls.End.{End}
use Rattle.mv_values.specs.Tables.{key_columns}
use Rattle.mv_catalog.specs.declared.resolved.RStmt.{RStmt, out-RStmt, roll-out-RStmt, map-RStmt}
use Rattle.mv_catalog.specs.declared.resolved.RStmt.TheOpen.{RStmt-F, Assign, Select, Total, ForSelect, ForRows, Branch, Insert, Update, Delete, Print, Rollback}
use Rattle.mv_catalog.specs.Statements.{size, size_of as count_of}
use Rattle.mv_eval.specs.declared.state.State.{State}
use Rattle.mv_eval.specs.declared.state.Stop.{Stop}
use Rattle.mv_eval.specs.declared.state.Stop.TheVariants.{Memory, Ended}
use Rattle.mv_eval.specs.Env.{turns_at}
use Rattle.mv_eval.specs.Results.{then_do, Fails}
use Rattle.mv_eval.specs.Value.{value_of, is_so}
use Rattle.mv_eval.specs.Rows.{tests_of}
use Rattle.mv_eval.specs.Alone.{Does, does, alone, stmt_step, matching_in, fixed, each_turn, loop_over}
use Rattle.mv_record.specs.declared.record.Record.{Record}
use Rattle.mv_recorded.specs.Asking.{on}
use Rattle.mv_recorded.specs.Doing.{fixed_rows, itself, before_turns}
use Rattle.mv_recorded.specs.Recorded.{Recorder, Site, own_record, tell, tell_statements, tell_step, tell_turns, tell_loop, within, within_loop, body_of, size_of}
use Rattle.mv_recorder.specs.Running.{Leave, tell_held, does_held}
use Rattle.mv_recorded.proofs.Following.{body_is}
use Rattle.mv_recorded.proofs.Unrolled.{with_tells, tell_is, does_is}

pub tell_out : (tables : List TableInfo) (params : ℕ) (s : RStmt) (n : ℕ) (site : Site) (before : List Record) (st : State)
    → tell tables params s n site before st ≡ tell_step tables params (with_tells tables params (out-RStmt s)) n site before st
tell_out tables params s n site before st = sym (ap (λ z. tell tables params z n site before st) (roll-out-RStmt s)) ∙ tell_is tables params (out-RStmt s) n site before st

pub does_out : (tables : List TableInfo) (s : RStmt) (st : State) → does tables s st ≡ stmt_step tables (map-RStmt RStmt Does (does tables) (out-RStmt s)) st
does_out tables s st = sym (ap (λ z. does tables z st) (roll-out-RStmt s)) ∙ does_is tables (out-RStmt s) st

-- Loops

ok_state : {s next : State} → ◌≡◌ {A = Result State End} (Ok s) (Ok next) → s ≡ next
ok_state h = cc

-- the turns of rows that were fixed
turns_told : {A : Type 0} (x : ℕ) (body : Does) (tells : Recorder) (r : Result A End) (rows_of : A → List (List Value)) (n : ℕ) (site : Site) (before : List Record) (st next : State)
    → before_turns (then_do r (λ a. Ok (rows_of a))) st ≡ Ok next
    → on (then_do r (λ a. Ok (rows_of a))) (λ rows. tell_loop x body tells rows n site before st) ≡ tell_turns x body tells (on (then_do r (λ a. Ok (rows_of a))) (λ rows. rows)) 1 n site before next
turns_told x body tells (Ok a) rows_of n site before st next h = ap (tell_turns x body tells (rows_of a) 1 n site before) (ok_state h)
turns_told x body tells (Err e) rows_of n site before st next h = cc

turns_done : {A : Type 0} (x : ℕ) (body : Does) (r : Result A End) (rows_of : A → List (List Value)) (st next : State) → before_turns (then_do r (λ a. Ok (rows_of a))) st ≡ Ok next
    → then_do r (λ a. loop_over x body (rows_of a) st) ≡ each_turn x body (on (then_do r (λ a. Ok (rows_of a))) (λ rows. rows)) next
turns_done x body (Ok a) rows_of st next h = ap (each_turn x body (rows_of a)) (ok_state h)
turns_done x body (Err e) rows_of st next h = cc

-- Each kind of statement

-- the number of statements in a list
size_same : (tables : List TableInfo) (params : ℕ) (ss : List RStmt) → size_of (map (λ s. (s, tell tables params s)) ss) ≡ count_of ss
size_same tables params [] = refl
size_same tables params (s ∷ ss) = ap (λ k. size s + k) (size_same tables params ss)

-- an IF itself changes nothing
unchanged : (test : Result Value End) (st next : State) → then_do test (λ v. Ok st) ≡ Ok next → st ≡ next
unchanged (Ok v) st next h = ok_state h
unchanged (Err e) st next h = cc

-- the records of a statement are its own and those of what it holds, and so is what it does
pub record Parts (tables : List TableInfo) (params : ℕ) (y : RStmt-F RStmt) (n : ℕ) (site : Site) (before : List Record) (st next : State) : Type 0 where
  pub records :
      tell_step tables params (with_tells tables params y) n site before st
      ≡ own_record tables params y n site before st
      ∷ tell_held tables params y (own_record tables params y n site before st).rows (length before) (n + 1) site (before ++ own_record tables params y n site before st ∷ []) next
  pub does : stmt_step tables (map-RStmt RStmt Does (does tables) y) st ≡ does_held tables y (own_record tables params y n site before st).rows next

parts_of : (tables : List TableInfo) (params : ℕ) (y : RStmt-F RStmt) (n : ℕ) (site : Site) (before : List Record) (st next : State) → itself tables y st ≡ Ok next → Parts tables params y n site before st next
parts_of tables params (ForSelect x once cs t conds sorts body) n site before st next h =
    let y : RStmt-F RStmt = ForSelect x once cs t conds sorts body in
    let own : Record = own_record tables params y n site before st in
    let rows_of : List Test → List (List Value) = λ tests. fixed once cs sorts (matching_in t tests st) in
    record {
      records =
          ap (λ b. own ∷ on (fixed_rows tables y st) (λ rows. tell_loop x b (tell_statements tables params body) rows (n + 1) (within_loop x (length before) site) (before ++ own ∷ []) st)) (body_is tables params body)
          ∙ ap (λ l. own ∷ l) (turns_told x (alone tables body) (tell_statements tables params body) (tests_of (key_columns tables t) conds st.env) rows_of (n + 1) (within_loop x (length before) site) (before ++ own ∷ []) st next h);
      does = turns_done x (alone tables body) (tests_of (key_columns tables t) conds st.env) rows_of st next h;
    }
parts_of tables params (ForRows x over body) n site before st next h =
    let own : Record = own_record {X = RStmt} tables params (ForRows x over body) n site before st in
    let rows : List (List Value) = turns_at st.env over in
    record {
      records =
          ap (λ b. own ∷ tell_loop x b (tell_statements tables params body) rows (n + 1) (within_loop x (length before) site) (before ++ own ∷ []) st) (body_is tables params body)
          ∙ ap (λ w. own ∷ tell_turns x (alone tables body) (tell_statements tables params body) rows 1 (n + 1) (within_loop x (length before) site) (before ++ own ∷ []) w) (ok_state h);
      does = ap (each_turn x (alone tables body) rows) (ok_state h);
    }
parts_of tables params (Branch e ys ns) n site before st next h =
    let own : Record = own_record {X = RStmt} tables params (Branch e ys ns) n site before st in
    let same : st ≡ next = unchanged (value_of e st.env []) st next h in
    let told : ℕ → State → List Record = λ k w.
    on (value_of e w.env []) (λ v. if is_so v then tell_statements tables params ys (n + 1) (within (length before) site) (before ++ own ∷ []) w else tell_statements tables params ns (n + 1 + k) (within (length before) site) (before ++ own ∷ []) w) in
    record {
      records = ap (λ k. own ∷ told k st) (size_same tables params ys) ∙ ap (λ w. own ∷ told (count_of ys) w) same;
      does = ap (λ (w : State). then_do (value_of e w.env []) (λ v. if is_so v then alone tables ys w else alone tables ns w)) same;
    }
parts_of tables params (Assign x e) n site before st next h = record { records = refl; does = h }
parts_of tables params (Select cs xs t conds sorts offset) n site before st next h = record { records = refl; does = h }
parts_of tables params (Total agg x t conds) n site before st next h = record { records = refl; does = h }
parts_of tables params (Insert t es) n site before st next h = record { records = refl; does = h }
parts_of tables params (Update t items conds) n site before st next h = record { records = refl; does = h }
parts_of tables params (Delete t conds) n site before st next h = record { records = refl; does = h }
parts_of tables params (Print es) n site before st next h = record { records = refl; does = h }
parts_of tables params (Rollback reason) n site before st next h = record { records = refl; does = h }

-- A statement that goes on

pub held_told : (tables : List TableInfo) (params : ℕ) (s : RStmt) (n own : ℕ) (site : Site) (recs left : List Record) (st next : State) (rows : List (List Value)) → itself tables (out-RStmt s) st ≡ Ok next
    → left ≡ recs ++ own_record tables params (out-RStmt s) n site recs st ∷ [] → ((before : List Record) (last : Record) → left ≡ before ++ last ∷ [] → rows ≡ last.rows) → own ≡ length recs
    → left ++ tell_held tables params (out-RStmt s) rows own (n + 1) site left next ≡ recs ++ tell tables params s n site recs st
held_told tables params s n own site recs left st next rows goes is last at =
    let mine : Record = own_record tables params (out-RStmt s) n site recs st in
    let told : List (List Value) → ℕ → List Record → List Record = λ rs k l. tell_held tables params (out-RStmt s) rs k (n + 1) site l next in
    ap (λ l. l ++ told rows own l) is
    ∙ (ap (λ rs. (recs ++ mine ∷ []) ++ told rs own (recs ++ mine ∷ [])) (last recs mine is)
    ∙ (ap (λ k. (recs ++ mine ∷ []) ++ told mine.rows k (recs ++ mine ∷ [])) at
    ∙ (append_assoc recs (mine ∷ []) (told mine.rows (length recs) (recs ++ mine ∷ []))
    ∙ ap (λ l. recs ++ l) (sym (tell_out tables params s n site recs st ∙ (parts_of tables params (out-RStmt s) n site recs st next goes).records)))))

pub held_done : (tables : List TableInfo) (params : ℕ) (s : RStmt) (n : ℕ) (site : Site) (recs left : List Record) (st next : State) (rows : List (List Value)) → itself tables (out-RStmt s) st ≡ Ok next
    → left ≡ recs ++ own_record tables params (out-RStmt s) n site recs st ∷ [] → ((before : List Record) (last : Record) → left ≡ before ++ last ∷ [] → rows ≡ last.rows)
    → does tables s st ≡ does_held tables (out-RStmt s) rows next
held_done tables params s n site recs left st next rows goes is last =
    let mine : Record = own_record tables params (out-RStmt s) n site recs st in
    does_out tables s st ∙ ((parts_of tables params (out-RStmt s) n site recs st next goes).does ∙ ap (λ rs. does_held tables (out-RStmt s) rs next) (sym (last recs mine is)))

-- A statement that ends the call

none_told : (tables : List TableInfo) (params : ℕ) (y : RStmt-F RStmt) (n : ℕ) (site : Site) (before : List Record) (st : State) (d : End) → itself tables y st ≡ Err d
    → (tell_step tables params (with_tells tables params y) n site before st ≡ own_record tables params y n site before st ∷ []) × (stmt_step tables (map-RStmt RStmt Does (does tables) y) st ≡ Err d)
none_told tables params (ForSelect x once cs t conds sorts body) n site before st d h = by (tests_of (key_columns tables t) conds st.env) h
  where
    own : Record
    own = own_record {X = RStmt} tables params (ForSelect x once cs t conds sorts body) n site before st

    by : (r : Result (List Test) End) → before_turns (then_do r (λ tests. Ok (fixed once cs sorts (matching_in t tests st)))) st ≡ Err d
        → (own ∷ on (then_do r (λ tests. Ok (fixed once cs sorts (matching_in t tests st)))) (λ rows. tell_loop x (body_of tables (map (λ s. (s, tell tables params s)) body)) (tell_statements tables params body) rows (n + 1) (within_loop x (length before) site) (before ++ own ∷ []) st) ≡ own ∷ [])
        × (then_do r (λ tests. loop_over x (alone tables body) (fixed once cs sorts (matching_in t tests st)) st) ≡ Err d)
    by (Ok tests) k = cc
    by (Err c) k = (refl, k)
none_told tables params (ForRows x over body) n site before st d h = cc
none_told tables params (Branch e ys ns) n site before st d h = by (value_of e st.env []) h
  where
    own : Record
    own = own_record {X = RStmt} tables params (Branch e ys ns) n site before st

    by : (r : Result Value End) → then_do r (λ v. Ok st) ≡ Err d
        → (own ∷ on r (λ v. if is_so v then tell_statements tables params ys (n + 1) (within (length before) site) (before ++ own ∷ []) st else tell_statements tables params ns (n + 1 + size_of (map (λ s. (s, tell tables params s)) ys)) (within (length before) site) (before ++ own ∷ []) st) ≡ own ∷ [])
        × (then_do r (λ v. if is_so v then alone tables ys st else alone tables ns st) ≡ Err d)
    by (Ok v) k = cc
    by (Err c) k = let same : c ≡ d = cc in (refl, ap Err same)
none_told tables params (Assign x e) n site before st d h = (refl, h)
none_told tables params (Select cs xs t conds sorts offset) n site before st d h = (refl, h)
none_told tables params (Total agg x t conds) n site before st d h = (refl, h)
none_told tables params (Insert t es) n site before st d h = (refl, h)
none_told tables params (Update t items conds) n site before st d h = (refl, h)
none_told tables params (Delete t conds) n site before st d h = (refl, h)
none_told tables params (Print es) n site before st d h = (refl, h)
none_told tables params (Rollback reason) n site before st d h = (refl, h)

pub own_ends : (tables : List TableInfo) (params : ℕ) (s : RStmt) (n : ℕ) (site : Site) (recs new : List Record) (st : State) (stop : Stop) → Fails stop (itself tables (out-RStmt s) st)
    → Leave {A = Unit {0}} (Err stop) new (recs ++ own_record tables params (out-RStmt s) n site recs st ∷ []) → Leave {A = Unit {0}} (Err stop) new (recs ++ tell tables params s n site recs st)
own_ends tables params s n site recs new st Memory h is = tt
own_ends tables params s n site recs new st (Ended d) h is =
    is ∙ ap (λ l. recs ++ l) (sym (tell_out tables params s n site recs st ∙ (none_told tables params (out-RStmt s) n site recs st d h).0))

pub own_fails : (tables : List TableInfo) (params : ℕ) (s : RStmt) (n : ℕ) (site : Site) (recs : List Record) (st : State) (stop : Stop) → Fails stop (itself tables (out-RStmt s) st) → Fails stop (does tables s st)
own_fails tables params s n site recs st Memory h = tt
own_fails tables params s n site recs st (Ended d) h = does_out tables s st ∙ (none_told tables params (out-RStmt s) n site recs st d h).1

-- The branch that is taken

ok_bool : {a b : Bool} → ◌≡◌ {A = Result Bool End} (Ok a) (Ok b) → a ≡ b
ok_bool h = cc

pub taken_told : (test : Result Value End) (b : Bool) (ys ns : List Record) → then_do test (λ v. Ok (is_so v)) ≡ Ok b → on test (λ v. if is_so v then ys else ns) ≡ (if b then ys else ns)
taken_told (Ok v) b ys ns h = ap (λ t. if t then ys else ns) (ok_bool h)
taken_told (Err e) b ys ns h = cc

pub taken_done : (test : Result Value End) (b : Bool) (ys ns : Result State End) → then_do test (λ v. Ok (is_so v)) ≡ Ok b → then_do test (λ v. if is_so v then ys else ns) ≡ (if b then ys else ns)
taken_done (Ok v) b ys ns h = ap (λ t. if t then ys else ns) (ok_bool h)
taken_done (Err e) b ys ns h = cc

pub when_first : {A : Type 0} (b : Bool) (ys ns : A) → b ≡ true → (if b then ys else ns) ≡ ys
when_first b ys ns is = ap (λ t. if t then ys else ns) is

pub when_second : {A : Type 0} (b : Bool) (ys ns : A) → b ≡ false → (if b then ys else ns) ≡ ns
when_second b ys ns is = ap (λ t. if t then ys else ns) is

-- a condition that is stopped

pub stops_told : (test : Result Value End) (stop : Stop) (recs ys ns : List Record) → Fails stop (then_do test (λ v. Ok (is_so v))) → Leave {A = Unit {0}} (Err stop) recs (recs ++ on test (λ v. if is_so v then ys else ns))
stops_told test Memory recs ys ns h = tt
stops_told (Ok v) (Ended d) recs ys ns h = cc
stops_told (Err e) (Ended d) recs ys ns h = sym (append-nil recs)

pub stops_done : (test : Result Value End) (stop : Stop) (ys ns : Result State End) → Fails stop (then_do test (λ v. Ok (is_so v))) → Fails stop (then_do test (λ v. if is_so v then ys else ns))
stops_done test Memory ys ns h = tt
stops_done (Ok v) (Ended d) ys ns h = cc
stops_done (Err e) (Ended d) ys ns h = let same : e ≡ d = cc in ap Err same
