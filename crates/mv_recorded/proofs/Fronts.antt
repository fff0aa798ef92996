-- Each front of a full run leads to a database of the tables.
use Rattle.std.proofs.Common.{◌≡◌, ℕ, zero, suc, ◌+◌, Bool, true, false, List, [], ◌∷◌, ◌++◌, Option, Some, None, Result, Ok, Err, IfOk, map, length, if◌then◌else◌, refl, sym, ap, subst, ◌∙◌, append-nil}
use Rattle.std.specs.Prelude.{All, slice_get, slice_index}
use Rattle.std.specs.List.{AllZip}
use Rattle.std.proofs.lemmas.List.Elements.{All-head, All-tail}
use Rattle.mv_record.proofs.Rising.{rises_from}
use Rattle.mv_values.specs.declared.value.Value.{Value}
use Rattle.mv_values.specs.declared.patch.Write.{Write}
use Rattle.mv_values.specs.declared.schema.TableInfo.{TableInfo}
use Rattle.mv_values.specs.declared.calls.Call.{Call}
use Rattle.mv_values.specs.declared.calls.End.{End}
use Rattle.mv_values.specs.Patching.{applied}
use Rattle.mv_values.specs.Tables.{rows_at, Tables}
use Rattle.mv_catalog.specs.declared.resolved.ProcInfo.{ProcInfo}
use Rattle.mv_catalog.specs.declared.resolved.RStmt.{RStmt, roll-RStmt, map-RStmt, ind-RStmt, para-roll-RStmt}
use Rattle.mv_catalog.specs.declared.resolved.RStmt.TheOpen.{RStmt-F, Assign, Select, Total, ForSelect, ForRows, Branch, Insert, Update, Delete, Print, Rollback}
use Rattle.mv_catalog.specs.Types.{Kind, Vars}
use Rattle.mv_catalog.specs.Types as types
use Rattle.mv_catalog.specs.Statements.{size, Well, IsWell, all_well, with_turn, stmt_step}
use Rattle.mv_catalog.specs.Text.{Suits, IsCall, IsProcedure, vars_of}
use Rattle.mv_catalog.proofs.Typed.{well_by}
use Rattle.mv_eval.specs.declared.state.State.{State}
use Rattle.mv_eval.specs.declared.state.Content.TheVariants.{Turn}
use Rattle.mv_eval.specs.Env.{with_found, with_held, turns_at}
use Rattle.mv_eval.specs.Value.{value_of, is_so}
use Rattle.mv_eval.specs.Alone.{Does, alone, does, is_turn}
use Rattle.mv_eval.specs.TableAfter.{begun, result_of, result_at, result_in, tables_left, table_after}
use Rattle.mv_record.specs.declared.record.Record.{Record}
use Rattle.mv_record.specs.Databases.{IsDatabaseOf}
use Rattle.mv_record.specs.Writes.{AreRising}
use Rattle.mv_record.proofs.Patching.{length_applied, rising_applied, applied_append}
use Rattle.mv_record.specs.Runs.{writes_in}
use Rattle.mv_recorded.specs.Asking.{on}
use Rattle.mv_recorded.specs.Doing.{itself, fixed_rows, writes_of}
use Rattle.mv_recorded.specs.Laws.{DatabaseKept, FrontsAreDatabases, TablesAfterAre}
use Rattle.mv_recorded.specs.Recorded.{Recorder, Site, tell, tell_inner, tell_step, tell_turns, own_record, in_turn, within, within_loop, body_of, tell_statements, outside, recorded}
use Rattle.mv_recorded.specs.Typed.{OfKinds, IsEnvOf}
use Rattle.mv_recorded.proofs.CallsTyped.{entered_fits}
use Rattle.mv_recorded.proofs.Following.{Follows, firsts, statement_follows, told_follows}
use Rattle.mv_recorded.proofs.Leading.{AllRise, LeadsTo, leads_law, leads_own}
use Rattle.mv_recorded.proofs.Typing.{fit_turn, fit_behind, fit_found}
use Rattle.mv_recorded.proofs.RowsTyped.{all_get}
use Rattle.mv_recorded.proofs.RunsTyped.{Kept, alone_kept, does_kept, itself_kept, chosen_kinds}
use Rattle.mv_recorded.proofs.Standing.{itself_stands}

-- it is a database of the tables before these records, behind the first of them, and so on
abbrev pub Lasts : List TableInfo → List Record → Tables → Type 0
Lasts tables [] db = IsDatabaseOf tables db
Lasts tables (r ∷ rs) db = IsDatabaseOf tables db × Lasts tables rs (applied r.writes db)

-- so it is behind the first ones
pub lasts_front : (tables : List TableInfo) (front rest : List Record) (db : Tables) → Lasts tables (front ++ rest) db → IsDatabaseOf tables (applied (writes_in front) db)
lasts_front tables [] [] db h = h
lasts_front tables [] (r ∷ rest) db h = h.0
lasts_front tables (r ∷ front) rest db h = subst (IsDatabaseOf tables) (sym (applied_append r.writes (writes_in front) db)) (lasts_front tables front rest (applied r.writes db) h.1)

lasts_all : (tables : List TableInfo) (rs : List Record) (db : Tables) → Lasts tables rs db → IsDatabaseOf tables (applied (writes_in rs) db)
lasts_all tables rs db h = lasts_front tables rs [] db (subst (λ l. Lasts tables l db) (sym (append-nil rs)) h)

lasts_both : (tables : List TableInfo) (rs ss : List Record) (db : Tables) → Lasts tables rs db → Lasts tables ss (applied (writes_in rs) db) → Lasts tables (rs ++ ss) db
lasts_both tables [] ss db h k = k
lasts_both tables (r ∷ rs) ss db h k = (h.0, lasts_both tables rs ss (applied r.writes db) h.1 (subst (Lasts tables ss) (applied_append r.writes (writes_in rs) db) k))

module _ (tables : List TableInfo) (params : ℕ) where
  all_rise : (db : Tables) → IsDatabaseOf tables db → AllRise db
  all_rise db h = λ t. rises_from (rows_at db t) (h.rising t)

  -- variables and a database that a well formed statement may be executed on
  pub record Sound (vars : Vars) (st : State) : Type 0 where
    pub fit : IsEnvOf vars st.env
    pub database : IsDatabaseOf tables st.tables

  typed : (vars : Vars) (st : State) → Sound vars st → Kept tables vars st
  typed vars st s = record { fit = s.fit; typed = s.database.rows }

  -- what is said of what a list of statements leaves, or a statement
  record Walks (vars : Vars) (tells : Recorder) (body : Does) : Type 0 where
    leads : Follows LeadsTo tells body
    keeps : (st : State) → Kept tables vars st → IfOk (body st) (Kept tables vars)
    lasts : (n : ℕ) (site : Site) (before : List Record) (st : State) → Sound vars st → Lasts tables (tells n site before st) st.tables

  -- behind some records, where variables and rows still have their types
  sound_behind : (vars : Vars) (st next : State) (rs : List Record) (out : Result State End) → Sound vars st → LeadsTo st rs out → IfOk out (Kept tables vars) → Lasts tables rs st.tables → out ≡ Ok next → Sound vars next
  sound_behind vars st next rs out s leads keeps lasts is =
      let k : Kept tables vars next = subst (λ (o : Result State End). IfOk o (Kept tables vars)) is keeps in
      let l : LeadsTo st rs (Ok next) = subst (LeadsTo st rs) is leads in
      record { fit = k.fit; database = subst (IsDatabaseOf tables) (sym (l (all_rise st.tables s.database)).0) (lasts_all tables rs st.tables lasts) }

  -- one run after another
  then_lasts : (vars : Vars) (st : State) (rs : List Record) (out : Result State End) (go : State → List Record) → Sound vars st → LeadsTo st rs out → IfOk out (Kept tables vars) → Lasts tables rs st.tables
      → ((next : State) → Sound vars next → Lasts tables (go next) next.tables) → Lasts tables (rs ++ on out go) st.tables
  then_lasts vars st rs (Ok next) go s leads keeps lasts k =
      lasts_both tables rs (go next) st.tables lasts
      (subst (Lasts tables (go next)) (leads (all_rise st.tables s.database)).0 (k next (sound_behind vars st next rs (Ok next) s leads keeps lasts refl)))
  then_lasts vars st rs (Err e) go s leads keeps lasts k = subst (λ l. Lasts tables l st.tables) (sym (append-nil rs)) lasts

  -- Loops

  turns_last : (x : ℕ) (ts : List Kind) (vars : Vars) (body : Does) (tells : Recorder) → vars x ≡ None → Walks (with_turn vars x ts) tells body → (all : List (List Value)) → All (OfKinds ts) all → (k n : ℕ) (site : Site) (before : List Record) (st : State)
      → Sound vars st → Lasts tables (tell_turns x body tells all k n site before st) st.tables
  turns_last x ts vars body tells none w [] typed k n site before st s = s.database
  turns_last x ts vars body tells none w (row ∷ later) typed k n site before st s =
      let next : State = record st { env = with_held st.env x (Turn row) } in
      let inner : Sound (with_turn vars x ts) next = record { fit = fit_turn vars st.env x ts row s.fit none (All-head (OfKinds ts) row later typed); database = s.database } in
      let these : List Record = tells n (in_turn k site) before next in
      then_lasts (with_turn vars x ts) next these (body next) (tell_turns x body tells later (k + 1) n site (before ++ these)) inner (w.leads n (in_turn k site) before next) (w.keeps next (typed_inner next inner)) (w.lasts n (in_turn k site) before next inner)
      (λ last l. turns_last x ts vars body tells none w later (All-tail (OfKinds ts) row later typed) (k + 1) n site (before ++ these) last (record { fit = fit_behind vars last.env x ts l.fit none; database = l.database }))
    where
      typed_inner : (next : State) → Sound (with_turn vars x ts) next → Kept tables (with_turn vars x ts) next
      typed_inner next s = record { fit = s.fit; typed = s.database.rows }

  -- behind records that write nothing
  nothing : {A : Type 0} (r : Result A End) → ◌≡◌ {A = List Write} (on r (λ x. [])) []
  nothing (Ok x) = refl
  nothing (Err e) = refl

  -- inside a statement that writes nothing itself
  inside : (own : Record) (rs : List Record) (db : Tables) → own.writes ≡ [] → IsDatabaseOf tables db → Lasts tables rs db → Lasts tables (own ∷ rs) db
  inside own rs db none h k = (h, subst (λ ws. Lasts tables rs (applied ws db)) (sym none) k)

  fixed_last : {A : Type 0} (r : Result A End) (go : A → List Record) (db : Tables) → IsDatabaseOf tables db → ((x : A) → r ≡ Ok x → Lasts tables (go x) db) → Lasts tables (on r go) db
  fixed_last (Ok x) go db h k = k x refl
  fixed_last (Err e) go db h k = h

  either_last : (b : Bool) (rs ss : List Record) (db : Tables) → Lasts tables rs db → Lasts tables ss db → Lasts tables (if b then rs else ss) db
  either_last true rs ss db h k = h
  either_last false rs ss db h k = k

  -- A statement itself

  -- it leaves a database of the tables
  pub itself_database : {X : Type 0} (v : X → RStmt) (w : X → Well) (y : RStmt-F X) (vars : Vars) (st next : State) → stmt_step tables X v w y vars → Sound vars st → itself tables y st ≡ Ok next → IsDatabaseOf tables next.tables
  itself_database v w y vars st next well s is =
      let own : Record = own_record tables params y 0 outside [] st in
      let l : LeadsTo st (own ∷ []) (Ok next) = subst (LeadsTo st (own ∷ [])) is (leads_own tables params y 0 outside [] st) in
      let to = (l (all_rise st.tables s.database)).0 in
      let k : Kept tables vars next = subst (λ (o : Result State End). IfOk o (Kept tables vars)) is (itself_kept tables v w y vars st well (typed vars st s)) in
      record {
        size = ap length to ∙ (length_applied (writes_in (own ∷ [])) st.tables ∙ s.database.size);
        rising = subst AreRising (sym to) (rising_applied (writes_in (own ∷ [])) st.tables s.database.rising);
        keys = itself_stands tables y st next s.database.keys is;
        rows = k.typed;
      }

  leaf_lasts : {X : Type 0} (v : X → RStmt) (w : X → Well) (y : RStmt-F X) (vars : Vars) (n : ℕ) (site : Site) (before : List Record) (st : State) → stmt_step tables X v w y vars → Sound vars st
      → Lasts tables (own_record tables params y n site before st ∷ []) st.tables
  leaf_lasts v w y vars n site before st well s = by (itself tables y st) refl
    where
      own : Record
      own = own_record tables params y n site before st

      by : (out : Result State End) → itself tables y st ≡ out → Lasts tables (own ∷ []) st.tables
      by (Ok next) is =
          let l : LeadsTo st (own ∷ []) (Ok next) = subst (LeadsTo st (own ∷ [])) is (leads_own tables params y n site before st) in
          let to = (l (all_rise st.tables s.database)).0 ∙ ap (λ ws. applied ws st.tables) (append-nil own.writes) in
          (s.database, subst (IsDatabaseOf tables) to (itself_database v w y vars st next well s is))
      by (Err e) is =
          let none : own.writes ≡ [] = ap (λ (o : Result State End). on o (λ next. writes_of tables y st)) is in
          (s.database, subst (λ ws. IsDatabaseOf tables (applied ws st.tables)) (sym none) s.database)

  -- Statements

  abbrev LastsOf : Vars → Recorder → Type 0
  LastsOf vars tells = (n : ℕ) (site : Site) (before : List Record) (st : State) → Sound vars st → Lasts tables (tells n site before st) st.tables

  abbrev Claim : RStmt → Type 0
  Claim s = (vars : Vars) → IsWell tables s vars → LastsOf vars (tell tables params s)

  abbrev Known : Type 0
  Known = (s : RStmt) × Claim s

  all_last : (ks : List Known) (vars : Vars) → all_well (IsWell tables) (map (λ p. p.0) ks) vars → LastsOf vars (tell_statements tables params (map (λ p. p.0) ks))
  all_last [] vars h n site before st s = s.database
  all_last (k ∷ ks) vars h n site before st s =
      let these : List Record = tell tables params k.0 n site before st in
      then_lasts vars st these (does tables k.0 st) (tell_statements tables params (map (λ p. p.0) ks) (n + size k.0) site (before ++ these)) s (statement_follows LeadsTo leads_law tables params k.0 n site before st)
      (does_kept tables k.0 vars h.0 st (typed vars st s)) (k.1 vars h.0 n site before st s) (λ next t. all_last ks vars h.1 (n + size k.0) site (before ++ these) next t)

  body_walks : (ks : List Known) (vars : Vars) → all_well (IsWell tables) (map (λ p. p.0) ks) vars
      → Walks vars (tell_statements tables params (map (λ p. p.0) ks)) (body_of tables (map (λ s. (s, tell tables params s)) (map (λ p. p.0) ks)))
  body_walks ks vars h =
      let ss : List RStmt = map (λ p. p.0) ks in
      subst (λ (body : List RStmt). Walks vars (tell_statements tables params ss) (alone tables body)) (sym (firsts (tell tables params) ss))
      (record { leads = told_follows LeadsTo leads_law tables params ss; keeps = alone_kept tables ss vars h; lasts = all_last ks vars h })

  -- a statement, with what those that it holds leave
  abbrev telling : RStmt-F Known → RStmt-F (RStmt × Recorder)
  telling y = map-RStmt RStmt (RStmt × Recorder) (λ s. (s, tell tables params s)) (map-RStmt Known RStmt (λ p. p.0) y)

  leaf : (y : RStmt-F (RStmt × Recorder)) (vars : Vars) (n : ℕ) (site : Site) (before : List Record) (st : State) → stmt_step tables (RStmt × Recorder) (λ p. p.0) (λ p. IsWell tables p.0) y vars → Sound vars st
      → Lasts tables (own_record tables params y n site before st ∷ []) st.tables
  leaf = leaf_lasts (λ p. p.0) (λ p. IsWell tables p.0)

  step_last : (y : RStmt-F Known) (vars : Vars) → stmt_step tables RStmt (λ s. s) (IsWell tables) (map-RStmt Known RStmt (λ p. p.0) y) vars → LastsOf vars (tell_step tables params (telling y))
  step_last (Assign x e) vars h n site before st s = leaf (Assign x e) vars n site before st h s
  step_last (Select cs xs t conds sorts offset) vars h n site before st s = leaf (Select cs xs t conds sorts offset) vars n site before st h s
  step_last (Total agg x t conds) vars h n site before st s = leaf (Total agg x t conds) vars n site before st h s
  step_last (ForSelect x once cs t conds sorts body) vars h n site before st s =
      let z : RStmt-F (RStmt × Recorder) = telling (ForSelect x once cs t conds sorts body) in
      let own : Record = own_record tables params z n site before st in
      inside own (tell_inner tables z (length before) (n + 1) site (before ++ own ∷ []) st) st.tables (nothing (itself tables z st)) s.database
      (fixed_last (fixed_rows tables z st) _ st.tables s.database (λ rows is.
      turns_last x h.2.3.0 vars _ (tell_statements tables params (map (λ p. p.0) body)) h.2.2 (body_walks body (with_turn vars x h.2.3.0) h.2.3.2) rows
      (chosen_kinds tables (λ p. p) (IsWell tables) x once cs t conds sorts (map (λ p. p.0) body) vars st rows h (typed vars st s) is) 1 (n + 1) (within_loop x (length before) site) (before ++ own ∷ []) (record st { env = with_found st.env (is_turn rows) })
      (record { fit = fit_found vars st.env (is_turn rows) s.fit; database = s.database })))
  step_last (ForRows x y body) vars h n site before st s =
      let z : RStmt-F (RStmt × Recorder) = telling (ForRows x y body) in
      let own : Record = own_record tables params z n site before st in
      let rows : List (List Value) = turns_at st.env y in
      inside own (tell_inner tables z (length before) (n + 1) site (before ++ own ∷ []) st) st.tables refl s.database
      (turns_last x h.0 vars _ (tell_statements tables params (map (λ p. p.0) body)) h.2 (body_walks body (with_turn vars x h.0) h.3) rows (s.fit.holds y (types.rows h.0) h.1) 1 (n + 1) (within_loop x (length before) site) (before ++ own ∷ [])
      (record st { env = with_found st.env (is_turn rows) }) (record { fit = fit_found vars st.env (is_turn rows) s.fit; database = s.database }))
  step_last (Branch e ys ns) vars h n site before st s =
      let z : RStmt-F (RStmt × Recorder) = telling (Branch e ys ns) in
      let own : Record = own_record tables params z n site before st in
      inside own (tell_inner tables z (length before) (n + 1) site (before ++ own ∷ []) st) st.tables (nothing (itself tables z st)) s.database
      (fixed_last (value_of e st.env []) _ st.tables s.database (λ v is. either_last (is_so v) _ _ st.tables
      (all_last ys vars h.1 (n + 1) (within (length before) site) (before ++ own ∷ []) st s) (all_last ns vars h.2 _ (within (length before) site) (before ++ own ∷ []) st s)))
  step_last (Insert t es) vars h n site before st s = leaf (Insert t es) vars n site before st h s
  step_last (Update t items conds) vars h n site before st s = leaf (Update t items conds) vars n site before st h s
  step_last (Delete t conds) vars h n site before st s = leaf (Delete t conds) vars n site before st h s
  step_last (Print es) vars h n site before st s = leaf (Print es) vars n site before st h s
  step_last (Rollback reason) vars h n site before st s = leaf (Rollback reason) vars n site before st h s

  rolled : (x : RStmt-F RStmt) (y : RStmt-F Known) → map-RStmt Known RStmt (λ p. p.0) y ≡ x → Claim (roll-RStmt x)
  rolled x y is =
      let d = map-RStmt Known RStmt (λ p. p.0) y in
      subst (λ z. Claim (roll-RStmt z)) is (λ vars h n site before st s.
      subst (λ rs. Lasts tables rs st.tables) (sym (ap (λ f. f n site before st) (para-roll-RStmt Recorder (tell_step tables params) d)))
      (step_last y vars (well_by tables d (roll-RStmt d) vars refl h) n site before st s))

  statement_lasts : (s : RStmt) → Claim s
  statement_lasts = ind-RStmt Claim rolled

  list_lasts : (ss : List RStmt) (vars : Vars) → all_well (IsWell tables) ss vars → LastsOf vars (tell_statements tables params ss)
  list_lasts [] vars h n site before st s = s.database
  list_lasts (x ∷ xs) vars h n site before st s =
      let these : List Record = tell tables params x n site before st in
      then_lasts vars st these (does tables x st) (tell_statements tables params xs (n + size x) site (before ++ these)) s (statement_follows LeadsTo leads_law tables params x n site before st)
      (does_kept tables x vars h.0 st (typed vars st s)) (statement_lasts x vars h.0 n site before st s) (λ next t. list_lasts xs vars h.1 (n + size x) site (before ++ these) next t)

-- Calls

-- so it is along the records of a call
pub recorded_lasts : (tables : List TableInfo) (proc : ProcInfo) (call : Call) (db : Tables) → IsProcedure tables proc → AllZip Suits proc.params call.arguments → IsDatabaseOf tables db
    → Lasts tables (recorded tables proc call db) db
recorded_lasts tables proc call db whole suits h =
    list_lasts tables (length call.arguments) proc.body (vars_of proc) whole.body 1 outside [] (begun proc call db) (record { fit = entered_fits proc call suits; database = h })

pub fronts_are : FrontsAreDatabases
fronts_are tables proc call db whole suits h front rest is = lasts_front tables front rest db (subst (λ rs. Lasts tables rs db) is (recorded_lasts tables proc call db whole suits h))

pub left_is : (tables : List TableInfo) (proc : ProcInfo) (call : Call) (db : Tables) → IsProcedure tables proc → AllZip Suits proc.params call.arguments → IsDatabaseOf tables db
    → IsDatabaseOf tables (tables_left db (alone tables proc.body (begun proc call db)))
left_is tables proc call db whole suits h = by (alone tables proc.body (begun proc call db)) refl
  where
    rs : List Record
    rs = recorded tables proc call db

    by : (out : Result State End) → alone tables proc.body (begun proc call db) ≡ out → IsDatabaseOf tables (tables_left db out)
    by (Ok next) is =
        let leads : LeadsTo (begun proc call db) rs (Ok next) = subst (LeadsTo (begun proc call db) rs) is (told_follows LeadsTo leads_law tables (length call.arguments) proc.body 1 outside [] (begun proc call db)) in
        subst (IsDatabaseOf tables) (sym (leads (λ t. rises_from (rows_at db t) (h.rising t))).0) (lasts_all tables rs db (recorded_lasts tables proc call db whole suits h))
    by (Err e) is = h

-- The tables of a program

pub after_is : TablesAfterAre
after_is p whole order = after
  where
    called : (call : Call) (db : Tables) → IsCall p.resolved.procedures call → IsDatabaseOf p.resolved.tables db → IsDatabaseOf p.resolved.tables (tables_left db (result_in p (slice_get p.resolved.procedures call.procedure) call db))
    called call db is h =
        let proc : IsProcedure p.resolved.tables is.0 = all_get (IsProcedure p.resolved.tables) p.resolved.procedures call.procedure is.0 whole.text.procedures is.1 in
        subst (λ o. IsDatabaseOf p.resolved.tables (tables_left db (result_in p o call db))) (sym is.1) (left_is p.resolved.tables is.0 call db proc is.2 h)

    left : (c : ℕ) (db : Tables) → IsDatabaseOf p.resolved.tables db → IsDatabaseOf p.resolved.tables (tables_left db (result_of p c db))
    left c db h = by (slice_get p.resolved.calls c) refl
      where
        by : (o : Option Call) → slice_get p.resolved.calls c ≡ o → IsDatabaseOf p.resolved.tables (tables_left db (result_at p o db))
        by None at' = h
        by (Some call) at' = called call db (all_get (IsCall p.resolved.procedures) p.resolved.calls c call whole.text.calls at') h

    after : (k : ℕ) → IsDatabaseOf p.resolved.tables (table_after p order k)
    after zero = whole.opening
    after (suc k) = left (slice_index order k) (table_after p order k) (after k)

-- a statement that may be executed leaves its variables and the database so
pub database_kept : DatabaseKept
database_kept tables s vars st next well fit h is =
    let k : Kept tables vars next = subst (λ (o : Result State End). IfOk o (Kept tables vars)) is (itself_kept tables (λ x. x) (IsWell tables) s vars st well (record { fit = fit; typed = h.rows })) in
    (k.fit, itself_database tables 0 (λ x. x) (IsWell tables) s vars st next well (record { fit = fit; database = h }) is)
