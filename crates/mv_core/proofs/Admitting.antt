-- In a script of one piece the predicates of records match rows only under keys that they admit.
use Rattle.std.proofs.Common.{◌≡◌, ◌≤◌, ◌-◌, ℕ, Bool, true, false, cond, List, [], ◌∷◌, ◌++◌, Option, Some, None, All, drop, if◌then◌else◌, refl, sym, ap, subst, ◌∙◌}
use Rattle.std.specs.Prelude.{◌&&◌, slice_get, slice_index_or}
use Rattle.std.specs.List.{filter}
use Rattle.std.specs.Ordering.{is_eq}
use Rattle.std.proofs.lemmas.Bool.{eq-eqb}
use Rattle.std.proofs.lemmas.List.Elements.{All-head, All-tail, All-nil, All-cons, All-append, All-drop, All-weaker}
use Rattle.mv_values.specs.declared.value.Value.{Value}
use Rattle.mv_values.specs.declared.calls.Call.{Call}
use Rattle.mv_values.specs.declared.pred.Pred.{Pred}
use Rattle.mv_values.specs.declared.rows.Keyed.{Keyed}
use Rattle.mv_values.specs.declared.schema.TableInfo.{TableInfo}
use Rattle.mv_values.specs.Columns.{columns_of}
use Rattle.mv_values.specs.Order.{key_order}
use Rattle.mv_values.specs.Patching.{row_of}
use Rattle.mv_values.specs.Preds.{matches, admits, matched}
use Rattle.mv_values.specs.Tables.{key_columns, rows_at, Tables}
use Rattle.mv_values.proofs.KeyOrder.{same_key}
use Rattle.mv_eval.proofs.Spanning.{tests_admit}
use Rattle.mv_catalog.specs.Text.{Suits}
use Rattle.mv_record.specs.declared.record.Record.{Record}
use Rattle.mv_record.specs.Admitting.{Admitted}
use Rattle.mv_record.specs.Databases.{IsDatabaseOf}
use Rattle.mv_record.proofs.Rising.{unadmitted}
use Rattle.mv_recorded.specs.Asking.{preds_of}
use Rattle.mv_recorded.specs.Own.{Each, Ground, AllOwn, ground_of}
use Rattle.mv_recorded.specs.Recorded.{recorded}
use Rattle.mv_recorded.proofs.Inverting.{inverted}
use Rattle.mv_recorded.proofs.Wellness.{procedure_suits}
use Rattle.std.proofs.lemmas.Slice.Zip.{AllZip-long}
use Rattle.mv_graph.specs.declared.graph.Graph.{Graph}
use Rattle.mv_history.specs.declared.change.Change.{Change}
use Rattle.mv_history.specs.Changes.{is_same, change_of, changes_between, is_of, ListsChanges}
use Rattle.mv_history.proofs.Judging.{all_of}
use Rattle.mv_history.proofs.Listing.{changes_listed}
use Rattle.mv_soundness.proofs.Finding.{Places}
use Rattle.mv_soundness.proofs.Lasting.{places_preds}
use Rattle.mv_changes.specs.Admitting.{IsAdmitted, AreAdmitted, AllAdmitted}
use Rattle.mv_changes.specs.Commits.{Window}
use Rattle.mv_lawful.specs.Batch.{table_at, records_at, changes_after, since}
use Rattle.mv_lawful.specs.Lawful.{Schedule}
use Rattle.mv_script.specs.declared.script.CompiledScript.{CompiledScript}
use Rattle.mv_script.specs.Scripts.{batch_of, run_in, run_by, CanRun, IsScriptOf, IsCompiledScript}
use Rattle.mv_script.proofs.Databases.{run_database, table_database}
use Rattle.mv_core.specs.Books.{IsRecent}
use Rattle.mv_core.proofs.Recents.{recent_since}

-- Changes between two databases

kept_all : (p : Change → Bool) (Q : Change → Type 0) (xs : List Change) → All Q (filter p xs) → All (λ x. p x ≡ true → Q x) xs
kept_all p Q [] h = All-nil (λ x. p x ≡ true → Q x)
kept_all p Q (x ∷ xs) h = by (p x) refl h (kept_all p Q xs)
  where
    clash : true ≡ false → ⊥
    clash h = cc

    by : (b : Bool) → p x ≡ b → All Q (cond b (x ∷ filter p xs) (filter p xs)) → (All Q (filter p xs) → All (λ x. p x ≡ true → Q x) xs) → All (λ x. p x ≡ true → Q x) (x ∷ xs)
    by true e h rest = All-cons (λ x. p x ≡ true → Q x) x xs (λ yes. All-head Q x (filter p xs) h) (rest (All-tail Q x (filter p xs) h))
    by false e h rest = All-cons (λ x. p x ≡ true → Q x) x xs (λ yes. absurd (clash (sym yes ∙ e))) (rest h)

-- the change has these rows
abbrev HasRows : Option (List Value) → Option (List Value) → Change → Type 0
HasRows before after c = (c.before ≡ before) × (c.after ≡ after)

one_change : (t : ℕ) (key : List Value) (before after : Option (List Value)) → All (HasRows before after) (change_of t key before after)
one_change t key before after = by (is_same before after)
  where
    by : (b : Bool) → All (HasRows before after) (if b then [] else record { table = t; key = key; before = before; after = after } ∷ [])
    by true = All-nil (HasRows before after)
    by false = All-cons (HasRows before after) (record { table = t; key = key; before = before; after = after }) [] (refl, refl) (All-nil (HasRows before after))

own_key : (c : Change) → is_of c.table c.key c ≡ true
own_key c = ap (λ b. b && is_eq (key_order c.key c.key)) (eq-eqb c.table c.table refl) ∙ ap is_eq (same_key c.key)

-- a change has the rows of its key in the two databases
rows_in : (old new : Tables) (changes : List Change) → ListsChanges changes old new → All (λ c. HasRows (row_of (rows_at old c.table) c.key) (row_of (rows_at new c.table) c.key) c) changes
rows_in old new changes h k d lt =
    let c : Change = slice_index_or changes k d in
    let rows : Change → Type 0 = HasRows (row_of (rows_at old c.table) c.key) (row_of (rows_at new c.table) c.key) in
    kept_all (is_of c.table c.key) rows changes
    (subst (All rows) (sym (h.each c.table c.key)) (one_change c.table c.key (row_of (rows_at old c.table) c.key) (row_of (rows_at new c.table) c.key))) k d lt (own_key c)

change_admitted : (p : Pred) (old new : Tables) (c : Change) → Admitted p (rows_at old p.table) → Admitted p (rows_at new p.table)
    → HasRows (row_of (rows_at old c.table) c.key) (row_of (rows_at new c.table) c.key) c → IsAdmitted p c
change_admitted p old new c before after rows own not' = (
  ap (matched p) (rows.0 ∙ ap (λ t. row_of (rows_at old t) c.key) own) ∙ unadmitted p (rows_at old p.table) c.key before not',
  ap (matched p) (rows.1 ∙ ap (λ t. row_of (rows_at new t) c.key) own) ∙ unadmitted p (rows_at new p.table) c.key after not',
)

placed_admitted : (tables : List TableInfo) (p : Pred) (db : Tables) → Places tables p → IsDatabaseOf tables db → Admitted p (rows_at db p.table)
placed_admitted tables p db places d =
    All-weaker (λ (item : Keyed). item.key ≡ columns_of item.row (key_columns tables p.table)) (λ item. matches p item.row ≡ true → admits p item.key ≡ true)
    (λ item own h. subst (λ k. admits p k ≡ true) (sym own) (tests_admit (key_columns tables p.table) item.row p.tests places h))
    (rows_at db p.table) (d.keys p.table)

between_admitted : (tables : List TableInfo) (p : Pred) (old new : Tables) → Places tables p → IsDatabaseOf tables old → IsDatabaseOf tables new → All (IsAdmitted p) (changes_between old new)
between_admitted tables p old new places d e =
    All-weaker (λ c. HasRows (row_of (rows_at old c.table) c.key) (row_of (rows_at new c.table) c.key) c) (IsAdmitted p)
    (λ c. change_admitted p old new c (placed_admitted tables p old places d) (placed_admitted tables p new places e)) (changes_between old new)
    (rows_in old new (changes_between old new) (changes_listed old new d.rising e.rising (d.size ∙ sym e.size)))

-- The changes of a script's commits

abbrev Admitting : Pred → List (List Change) → Type 0
Admitting p commits = All (λ changes. All (IsAdmitted p) changes) commits

after_admitted : (tables : List TableInfo) (s : CompiledScript) (p : Pred) (cs : List ℕ) (db : Tables) → IsScriptOf tables s → Places tables p → IsDatabaseOf tables db → Admitting p (changes_after (batch_of s) db cs)
after_admitted tables s p [] db k places d = All-nil (λ changes. All (IsAdmitted p) changes)
after_admitted tables s p (c ∷ cs) db k places d =
    let new : Tables = ((batch_of s).run c db).tables in
    let next : IsDatabaseOf tables new = run_database tables s c db k d in
    All-cons (λ changes. All (IsAdmitted p) changes) (changes_between db new) (changes_after (batch_of s) new cs) (between_admitted tables p db new places d next) (after_admitted tables s p cs new k places next)

-- The predicates of a script's records

-- each predicate of these records has the places of its tests
abbrev HavePlaces : List TableInfo → List Record → Type 0
HavePlaces tables rs = All (λ r. All (Places tables) r.preds) rs

each_all : (P : Pred → Type 0) (ps : List Pred) → Each P ps → All P ps
each_all P [] h = All-nil P
each_all P (p ∷ ps) h = All-cons P p ps h.0 (each_all P ps h.1)

own_places : (g : Ground) (before rs : List Record) → AllOwn g before rs → HavePlaces g.tables rs
own_places g before [] h = All-nil (λ r. All (Places g.tables) r.preds)
own_places g before (r ∷ rs) h =
    All-cons (λ (r : Record). All (Places g.tables) r.preds) r rs
    (subst (λ (x : Record). All (Places g.tables) x.preds) (sym h.0.is) (each_all (Places g.tables) (preds_of g.tables h.0.s.it h.0.st) (places_preds g.tables h.0.s.it h.0.st))) (own_places g (before ++ r ∷ []) rs h.1)

run_places : (tables : List TableInfo) (s : CompiledScript) (c : ℕ) (db : Tables) → IsScriptOf tables s → IsDatabaseOf tables db → HavePlaces tables ((batch_of s).run c db).records
run_places tables s c db k d = by (slice_get s.calls c) refl where
  none : HavePlaces tables []
  none = All-nil (λ r. All (Places tables) r.preds)

  graph : (call : Call) (o : Option Graph) → slice_get s.calls c ≡ Some call → slice_get s.graphs call.procedure ≡ o → HavePlaces tables (run_by o call db).records
  graph call None at there = none
  graph call (Some g) at there =
      let can : CanRun tables call g = k.runs c call g (record { call_is = at; graph_is = there }) in
      subst (λ ts. HavePlaces ts (recorded g.tables g.procedure call db)) can.over
      (own_places (ground_of g.tables g.procedure call db) [] (recorded g.tables g.procedure call db)
      (inverted g.tables g.procedure call db d.rising (procedure_suits g.tables g.procedure call can.sound.procedure (AllZip-long Suits g.procedure.params call.arguments can.suits))))

  by : (o : Option Call) → slice_get s.calls c ≡ o → HavePlaces tables (run_in s.graphs o db).records
  by None at = none
  by (Some call) at = graph call (slice_get s.graphs call.procedure) at refl

-- Both

-- for the records of a call at a start, and the changes since another one
pub since_admitted : (s : CompiledScript) (order : List ℕ) (c start from : ℕ) → IsCompiledScript s → AllAdmitted (since (batch_of s) order from) (records_at (batch_of s) order start c)
since_admitted s order c start from k i d lt j e le n f less =
    let rs : List Record = records_at (batch_of s) order start c in
    let p : Pred = slice_index_or (slice_index_or rs j e).preds n f in
    let places : Places k.0 p = run_places k.0 s c (table_at (batch_of s) order start) k.1 (table_database k.0 s order start k.1) j e le n f less in
    All-drop (λ changes. All (IsAdmitted p) changes) from (changes_after (batch_of s) s.opening order) (after_admitted k.0 s p order s.opening k.1 places k.1.opening) i d lt

all_flat : (p : Pred) (commits : List (List Change)) → Admitting p commits → All (IsAdmitted p) (all_of commits)
all_flat p [] h = All-nil (IsAdmitted p)
all_flat p (changes ∷ commits) h =
    All-append (IsAdmitted p) changes (all_of commits) (All-head (λ changes. All (IsAdmitted p) changes) changes commits h) (all_flat p commits (All-tail (λ changes. All (IsAdmitted p) changes) changes commits h))

-- the same of all changes in one list
pub flat_admitted : (s : CompiledScript) (order : List ℕ) (c start from : ℕ) → IsCompiledScript s → All (AreAdmitted (all_of (since (batch_of s) order from))) (records_at (batch_of s) order start c)
flat_admitted s order c start from k j e le n f less =
    all_flat (slice_index_or (slice_index_or (records_at (batch_of s) order start c) j e).preds n f) (since (batch_of s) order from) (λ i d lt. since_admitted s order c start from k i d lt j e le n f less)

-- what is kept of the changes since the start of a call
pub recent_admitted : (s : CompiledScript) (schedule : Schedule) (c n start : ℕ) (r : Window) (rs : List Record) → IsCompiledScript s → IsRecent (batch_of s) schedule r → n ≡ start → r.low ≤ start → rs ≡ records_at (batch_of s) schedule.order start c
    → AllAdmitted (drop (n - r.low) r.commits) rs
recent_admitted s schedule c n start r rs k recent is le full =
    subst (λ m. AllAdmitted (drop (m - r.low) r.commits) rs) (sym is)
    (subst (λ (commits : List (List Change)). AllAdmitted commits rs) (sym (recent_since (batch_of s) schedule start r recent le))
    (subst (AllAdmitted (since (batch_of s) schedule.order start)) (sym full) (since_admitted s schedule.order c start start k)))
