-- What a statement checks behind its first query: the machine stops at the first check that fails, and checks that ask
-- alike on two databases fail alike.
use Rattle.std.proofs.Common.{◌≡◌, ℕ, ◌==◌, Bool, true, false, not, cond, List, [], ◌∷◌, ◌++◌, Option, Some, None, Result, Ok, Err, map, if◌then◌else◌, refl, sym, ap, subst, ◌∙◌}
use Rattle.std.specs.Prelude.{◌&&◌, ◌||◌}
use Rattle.std.specs.List.{filter, flat_map, list_all, list_any}
use Rattle.std.specs.Option.{option_or}
use Rattle.std.specs.Result.{result_err}
use Rattle.std.specs.Ordering.{is_eq}
use Rattle.std.specs.declared.cmp.Ordering.TheVariants.{Less}
use Rattle.std.proofs.lemmas.Bool.{eqb-true}
use Rattle.mv_values.specs.declared.value.Value.{Value}
use Rattle.mv_values.specs.declared.op.Op.TheVariants.{Eq}
use Rattle.mv_values.specs.declared.pred.Pred.{Pred}
use Rattle.mv_values.specs.declared.pred.Test.{Test}
use Rattle.mv_values.specs.declared.patch.Write.{Write}
use Rattle.mv_values.specs.declared.rows.Keyed.{Keyed}
use Rattle.mv_values.specs.declared.schema.TableInfo.{TableInfo}
use Rattle.mv_values.specs.declared.calls.End.{End}
use Rattle.mv_values.specs.declared.calls.End.TheVariants.{MissingParent, HasChildren}
use Rattle.mv_values.specs.Columns.{column_of, columns_of}
use Rattle.mv_values.specs.Keys.{keys}
use Rattle.mv_values.specs.Order.{value_order}
use Rattle.mv_values.specs.Patching.{found_by}
use Rattle.mv_values.specs.Preds.{meets, matches}
use Rattle.mv_values.specs.References.{Reference, parent_of, references_to, has_key, is_there}
use Rattle.mv_values.specs.Tables.{rows_at, columns_at, key_columns, KeysStand, Tables}
use Rattle.mv_values.proofs.KeyOrder.{turned, same_key}
use Rattle.mv_catalog.specs.declared.resolved.RSetItem.{RSetItem}
use Rattle.mv_eval.specs.declared.state.Env.{Env}
use Rattle.mv_eval.specs.Results.{then_do}
use Rattle.mv_eval.specs.Value.{value_of}
use Rattle.mv_eval.specs.Rows.{matching, is_some_row, test_on, fit}
use Rattle.mv_eval.specs.Changes.{with_column, set_row_by, without}
use Rattle.mv_eval.specs.References.{is_own_parent, has_parents, with_parent, fit_in, holds_key, left_in, has_children}
use Rattle.mv_eval.proofs.Holding.{child_meets, filter_same}
use Rattle.mv_record.proofs.Rising.{Above, Rises}
use Rattle.mv_recorded.specs.Asking.{Check, faults, needs, forbids, is_among, fault_of, first_fault, asked_in, if_none, preds_up_to, parent_pred, child_pred, value_checks, item_checks, update_checks, delete_checks, columns_in}
use Rattle.mv_recorded.specs.Doing.{write, set_patch}
use Rattle.mv_recorded.specs.Effects.{changes}
use Rattle.mv_recorded.specs.Own.{Each}
use Rattle.mv_recorded.specs.Reading.{variables}
use Rattle.mv_recorded.specs.Alike.{Agree, AgreeIn, Alike, SeenAlike}
use Rattle.mv_recorded.proofs.Altered.{Own, own_of}
use Rattle.mv_recorded.proofs.Alike.{some_same, agree_parts}
use Rattle.mv_recorded.proofs.Values.{value_same}

-- Checks that ask alike

pub keys_same : (cs : List ℕ) (xs ys : List Keyed) → Alike cs xs ys → keys xs ≡ keys ys
keys_same cs [] [] h = refl
keys_same cs (x ∷ xs) (y ∷ ys) h = ap (λ k. k ∷ keys xs) h.0 ∙ ap (λ l. y.key ∷ l) (keys_same cs xs ys h.2)
keys_same cs [] (y ∷ ys) h = absurd h
keys_same cs (x ∷ xs) [] h = absurd h

abbrev AllAlike : List Pred → Tables → Tables → Type 0
AllAlike ps db new = Each (λ p. SeenAlike p db new) ps

fault_same : (c : Check) (db new : Tables) (ps : List Pred) → AllAlike (asked_in c ++ ps) db new → fault_of c db ≡ fault_of c new
fault_same (faults e) db new ps h = refl
fault_same (needs p e) db new ps h = ap (λ b. if b then None else Some e) (some_same p.columns (found_by p db) (found_by p new) h.0)
fault_same (forbids p but e) db new ps h = ap (λ l. if list_all (is_among but) l then None else Some e) (keys_same p.columns (found_by p db) (found_by p new) h.0)

later_alike : (c : Check) (db new : Tables) (ps : List Pred) → AllAlike (asked_in c ++ ps) db new → AllAlike ps db new
later_alike (faults e) db new ps h = h
later_alike (needs p e) db new ps h = h.1
later_alike (forbids p but e) db new ps h = h.1

-- where each predicate finds the same, the list of predicates is the same, and so is the first fault
pub checks_same : (cs : List Check) (db new : Tables) → AllAlike (preds_up_to cs db) db new → (preds_up_to cs db ≡ preds_up_to cs new) × (first_fault cs db ≡ first_fault cs new)
checks_same [] db new h = (refl, refl)
checks_same (c ∷ cs) db new h =
    let same : fault_of c db ≡ fault_of c new = fault_same c db new (if_none (fault_of c db) (preds_up_to cs db)) h in
    by (fault_of c db) (fault_of c new) same (later_alike c db new (if_none (fault_of c db) (preds_up_to cs db)) h) (checks_same cs db new)
  where
    by : (o p : Option End) → o ≡ p → AllAlike (if_none o (preds_up_to cs db)) db new
        → (AllAlike (preds_up_to cs db) db new → (preds_up_to cs db ≡ preds_up_to cs new) × (first_fault cs db ≡ first_fault cs new))
        → (asked_in c ++ if_none o (preds_up_to cs db) ≡ asked_in c ++ if_none p (preds_up_to cs new)) × (option_or o (first_fault cs db) ≡ option_or p (first_fault cs new))
    by None None e k go = let rest = go k in (ap (λ l. asked_in c ++ l) rest.0, rest.1)
    by (Some d) (Some f) e k go = (refl, e)
    by None (Some f) e k go = cc
    by (Some d) None e k go = cc

-- Lists of checks

abbrev pub flag : End → Bool → Option End
flag e b = if b then Some e else None

first_both : (xs ys : List Check) (db : Tables) → first_fault (xs ++ ys) db ≡ option_or (first_fault xs db) (first_fault ys db)
first_both [] ys db = refl
first_both (x ∷ xs) ys db = by (fault_of x db) (first_both xs ys db)
  where
    by : (o : Option End) → first_fault (xs ++ ys) db ≡ option_or (first_fault xs db) (first_fault ys db)
        → option_or o (first_fault (xs ++ ys) db) ≡ option_or (option_or o (first_fault xs db)) (first_fault ys db)
    by None h = h
    by (Some e) h = refl

flags_both : (e : End) (a b : Bool) → option_or (flag e a) (flag e b) ≡ flag e (a || b)
flags_both e true b = refl
flags_both e false b = refl

-- Parents

some_any : (q : Keyed → Bool) (rows : List Keyed) → is_some_row (filter q rows) ≡ list_any q rows
some_any q [] = refl
some_any q (r ∷ rs) = by (q r) (some_any q rs)
  where
    by : (b : Bool) → is_some_row (filter q rs) ≡ list_any q rs → is_some_row (cond b (r ∷ filter q rs) (filter q rs)) ≡ (b || list_any q rs)
    by true h = refl
    by false h = h

any_same : (p q : Keyed → Bool) (rows : List Keyed) → Each (λ r. p r ≡ q r) rows → list_any p rows ≡ list_any q rows
any_same p q [] h = refl
any_same p q (r ∷ rs) h = ap (λ b. b || list_any p rs) h.0 ∙ ap (λ b. q r || b) (any_same p q rs h.1)

key_meets : (ks cs : List ℕ) (v : Value) (row : List Value) → meets (map (λ c. test_on ks c Eq v) cs) row ≡ list_all (λ w. is_eq (value_order w v)) (columns_of row cs)
key_meets ks [] v row = refl
key_meets ks (c ∷ cs) v row = ap (λ b. is_eq (value_order (column_of row c) v) && b) (key_meets ks cs v row)

each_own : (ks : List ℕ) (v : Value) (rows : List Keyed) → Own ks rows → Each (λ (r : Keyed). meets (map (λ c. test_on ks c Eq v) ks) r.row ≡ has_key v r) rows
each_own ks v [] h = tt
each_own ks v (r ∷ rs) h = (key_meets ks ks v r.row ∙ ap (list_all (λ w. is_eq (value_order w v))) (sym h.0), each_own ks v rs h.1)

-- a parent is found exactly where it is there
parent_found : (tables : List TableInfo) (t : ℕ) (v : Value) (db : Tables) → KeysStand tables db → is_some_row (found_by (parent_pred tables t v) db) ≡ is_there v (rows_at db t)
parent_found tables t v db stand =
    some_any (λ item. matches (parent_pred tables t v) item.row) (rows_at db t)
    ∙ any_same (λ item. matches (parent_pred tables t v) item.row) (has_key v) (rows_at db t) (each_own (key_columns tables t) v (rows_at db t) (own_of (key_columns tables t) (rows_at db t) (stand t)))

parent_checked : (tables : List TableInfo) (t : ℕ) (v : Value) (db : Tables) → KeysStand tables db → fault_of (needs (parent_pred tables t v) MissingParent) db ≡ flag MissingParent (not (is_there v (rows_at db t)))
parent_checked tables t v db stand = ap (λ b. if b then None else Some MissingParent) (parent_found tables t v db stand) ∙ by (is_there v (rows_at db t))
  where
    by : (b : Bool) → (if b then None else Some MissingParent) ≡ flag MissingParent (not b)
    by true = refl
    by false = refl

-- INSERT: the parents of a new row
pub parents_checked : (tables : List TableInfo) (new : Keyed) (refs : List Reference) (db : Tables) → KeysStand tables db
    → first_fault (map (λ r. needs (parent_pred tables r.parent (column_of new.row r.column)) MissingParent) (filter (λ r. not (is_own_parent new r)) refs)) db ≡ flag MissingParent (not (has_parents refs new db))
parents_checked tables new [] db stand = refl
parents_checked tables new (r ∷ rs) db stand = by (is_own_parent new r) (parents_checked tables new rs db stand)
  where
    later : List Check
    later = map (λ r. needs (parent_pred tables r.parent (column_of new.row r.column)) MissingParent) (filter (λ r. not (is_own_parent new r)) rs)

    both : (a b : Bool) → flag MissingParent (not a || not b) ≡ flag MissingParent (not (a && b))
    both true b = refl
    both false b = refl

    by : (b : Bool) → first_fault later db ≡ flag MissingParent (not (has_parents rs new db))
        → first_fault (map (λ r. needs (parent_pred tables r.parent (column_of new.row r.column)) MissingParent) (cond (not b) (r ∷ filter (λ r. not (is_own_parent new r)) rs) (filter (λ r. not (is_own_parent new r)) rs))) db
        ≡ flag MissingParent (not ((b || is_there (column_of new.row r.column) (rows_at db r.parent)) && has_parents rs new db))
    by true h = h
    by false h =
        ap (λ o. option_or o (first_fault later db)) (parent_checked tables r.parent (column_of new.row r.column) db stand)
        ∙ (ap (option_or (flag MissingParent (not (is_there (column_of new.row r.column) (rows_at db r.parent))))) h
        ∙ (flags_both MissingParent (not (is_there (column_of new.row r.column) (rows_at db r.parent))) (not (has_parents rs new db)) ∙ both (is_there (column_of new.row r.column) (rows_at db r.parent)) (has_parents rs new db)))

-- DELETE

-- a key below those of some rows is none of theirs
not_among : (tests : List Test) (key : List Value) (rows : List Keyed) → Above key rows → is_among (keys (matching tests rows)) key ≡ false
not_among tests key [] h = refl
not_among tests key (r ∷ rs) h = by (meets tests r.row) (not_among tests key rs h.1)
  where
    by : (b : Bool) → is_among (keys (matching tests rs)) key ≡ false → is_among (keys (cond b (r ∷ matching tests rs) (matching tests rs))) key ≡ false
    by true k = ap (λ b. b || is_among (keys (matching tests rs)) key) (ap is_eq (turned key r.key Less h.0)) ∙ k
    by false k = k

more_among : (k : List Value) (all : List (List Value)) (tests : List Test) (rows : List Keyed) → Above k rows → Each (λ (r : Keyed). is_among all r.key ≡ meets tests r.row) rows
    → Each (λ (r : Keyed). is_among (k ∷ all) r.key ≡ meets tests r.row) rows
more_among k all tests [] h e = tt
more_among k all tests (r ∷ rs) h e = (ap (λ b. b || is_among all r.key) (ap is_eq h.0) ∙ e.0, more_among k all tests rs h.1 e.1)

-- a row is among those that match exactly where it matches
among_matching : (tests : List Test) (rows : List Keyed) → Rises rows → Each (λ (r : Keyed). is_among (keys (matching tests rows)) r.key ≡ meets tests r.row) rows
among_matching tests [] h = tt
among_matching tests (r ∷ rs) h = by (meets tests r.row) refl (among_matching tests rs h.1)
  where
    by : (b : Bool) → meets tests r.row ≡ b → Each (λ (x : Keyed). is_among (keys (matching tests rs)) x.key ≡ meets tests x.row) rs
        → Each (λ (x : Keyed). is_among (keys (cond b (r ∷ matching tests rs) (matching tests rs))) x.key ≡ meets tests x.row) (r ∷ rs)
    by true e k = (ap (λ o. is_eq o || is_among (keys (matching tests rs)) r.key) (same_key r.key) ∙ sym e, more_among r.key (keys (matching tests rs)) tests rs h.0 k)
    by false e k = (not_among tests r.key rs h.0 ∙ sym e, k)

-- the rows that hold are all among those that match exactly where none of the others holds
all_gone : (all : List (List Value)) (tests : List Test) (q : Keyed → Bool) (rows : List Keyed) → Each (λ (r : Keyed). is_among all r.key ≡ meets tests r.row) rows
    → list_all (is_among all) (keys (filter q rows)) ≡ not (list_any q (without tests rows))
all_gone all tests q [] h = refl
all_gone all tests q (r ∷ rs) h = by (q r) refl (meets tests r.row) h.0 (all_gone all tests q rs h.1)
  where
    by : (a : Bool) → q r ≡ a → (b : Bool) → is_among all r.key ≡ b → list_all (is_among all) (keys (filter q rs)) ≡ not (list_any q (without tests rs))
        → list_all (is_among all) (keys (cond a (r ∷ filter q rs) (filter q rs))) ≡ not (list_any q (cond (not b) (r ∷ without tests rs) (without tests rs)))
    by true e true f k = ap (λ b. b && list_all (is_among all) (keys (filter q rs))) f ∙ k
    by true e false f k = ap (λ b. b && list_all (is_among all) (keys (filter q rs))) f ∙ ap (λ b. not (b || list_any q (without tests rs))) (sym e)
    by false e true f k = k
    by false e false f k = k ∙ ap (λ b. not (b || list_any q (without tests rs))) (sym e)

none_among : (q : Keyed → Bool) (rows : List Keyed) → list_all (is_among []) (keys (filter q rows)) ≡ not (list_any q rows)
none_among q [] = refl
none_among q (r ∷ rs) = by (q r) (none_among q rs)
  where
    by : (a : Bool) → list_all (is_among []) (keys (filter q rs)) ≡ not (list_any q rs) → list_all (is_among []) (keys (cond a (r ∷ filter q rs) (filter q rs))) ≡ not (a || list_any q rs)
    by true h = refl
    by false h = h

-- one row, by one column with REFERENCES
child_checked : (tables : List TableInfo) (t : ℕ) (tests : List Test) (db : Tables) (r : Reference) (key : List Value) → Rises (rows_at db t)
    → fault_of (forbids (child_pred tables r.table r.column key) (if r.table == t then keys (matching tests (rows_at db t)) else []) HasChildren) db ≡ flag HasChildren (list_any (holds_key r.column key) (left_in t tests db r.table))
child_checked tables t tests db r key rises =
    ap (λ l. if list_all (is_among (if r.table == t then keys (matching tests (rows_at db t)) else [])) (keys l) then None else Some HasChildren)
    (filter_same (λ item. matches (child_pred tables r.table r.column key) item.row) (holds_key r.column key) (rows_at db r.table) (λ item. child_meets (key_columns tables r.table) r.column key item))
    ∙ by (r.table == t) refl
  where
    q : Keyed → Bool
    q = holds_key r.column key

    turn : (b : Bool) → (if not b then None else Some HasChildren) ≡ flag HasChildren b
    turn true = refl
    turn false = refl

    by : (b : Bool) → (r.table == t) ≡ b
        → (if list_all (is_among (if b then keys (matching tests (rows_at db t)) else [])) (keys (filter q (rows_at db r.table))) then None else Some HasChildren)
        ≡ flag HasChildren (list_any q (if b then without tests (rows_at db r.table) else rows_at db r.table))
    by true e =
        let at : r.table ≡ t = eqb-true r.table t e in
        ap (λ b. if b then None else Some HasChildren)
        (all_gone (keys (matching tests (rows_at db t))) tests q (rows_at db r.table)
        (subst (λ u. Each (λ (x : Keyed). is_among (keys (matching tests (rows_at db t))) x.key ≡ meets tests x.row) (rows_at db u)) (sym at) (among_matching tests (rows_at db t) rises)))
        ∙ turn (list_any q (without tests (rows_at db r.table)))
    by false e = ap (λ b. if b then None else Some HasChildren) (none_among q (rows_at db r.table)) ∙ turn (list_any q (rows_at db r.table))

rows_checked : (tables : List TableInfo) (t : ℕ) (tests : List Test) (db : Tables) (r : Reference) (rows : List Keyed) → Rises (rows_at db t)
    → first_fault (map (λ (item : Keyed). forbids (child_pred tables r.table r.column item.key) (if r.table == t then keys (matching tests (rows_at db t)) else []) HasChildren) rows) db
    ≡ flag HasChildren (list_any (λ (item : Keyed). list_any (holds_key r.column item.key) (left_in t tests db r.table)) rows)
rows_checked tables t tests db r [] rises = refl
rows_checked tables t tests db r (x ∷ xs) rises =
    ap (λ o. option_or o (first_fault (map (λ (item : Keyed). forbids (child_pred tables r.table r.column item.key) (if r.table == t then keys (matching tests (rows_at db t)) else []) HasChildren) xs) db)) (child_checked tables t tests db r x.key rises)
    ∙ (ap (option_or (flag HasChildren (list_any (holds_key r.column x.key) (left_in t tests db r.table)))) (rows_checked tables t tests db r xs rises)
    ∙ flags_both HasChildren (list_any (holds_key r.column x.key) (left_in t tests db r.table)) (list_any (λ (item : Keyed). list_any (holds_key r.column item.key) (left_in t tests db r.table)) xs))

children_checked : (tables : List TableInfo) (t : ℕ) (tests : List Test) (db : Tables) (refs : List Reference) (rows : List Keyed) → Rises (rows_at db t)
    → first_fault (flat_map (λ r. map (λ (item : Keyed). forbids (child_pred tables r.table r.column item.key) (if r.table == t then keys (matching tests (rows_at db t)) else []) HasChildren) rows) refs) db
    ≡ flag HasChildren (has_children refs t tests db rows)
children_checked tables t tests db [] rows rises = refl
children_checked tables t tests db (r ∷ rs) rows rises =
    first_both (map (λ (item : Keyed). forbids (child_pred tables r.table r.column item.key) (if r.table == t then keys (matching tests (rows_at db t)) else []) HasChildren) rows) _ db
    ∙ (ap (λ o. option_or o (first_fault (flat_map (λ r. map (λ (item : Keyed). forbids (child_pred tables r.table r.column item.key) (if r.table == t then keys (matching tests (rows_at db t)) else []) HasChildren) rows) rs) db)) (rows_checked tables t tests db r rows rises)
    ∙ (ap (option_or (flag HasChildren (list_any (λ (item : Keyed). list_any (holds_key r.column item.key) (left_in t tests db r.table)) rows))) (children_checked tables t tests db rs rows rises)
    ∙ flags_both HasChildren (list_any (λ (item : Keyed). list_any (holds_key r.column item.key) (left_in t tests db r.table)) rows) (has_children rs t tests db rows)))

-- what a DELETE checks fails exactly where the machine finds children
pub delete_checked : (tables : List TableInfo) (t : ℕ) (tests : List Test) (db : Tables) → Rises (rows_at db t)
    → first_fault (delete_checks tables t (matching tests (rows_at db t))) db ≡ flag HasChildren (has_children (references_to tables t) t tests db (matching tests (rows_at db t)))
delete_checked tables t tests db rises = children_checked tables t tests db (references_to tables t) (matching tests (rows_at db t)) rises

-- rows with the same keys are checked alike
pub delete_checks_same : (tables : List TableInfo) (t : ℕ) (cs : List ℕ) (xs ys : List Keyed) → Alike cs xs ys → delete_checks tables t xs ≡ delete_checks tables t ys
delete_checks_same tables t cs xs ys h = all (references_to tables t)
  where
    checks_by : Reference → List (List Value) → List Keyed → List Check
    checks_by r gone rows = map (λ (item : Keyed). forbids (child_pred tables r.table r.column item.key) (if r.table == t then gone else []) HasChildren) rows

    rows : (r : Reference) (gone : List (List Value)) (as' bs : List Keyed) → Alike cs as' bs → checks_by r gone as' ≡ checks_by r gone bs
    rows r gone [] [] k = refl
    rows r gone (a ∷ as') (b ∷ bs) k =
        ap (λ key. forbids (child_pred tables r.table r.column key) (if r.table == t then gone else []) HasChildren ∷ checks_by r gone as') k.0
        ∙ ap (λ l. forbids (child_pred tables r.table r.column b.key) (if r.table == t then gone else []) HasChildren ∷ l) (rows r gone as' bs k.2)
    rows r gone [] (b ∷ bs) k = absurd k
    rows r gone (a ∷ as') [] k = absurd k

    all : (refs : List Reference) → flat_map (λ r. checks_by r (keys xs) xs) refs ≡ flat_map (λ r. checks_by r (keys ys) ys) refs
    all [] = refl
    all (r ∷ rs) =
        ap (λ l. l ++ flat_map (λ r. checks_by r (keys xs) xs) rs) (ap (λ gone. checks_by r gone xs) (keys_same cs xs ys h) ∙ rows r (keys ys) xs ys h)
        ∙ ap (λ l. checks_by r (keys ys) ys ++ l) (all rs)

-- UPDATE

-- by the first fault: the end with it, or the value that there is without checks
abbrev pub Follows : {A : Type 0} → Option End → Result A End → Result A End → Type 0
Follows (Some e) checked plain = checked ≡ Err e
Follows {A} None checked plain = (x : A) × (checked ≡ Ok x) × (plain ≡ Ok x)

follows_row : (tables : List TableInfo) (t : ℕ) (db : Tables) (ks : List ℕ) (env : Env) (was : List Value) (items : List RSetItem) (row : List Value) → KeysStand tables db
    → Follows (first_fault (flat_map (item_checks tables t env was) items) db) (set_row_by (fit_in tables t db) ks env was items row) (set_row_by (fit (columns_at tables t)) ks env was items row)
follows_row tables t db ks env was [] row stand = (row, refl, refl)
follows_row tables t db ks env was (i ∷ is) row stand = valued (value_of i.right env was) (λ w. follows_row tables t db ks env was is (with_column ks i.column w row) stand)
  where
    later : List Check
    later = flat_map (item_checks tables t env was) is

    next : (ℕ → Value → Result Value End) → Value → Result (List Value) End
    next fits w = set_row_by fits ks env was is (with_column ks i.column w row)

    Goes : Type 0
    Goes = (w : Value) → Follows (first_fault later db) (next (fit_in tables t db) w) (next (fit (columns_at tables t)) w)

    there : (b : Bool) (parent : ℕ) (w : Value) → is_there w (rows_at db parent) ≡ b → Goes
        → Follows (option_or (flag MissingParent (not b)) (first_fault later db)) (then_do (if b then Ok w else Err MissingParent) (next (fit_in tables t db))) (next (fit (columns_at tables t)) w)
    there true parent w e go = go w
    there false parent w e go = refl

    fitted : (o : Option ℕ) (r : Result Value End) → Goes
        → Follows (first_fault (value_checks tables o r ++ later) db) (then_do (then_do r (with_parent o db)) (next (fit_in tables t db))) (then_do r (next (fit (columns_at tables t))))
    fitted o (Err e) go = refl
    fitted None (Ok w) go = go w
    fitted (Some parent) (Ok w) go =
        subst (λ f. Follows (option_or f (first_fault later db)) (then_do (if is_there w (rows_at db parent) then Ok w else Err MissingParent) (next (fit_in tables t db))) (next (fit (columns_at tables t)) w))
        (sym (parent_checked tables parent w db stand)) (there (is_there w (rows_at db parent)) parent w refl go)

    valued : (r : Result Value End) → Goes
        → Follows (first_fault (value_checks tables (parent_of tables t i.column) (then_do r (fit (columns_at tables t) i.column)) ++ later) db)
        (then_do r (λ v. then_do (fit_in tables t db i.column v) (next (fit_in tables t db)))) (then_do r (λ v. then_do (fit (columns_at tables t) i.column v) (next (fit (columns_at tables t)))))
    valued (Err e) go = refl
    valued (Ok v) go = fitted (parent_of tables t i.column) (fit (columns_at tables t) i.column v) go

-- what an UPDATE checks fails exactly where the machine finds a fault; else it writes what there is without checks
pub update_checked : (tables : List TableInfo) (t : ℕ) (db : Tables) (env : Env) (items : List RSetItem) (rows : List Keyed) → KeysStand tables db
    → Follows (first_fault (update_checks tables t items env rows) db) (changes t items (λ row. set_row_by (fit_in tables t db) (key_columns tables t) env row items row) rows)
    (changes t items (λ row. set_row_by (fit (columns_at tables t)) (key_columns tables t) env row items row) rows)
update_checked tables t db env items [] stand = ([], refl, refl)
update_checked tables t db env items (x ∷ xs) stand =
    subst (λ o. Follows o (changes t items (new (fit_in tables t db)) (x ∷ xs)) (changes t items (new (fit (columns_at tables t))) (x ∷ xs))) (sym (first_both (flat_map (item_checks tables t env x.row) items) (update_checks tables t items env xs) db))
    (by (first_fault (flat_map (item_checks tables t env x.row) items) db) (new (fit_in tables t db) x.row) (new (fit (columns_at tables t)) x.row) (follows_row tables t db (key_columns tables t) env x.row items x.row stand)
    (first_fault (update_checks tables t items env xs) db) (changes t items (new (fit_in tables t db)) xs) (changes t items (new (fit (columns_at tables t))) xs) (update_checked tables t db env items xs stand))
  where
    new : (ℕ → Value → Result Value End) → List Value → Result (List Value) End
    new fits row = set_row_by fits (key_columns tables t) env row items row

    write' : Result (List Value) End → Result (List Write) End → Result (List Write) End
    write' r s = then_do r (λ row. then_do s (λ ws. Ok (write t x.key (set_patch items row) ∷ ws)))

    by : (o : Option End) (a b : Result (List Value) End) → Follows o a b → (p : Option End) (c d : Result (List Write) End) → Follows p c d → Follows (option_or o p) (write' a c) (write' b d)
    by (Some e) a b h p c d k = ap (λ r. write' r c) h
    by None a b h (Some f) c d k = ap (λ r. write' r c) h.1 ∙ ap (write' (Ok h.0)) k
    by None a b h None c d k =
        (write t x.key (set_patch items h.0) ∷ k.0, ap (λ r. write' r c) h.1 ∙ ap (write' (Ok h.0)) k.1, ap (λ r. write' r d) h.2 ∙ ap (write' (Ok h.0)) k.2)

-- rows that agree in what SET reads are checked alike
pub update_checks_same : (tables : List TableInfo) (t : ℕ) (items : List RSetItem) (e f : Env) (xs ys : List Keyed) → Agree e f (flat_map variables (map (λ i. i.right) items))
    → Alike (flat_map (λ i. columns_in i.right) items) xs ys → update_checks tables t items e xs ≡ update_checks tables t items f ys
update_checks_same tables t items e f [] [] h k = refl
update_checks_same tables t items e f (x ∷ xs) (y ∷ ys) h k =
    ap (λ l. l ++ update_checks tables t items e xs) (one items h k.1) ∙ ap (λ l. flat_map (item_checks tables t f y.row) items ++ l) (update_checks_same tables t items e f xs ys h k.2)
  where
    agree_vars : (us vs : List ℕ) → Agree e f (us ++ vs) → Agree e f us × Agree e f vs
    agree_vars [] vs g = (tt, g)
    agree_vars (u ∷ us) vs g = let rest = agree_vars us vs g.1 in ((g.0, rest.0), rest.1)

    one : (is : List RSetItem) → Agree e f (flat_map variables (map (λ i. i.right) is)) → AgreeIn x.row y.row (flat_map (λ i. columns_in i.right) is)
        → flat_map (item_checks tables t e x.row) is ≡ flat_map (item_checks tables t f y.row) is
    one [] g m = refl
    one (i ∷ is) g m =
        let gs = agree_vars (variables i.right) (flat_map variables (map (λ i. i.right) is)) g in
        let ms = agree_parts x.row y.row (columns_in i.right) (flat_map (λ i. columns_in i.right) is) m in
        ap (λ r. value_checks tables (parent_of tables t i.column) (then_do r (fit (columns_at tables t) i.column)) ++ flat_map (item_checks tables t e x.row) is) (value_same i.right e f x.row y.row gs.0 ms.0)
        ∙ ap (λ l. item_checks tables t f y.row i ++ l) (one is gs.1 ms.1)
update_checks_same tables t items e f [] (y ∷ ys) h k = absurd k
update_checks_same tables t items e f (x ∷ xs) [] h k = absurd k

-- Statements that set no column with REFERENCES

-- without parents the first fault is that of the values, and nothing more is asked
abbrev AsPlain : {A : Type 0} → List Check → Tables → Result A End → Type 0
AsPlain cs db plain = (preds_up_to cs db ≡ []) × (first_fault cs db ≡ result_err plain)

quiet_both : (xs ys : List Check) (db : Tables) → preds_up_to xs db ≡ [] → first_fault xs db ≡ None → preds_up_to (xs ++ ys) db ≡ preds_up_to ys db
quiet_both [] ys db h k = refl
quiet_both (faults e ∷ xs) ys db h k = cc
quiet_both (needs p e ∷ xs) ys db h k = cc
quiet_both (forbids p but e ∷ xs) ys db h k = cc

stop_both : (xs ys : List Check) (db : Tables) (e : End) → preds_up_to xs db ≡ [] → first_fault xs db ≡ Some e → preds_up_to (xs ++ ys) db ≡ []
stop_both [] ys db e h k = cc
stop_both (faults d ∷ xs) ys db e h k = refl
stop_both (needs p d ∷ xs) ys db e h k = cc
stop_both (forbids p but d ∷ xs) ys db e h k = cc

plain_row : (tables : List TableInfo) (t : ℕ) (db : Tables) (ks : List ℕ) (env : Env) (was : List Value) (items : List RSetItem) (row : List Value) → Each (λ (i : RSetItem). parent_of tables t i.column ≡ None) items
    → AsPlain (flat_map (item_checks tables t env was) items) db (set_row_by (fit (columns_at tables t)) ks env was items row)
plain_row tables t db ks env was [] row h = (refl, refl)
plain_row tables t db ks env was (i ∷ is) row h =
    subst (λ o. AsPlain (value_checks tables o (then_do (value_of i.right env was) (fit (columns_at tables t) i.column)) ++ flat_map (item_checks tables t env was) is) db
    (then_do (value_of i.right env was) (λ v. then_do (fit (columns_at tables t) i.column v) (λ w. set_row_by (fit (columns_at tables t)) ks env was is (with_column ks i.column w row))))) (sym h.0)
    (by (value_of i.right env was) (λ w. plain_row tables t db ks env was is (with_column ks i.column w row) h.1))
  where
    rest : Value → Result (List Value) End
    rest w = set_row_by (fit (columns_at tables t)) ks env was is (with_column ks i.column w row)

    fitted : (r : Result Value End) → ((w : Value) → AsPlain (flat_map (item_checks tables t env was) is) db (rest w)) → AsPlain (value_checks tables None r ++ flat_map (item_checks tables t env was) is) db (then_do r rest)
    fitted (Ok w) go = go w
    fitted (Err e) go = (refl, refl)

    by : (r : Result Value End) → ((w : Value) → AsPlain (flat_map (item_checks tables t env was) is) db (rest w))
        → AsPlain (value_checks tables None (then_do r (fit (columns_at tables t) i.column)) ++ flat_map (item_checks tables t env was) is) db (then_do r (λ v. then_do (fit (columns_at tables t) i.column v) rest))
    by (Ok v) go = fitted (fit (columns_at tables t) i.column v) go
    by (Err e) go = (refl, refl)

-- an UPDATE that sets no such column asks nothing more, and faults by its values alone
pub update_plain : (tables : List TableInfo) (t : ℕ) (db : Tables) (env : Env) (items : List RSetItem) (rows : List Keyed) → Each (λ (i : RSetItem). parent_of tables t i.column ≡ None) items
    → AsPlain (update_checks tables t items env rows) db (changes t items (λ row. set_row_by (fit (columns_at tables t)) (key_columns tables t) env row items row) rows)
update_plain tables t db env items [] h = (refl, refl)
update_plain tables t db env items (x ∷ xs) h =
    by (set_row_by (fit (columns_at tables t)) (key_columns tables t) env x.row items x.row) (plain_row tables t db (key_columns tables t) env x.row items x.row h)
    (changes t items (λ row. set_row_by (fit (columns_at tables t)) (key_columns tables t) env row items row) xs) (update_plain tables t db env items xs h)
  where
    here : List Check
    here = flat_map (item_checks tables t env x.row) items

    later : List Check
    later = update_checks tables t items env xs

    all : (ws : Result (List Write) End) (row : List Value) → result_err (then_do ws (λ ws. Ok (write t x.key (set_patch items row) ∷ ws))) ≡ result_err ws
    all (Ok ws) row = refl
    all (Err e) row = refl

    by : (r : Result (List Value) End) → AsPlain here db r → (ws : Result (List Write) End) → AsPlain later db ws
        → AsPlain (here ++ later) db (then_do r (λ row. then_do ws (λ ws. Ok (write t x.key (set_patch items row) ∷ ws))))
    by (Ok row) a ws b = (quiet_both here later db a.0 a.1 ∙ b.0, first_both here later db ∙ (ap (λ o. option_or o (first_fault later db)) a.1 ∙ (b.1 ∙ sym (all ws row))))
    by (Err e) a ws b = (stop_both here later db e a.0 a.1, first_both here later db ∙ ap (λ o. option_or o (first_fault later db)) a.1)
