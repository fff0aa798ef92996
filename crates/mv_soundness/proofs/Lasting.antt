-- Records that are kept are the same in both runs.
use Rattle.std.proofs.Common.{◌≡◌, ◌⊎◌, inl, inr, ◌<◌, ◌≤◌, ℕ, Bool, true, false, not, List, [], ◌∷◌, ◌++◌, Option, Some, None, Result, Ok, Err, map, if◌then◌else◌, refl, sym, ap, subst, ◌∙◌, arith}
use Rattle.std.specs.Prelude.{◌&&◌, ◌==◌}
use Rattle.std.proofs.lemmas.List.Elements.{All-map}
use Rattle.std.specs.List.{filter, flat_map, list_any}
use Rattle.std.proofs.lemmas.Bool.{and_parts, or_parts, not-true}
use Rattle.mv_values.specs.declared.pred.Test.{Test}
use Rattle.mv_values.specs.declared.value.Value.{Value}
use Rattle.mv_values.specs.declared.pred.Pred.{Pred}
use Rattle.mv_values.specs.declared.patch.Write.{Write}
use Rattle.mv_values.specs.declared.schema.TableInfo.{TableInfo}
use Rattle.mv_values.specs.declared.calls.End.{End}
use Rattle.mv_values.specs.declared.calls.End.TheVariants.{MissingParent, HasChildren}
use Rattle.mv_values.specs.declared.op.Op.TheVariants.{Eq}
use Rattle.mv_values.specs.declared.rows.Keyed.{Keyed}
use Rattle.mv_values.specs.Columns.{column_of}
use Rattle.mv_values.specs.Keys.{keys}
use Rattle.mv_values.specs.References.{Reference, references, references_to}
use Rattle.mv_values.specs.Patching.{applied}
use Rattle.mv_values.specs.Tables.{key_columns, columns_at, Tables}
use Rattle.mv_catalog.specs.declared.resolved.RCond.{RCond}
use Rattle.mv_catalog.specs.declared.resolved.RSetItem.{RSetItem}
use Rattle.mv_catalog.specs.declared.resolved.RStmt.TheOpen.{Assign, Select, Total, ForSelect, ForRows, Branch, Insert, Update, Delete, Print, Rollback}
use Rattle.mv_eval.proofs.Spanning.{tests_placed}
use Rattle.mv_eval.specs.declared.state.Env.{Env}
use Rattle.mv_eval.specs.declared.state.State.{State}
use Rattle.mv_eval.specs.Env.{held_at}
use Rattle.mv_eval.specs.Alone.{offset_of, matching_in}
use Rattle.mv_eval.specs.Changes.{new_row, keyed}
use Rattle.mv_eval.specs.References.{is_own_parent}
use Rattle.mv_eval.specs.Rows.{tests_of, test_on, IsPlaced}
use Rattle.mv_record.specs.declared.record.Record.{Record}
use Rattle.mv_record.specs.Runs.{writes_in}
use Rattle.mv_recorded.specs.Asking.{Check, needs, forbids, asked_in, if_none, fault_of, preds_up_to, parent_pred, child_pred, insert_checks, value_checks, item_checks, update_checks, delete_checks, on, preds_for, pred_of, preds_of}
use Rattle.mv_recorded.specs.Reading.{variables, expressions, reads_of}
use Rattle.mv_recorded.specs.Recorded.{Site, own_record}
use Rattle.mv_record.specs.Databases.{IsDatabaseOf}
use Rattle.mv_record.specs.Effects.{effect_in}
use Rattle.mv_recorded.specs.Alike.{Agree, OverAgrees, SeenAlike}
use Rattle.mv_recorded.specs.Own.{Bare, Stated, Each, Within, IsStatedWell, Ground, IsAtSite, HasStatements, IsOwn, OverSuits}
use Rattle.mv_recorded.proofs.Congruent.{congruent}
use Rattle.mv_recorded.proofs.Matching.{key_placed}
use Rattle.mv_recorded.proofs.Inverting.{each_map, each_join}
use Rattle.mv_history.specs.declared.change.Change.{Change}
use Rattle.mv_history.specs.Changes.{Covers}
use Rattle.mv_history.specs.Hits.{hits_predicate, hits, touches_predicate, touches}
use Rattle.mv_history.specs.Kept.{Path, Placed, reads_stay}
use Rattle.mv_soundness.proofs.Seeing.{Merged, hits_by}
use Rattle.mv_soundness.proofs.Finding.{Places, seen_alike}
use Rattle.mv_soundness.proofs.Placing.{its}
use Rattle.mv_soundness.proofs.Definers.{KeptSame, held_same, stay_of}
use Rattle.mv_soundness.proofs.Keeping.{NoTouch}

-- Databases

-- behind each front of some records, before which others came, there is a database of the tables
abbrev pub Lasting : List TableInfo → Tables → List Record → List Record → Type 0
Lasting tables db before rs = (front rest : List Record) → rs ≡ front ++ rest → IsDatabaseOf tables (applied (writes_in (before ++ front)) db)

-- before a run and behind a front of it
abbrev pub Bases : List TableInfo → Tables → List Record → Type 0
Bases tables db front = IsDatabaseOf tables db × IsDatabaseOf tables (applied (writes_in front) db)

pub front_lasts : (tables : List TableInfo) (db : Tables) (rs front rest : List Record) → rs ≡ front ++ rest → Lasting tables db [] rs → Bases tables db front
front_lasts tables db rs front rest is h = (h [] rs refl, h front rest is)

-- Predicates have the places of their tests

places_where : (tables : List TableInfo) (t : ℕ) (conds : List RCond) (cs : List ℕ) (st : State) → Each (Places tables) (preds_for tables t conds cs st)
places_where tables t conds cs st = by (tests_of (key_columns tables t) conds st.env) refl
  where
    by : (r : Result (List Test) End) → tests_of (key_columns tables t) conds st.env ≡ r → Each (Places tables) (on r (λ tests. pred_of t tests cs ∷ []))
    by (Ok tests) is = (tests_placed (key_columns tables t) conds st.env tests is, tt)
    by (Err e) is = tt

-- the predicates of checks

placed_up_to : (tables : List TableInfo) (cs : List Check) (db : Tables) → Each (λ c. Each (Places tables) (asked_in c)) cs → Each (Places tables) (preds_up_to cs db)
placed_up_to tables [] db h = tt
placed_up_to tables (c ∷ cs) db h = each_join (Places tables) (asked_in c) (if_none (fault_of c db) (preds_up_to cs db)) h.0 (by (fault_of c db) (placed_up_to tables cs db h.1))
  where
    by : (o : Option End) → Each (Places tables) (preds_up_to cs db) → Each (Places tables) (if_none o (preds_up_to cs db))
    by None k = k
    by (Some e) k = tt

parent_placed : (tables : List TableInfo) (t : ℕ) (v : Value) → Places tables (parent_pred tables t v)
parent_placed tables t v = All-map (IsPlaced (key_columns tables t)) (λ c. test_on (key_columns tables t) c Eq v) (key_columns tables t) (λ k d lt. refl)

child_placed : (tables : List TableInfo) (t c : ℕ) (key : List Value) → Places tables (child_pred tables t c key)
child_placed tables t c key = All-map (IsPlaced (key_columns tables t)) (λ v. test_on (key_columns tables t) c Eq v) key (λ k d lt. refl)

insert_placed : (tables : List TableInfo) (t : ℕ) (row : List Value) → Each (λ c. Each (Places tables) (asked_in c)) (insert_checks tables t row)
insert_placed tables t row = ((key_placed (key_columns tables t) row, tt), each (filter (λ r. not (is_own_parent (keyed (key_columns tables t) row) r)) (references tables t)))
  where
    each : (rs : List Reference) → Each (λ c. Each (Places tables) (asked_in c)) (map (λ r. needs (parent_pred tables r.parent (column_of row r.column)) MissingParent) rs)
    each [] = tt
    each (r ∷ rs) = ((parent_placed tables r.parent (column_of row r.column), tt), each rs)

-- each of the lists has the property
each_flat : {A B : Type 0} (P : B → Type 0) (f : A → List B) (xs : List A) → ((x : A) → Each P (f x)) → Each P (flat_map f xs)
each_flat P f [] h = tt
each_flat P f (x ∷ xs) h = each_join P (f x) (flat_map f xs) (h x) (each_flat P f xs h)

value_placed : (tables : List TableInfo) (o : Option ℕ) (r : Result Value End) → Each (λ c. Each (Places tables) (asked_in c)) (value_checks tables o r)
value_placed tables o (Err e) = (tt, tt)
value_placed tables None (Ok v) = tt
value_placed tables (Some t) (Ok v) = ((parent_placed tables t v, tt), tt)

update_placed : (tables : List TableInfo) (t : ℕ) (items : List RSetItem) (env : Env) (rows : List Keyed) → Each (λ c. Each (Places tables) (asked_in c)) (update_checks tables t items env rows)
update_placed tables t items env rows =
    each_flat (λ c. Each (Places tables) (asked_in c)) (λ (item : Keyed). flat_map (item_checks tables t env item.row) items) rows (λ item.
    each_flat (λ c. Each (Places tables) (asked_in c)) (item_checks tables t env item.row) items (λ i. value_placed tables _ _))

delete_placed : (tables : List TableInfo) (t : ℕ) (rows : List Keyed) → Each (λ c. Each (Places tables) (asked_in c)) (delete_checks tables t rows)
delete_placed tables t rows =
    each_flat (λ c. Each (Places tables) (asked_in c)) (λ (r : Reference). map (λ (item : Keyed). forbids (child_pred tables r.table r.column item.key) (if r.table == t then keys rows else []) HasChildren) rows) (references_to tables t)
    (λ r. each r (if r.table == t then keys rows else []) rows)
  where
    each : (r : Reference) (gone : List (List Value)) (xs : List Keyed) → Each (λ c. Each (Places tables) (asked_in c)) (map (λ (item : Keyed). forbids (child_pred tables r.table r.column item.key) gone HasChildren) xs)
    each r gone [] = tt
    each r gone (x ∷ xs) = ((child_placed tables r.table r.column x.key, tt), each r gone xs)

placed_behind : (tables : List TableInfo) (t : ℕ) (conds : List RCond) (cs : List ℕ) (checks : List Test → List Check) (st : State) → ((tests : List Test) → Each (λ c. Each (Places tables) (asked_in c)) (checks tests))
    → Each (Places tables) (on (tests_of (key_columns tables t) conds st.env) (λ tests. pred_of t tests cs ∷ preds_up_to (checks tests) st.tables))
placed_behind tables t conds cs checks st h = by (tests_of (key_columns tables t) conds st.env) refl
  where
    by : (r : Result (List Test) End) → tests_of (key_columns tables t) conds st.env ≡ r → Each (Places tables) (on r (λ tests. pred_of t tests cs ∷ preds_up_to (checks tests) st.tables))
    by (Ok tests) is = (tests_placed (key_columns tables t) conds st.env tests is, placed_up_to tables (checks tests) st.tables (h tests))
    by (Err e) is = tt

pub places_preds : (tables : List TableInfo) (y : Bare) (st : State) → Each (Places tables) (preds_of tables y st)
places_preds tables (Select cs xs t conds sorts offset) st = by (offset_of offset st.env)
  where
    by : (r : Result Value End) → Each (Places tables) (on r (λ n. preds_for tables t conds (cs ++ map (λ s. s.column) sorts) st))
    by (Ok v) = places_where tables t conds (cs ++ map (λ s. s.column) sorts) st
    by (Err e) = tt
places_preds tables (Total agg x t conds) st = places_where tables t conds _ st
places_preds tables (ForSelect x once cs t conds sorts body) st = places_where tables t conds _ st
places_preds tables (Insert t es) st = by (new_row (columns_at tables t) es st.env)
  where
    by : (r : Result (List Value) End) → Each (Places tables) (on r (λ row. preds_up_to (insert_checks tables t row) st.tables))
    by (Ok row) = placed_up_to tables (insert_checks tables t row) st.tables (insert_placed tables t row)
    by (Err e) = tt
places_preds tables (Update t items conds) st = placed_behind tables t conds _ (λ tests. update_checks tables t items st.env (matching_in t tests st)) st (λ tests. update_placed tables t items st.env (matching_in t tests st))
places_preds tables (Delete t conds) st = placed_behind tables t conds [] (λ tests. delete_checks tables t (matching_in t tests st)) st (λ tests. delete_placed tables t (matching_in t tests st))
places_preds tables (Assign x e) st = tt
places_preds tables (ForRows x y body) st = tt
places_preds tables (Branch e ys ns) st = tt
places_preds tables (Print es) st = tt
places_preds tables (Rollback reason) st = tt

-- What the rule says

pub none_of : {A : Type 0} (f : A → Bool) (xs : List A) → list_any f xs ≡ false → Each (λ x. f x ≡ false) xs
none_of f [] h = tt
none_of f (x ∷ xs) h = let both = or_parts (f x) (list_any f xs) h in (both.0, none_of f xs both.1)

-- of each predicate, and each of other things
pub swap : {A B : Type 0} (P : A → B → Type 0) (as' : List A) (bs : List B) → Each (λ a. Each (λ b. P a b) bs) as' → Each (λ b. Each (λ a. P a b) as') bs
swap P [] [] h = tt
swap P [] (b ∷ bs) h = (tt, swap P [] bs tt)
swap P (a ∷ as') [] h = tt
swap P (a ∷ as') (b ∷ bs) h = (heads (a ∷ as') h, swap P (a ∷ as') bs (tails (a ∷ as') h))
  where
    heads : (xs : List _) → Each (λ a. Each (λ b. P a b) (b ∷ bs)) xs → Each (λ a. P a b) xs
    heads [] h = tt
    heads (x ∷ xs) h = (h.0.0, heads xs h.1)

    tails : (xs : List _) → Each (λ a. Each (λ b. P a b) (b ∷ bs)) xs → Each (λ a. Each (λ b. P a b) bs) xs
    tails [] h = tt
    tails (x ∷ xs) h = (h.0.1, tails xs h.1)

-- no change hits a predicate of the record, and no write touches one
abbrev pub Untouched : List Record → List Change → List Write → Pred → Type 0
Untouched before changes ws p = Each (λ c. hits_by (writes_in before) c p ≡ false) changes × NoTouch p ws

both_each : {A : Type 0} (P Q : A → Type 0) (xs : List A) → Each P xs → Each Q xs → Each (λ x. P x × Q x) xs
both_each P Q [] h k = tt
both_each P Q (x ∷ xs) h k = ((h.0, k.0), both_each P Q xs h.1 k.1)

pub untouched : (before : List Record) (changes : List Change) (ws : List Write) (o : Record) → (not (list_any (hits before o) changes) && not (list_any (touches o) ws)) ≡ true → Each (Untouched before changes ws) o.preds
untouched before changes ws o h =
    let both = and_parts (not (list_any (hits before o) changes)) (not (list_any (touches o) ws)) h in
    both_each (λ p. Each (λ c. hits_by (writes_in before) c p ≡ false) changes) (λ p. NoTouch p ws) o.preds
    (swap (λ c p. hits_by (writes_in before) c p ≡ false) changes o.preds (each_map (λ c. hits before o c ≡ false) (λ c. Each (λ p. hits_by (writes_in before) c p ≡ false) o.preds) changes (λ c e. none_of (hits_predicate before c) o.preds e)
    (none_of (hits before o) changes (not-true (list_any (hits before o) changes) both.0))))
    (swap (λ w p. touches_predicate w p ≡ false) ws o.preds (each_map (λ w. touches o w ≡ false) (λ w. Each (λ p. touches_predicate w p ≡ false) o.preds) ws (λ w e. none_of (touches_predicate w) o.preds e)
    (none_of (touches o) ws (not-true (list_any (touches o) ws) both.1))))

-- One record

agree_all : (base : ℕ) (rows : List ℕ) (e f : Env) (xs : List ℕ) → Each (λ x. (x < base) ⊎ Within x rows) xs → ((x : ℕ) → Within x xs → (x < base) ⊎ Within x rows → held_at e x ≡ held_at f x) → Agree e f xs
agree_all base rows e f [] h k = tt
agree_all base rows e f (x ∷ xs) h k = (k x (inl refl) h.0, agree_all base rows e f xs h.1 (λ y w c. k y (inr w) c))

over_agrees : (g : Ground) (y : Bare) (e f : Env) → OverSuits g.params y → ((x : ℕ) → x < g.params → held_at e x ≡ held_at f x) → OverAgrees y e f
over_agrees g (ForRows x y body) e f h k = k y h
over_agrees g (Assign x e') e f h k = tt
over_agrees g (Select cs xs t conds sorts offset) e f h k = tt
over_agrees g (Total agg x t conds) e f h k = tt
over_agrees g (ForSelect x once cs t conds sorts body) e f h k = tt
over_agrees g (Branch e' ys ns) e f h k = tt
over_agrees g (Insert t es) e f h k = tt
over_agrees g (Update t items conds) e f h k = tt
over_agrees g (Delete t conds) e f h k = tt
over_agrees g (Print es) e f h k = tt
over_agrees g (Rollback reason) e f h k = tt

-- the same record, in the state before it in both runs
pub own_same : (g : Ground) (new : Tables) (changes : List Change) (kept : List Path) (fo more fn : List Placed) (or nr : Record) → g.params ≤ g.base → Bases g.tables g.db (its fo) → Bases g.tables new (its fn) → Covers changes g.db new
    → IsOwn g (its fo) or → (b : IsOwn (record g { db = new }) (its fn) nr) → (s : Stated) (n : ℕ) (site : Site) (st : State) → HasStatements g.text n (s ∷ []) → IsStatedWell g.tables g.params g.base s → IsAtSite g site s.rows (its fo) st
    → or ≡ own_record g.tables g.params s.it n site (its fo) st → s ≡ b.s → site.turns ≡ b.site.turns
    → KeptSame kept (fo ++ more) fn → reads_stay kept (fo ++ more) or.reads fn nr.reads ≡ true
    → Each (λ p. Each (λ c. hits_by (writes_in (its fo)) c p ≡ false) changes × Merged p (writes_in (its fo)) (writes_in (its fn))) or.preds
    → effect_in or ≡ effect_in nr
own_same g new changes kept fo more fn or nr below bases nbases covers a b s n site st stands suits here is same turns kept' stay free =
    let k : Ground = record g { db = new } in
    let other : IsAtSite k b.site s.rows (its fn) b.st = subst (λ (t : Stated). IsAtSite k b.site t.rows (its fn) b.st) (sym same) b.here in
    let are : nr ≡ own_record g.tables g.params s.it b.n b.site (its fn) b.st = b.is ∙ ap (λ (t : Stated). own_record g.tables g.params t.it b.n b.site (its fn) b.st) (sym same) in
    let xs : List ℕ = flat_map variables (expressions s.it) in
    let stay' : reads_stay kept (fo ++ more) (reads_of g.params site.loops (its fo) (expressions s.it)) fn (reads_of g.params b.site.loops (its fn) (expressions s.it)) ≡ true =
    sym (ap (λ l. reads_stay kept (fo ++ more) l fn nr.reads) (ap (λ (r : Record). r.reads) is) ∙ ap (λ l. reads_stay kept (fo ++ more) (reads_of g.params site.loops (its fo) (expressions s.it)) fn l) (ap (λ (r : Record). r.reads) are)) ∙ stay in
    let reads : Agree st.env b.st.env xs = agree_all g.base s.rows st.env b.st.env xs suits.reads
    (λ x w c. held_same g new kept fo more fn site b.site s.rows st b.st x below here other turns kept' c (stay_of kept (fo ++ more) fn g.params site.loops b.site.loops (its fo) (its fn) xs stay' x w)) in
    let low : (x : ℕ) → x < g.params → held_at st.env x ≡ held_at b.st.env x =
    λ x lt. held_same g new kept fo more fn site b.site s.rows st b.st x below here other turns kept' (inl (omega (arith, lt, below))) (λ le. absurd (omega (arith, lt, le))) in
    let seen : Each (λ p. SeenAlike p st.tables b.st.tables) (preds_of g.tables s.it st) =
    seen_all (preds_of g.tables s.it st) (places_preds g.tables s.it st) (subst (Each (λ p. Each (λ c. hits_by (writes_in (its fo)) c p ≡ false) changes × Merged p (writes_in (its fo)) (writes_in (its fn)))) (ap (λ (r : Record). r.preds) is) free) other in
    ap effect_in is ∙ (congruent g.tables s.it st b.st suits.columns suits.items (record {
      reads = reads;
      found = here.told.found ∙ sym other.told.found;
      over = over_agrees g s.it st.env b.st.env suits.over low;
      seen = seen;
      databases = (subst (IsDatabaseOf g.tables) (sym here.told.tables) bases.1, subst (IsDatabaseOf g.tables) (sym other.told.tables) nbases.1);
    }) ∙ sym (ap effect_in are))
  where
    seen_all : (ps : List Pred) → Each (Places g.tables) ps → Each (λ p. Each (λ c. hits_by (writes_in (its fo)) c p ≡ false) changes × Merged p (writes_in (its fo)) (writes_in (its fn))) ps
        → IsAtSite (record g { db = new }) b.site s.rows (its fn) b.st → Each (λ p. SeenAlike p st.tables b.st.tables) ps
    seen_all [] h k other = tt
    seen_all (p ∷ ps) h k other = (
      subst (λ t. SeenAlike p t b.st.tables) (sym here.told.tables) (subst (λ t. SeenAlike p (applied (writes_in (its fo)) g.db) t) (sym other.told.tables)
          (seen_alike g.tables p g.db new (writes_in (its fo)) (writes_in (its fn)) changes h.0 bases.0 nbases.0 bases.1 nbases.1 covers k.0.1 k.0.0)),
      seen_all ps h.1 k.1 other,
    )
