-- A statement does the same where what it reads and what its predicate finds are the same.
use Rattle.std.proofs.Common.{◌≡◌, ◌≤◌, inl, inr, ℕ, ℤ, zero, suc, Bool, true, false, ◌==◌, cond, not, List, [], ◌∷◌, ◌++◌, Option, Some, None, Result, Ok, Err, map, length, refl, sym, ap, subst, ◌∙◌, arith}
use Rattle.std.specs.List.{filter, flat_map}
use Rattle.mv_values.specs.declared.pred.Test.{Test}
use Rattle.mv_values.specs.declared.value.Value.{Value}
use Rattle.mv_values.specs.declared.rows.Keyed.{Keyed}
use Rattle.mv_values.specs.declared.pred.Pred.{Pred}
use Rattle.mv_values.specs.declared.patch.Write.{Write}
use Rattle.mv_values.specs.declared.patch.Patch.TheVariants as patch
use Rattle.mv_values.specs.declared.schema.TableInfo.{TableInfo}
use Rattle.mv_values.specs.declared.calls.End.{End}
use Rattle.mv_values.specs.Columns.{columns_of, number}
use Rattle.mv_values.specs.Patching.{found_by}
use Rattle.mv_values.specs.Tables.{columns_at, key_columns, rows_at}
use Rattle.mv_catalog.specs.declared.resolved.RAgg.{RAgg}
use Rattle.mv_catalog.specs.declared.resolved.RCond.{RCond}
use Rattle.mv_catalog.specs.declared.resolved.RExpr.{RExpr}
use Rattle.mv_catalog.specs.declared.resolved.RSort.{RSort}
use Rattle.mv_catalog.specs.declared.resolved.RSetItem.{RSetItem}
use Rattle.mv_catalog.specs.declared.resolved.RStmt.{RStmt}
use Rattle.mv_catalog.specs.declared.resolved.RStmt.TheOpen.{RStmt-F, Assign, Select, Total, ForSelect, ForRows, Branch, Insert, Update, Delete, Print, Rollback}
use Rattle.mv_eval.specs.declared.state.Env.{Env}
use Rattle.mv_eval.specs.declared.state.Content.TheVariants.{Scalar}
use Rattle.mv_eval.specs.declared.state.State.{State}
use Rattle.mv_eval.specs.Results.{then_do}
use Rattle.mv_eval.specs.Env.{held_at, scalar_in, scalar_at, turns_in, truth, with_held, with_value, with_values, with_found, turns_at}
use Rattle.mv_eval.specs.Value.{value_of, values_of}
use Rattle.mv_eval.specs.Rows.{ordered, item_at, matching, aggregate, is_some_row, distinct, tests_of}
use Rattle.mv_eval.specs.Changes.{new_row}
use Rattle.mv_eval.specs.Alone.{fixed, is_turn}
use Rattle.mv_recorded.specs.Asking.{pred_of, with_sorts, column_in, columns_in, preds_of}
use Rattle.mv_recorded.specs.Effect.{HasColumns}
use Rattle.mv_recorded.specs.Reading.{each_once, variables, rights}
use Rattle.mv_record.specs.declared.effect.Effect.{Effect}
use Rattle.mv_recorded.specs.Doing.{effect_of}
use Rattle.mv_recorded.specs.Effects.{asks, pred_with, effect_after, row_number, effect_of_select, effect_of_aggregate, effect_of_loop, effect_of_writes, effect_unless, inserted, slots_behind, changes}
use Rattle.mv_recorded.proofs.Chosen.{asked_of, both_asked, select_goes, select_unasked, total_done, for_goes}
use Rattle.mv_recorded.proofs.Checked.{checks_same, delete_checks_same, update_checks_same}
use Rattle.mv_recorded.proofs.Told.{delete_told, update_told, insert_told}
use Rattle.mv_record.proofs.Rising.{rises_from}
use Rattle.mv_eval.specs.Alone.{matching_in}
use Rattle.mv_eval.specs.Rows.{fit}
use Rattle.mv_eval.specs.Changes.{set_row_by}
use Rattle.mv_recorded.specs.Asking.{Check, first_fault, preds_up_to, insert_checks, update_checks, delete_checks, on}
use Rattle.mv_recorded.proofs.Matching.{matching_all}
use Rattle.mv_recorded.specs.Own.{Bare, Each, Within, SetSuits}
use Rattle.mv_recorded.specs.Alike.{Agree, Alike, SeenAlike, ReadsAlike}
use Rattle.mv_record.specs.Databases.{AreTyped, HasRow, IsDatabaseOf}
use Rattle.mv_catalog.specs.Text.{IsOf, types_of}
use Rattle.mv_values.specs.declared.schema.Column.{Column}
use Rattle.std.specs.Prelude.{All}
use Rattle.std.proofs.lemmas.List.{length-map}
use Rattle.std.proofs.lemmas.List.Elements.{All-head, All-tail}
use Rattle.std.proofs.lemmas.Slice.Zip.{AllZip-long}
use Rattle.mv_recorded.proofs.Inverting.{each_join}
use Rattle.mv_recorded.proofs.Slots.{get_same, same_found}
use Rattle.mv_recorded.proofs.Held.{held_alike}
use Rattle.mv_recorded.proofs.Values.{value_alike, values_alike, tests_alike, offset_alike, new_row_alike}
use Rattle.mv_recorded.proofs.Alike.{ItemAlike, agree_parts, agree_once, columns_same, alike_by, ordered_alike, item_alike, projected_same, some_same, aggregate_same, deletes_same, changes_same, Plain}

-- Variables

slots_same : (e f : Env) (ns : List ℕ) → Agree e f ns → slots_behind e ns ≡ slots_behind f ns
slots_same e f [] h = refl
slots_same e f (n ∷ ns) h = ap (λ v. record { slot = n; value = scalar_in v } ∷ slots_behind e ns) h.0 ∙ ap (λ l. record { slot = n; value = scalar_at f n } ∷ l) (slots_same e f ns h.1)

found_at : (e : Env) (b : Bool) → held_at (with_found e b) e.found ≡ Scalar (truth b)
found_at e b = get_same e.held e.found (Scalar (truth b))

-- `:found` is the same behind both
found_agrees : (e f : Env) (b : Bool) (n : ℕ) → e.found ≡ n → f.found ≡ n → held_at (with_found e b) n ≡ held_at (with_found f b) n
found_agrees e f b n p q = subst (λ m. held_at (with_found e b) m ≡ Scalar (truth b)) p (found_at e b) ∙ sym (subst (λ m. held_at (with_found f b) m ≡ Scalar (truth b)) q (found_at f b))

found_alike : (e f : Env) (b : Bool) (x : ℕ) → e.found ≡ f.found → held_at e x ≡ held_at f x → held_at (with_found e b) x ≡ held_at (with_found f b) x
found_alike e f b x same h = held_alike e f e.found (Scalar (truth b)) x h ∙ ap (λ n. held_at (with_held f n (Scalar (truth b))) x) same

-- only `:found` is set
only_found : (e f : Env) (b : Bool) → e.found ≡ f.found → slots_behind (with_found e b) (e.found ∷ []) ≡ slots_behind (with_found f b) (f.found ∷ [])
only_found e f b same =
    slots_same (with_found e b) (with_found f b) (e.found ∷ []) (found_agrees e f b e.found refl (sym same), tt) ∙ ap (λ n. slots_behind (with_found f b) (n ∷ [])) same

values_agree : (e f : Env) (xs : List ℕ) (vs : List Value) (x : ℕ) → held_at e x ≡ held_at f x → held_at (with_values e xs vs) x ≡ held_at (with_values f xs vs) x
values_agree e f [] vs x h = h
values_agree e f (y ∷ ys) [] x h = h
values_agree e f (y ∷ ys) (v ∷ vs) x h = values_agree (with_value e y v) (with_value f y v) ys vs x (held_alike e f y (Scalar v) x h)

values_set : (e f : Env) (xs : List ℕ) (vs : List Value) (x : ℕ) → Within x xs → length xs ≤ length vs → held_at (with_values e xs vs) x ≡ held_at (with_values f xs vs) x
values_set e f [] vs x w le = absurd w
values_set e f (y ∷ ys) [] x w le = absurd (omega (arith, le))
values_set e f (y ∷ ys) (v ∷ vs) x (inl at) le =
    values_agree (with_value e y v) (with_value f y v) ys vs x
    (subst (λ z. held_at (with_value e y v) z ≡ held_at (with_value f y v) z) (sym at) (get_same e.held y (Scalar v) ∙ sym (get_same f.held y (Scalar v))))
values_set e f (y ∷ ys) (v ∷ vs) x (inr w) le = values_set (with_value e y v) (with_value f y v) ys vs x w (omega (arith, le))

each_within : (P : ℕ → Type 0) (xs : List ℕ) → ((x : ℕ) → Within x xs → P x) → Each P xs
each_within P [] h = tt
each_within P (x ∷ xs) h = (h x (inl refl), each_within P xs (λ y w. h y (inr w)))

within_filter : (p : ℕ → Bool) (x : ℕ) (xs : List ℕ) → Within x (filter p xs) → Within x xs
within_filter p x [] w = absurd w
within_filter p x (y ∷ ys) w = by (within_filter p x ys) (p y) w
  where
    by : (Within x (filter p ys) → Within x ys) → (b : Bool) → Within x (cond b (y ∷ filter p ys) (filter p ys)) → Within x (y ∷ ys)
    by go true (inl at) = inl at
    by go true (inr w) = inr (go w)
    by go false w = inr (go w)

within_once : (x : ℕ) (xs : List ℕ) → Within x (each_once xs) → Within x xs
within_once x [] w = absurd w
within_once x (y ∷ ys) (inl at) = inl at
within_once x (y ∷ ys) (inr w) = inr (within_once x ys (within_filter (λ m. not (m == y)) x (each_once ys) w))

long_columns : (row : List Value) (cs : List ℕ) → length (columns_of row cs) ≡ length cs
long_columns row [] = refl
long_columns row (c ∷ cs) = ap suc (long_columns row cs)

-- Effects

taking_same : (p : Pred) (cs xs : List ℕ) (a b : Option Keyed) (e f : Env) → length xs ≤ length cs → e.found ≡ f.found → ItemAlike cs a b → effect_of_select p cs xs a e ≡ effect_of_select p cs xs b f
taking_same p cs xs None None e f le same h = ap (λ ss. record { preds = p ∷ []; sets = ss; rows = []; writes = []; line = None; end = None }) (only_found e f false same)
taking_same p cs xs (Some a) (Some b) e f le same h =
    let vs : List Value = columns_of a.row cs in
    let ns : List ℕ = each_once xs ++ e.found ∷ [] in
    let one : Env = with_values e xs vs in
    let two : Env = with_values f xs vs in
    let long : length xs ≤ length vs = omega (arith, le, long_columns a.row cs) in
    let alike : Agree (with_found one true) (with_found two true) ns =
    each_join (λ x. held_at (with_found one true) x ≡ held_at (with_found two true) x) (each_once xs) (e.found ∷ [])
    (each_within (λ x. held_at (with_found one true) x ≡ held_at (with_found two true) x) (each_once xs)
    (λ x w. found_alike one two true x (same_found e xs vs ∙ (same ∙ sym (same_found f xs vs))) (values_set e f xs vs x (within_once x xs w) long)))
    (found_agrees one two true e.found (same_found e xs vs) (same_found f xs vs ∙ sym same), tt) in
    ap (λ ss. record { preds = p ∷ []; sets = ss; rows = []; writes = []; line = None; end = None })
    (slots_same (with_found one true) (with_found two true) ns alike
    ∙ (ap (λ n. slots_behind (with_found two true) (each_once xs ++ n ∷ [])) same
    ∙ ap (λ l. slots_behind (with_found (with_values f xs l) true) (each_once xs ++ f.found ∷ [])) (columns_same a.row b.row cs h)))
taking_same p cs xs None (Some b) e f le same h = absurd h
taking_same p cs xs (Some a) None e f le same h = absurd h

totalling_same : (p : Pred) (x : ℕ) (o : Option Value) (b : Bool) (e f : Env) → e.found ≡ f.found → effect_of_aggregate p x o b e ≡ effect_of_aggregate p x o b f
totalling_same p x None b e f same = ap (λ ss. record { preds = p ∷ []; sets = ss; rows = []; writes = []; line = None; end = None }) (only_found e f b same)
totalling_same p x (Some v) b e f same =
    let one : Env = with_value e x v in
    let two : Env = with_value f x v in
    ap (λ ss. record { preds = p ∷ []; sets = ss; rows = []; writes = []; line = None; end = None })
    (slots_same (with_found one b) (with_found two b) (x ∷ e.found ∷ [])
    (found_alike one two b x same (get_same e.held x (Scalar v) ∙ sym (get_same f.held x (Scalar v))), (found_agrees one two b e.found refl (sym same), tt))
    ∙ ap (λ n. slots_behind (with_found two b) (x ∷ n ∷ [])) same)

going_same : (p : Pred) (turns : List (List Value)) (e f : Env) → e.found ≡ f.found → effect_of_loop p turns e ≡ effect_of_loop p turns f
going_same p turns e f same = ap (λ ss. record { preds = p ∷ []; sets = ss; rows = turns; writes = []; line = None; end = None }) (only_found e f (is_turn turns) same)

writing_same : (ps : List Pred) (b : Bool) (ws : List Write) (e f : Env) → e.found ≡ f.found → effect_of_writes ps b ws e ≡ effect_of_writes ps b ws f
writing_same ps b ws e f same = ap (λ ss. record { preds = ps; sets = ss; rows = []; writes = ws; line = None; end = None }) (only_found e f b same)

unless_same : (o : Option End) (ps : List Pred) (b : Bool) (ws : List Write) (e f : Env) → e.found ≡ f.found → effect_unless o ps b ws e ≡ effect_unless o ps b ws f
unless_same None ps b ws e f same = writing_same ps b ws e f same
unless_same (Some d) ps b ws e f same = refl

then_same : {A : Type 0} (p : Pred) (r : Result A End) (go back : A → Effect) → ((x : A) → go x ≡ back x) → effect_after p r go ≡ effect_after p r back
then_same p (Ok x) go back h = h x
then_same p (Err e) go back h = refl

-- Statements

abbrev parts : (e f : Env) (xs ys : List ℕ) → Agree e f (xs ++ ys) → Agree e f xs × Agree e f ys
parts e f [] ys h = (tt, h)
parts e f (x ∷ xs) ys h = let rest = parts e f xs ys h.1 in ((h.0, rest.0), rest.1)

flat_parts : (e f : Env) (xs ys : List RExpr) → Agree e f (flat_map variables (xs ++ ys)) → Agree e f (flat_map variables xs) × Agree e f (flat_map variables ys)
flat_parts e f [] ys h = (tt, h)
flat_parts e f (x ∷ xs) ys h =
    let hs = parts e f (variables x) (flat_map variables (xs ++ ys)) h in
    let rest = flat_parts e f xs ys hs.1 in
    (join (variables x) hs.0 rest.0, rest.1)
  where
    join : (as' : List ℕ) → Agree e f as' → Agree e f (flat_map variables xs) → Agree e f (as' ++ flat_map variables xs)
    join [] h k = k
    join (a ∷ as') h k = (h.0, join as' h.1 k)

-- the rows that a predicate with these tests finds agree in the columns that were named
seen_rows : (t : ℕ) (tests : List Test) (cs : List ℕ) (p : Pred) (db new : List (List Keyed)) → p ≡ pred_of t tests cs → SeenAlike p db new
    → Alike cs (matching [] (found_by p db)) (matching [] (found_by p new))
seen_rows t tests cs p db new is h =
    subst (λ l. Alike cs l (matching [] (found_by p new))) (sym (matching_all (found_by p db)))
    (subst (λ l. Alike cs (found_by p db) l) (sym (matching_all (found_by p new)))
    (alike_by (each_once cs) cs (λ a b. agree_once a b cs) (found_by p db) (found_by p new) (subst (λ ds. Alike ds (found_by p db) (found_by p new)) (ap (λ (q : Pred). q.columns) is) h)))

fixed_same : (once : Bool) (cs : List ℕ) (sorts : List RSort) (xs ys : List Keyed) → Alike (with_sorts cs sorts) xs ys → fixed once cs sorts xs ≡ fixed once cs sorts ys
fixed_same true cs sorts xs ys h = ap distinct (projected_same cs xs ys (alike_by (with_sorts cs sorts) cs (λ a b k. (agree_parts a b cs _ k).0) xs ys h))
fixed_same false cs sorts xs ys h =
    projected_same cs (ordered sorts xs) (ordered sorts ys) (alike_by (with_sorts cs sorts) cs (λ a b k. (agree_parts a b cs _ k).0) (ordered sorts xs) (ordered sorts ys) (ordered_alike cs sorts xs ys h))

-- what is asked is the first of the predicates
seen_of : (tables : List TableInfo) (s : RStmt-F RStmt) (st new : State) (p : Pred) (e : Effect) → e ≡ effect_of tables s st → e.preds ≡ p ∷ [] → Each (λ q. SeenAlike q st.tables new.tables) (preds_of tables s st)
    → SeenAlike p st.tables new.tables
seen_of tables s st new p e is asked h = (subst (Each (λ q. SeenAlike q st.tables new.tables)) (sym (ap (λ (e : Effect). e.preds) is) ∙ asked) h).0

pub then_preds : {A : Type 0} (p : Pred) (r : Result A End) (go : A → Effect) → ((x : A) → (go x).preds ≡ p ∷ []) → (effect_after p r go).preds ≡ p ∷ []
then_preds p (Ok x) go h = h x
then_preds p (Err e) go h = refl

abbrev SameEffect : List TableInfo → RStmt-F RStmt → State → State → Type 0
SameEffect tables s st new = effect_of tables s st ≡ effect_of tables s new

asks_same : (tables : List TableInfo) (t : ℕ) (conds : List RCond) (cs : List ℕ) (e f : Env) → Agree e f (flat_map variables (rights conds)) → asks tables t conds cs e ≡ asks tables t conds cs f
asks_same tables t conds cs e f h = ap (λ r. then_do r (λ tests. Ok (pred_of t tests cs))) (tests_alike (key_columns tables t) conds e f h)

select_same : (tables : List TableInfo) (cs xs : List ℕ) (t : ℕ) (conds : List RCond) (sorts : List RSort) (offset : Option RExpr) (st new : State) → length xs ≤ length cs
    → ReadsAlike tables (Select cs xs t conds sorts offset) st new → SameEffect tables (Select cs xs t conds sorts offset) st new
select_same tables cs xs t conds sorts offset st new le m =
    let hs = flat_parts st.env new.env (rights conds) _ m.reads in
    by (pred_with (asks tables t conds (with_sorts cs sorts) st.env) (row_number offset st.env)) refl
    (ap (λ r. pred_with r (row_number offset st.env)) (asks_same tables t conds (with_sorts cs sorts) st.env new.env hs.0)
    ∙ ap (λ (o : Result Value End). pred_with (asks tables t conds (with_sorts cs sorts) new.env) (then_do o (λ v. Ok (number v)))) (offset_alike offset st.env new.env hs.1))
  where
    by : (q : Result (Pred × ℤ) Effect) → q ≡ pred_with (asks tables t conds (with_sorts cs sorts) st.env) (row_number offset st.env)
        → pred_with (asks tables t conds (with_sorts cs sorts) st.env) (row_number offset st.env) ≡ pred_with (asks tables t conds (with_sorts cs sorts) new.env) (row_number offset new.env)
        → SameEffect tables (Select cs xs t conds sorts offset) st new
    by (Err e) is same = sym (select_unasked tables cs xs t conds sorts offset st.env st.tables e is st.lines) ∙ select_unasked tables cs xs t conds sorts offset new.env new.tables e (is ∙ same) new.lines
    by (Ok q) is same =
        let a = both_asked (asks tables t conds (with_sorts cs sorts) st.env) (row_number offset st.env) q is in
        let b = both_asked (asks tables t conds (with_sorts cs sorts) new.env) (row_number offset new.env) q (is ∙ same) in
        let one = select_goes tables cs xs t conds sorts offset st.env st.tables q.0 q.1 (found_by q.0 st.tables) a.0 a.1 refl st.lines in
        let two = select_goes tables cs xs t conds sorts offset new.env new.tables q.0 q.1 (found_by q.0 new.tables) b.0 b.1 refl new.lines in
        let asked = asked_of tables t conds (with_sorts cs sorts) st.env q.0 a.0 in
        let seen : SeenAlike q.0 st.tables new.tables = seen_of tables (Select cs xs t conds sorts offset) st new q.0 _ one refl m.seen in
        let rows = seen_rows t asked.tests (with_sorts cs sorts) q.0 st.tables new.tables asked.is seen in
        let xs' = ordered sorts (matching [] (found_by q.0 st.tables)) in
        let ys' = ordered sorts (matching [] (found_by q.0 new.tables)) in
        let ordered' : Alike cs xs' ys' = alike_by (with_sorts cs sorts) cs (λ a b k. (agree_parts a b cs _ k).0) xs' ys' (ordered_alike cs sorts (matching [] (found_by q.0 st.tables)) (matching [] (found_by q.0 new.tables)) rows) in
        sym one ∙ (taking_same q.0 cs xs (item_at xs' q.1) (item_at ys' q.1) st.env new.env le m.found (item_alike cs xs' ys' q.1 ordered') ∙ two)

-- statements that ask by WHERE, where it has no value
abbrev Unasked : List TableInfo → RStmt-F RStmt → State → State → ℕ → List RCond → Type 0
Unasked tables s st new t conds = (e : End) → tests_of (key_columns tables t) conds st.env ≡ Err e → tests_of (key_columns tables t) conds new.env ≡ Err e → SameEffect tables s st new

abbrev Asked : List TableInfo → RStmt-F RStmt → State → State → ℕ → List RCond → List ℕ → Type 0
Asked tables s st new t conds cs = (p : Pred) (tests : List Test) → p ≡ pred_of t tests cs → asks tables t conds cs st.env ≡ Ok p → asks tables t conds cs new.env ≡ Ok p → SameEffect tables s st new

by_where : (tables : List TableInfo) (s : RStmt-F RStmt) (st new : State) (t : ℕ) (conds : List RCond) (cs : List ℕ) → Agree st.env new.env (flat_map variables (rights conds)) → Unasked tables s st new t conds
    → Asked tables s st new t conds cs → SameEffect tables s st new
by_where tables s st new t conds cs h none some = by (tests_of (key_columns tables t) conds st.env) refl (sym (tests_alike (key_columns tables t) conds st.env new.env h))
  where
    by : (r : Result (List Test) End) → tests_of (key_columns tables t) conds st.env ≡ r → tests_of (key_columns tables t) conds new.env ≡ tests_of (key_columns tables t) conds st.env → SameEffect tables s st new
    by (Err e) is same = none e is (same ∙ is)
    by (Ok tests) is same =
        some (pred_of t tests cs) tests refl (ap (λ r. then_do r (λ tests. Ok (pred_of t tests cs))) is) (ap (λ r. then_do r (λ tests. Ok (pred_of t tests cs))) (same ∙ is))

total_same : (tables : List TableInfo) (agg : RAgg) (x t : ℕ) (conds : List RCond) (st new : State) → ReadsAlike tables (Total agg x t conds) st new → SameEffect tables (Total agg x t conds) st new
total_same tables agg x t conds st new m =
    by_where tables (Total agg x t conds) st new t conds (column_in agg) m.reads (λ e p q. rw (p, q) refl) (λ p tests is a b.
    let rows : List Keyed = found_by p st.tables in
    let rows' : List Keyed = found_by p new.tables in
    let one = total_done tables agg x t conds st.env st.tables p rows a refl st.lines in
    let two = total_done tables agg x t conds new.env new.tables p rows' b refl new.lines in
    let seen : SeenAlike p st.tables new.tables = seen_of tables (Total agg x t conds) st new p _ one (then_preds p (aggregate agg (matching [] rows)) _ (λ o. refl)) m.seen in
    let alike = seen_rows t tests (column_in agg) p st.tables new.tables is seen in
    sym one
    ∙ (ap (λ r. effect_after p r (λ o. effect_of_aggregate p x o (is_some_row (matching [] rows)) st.env)) (aggregate_same agg (matching [] rows) (matching [] rows') alike)
    ∙ (ap (λ b. effect_after p (aggregate agg (matching [] rows')) (λ o. effect_of_aggregate p x o b st.env)) (some_same (column_in agg) (matching [] rows) (matching [] rows') alike)
    ∙ (then_same p (aggregate agg (matching [] rows')) (λ o. effect_of_aggregate p x o (is_some_row (matching [] rows')) st.env) (λ o. effect_of_aggregate p x o (is_some_row (matching [] rows')) new.env)
    (λ o. totalling_same p x o (is_some_row (matching [] rows')) st.env new.env m.found) ∙ two))))

for_same : (tables : List TableInfo) (x : ℕ) (once : Bool) (cs : List ℕ) (t : ℕ) (conds : List RCond) (sorts : List RSort) (st new : State) → ReadsAlike tables (ForSelect x once cs t conds sorts []) st new
    → SameEffect tables (ForSelect x once cs t conds sorts []) st new
for_same tables x once cs t conds sorts st new m =
    by_where tables (ForSelect x once cs t conds sorts []) st new t conds (with_sorts cs sorts) m.reads (λ e p q. rw (p, q) refl) (λ p tests is a b.
    let rows : List Keyed = found_by p st.tables in
    let rows' : List Keyed = found_by p new.tables in
    let one = for_goes tables x once cs t conds sorts [] st.env st.tables p rows a refl st.lines in
    let two = for_goes tables x once cs t conds sorts [] new.env new.tables p rows' b refl new.lines in
    let seen : SeenAlike p st.tables new.tables = seen_of tables (ForSelect x once cs t conds sorts []) st new p _ one refl m.seen in
    let alike = seen_rows t tests (with_sorts cs sorts) p st.tables new.tables is seen in
    sym one ∙ (ap (λ l. effect_of_loop p l st.env) (fixed_same once cs sorts (matching [] rows) (matching [] rows') alike) ∙ (going_same p _ st.env new.env m.found ∙ two)))

-- the predicates of a statement that asks by WHERE and then checks
seen_checks : (tables : List TableInfo) (t : ℕ) (conds : List RCond) (p : List Test → Pred) (checks : List Test → List Check) (st new : State) (tests : List Test) → tests_of (key_columns tables t) conds st.env ≡ Ok tests
    → Each (λ q. SeenAlike q st.tables new.tables) (on (tests_of (key_columns tables t) conds st.env) (λ tests. p tests ∷ preds_up_to (checks tests) st.tables))
    → SeenAlike (p tests) st.tables new.tables × Each (λ q. SeenAlike q st.tables new.tables) (preds_up_to (checks tests) st.tables)
seen_checks tables t conds p checks st new tests is h =
    let all = subst (λ r. Each (λ q. SeenAlike q st.tables new.tables) (on r (λ tests. p tests ∷ preds_up_to (checks tests) st.tables))) is h in (all.0, all.1)

-- by tests that have the same values
by_tests : (tables : List TableInfo) (s : RStmt-F RStmt) (st new : State) (t : ℕ) (conds : List RCond) → Agree st.env new.env (flat_map variables (rights conds)) → Unasked tables s st new t conds
    → ((tests : List Test) → tests_of (key_columns tables t) conds st.env ≡ Ok tests → tests_of (key_columns tables t) conds new.env ≡ Ok tests → SameEffect tables s st new) → SameEffect tables s st new
by_tests tables s st new t conds h none some = by (tests_of (key_columns tables t) conds st.env) refl (sym (tests_alike (key_columns tables t) conds st.env new.env h))
  where
    by : (r : Result (List Test) End) → tests_of (key_columns tables t) conds st.env ≡ r → tests_of (key_columns tables t) conds new.env ≡ tests_of (key_columns tables t) conds st.env → SameEffect tables s st new
    by (Err e) is same = none e is (same ∙ is)
    by (Ok tests) is same = some tests is (same ∙ is)

delete_same : (tables : List TableInfo) (t : ℕ) (conds : List RCond) (st new : State) → ReadsAlike tables (Delete t conds) st new → SameEffect tables (Delete t conds) st new
delete_same tables t conds st new m =
    by_tests tables (Delete t conds) st new t conds m.reads (λ e p q. rw (p, q) refl) (λ tests a b.
    let rows : List Keyed = matching_in t tests st in
    let rows' : List Keyed = matching_in t tests new in
    let seen = seen_checks tables t conds (λ tests. pred_of t tests []) (λ tests. delete_checks tables t (matching_in t tests st)) st new tests a m.seen in
    let alike : Alike [] rows rows' = seen.0 in
    let checks : delete_checks tables t rows ≡ delete_checks tables t rows' = delete_checks_same tables t [] rows rows' alike in
    let same = checks_same (delete_checks tables t rows) st.tables new.tables seen.1 in
    delete_told tables t conds st tests a (rises_from (rows_at st.tables t) (m.databases.0.rising t))
    ∙ (ap (λ o. effect_unless o (pred_of t tests [] ∷ preds_up_to (delete_checks tables t rows) st.tables) (is_some_row rows) (deletes' t rows) st.env) same.1
    ∙ (ap (λ ps. effect_unless (first_fault (delete_checks tables t rows) new.tables) (pred_of t tests [] ∷ ps) (is_some_row rows) (deletes' t rows) st.env) same.0
    ∙ (ap (λ cs. effect_unless (first_fault cs new.tables) (pred_of t tests [] ∷ preds_up_to cs new.tables) (is_some_row rows) (deletes' t rows) st.env) checks
    ∙ (ap (λ b. effect_unless (first_fault (delete_checks tables t rows') new.tables) (pred_of t tests [] ∷ preds_up_to (delete_checks tables t rows') new.tables) b (deletes' t rows) st.env) (some_same [] rows rows' alike)
    ∙ (ap (λ ws. effect_unless (first_fault (delete_checks tables t rows') new.tables) (pred_of t tests [] ∷ preds_up_to (delete_checks tables t rows') new.tables) (is_some_row rows') ws st.env) (deletes_same t [] rows rows' alike)
    ∙ (unless_same (first_fault (delete_checks tables t rows') new.tables) _ (is_some_row rows') (deletes' t rows') st.env new.env m.found
    ∙ sym (delete_told tables t conds new tests b (rises_from (rows_at new.tables t) (m.databases.1.rising t))))))))))
  where
    deletes' : ℕ → List Keyed → List Write
    deletes' t rows = map (λ item. record { table = t; key = item.key; patch = patch.Delete }) rows

wide_filter : (n : ℕ) (p : Keyed → Bool) (rows : List Keyed) → Each (λ (item : Keyed). length item.row ≡ n) rows → Each (λ (item : Keyed). length item.row ≡ n) (filter p rows)
wide_filter n p [] h = tt
wide_filter n p (x ∷ xs) h = by (p x) (wide_filter n p xs h.1)
  where
    by : (b : Bool) → Each (λ (item : Keyed). length item.row ≡ n) (filter p xs) → Each (λ (item : Keyed). length item.row ≡ n) (cond b (x ∷ filter p xs) (filter p xs))
    by true k = (h.0, k)
    by false k = k

-- rows have as many values as their table has columns
row_wide : (table : TableInfo) (rows : List Keyed) → All (HasRow table) rows → Each (λ (item : Keyed). length item.row ≡ length table.columns) rows
row_wide table [] h = tt
row_wide table (r ∷ rs) h =
    let long : length r.row ≡ length (types_of table) = AllZip-long IsOf (types_of table) r.row (All-head (HasRow table) r rs h) in
    (omega (arith, long, length-map table.columns (λ (c : Column). c.kind)), row_wide table rs (All-tail (HasRow table) r rs h))

pub all_wide : (tables : List TableInfo) (db : List (List Keyed)) (t : ℕ) → AreTyped tables db → Each (λ (item : Keyed). length item.row ≡ length (columns_at tables t)) (rows_at db t)
all_wide [] [] t h = tt
all_wide [] (rows ∷ db) t h = absurd h
all_wide (table ∷ tables) [] t h = absurd h
all_wide (table ∷ tables) (rows ∷ db) zero h = row_wide table rows h.0
all_wide (table ∷ tables) (rows ∷ db) (suc t) h = all_wide tables db t h.1

wide_found : (tables : List TableInfo) (t : ℕ) (p : Pred) (db : List (List Keyed)) → p.table ≡ t → IsDatabaseOf tables db → Each (λ (item : Keyed). length item.row ≡ length (columns_at tables t)) (found_by p db)
wide_found tables t p db at whole =
    subst (λ u. Each (λ (item : Keyed). length item.row ≡ length (columns_at tables u)) (found_by p db)) at (wide_filter (length (columns_at tables p.table)) _ (rows_at db p.table) (all_wide tables db p.table whole.rows))

update_same : (tables : List TableInfo) (t : ℕ) (items : List RSetItem) (conds : List RCond) (st new : State) → Each (Plain (key_columns tables t) (length (columns_at tables t))) items
    → ReadsAlike tables (Update t items conds) st new → SameEffect tables (Update t items conds) st new
update_same tables t items conds st new plain m =
    let cs : List ℕ = flat_map (λ i. columns_in i.right) items in
    let hs = flat_parts st.env new.env (map (λ i. i.right) items) (rights conds) m.reads in
    by_tests tables (Update t items conds) st new t conds hs.1 (λ e p q. rw (p, q) refl) (λ tests a b.
    let rows : List Keyed = matching_in t tests st in
    let rows' : List Keyed = matching_in t tests new in
    let p : Pred = pred_of t tests cs in
    let seen = seen_checks tables t conds (λ tests. pred_of t tests cs) (λ tests. update_checks tables t items st.env (matching_in t tests st)) st new tests a m.seen in
    let alike : Alike cs rows rows' = alike_by (each_once cs) cs (λ a b. agree_once a b cs) rows rows' seen.0 in
    let checks : update_checks tables t items st.env rows ≡ update_checks tables t items new.env rows' = update_checks_same tables t items st.env new.env rows rows' hs.0 alike in
    let same = checks_same (update_checks tables t items st.env rows) st.tables new.tables seen.1 in
    let written = changes_same t (columns_at tables t) (key_columns tables t) (length (columns_at tables t)) st.env new.env items rows rows' hs.0 alike plain (wide_found tables t p st.tables refl m.databases.0) (wide_found tables t p new.tables refl m.databases.1) in
    let ws : List Write = sets' st.env rows in
    let ws' : List Write = sets' new.env rows' in
    update_told tables t items conds st tests a m.databases.0.keys
    ∙ (ap (λ o. effect_unless o (p ∷ preds_up_to (update_checks tables t items st.env rows) st.tables) (is_some_row rows) ws st.env) same.1
    ∙ (ap (λ ps. effect_unless (first_fault (update_checks tables t items st.env rows) new.tables) (p ∷ ps) (is_some_row rows) ws st.env) same.0
    ∙ (ap (λ ks. effect_unless (first_fault ks new.tables) (p ∷ preds_up_to ks new.tables) (is_some_row rows) ws st.env) checks
    ∙ (ap (λ b. effect_unless (first_fault (update_checks tables t items new.env rows') new.tables) (p ∷ preds_up_to (update_checks tables t items new.env rows') new.tables) b ws st.env) (some_same cs rows rows' alike)
    ∙ (ap (λ r. effect_unless (first_fault (update_checks tables t items new.env rows') new.tables) (p ∷ preds_up_to (update_checks tables t items new.env rows') new.tables) (is_some_row rows') (on r (λ l. l)) st.env) written
    ∙ (unless_same (first_fault (update_checks tables t items new.env rows') new.tables) _ (is_some_row rows') ws' st.env new.env m.found
    ∙ sym (update_told tables t items conds new tests b m.databases.1.keys))))))))
  where
    sets' : Env → List Keyed → List Write
    sets' e rows = on (changes t items (λ row. set_row_by (fit (columns_at tables t)) (key_columns tables t) e row items row) rows) (λ ws. ws)

insert_same : (tables : List TableInfo) (t : ℕ) (es : List RExpr) (st new : State) → ReadsAlike tables (Insert t es) st new → SameEffect tables (Insert t es) st new
insert_same tables t es st new m = by (new_row (columns_at tables t) es st.env) refl (sym (new_row_alike (columns_at tables t) es st.env new.env m.reads))
  where
    by : (r : Result (List Value) End) → new_row (columns_at tables t) es st.env ≡ r → new_row (columns_at tables t) es new.env ≡ new_row (columns_at tables t) es st.env → SameEffect tables (Insert t es) st new
    by (Err e) is same = let is' : new_row (columns_at tables t) es new.env ≡ Err e = same ∙ is in rw (is, is') refl
    by (Ok row) is same =
        let checks : List Check = insert_checks tables t row in
        let seen : Each (λ q. SeenAlike q st.tables new.tables) (preds_up_to checks st.tables) =
        subst (λ r. Each (λ q. SeenAlike q st.tables new.tables) (on r (λ row. preds_up_to (insert_checks tables t row) st.tables))) is m.seen in
        let alike = checks_same checks st.tables new.tables seen in
        insert_told tables t es st row is m.databases.0.keys (m.databases.0.rising t)
        ∙ (ap (λ o. effect_unless o (preds_up_to checks st.tables) true (inserted tables t row) st.env) alike.1
        ∙ (ap (λ ps. effect_unless (first_fault checks new.tables) ps true (inserted tables t row) st.env) alike.0
        ∙ (unless_same (first_fault checks new.tables) (preds_up_to checks new.tables) true (inserted tables t row) st.env new.env m.found
        ∙ sym (insert_told tables t es new row (same ∙ is) m.databases.1.keys (m.databases.1.rising t)))))

assign_same : (tables : List TableInfo) (x : ℕ) (e : RExpr) (st new : State) → ReadsAlike tables (Assign x e) st new → SameEffect tables (Assign x e) st new
assign_same tables x e st new m = by (value_of e st.env []) refl (sym (value_alike e st.env new.env [] (parts st.env new.env (variables e) [] m.reads).0))
  where
    by : (r : Result Value End) → value_of e st.env [] ≡ r → value_of e new.env [] ≡ value_of e st.env [] → SameEffect tables (Assign x e) st new
    by (Err d) is same = let is' : value_of e new.env [] ≡ Err d = same ∙ is in rw (is, is') refl
    by (Ok v) is same =
        let is' : value_of e new.env [] ≡ Ok v = same ∙ is in
        rw (is, is') (ap (λ h. record { preds = []; sets = record { slot = x; value = scalar_in h } ∷ []; rows = []; writes = []; line = None; end = None }) (get_same st.env.held x (Scalar v) ∙ sym (get_same new.env.held x (Scalar v))))

branch_same : (tables : List TableInfo) (e : RExpr) (st new : State) → ReadsAlike tables (Branch e [] []) st new → SameEffect tables (Branch e [] []) st new
branch_same tables e st new m = by (value_of e st.env []) refl (sym (value_alike e st.env new.env [] (parts st.env new.env (variables e) [] m.reads).0))
  where
    by : (r : Result Value End) → value_of e st.env [] ≡ r → value_of e new.env [] ≡ value_of e st.env [] → SameEffect tables (Branch e [] []) st new
    by (Err d) is same = let is' : value_of e new.env [] ≡ Err d = same ∙ is in rw (is, is') refl
    by (Ok v) is same = let is' : value_of e new.env [] ≡ Ok v = same ∙ is in rw (is, is') refl

print_same : (tables : List TableInfo) (es : List RExpr) (st new : State) → ReadsAlike tables (Print es) st new → SameEffect tables (Print es) st new
print_same tables es st new m = by (values_of es st.env) refl (sym (values_alike es st.env new.env m.reads))
  where
    by : (r : Result (List Value) End) → values_of es st.env ≡ r → values_of es new.env ≡ values_of es st.env → SameEffect tables (Print es) st new
    by (Err d) is same = let is' : values_of es new.env ≡ Err d = same ∙ is in rw (is, is') refl
    by (Ok v) is same = let is' : values_of es new.env ≡ Ok v = same ∙ is in rw (is, is') refl

rows_same : (tables : List TableInfo) (x y : ℕ) (st new : State) → ReadsAlike tables (ForRows x y []) st new → SameEffect tables (ForRows x y []) st new
rows_same tables x y st new m =
    ap (λ l. record { preds = []; sets = slots_behind (with_found st.env (is_turn l)) (st.env.found ∷ []); rows = l; writes = []; line = None; end = None }) (ap turns_in m.over)
    ∙ ap (λ ss. record { preds = []; sets = ss; rows = turns_at new.env y; writes = []; line = None; end = None }) (only_found st.env new.env (is_turn (turns_at new.env y)) m.found)

-- the law
pub congruent : (tables : List TableInfo) (y : Bare) (st new : State) → HasColumns y → SetSuits tables y → ReadsAlike tables y st new → effect_of tables y st ≡ effect_of tables y new
congruent tables (Assign x e) st new has sets h = assign_same tables x e st new (record { reads = h.reads; found = h.found; over = tt; seen = h.seen; databases = h.databases })
congruent tables (Select cs xs t conds sorts offset) st new has sets h =
    select_same tables cs xs t conds sorts offset st new has (record { reads = h.reads; found = h.found; over = tt; seen = h.seen; databases = h.databases })
congruent tables (Total agg x t conds) st new has sets h = total_same tables agg x t conds st new (record { reads = h.reads; found = h.found; over = tt; seen = h.seen; databases = h.databases })
congruent tables (ForSelect x once cs t conds sorts body) st new has sets h =
    for_same tables x once cs t conds sorts st new (record { reads = h.reads; found = h.found; over = tt; seen = h.seen; databases = h.databases })
congruent tables (ForRows x y body) st new has sets h = rows_same tables x y st new (record { reads = h.reads; found = h.found; over = h.over; seen = h.seen; databases = h.databases })
congruent tables (Branch e ys ns) st new has sets h = branch_same tables e st new (record { reads = h.reads; found = h.found; over = tt; seen = h.seen; databases = h.databases })
congruent tables (Insert t es) st new has sets h = insert_same tables t es st new (record { reads = h.reads; found = h.found; over = tt; seen = h.seen; databases = h.databases })
congruent tables (Update t items conds) st new has sets h = update_same tables t items conds st new sets (record { reads = h.reads; found = h.found; over = tt; seen = h.seen; databases = h.databases })
congruent tables (Delete t conds) st new has sets h = delete_same tables t conds st new (record { reads = h.reads; found = h.found; over = tt; seen = h.seen; databases = h.databases })
congruent tables (Print es) st new has sets h = print_same tables es st new (record { reads = h.reads; found = h.found; over = tt; seen = h.seen; databases = h.databases })
congruent tables (Rollback reason) st new has sets h = refl
