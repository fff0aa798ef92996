-- Statements without faults are well formed, and their loops are numbered in the order of the text.
use Rattle.std.proofs.Common.{◌≡◌, ℕ, ◌≤◌, ◌+◌, ◌-◌, ◌^◌, Bool, not, ◌==◌, List, [], ◌∷◌, ◌++◌, Option, Some, None, refl, sym, ap, subst, ◌∙◌, map, length, slice_get, arith, All, eqb-true, length-append, map-id}
use mathlib.Core.Path.{subst₃}
use Rattle.std.specs.List.{flat_map, AllZip}
use Rattle.std.proofs.lemmas.Bool.{not-false}
use Rattle.mv_values.specs.declared.schema.TableInfo.{TableInfo}
use Rattle.mv_ast.specs.declared.limit.PassedLimit.{PassedLimit}
use Rattle.mv_ast.specs.declared.limit.Which.TheVariants as limit
use Rattle.mv_ast.specs.declared.tree.Name.{Name}
use Rattle.mv_ast.specs.declared.tree.TableDef.{TableDef}
use Rattle.mv_ast.specs.declared.tree.Cond.{Cond}
use Rattle.mv_ast.specs.declared.tree.Sort.{Sort}
use Rattle.mv_ast.specs.declared.tree.Agg.{Agg}
use Rattle.mv_ast.specs.declared.tree.SetItem.{SetItem}
use Rattle.mv_ast.specs.declared.tree.Expr.{Expr}
use Rattle.mv_ast.specs.declared.tree.Stmt.{Stmt}
use Rattle.mv_ast.specs.declared.tree.Stmt.TheOpen as tree
use Rattle.mv_ast.specs.declared.tree.Stmt.TheViews.{roll-Stmt}
use Rattle.mv_ast.specs.declared.tree.Stmt.TheFolds.{fold-roll-Stmt, map-Stmt, ind-Stmt}
use Rattle.mv_ast.specs.Limits.{too_many, name_token, sort_token, together, statement_step, statement_passes}
use Rattle.mv_ast.proofs.Limited.{few}
use Rattle.mv_names.specs.declared.fault.TokenFault.{TokenFault}
use Rattle.mv_names.specs.declared.scope.ValueType.TheVariants as type'
use Rattle.mv_names.specs.declared.scope.Entry.{Entry}
use Rattle.mv_names.specs.First.{wrong, when}
use Rattle.mv_names.specs.Scope.{entry_of, types_of, select_turn, rows_turn}
use Rattle.mv_names.specs.Typing.{column_faults, placed}
use Rattle.mv_names.specs.Statements as names
use Rattle.mv_names.specs.Statements.{Faults, table_named, statement_faults}
use Rattle.mv_resolve.specs.declared.slot.NamedSlot.{NamedSlot}
use Rattle.mv_catalog.specs.declared.resolved.RStmt.{RStmt}
use Rattle.mv_catalog.specs.declared.resolved.RStmt.TheOpen as open'
use Rattle.mv_catalog.specs.declared.resolved.RStmt.TheViews.{roll-RStmt}
use Rattle.mv_catalog.specs.declared.resolved.RStmt.TheVariants as variant
use Rattle.mv_catalog.specs.declared.resolved.RStmt.TheVariants.{rolls-Assign, rolls-Select, rolls-Total, rolls-ForSelect, rolls-ForRows, rolls-Branch, rolls-Insert, rolls-Update, rolls-Delete, rolls-Print, rolls-Rollback}
use Rattle.mv_catalog.specs.declared.resolved.RStmt.TheFolds.{fold-roll-RStmt, map-RStmt}
use Rattle.mv_resolve.specs.Building as build
use Rattle.mv_resolve.specs.Building.{Built, built, build_all, loops_in, slot, small, table_place, columns_in, column_number, numbers_of, number_of, conds_of, sorts_of, agg_of, items_of, plain, plains, maybe_plain, names_of, slot_named, fields_in, table_of}
use Rattle.mv_catalog.specs.Types.{Kind, int, declared, Vars}
use Rattle.mv_catalog.specs.Statements as well
use Rattle.mv_catalog.specs.Statements.{all_well, stmt_step, IsWell, IsOfKind, Takes, IsTest, IsSort, IsTotal, with_turn, rows_step, rows_in, rows_of, CountsFrom}
use Rattle.mv_resolve.proofs.Lists.{nothing_left, nothing_right, not_when, small_is}
use Rattle.mv_catalog.proofs.Maps.{map_map}
use Rattle.mv_resolve.proofs.Scopes.{Matches}
use Rattle.mv_catalog.proofs.Typed as typed
use Rattle.mv_resolve.proofs.Parts.{gives, tests_of, sorts_are, offset_is, target_is, taking, targets_take, total_is, values_are, printed}
use Rattle.mv_resolve.proofs.Tables.{There, there, same_kinds, items_are, items_once}
use Rattle.mv_resolve.proofs.Loops.{Fresh, fresh_behind, matches_within, chosen, rows_same, counts_on}

-- lists of one length
one_length : {A B : Type 0} (xs : List A) (ys : List B) (f : TokenFault) → when (not (length xs == length ys)) f ≡ [] → length xs ≡ length ys
one_length xs ys f h = eqb-true (length xs) (length ys) (not-false (length xs == length ys) (not_when (not (length xs == length ys)) f h))

module _ (infos : List TableInfo) (scope : List Entry) (slots : List NamedSlot) (vars : Vars) (m : Matches scope slots vars) where
  assign_well : (to : Name) (right : Expr) → names.assign to right scope ≡ [] → well.assign (number_of slots to) (plain slots right) vars
  assign_well to right h =
      let t = target_is scope slots vars m to (nothing_left _ _ h) in
      (t.0, t.2, gives scope slots vars m t.0 (names.target_type (entry_of scope to.text)) right t.1 (nothing_right (names.target_faults to.token (entry_of scope to.text)) _ h))

  select_well : (o : Option TableDef) (at : ℕ) (columns to : List Name) (table : Name) (conds : List Cond) (sorts : List Sort) (offset : Option Expr) → There infos o at
      → names.select o columns to table conds sorts offset scope ≡ []
      → well.select infos (map (column_number (columns_in o)) columns) (numbers_of slots to) at (conds_of slots (columns_in o) conds) (sorts_of (columns_in o) sorts) (maybe_plain slots offset) vars
  select_well None at columns to table conds sorts offset here h = cc
  select_well (Some t) at columns to table conds sorts offset here h =
      let own = t.columns in
      let a = flat_map (column_faults (Some own)) columns in
      let b = when (not (length columns == length to)) (wrong (names.names_token to table.token)) in
      let c = names.targets scope (types_of (Some own) columns) to in
      let d = names.where_faults scope (Some own) conds in
      let e = names.order_faults (Some own) sorts in
      let f = names.offset_faults scope offset in
      let he : (((a ++ b) ++ c) ++ d) ++ e ≡ [] = nothing_left ((((a ++ b) ++ c) ++ d) ++ e) f h in
      let hd : ((a ++ b) ++ c) ++ d ≡ [] = nothing_left (((a ++ b) ++ c) ++ d) e he in
      let hc : (a ++ b) ++ c ≡ [] = nothing_left ((a ++ b) ++ c) d hd in
      let hb : a ++ b ≡ [] = nothing_left (a ++ b) c hc in
      let P : List Kind → Type 0 = λ ks. AllZip (Takes vars ks) (map (column_number own) columns) (numbers_of slots to) × All (IsTest vars ks) (conds_of slots own conds) × All (IsSort ks) (sorts_of own sorts) in (
        (
          table_of here.0 t,
          here.1,
          subst P (same_kinds here.0 t) (
            targets_take scope slots vars own m here.2 columns to (one_length columns to (wrong (names.names_token to table.token)) (nothing_right a b hb)) (nothing_left a b hb) (nothing_right (a ++ b) c hc),
            tests_of scope slots vars own m here.2 conds (nothing_right ((a ++ b) ++ c) d hd),
            sorts_are own here.2 sorts (nothing_right (((a ++ b) ++ c) ++ d) e he),
          ),
        ),
        offset_is scope slots vars m offset (nothing_right ((((a ++ b) ++ c) ++ d) ++ e) f h),
      )

  total_well : (o : Option TableDef) (at : ℕ) (agg : Agg) (to table : Name) (conds : List Cond) → There infos o at → names.total o agg to table conds scope ≡ []
      → well.total infos (agg_of (columns_in o) agg) (number_of slots to) at (conds_of slots (columns_in o) conds) vars
  total_well None at agg to table conds here h = cc
  total_well (Some t) at agg to table conds here h =
      let own = t.columns in
      let a = names.agg_faults (Some own) agg in
      let b = names.target scope (names.agg_type (Some own) agg) to in
      let c = names.where_faults scope (Some own) conds in
      let hb : a ++ b ≡ [] = nothing_left (a ++ b) c h in
      let k = total_is own agg here.2 (nothing_left a b hb) in
      let P : List Kind → Type 0 = λ ks. ((k : Kind) × IsTotal ks (agg_of own agg) k × (vars (number_of slots to) ≡ Some (declared k))) × All (IsTest vars ks) (conds_of slots own conds) in (
        table_of here.0 t,
        here.1,
        subst P (same_kinds here.0 t) (
          (k.0, k.2, taking scope slots vars m k.0 (names.agg_type (Some own) agg) to k.1 (nothing_right a b hb)),
          tests_of scope slots vars own m here.2 conds (nothing_right (a ++ b) c h),
        ),
      )

  insert_well : (o : Option TableDef) (at : ℕ) (table : Name) (values : List Expr) → There infos o at → names.insert o table values scope ≡ []
      → well.insert infos at (plains slots values) vars
  insert_well None at table values here h = cc
  insert_well (Some t) at table values here h =
      let a = when (not (length values == length t.columns)) (wrong (names.values_token values table.token)) in
      let b = names.values_faults scope t.columns values in (
        table_of here.0 t,
        here.1,
        subst (λ ks. AllZip (IsOfKind vars) ks (plains slots values)) (same_kinds here.0 t)
            (values_are scope slots vars m t.columns values (one_length values t.columns (wrong (names.values_token values table.token)) (nothing_left a b h)) (nothing_right a b h)),
      )

  update_well : (o : Option TableDef) (at : ℕ) (table : Name) (items : List SetItem) (conds : List Cond) → There infos o at → names.update o table items conds scope ≡ []
      → well.update infos at (items_of slots (columns_in o) items) (conds_of slots (columns_in o) conds) vars
  update_well None at table items conds here h = cc
  update_well (Some t) at table items conds here h =
      let own = t.columns in
      let a = names.doubles (λ (i : SetItem). i.column) [] items in
      let b = flat_map (names.item_faults scope (Some t)) items in
      let c = names.where_faults scope (Some own) conds in
      let hb : a ++ b ≡ [] = nothing_left (a ++ b) c h in (
        table_of here.0 t,
        here.1,
        (
          items_are scope slots vars here.0 t m here.2 items (nothing_right a b hb),
          items_once scope slots t here.2 items (nothing_right a b hb) (nothing_left a b hb),
          subst (λ ks. All (IsTest vars ks) (conds_of slots own conds)) (same_kinds here.0 t) (tests_of scope slots vars own m here.2 conds (nothing_right (a ++ b) c h)),
        ),
      )

  delete_well : (o : Option TableDef) (at : ℕ) (table : Name) (conds : List Cond) → There infos o at → names.delete o table conds scope ≡ []
      → well.delete infos at (conds_of slots (columns_in o) conds) vars
  delete_well None at table conds here h = cc
  delete_well (Some t) at table conds here h =
      (table_of here.0 t, here.1, subst (λ ks. All (IsTest vars ks) (conds_of slots t.columns conds)) (same_kinds here.0 t) (tests_of scope slots vars t.columns m here.2 conds h))

-- what is claimed of a statement and of statements that are built, where the first loop has this number
pub record Done (infos : List TableInfo) (vars : Vars) (n loops : ℕ) (s : RStmt) : Type 0 where
  pub allowed : IsWell infos s vars
  pub counts : CountsFrom n (rows_in s)
  pub count : length (rows_in s) ≡ loops

pub record AllDone (infos : List TableInfo) (vars : Vars) (n loops : ℕ) (ss : List RStmt) : Type 0 where
  pub allowed : all_well (IsWell infos) ss vars
  pub counts : CountsFrom n (rows_of ss)
  pub count : length (rows_of ss) ≡ loops

rows_is : (d : open'.RStmt-F RStmt) (s : RStmt) → roll-RStmt d ≡ s → rows_in s ≡ rows_step (map-RStmt RStmt (List ℕ) rows_in d)
rows_is d s e = subst (λ r. rows_in r ≡ rows_step (map-RStmt RStmt (List ℕ) rows_in d)) e (fold-roll-RStmt (List ℕ) rows_step d)

-- a statement with these loops
done : (infos : List TableInfo) (vars : Vars) (n loops : ℕ) (d : open'.RStmt-F RStmt) (s : RStmt) → roll-RStmt d ≡ s → stmt_step infos RStmt (λ y. y) (IsWell infos) d vars
    → CountsFrom n (rows_step (map-RStmt RStmt (List ℕ) rows_in d)) → length (rows_step (map-RStmt RStmt (List ℕ) rows_in d)) ≡ loops → Done infos vars n loops s
done infos vars n loops d s e allowed counts count = record {
  allowed = typed.well infos d s vars e allowed;
  counts = subst (CountsFrom n) (sym (rows_is d s e)) counts;
  count = ap length (rows_is d s e) ∙ count;
}

-- the claims, for the faults, the passes of limits and what is built
abbrev pub Claim : List TableInfo → Faults → List PassedLimit → Built → Type 0
Claim infos faults passes b = (scope : List Entry) (slots : List NamedSlot) (vars : Vars) (n : ℕ) → Matches scope slots vars → Fresh vars n → n + b.loops ≤ 2 ^ 16 - 1
    → faults scope ≡ [] → passes ≡ [] → Done infos vars n b.loops (b.build slots n)

abbrev pub AllClaim : List TableInfo → Faults → List PassedLimit → List Built → Type 0
AllClaim infos faults passes bs = (scope : List Entry) (slots : List NamedSlot) (vars : Vars) (n : ℕ) → Matches scope slots vars → Fresh vars n → n + loops_in bs ≤ 2 ^ 16 - 1
    → faults scope ≡ [] → passes ≡ [] → AllDone infos vars n (loops_in bs) (build_all bs slots n)

module _ (infos : List TableInfo) (faults : Faults) (passes : List PassedLimit) (bs : List Built) (claim : AllClaim infos faults passes bs) where
  -- a loop over a SELECT
  for_select_done : (o : Option TableDef) (at : ℕ) (turn : Name) (distinct : Bool) (columns : List Name) (table : Name) (conds : List Cond) (sorts : List Sort) → There infos o at
      → (scope : List Entry) (slots : List NamedSlot) (vars : Vars) (n : ℕ) → Matches scope slots vars → Fresh vars n → n + (1 + loops_in bs) ≤ 2 ^ 16 - 1
      → names.for_select o turn columns table conds sorts faults scope ≡ [] → too_many limit.Columns 32 name_token columns ≡ [] → passes ≡ []
      → Done infos vars n (1 + loops_in bs) (variant.ForSelect (small n) distinct (map (column_number (columns_in o)) columns) at (conds_of slots (columns_in o) conds) (sorts_of (columns_in o) sorts)
      (build_all bs (slots ++ slot n turn.text (names_of columns) ∷ []) (n + 1)))
  for_select_done None at turn distinct columns table conds sorts here scope slots vars n m fresh le h k p =
      let none = nothing_right (names.turn_name scope turn) _ (nothing_left _ _ (nothing_left _ _ (nothing_left _ _ (nothing_left _ _ h)))) in
      cc
  for_select_done (Some t) at turn distinct columns table conds sorts here scope slots vars n m fresh le h k p =
      let own = t.columns in
      let a = names.turn_name scope turn ++ [] in
      let b = flat_map (column_faults (Some own)) columns in
      let c = names.where_faults scope (Some own) conds in
      let d = names.order_faults (Some own) sorts in
      let e = select_turn turn (Some own) columns in
      let s = slot n turn.text (names_of columns) in
      let f = faults (scope ++ e ∷ []) in
      let hd : ((a ++ b) ++ c) ++ d ≡ [] = nothing_left (((a ++ b) ++ c) ++ d) f h in
      let hc : (a ++ b) ++ c ≡ [] = nothing_left ((a ++ b) ++ c) d hd in
      let hb : a ++ b ≡ [] = nothing_left (a ++ b) c hc in
      let is : small n ≡ n = small_is n (omega arith) in
      let fresh_here : Fresh vars (small n) = subst (Fresh vars) (sym is) fresh in
      let own_columns = chosen own here.2 columns (nothing_right a b hb) in
      let most : length own_columns.types ≤ 32 = (let narrow = few limit.Columns 32 name_token columns k in omega (arith, own_columns.count)) in
      let inside = matches_within scope slots vars e s own_columns.types m fresh_here refl (own_columns.fields, most) in
      let behind : Fresh (with_turn vars (small n) own_columns.types) (n + 1) = subst (λ j. Fresh (with_turn vars (small n) own_columns.types) (j + 1)) is (fresh_behind vars (small n) own_columns.types fresh_here) in
      let body = claim (scope ++ e ∷ []) (slots ++ s ∷ []) (with_turn vars (small n) own_columns.types) (n + 1) inside behind (omega arith) (nothing_right (((a ++ b) ++ c) ++ d) f h) p in
      let stmts = build_all bs (slots ++ s ∷ []) (n + 1) in
      let numbers = map (column_number own) columns in
      let cs = conds_of slots own conds in
      let ss = sorts_of own sorts in
      let P : List Kind → Type 0 = λ ks. All (IsTest vars ks) cs × All (IsSort ks) ss × (vars (small n) ≡ None)
      × ((ts : List Kind) × (map (slice_get ks) numbers ≡ map Some ts) × all_well (IsWell infos) stmts (with_turn vars (small n) ts)) in
      done infos vars n (1 + loops_in bs) (open'.ForSelect (small n) distinct numbers at cs ss stmts) (variant.ForSelect (small n) distinct numbers at cs ss stmts)
      (rolls-ForSelect (small n) distinct numbers at cs ss stmts) (
        table_of here.0 t,
        here.1,
        subst P (same_kinds here.0 t) (
          tests_of scope slots vars own m here.2 conds (nothing_right (a ++ b) c hc),
          sorts_are own here.2 sorts (nothing_right ((a ++ b) ++ c) d hd),
          fresh_here (small n) (omega arith),
          (own_columns.types, own_columns.places, body.allowed),
        ),
      )
      (is, body.counts)
      (omega (arith, body.count))

  -- a loop over a ROWS parameter
  for_rows_done : (turn over : Name) → (scope : List Entry) (slots : List NamedSlot) (vars : Vars) (n : ℕ) → Matches scope slots vars → Fresh vars n → n + (1 + loops_in bs) ≤ 2 ^ 16 - 1
      → names.for_rows turn over faults scope ≡ [] → passes ≡ []
      → Done infos vars n (1 + loops_in bs) (variant.ForRows (small n) (number_of slots over)
      (build_all bs (slots ++ slot n turn.text (fields_in (slot_named slots over.text)) ∷ []) (n + 1)))
  for_rows_done turn over scope slots vars n m fresh le h p =
      let a = names.turn_name scope turn in
      let b = names.rows_faults over.token (entry_of scope over.text) in
      let e = rows_turn turn scope over in
      let s = slot n turn.text (fields_in (slot_named slots over.text)) in
      let f = faults (scope ++ e ∷ []) in
      let hb : a ++ b ≡ [] = nothing_left (a ++ b) f h in
      let is : small n ≡ n = small_is n (omega arith) in
      let fresh_here : Fresh vars (small n) = subst (Fresh vars) (sym is) fresh in
      let own = rows_same (entry_of scope over.text) (slot_named slots over.text) vars over.token (m over.text) (nothing_right a b hb) in
      let inside = matches_within scope slots vars e s own.0 m fresh_here refl (own.2, own.3) in
      let behind : Fresh (with_turn vars (small n) own.0) (n + 1) = subst (λ j. Fresh (with_turn vars (small n) own.0) (j + 1)) is (fresh_behind vars (small n) own.0 fresh_here) in
      let body = claim (scope ++ e ∷ []) (slots ++ s ∷ []) (with_turn vars (small n) own.0) (n + 1) inside behind (omega arith) (nothing_right (a ++ b) f h) p in
      let stmts = build_all bs (slots ++ s ∷ []) (n + 1) in
      done infos vars n (1 + loops_in bs) (open'.ForRows (small n) (number_of slots over) stmts) (variant.ForRows (small n) (number_of slots over) stmts)
      (rolls-ForRows (small n) (number_of slots over) stmts) (own.0, own.1, fresh_here (small n) (omega arith), body.allowed) (is, body.counts) (omega (arith, body.count))

-- the branches of an IF
branch_done : (infos : List TableInfo) (fy fn : Faults) (py pn : List PassedLimit) (ys ns : List Built) → AllClaim infos fy py ys → AllClaim infos fn pn ns → (test : Expr)
    → Claim infos (names.branch test fy fn) (py ++ pn) (build.branch test ys ns)
branch_done infos fy fn py pn ys ns cy cn test scope slots vars n m fresh le h p =
    let a = placed type'.Int scope test in
    let hy : a ++ fy scope ≡ [] = nothing_left (a ++ fy scope) (fn scope) h in
    let y = cy scope slots vars n m fresh (omega arith) (nothing_right a (fy scope) hy) (nothing_left py pn p) in
    let z = cn scope slots vars (n + loops_in ys) m (λ j le. fresh j (omega arith)) (omega arith) (nothing_right (a ++ fy scope) (fn scope) h) (nothing_right py pn p) in
    let ss = build_all ys slots n in
    let ts = build_all ns slots (n + loops_in ys) in
    let t = plain slots test in
    done infos vars n (loops_in ys + loops_in ns) (open'.Branch t ss ts) (variant.Branch t ss ts) (rolls-Branch t ss ts)
    (gives scope slots vars m int type'.Int test refl (nothing_left a (fy scope) hy), y.allowed, z.allowed)
    (counts_on n (rows_of ss) (rows_of ts) y.counts (subst (λ j. CountsFrom (n + j) (rows_of ts)) (sym y.count) z.counts))
    (omega (arith, length-append (rows_of ss) (rows_of ts), y.count, z.count))

module _ (tables : List TableDef) (few_tables : length tables ≤ 64) (narrow : All (λ (t : TableDef). length t.columns ≤ 32) tables) where
  abbrev Known : Type 0
  Known = (s : Stmt) × Claim (map (table_of tables) tables) (statement_faults tables s) (statement_passes s) (built tables s)

  -- statements one after another
  all_claim : (ys : List Known) → let ss = map (λ p. p.0) ys in
      AllClaim (map (table_of tables) tables) (names.all_faults (map (statement_faults tables) ss)) (together (map statement_passes ss)) (map (built tables) ss)
  all_claim [] scope slots vars n m fresh le h k = record { allowed = tt; counts = tt; count = refl }
  all_claim (p ∷ ps) scope slots vars n m fresh le h k =
      let ss = map (λ p. p.0) ps in
      let f = names.all_faults (map (statement_faults tables) ss) scope in
      let b = built tables p.0 in
      let q = together (map statement_passes ss) in
      let first = p.1 scope slots vars n m fresh (omega arith) (nothing_left (statement_faults tables p.0 scope) f h) (nothing_left (statement_passes p.0) q k) in
      let rest = all_claim ps scope slots vars (n + b.loops) m (λ j le. fresh j (omega arith)) (omega arith) (nothing_right (statement_faults tables p.0 scope) f h) (nothing_right (statement_passes p.0) q k) in
      let s = b.build slots n in
      let ts = build_all (map (built tables) ss) slots (n + b.loops) in
      record {
        allowed = (first.allowed, rest.allowed);
        counts = counts_on n (rows_in s) (rows_of ts) first.counts (subst (λ j. CountsFrom (n + j) (rows_of ts)) (sym first.count) rest.counts);
        count = omega (arith, length-append (rows_in s) (rows_of ts), first.count, rest.count);
      }

  -- one without loops
  without_rows : (vars : Vars) (n : ℕ) (d : open'.RStmt-F RStmt) (s : RStmt) → roll-RStmt d ≡ s → rows_step (map-RStmt RStmt (List ℕ) rows_in d) ≡ []
      → stmt_step (map (table_of tables) tables) RStmt (λ y. y) (IsWell (map (table_of tables) tables)) d vars → Done (map (table_of tables) tables) vars n 0 s
  without_rows vars n d s e none allowed =
      done (map (table_of tables) tables) vars n 0 d s e allowed (subst (CountsFrom n) (sym none) tt) (ap length none)

  here : (n : Name) → There (map (table_of tables) tables) (table_named tables n.text) (small (table_place tables n))
  here n = there tables n few_tables narrow

  step_claim : (y : tree.Stmt-F Known) → let d = map-Stmt Known Stmt (λ p. p.0) y in
      Claim (map (table_of tables) tables) (names.stmt_step tables (map-Stmt Stmt Faults (statement_faults tables) d)) (statement_step (map-Stmt Stmt (List PassedLimit) statement_passes d))
      (build.stmt_step tables (map-Stmt Stmt Built (built tables) d))
  step_claim (tree.Assign token to right) scope slots vars n m fresh le h k =
      without_rows vars n (open'.Assign _ _) _ (rolls-Assign _ _) refl (assign_well (map (table_of tables) tables) scope slots vars m to right h)
  step_claim (tree.Select token columns to table conds sorts offset) scope slots vars n m fresh le h k =
      without_rows vars n (open'.Select _ _ _ _ _ _) _ (rolls-Select _ _ _ _ _ _) refl
      (select_well (map (table_of tables) tables) scope slots vars m (table_named tables table.text) (small (table_place tables table)) columns to table conds sorts offset (here table) h)
  step_claim (tree.Total token agg to table conds) scope slots vars n m fresh le h k =
      without_rows vars n (open'.Total _ _ _ _) _ (rolls-Total _ _ _ _) refl
      (total_well (map (table_of tables) tables) scope slots vars m (table_named tables table.text) (small (table_place tables table)) agg to table conds (here table) h)
  step_claim (tree.ForSelect token turn distinct columns table conds sorts body) scope slots vars n m fresh le h k =
      let ss = map (λ p. p.0) body in
      let a = too_many limit.Columns 32 name_token columns in
      let b = too_many limit.Columns 32 sort_token sorts ++ together (map statement_passes ss) in
      for_select_done (map (table_of tables) tables) (names.all_faults (map (statement_faults tables) ss)) (together (map statement_passes ss)) (map (built tables) ss) (all_claim body)
      (table_named tables table.text) (small (table_place tables table)) turn distinct columns table conds sorts (here table) scope slots vars n m fresh le h
      (nothing_left a b k) (nothing_right (too_many limit.Columns 32 sort_token sorts) (together (map statement_passes ss)) (nothing_right a b k))
  step_claim (tree.ForRows token turn rows body) scope slots vars n m fresh le h k =
      let ss = map (λ p. p.0) body in
      for_rows_done (map (table_of tables) tables) (names.all_faults (map (statement_faults tables) ss)) (together (map statement_passes ss)) (map (built tables) ss) (all_claim body)
      turn rows scope slots vars n m fresh le h k
  step_claim (tree.Branch token test ys ns) scope slots vars n m fresh le h k =
      let ss = map (λ p. p.0) ys in
      let ts = map (λ p. p.0) ns in
      branch_done (map (table_of tables) tables) (names.all_faults (map (statement_faults tables) ss)) (names.all_faults (map (statement_faults tables) ts)) (together (map statement_passes ss))
      (together (map statement_passes ts)) (map (built tables) ss) (map (built tables) ts) (all_claim ys) (all_claim ns) test scope slots vars n m fresh le h k
  step_claim (tree.Insert token table values) scope slots vars n m fresh le h k =
      without_rows vars n (open'.Insert _ _) _ (rolls-Insert _ _) refl
      (insert_well (map (table_of tables) tables) scope slots vars m (table_named tables table.text) (small (table_place tables table)) table values (here table) h)
  step_claim (tree.Update token table items conds) scope slots vars n m fresh le h k =
      without_rows vars n (open'.Update _ _ _) _ (rolls-Update _ _ _) refl
      (update_well (map (table_of tables) tables) scope slots vars m (table_named tables table.text) (small (table_place tables table)) table items conds (here table) h)
  step_claim (tree.Delete token table conds) scope slots vars n m fresh le h k =
      without_rows vars n (open'.Delete _ _) _ (rolls-Delete _ _) refl
      (delete_well (map (table_of tables) tables) scope slots vars m (table_named tables table.text) (small (table_place tables table)) table conds (here table) h)
  step_claim (tree.Print token values) scope slots vars n m fresh le h k =
      without_rows vars n (open'.Print _) _ (rolls-Print _) refl (printed scope slots vars m values h)
  step_claim (tree.Rollback token reason) scope slots vars n m fresh le h k = without_rows vars n (open'.Rollback reason) _ (rolls-Rollback reason) refl tt

  rolled : (x : tree.Stmt-F Stmt) (y : tree.Stmt-F Known) → map-Stmt Known Stmt (λ p. p.0) y ≡ x
      → Claim (map (table_of tables) tables) (statement_faults tables (roll-Stmt x)) (statement_passes (roll-Stmt x)) (built tables (roll-Stmt x))
  rolled x y is =
      let d = map-Stmt Known Stmt (λ p. p.0) y in
      subst (λ z. Claim (map (table_of tables) tables) (statement_faults tables (roll-Stmt z)) (statement_passes (roll-Stmt z)) (built tables (roll-Stmt z))) is
      (subst₃ (Claim (map (table_of tables) tables)) (sym (fold-roll-Stmt Faults (names.stmt_step tables) d)) (sym (fold-roll-Stmt (List PassedLimit) statement_step d))
      (sym (fold-roll-Stmt Built (build.stmt_step tables) d)) (step_claim y))

  pub stmt_claim : (s : Stmt) → Claim (map (table_of tables) tables) (statement_faults tables s) (statement_passes s) (built tables s)
  stmt_claim = ind-Stmt (λ s. Claim (map (table_of tables) tables) (statement_faults tables s) (statement_passes s) (built tables s)) rolled

  -- the statements of a procedure
  pub stmts_claim : (ss : List Stmt) → AllClaim (map (table_of tables) tables) (names.statements tables ss) (together (map statement_passes ss)) (map (built tables) ss)
  stmts_claim ss = subst (λ ts. AllClaim (map (table_of tables) tables) (names.statements tables ts) (together (map statement_passes ts)) (map (built tables) ts)) (map_map (λ p. p.0) claimed ss ∙ map-id ss) (all_claim (map claimed ss))
    where
      claimed : Stmt → Known
      claimed s = (s, stmt_claim s)
