-- The statements of a well formed procedure suit its variables and tables.
use Rattle.std.proofs.Common.{◌≡◌, ◌≤◌, ◌<◌, ◌⊎◌, inl, inr, ℕ, zero, suc, ◌+◌, ◌==◌, Bool, true, false, List, [], ◌∷◌, ◌++◌, Option, Some, None, All, map, length, if◌then◌else◌, refl, sym, ap, subst, ◌∙◌, arith, option_to_list}
use Rattle.std.specs.Prelude.{slice_get, nat_eq, ◌||◌, Contains}
use Rattle.std.proofs.lemmas.Bool.Decides.{eqb_tells, nat_tests}
use Rattle.std.proofs.lemmas.Grind.{flat_map-append}
use Rattle.std.proofs.lemmas.List.{length-map}
use Rattle.std.proofs.lemmas.Option.{slice_get_within}
use Rattle.std.specs.List.{AllZip, flat_map, list_any}
use Rattle.mv_values.specs.declared.schema.Column.{Column}
use Rattle.mv_values.specs.declared.schema.TableInfo.{TableInfo}
use Rattle.mv_values.specs.declared.calls.Call.{Call}
use Rattle.mv_values.specs.Tables.{columns_in, columns_at, key_in, key_columns}
use Rattle.mv_catalog.specs.declared.resolved.ProcInfo.{ProcInfo}
use Rattle.mv_catalog.specs.declared.resolved.RExpr.{RExpr}
use Rattle.mv_catalog.specs.declared.resolved.RExprKind.TheOpen as kind
use Rattle.mv_catalog.specs.declared.resolved.RCond.{RCond}
use Rattle.mv_catalog.specs.declared.resolved.RSetItem.{RSetItem}
use Rattle.mv_catalog.specs.declared.resolved.RStmt.{RStmt, roll-RStmt, map-RStmt, ind-RStmt, fold-roll-RStmt}
use Rattle.mv_catalog.specs.declared.resolved.RStmt.TheOpen.{RStmt-F, Assign, Select, Total, ForSelect, ForRows, Branch, Insert, Update, Delete, Print, Rollback}
use Rattle.mv_catalog.specs.Types.{Kind, Var, fixed, declared, rows, turn, Vars, read, field, kind_of_column, HasType}
use Rattle.mv_catalog.specs.Statements.{all_well, stmt_step, IsWell, kinds_of, IsTest, IsItem, IsOffset, IsOfKind, with_turn, rows_step, rows_in, rows_of, CountsFrom}
use Rattle.mv_catalog.proofs.Typed.{well_by}
use Rattle.mv_catalog.specs.Types.{int, kind_of_value}
use Rattle.mv_catalog.specs.Text.{IsProcedure, param_var, own_vars, vars_of}
use Rattle.mv_catalog.specs.declared.resolved.ParamInfo.{ParamInfo}
use Rattle.mv_catalog.specs.declared.resolved.ParamInfo.TheVariants as param
use Rattle.mv_values.specs.declared.value.Value.{Value}
use Rattle.mv_catalog.proofs.Named.{named_by, AtEachKind}
use Rattle.mv_recorded.specs.Reading.{kind_variables, variables, rights}
use Rattle.mv_recorded.proofs.Effects.{columns_there}
use Rattle.mv_recorded.specs.Own.{Flat, flat, flat_step, flat_all, Each, Within, IsStatedWell, AllSuit}
use Rattle.mv_recorded.proofs.Inverting.{each_join, each_both}

-- Expressions

abbrev Known : Vars → ℕ → Type 0
Known vars x = (v : Var) × (vars x ≡ Some v)

read_known : (o : Option Var) (t : Kind) → read o ≡ Some t → (v : Var) × (o ≡ Some v)
read_known (Some v) t h = (v, refl)
read_known None t h = cc

field_known : (o : Option Var) (c : ℕ) (t : Kind) → field o c ≡ Some t → (v : Var) × (o ≡ Some v)
field_known (Some v) c t h = (v, refl)
field_known None c t h = cc

kind_claim : (vars : Vars) (columns : List Kind) → AtEachKind vars columns kind_variables (Each (Known vars))
kind_claim vars columns (kind.Const v) t h = tt
kind_claim vars columns (kind.Var x) t h = (read_known (vars x) t h, tt)
kind_claim vars columns (kind.Field x c) t h = (field_known (vars x) c t h, tt)
kind_claim vars columns (kind.Col c) t h = tt
kind_claim vars columns (kind.One op a) t h = a.1 h.0 h.1
kind_claim vars columns (kind.Two op a b) t h = each_join (Known vars) (variables a.0) (variables b.0) (a.1 h.0 h.2) (b.1 h.1 h.3)

expr_known : (vars : Vars) (columns : List Kind) (e : RExpr) (t : Kind) → HasType vars columns e t → Each (Known vars) (variables e)
expr_known vars columns = named_by vars columns kind_variables (Each (Known vars)) (kind_claim vars columns)

-- Lists of expressions

abbrev AllKnown : Vars → List RExpr → Type 0
AllKnown vars es = Each (Known vars) (flat_map variables es)

known_both : (vars : Vars) (xs ys : List RExpr) → AllKnown vars xs → AllKnown vars ys → AllKnown vars (xs ++ ys)
known_both vars xs ys h k = subst (Each (Known vars)) (sym (flat_map-append variables xs ys)) (each_join (Known vars) (flat_map variables xs) (flat_map variables ys) h k)

known_one : (vars : Vars) (columns : List Kind) (e : RExpr) (t : Kind) → HasType vars columns e t → AllKnown vars (e ∷ [])
known_one vars columns e t h = each_join (Known vars) (variables e) [] (expr_known vars columns e t h) tt

conds_known : (vars : Vars) (ks : List Kind) (conds : List RCond) → All (IsTest vars ks) conds → AllKnown vars (rights conds)
conds_known vars ks [] h = tt
conds_known vars ks (c ∷ cs) h =
    let first = h 0 c (omega arith) in
    each_join (Known vars) (variables c.right) (flat_map variables (rights cs)) (expr_known vars [] c.right first.0 first.2) (conds_known vars ks cs (λ k d lt. h (suc k) d (omega (arith, lt))))

offset_known : (vars : Vars) (o : Option RExpr) → IsOffset vars o → AllKnown vars (option_to_list o)
offset_known vars None h = tt
offset_known vars (Some e) h = known_one vars [] e _ h

items_known : (vars : Vars) (info : TableInfo) (items : List RSetItem) → All (IsItem vars info) items → AllKnown vars (map (λ i. i.right) items)
items_known vars info [] h = tt
items_known vars info (i ∷ is) h =
    let first = h 0 i (omega arith) in
    each_join (Known vars) (variables i.right) (flat_map variables (map (λ i. i.right) is)) (expr_known vars (kinds_of info) i.right first.0 first.3) (items_known vars info is (λ k d lt. h (suc k) d (omega (arith, lt))))

values_known : (vars : Vars) (ks : List Kind) (es : List RExpr) → AllZip (IsOfKind vars) ks es → AllKnown vars es × (length ks ≡ length es)
values_known vars [] [] h = (tt, refl)
values_known vars (k ∷ ks) [] h = absurd h
values_known vars [] (e ∷ es) h = absurd h
values_known vars (k ∷ ks) (e ∷ es) h =
    let rest = values_known vars ks es h.1 in
    (each_join (Known vars) (variables e) (flat_map variables es) (expr_known vars [] e k h.0) rest.0, ap suc rest.1)

printed_known : (vars : Vars) (es : List RExpr) → All (λ e. (t : Kind) × IsOfKind vars t e) es → AllKnown vars es
printed_known vars [] h = tt
printed_known vars (e ∷ es) h =
    let first = h 0 e (omega arith) in
    each_join (Known vars) (variables e) (flat_map variables es) (expr_known vars [] e first.0 first.1) (printed_known vars es (λ k d lt. h (suc k) d (omega (arith, lt))))

-- Variables in a place

pub record Scope (params base : ℕ) (vars : Vars) (around : List ℕ) : Type 0 where
  pub declares : (x : ℕ) (t : Kind) → vars x ≡ Some (declared t) → (params ≤ x) × (x < base)
  pub over : (x : ℕ) (ts : List Kind) → vars x ≡ Some (rows ts) → x < params
  pub known : (x : ℕ) (v : Var) → vars x ≡ Some v → (x < base) ⊎ Within x around
  pub inner : (x : ℕ) → Within x around → vars x ≡ None → ⊥

reads_in : (params base : ℕ) (vars : Vars) (around xs : List ℕ) → Scope params base vars around → Each (Known vars) xs → Each (λ x. (x < base) ⊎ Within x around) xs
reads_in params base vars around [] s h = tt
reads_in params base vars around (x ∷ xs) s h = (s.known x h.0.0 h.0.1, reads_in params base vars around xs s h.1)

scope_turn : (params base : ℕ) (vars : Vars) (around : List ℕ) (row : ℕ) (ts : List Kind) → Scope params base vars around → Scope params base (with_turn vars row ts) (row ∷ around)
scope_turn params base vars around row ts s = record {
  declares = λ x t h. declares x t (nat_eq x row) h;
  over = λ x us h. over x us (nat_eq x row) h;
  known = λ x v h. known x v (nat_eq x row) refl h;
  inner = λ x w h. inner x (nat_eq x row) refl w h;
}
  where
    declares : (x : ℕ) (t : Kind) (b : Bool) → (if b then Some (turn ts) else vars x) ≡ Some (declared t) → (params ≤ x) × (x < base)
    declares x t true h = cc
    declares x t false h = s.declares x t h

    over : (x : ℕ) (us : List Kind) (b : Bool) → (if b then Some (turn ts) else vars x) ≡ Some (rows us) → x < params
    over x us true h = cc
    over x us false h = s.over x us h

    known : (x : ℕ) (v : Var) (b : Bool) → nat_eq x row ≡ b → (if b then Some (turn ts) else vars x) ≡ Some v → (x < base) ⊎ ((x ≡ row) ⊎ Within x around)
    known x v true e h = inr (inl (grind (arith, nat_tests)))
    known x v false e h = weaker (s.known x v h)
      where
        weaker : (x < base) ⊎ Within x around → (x < base) ⊎ ((x ≡ row) ⊎ Within x around)
        weaker (inl lt) = inl lt
        weaker (inr w) = inr (inr w)

    inner : (x : ℕ) (b : Bool) → nat_eq x row ≡ b → (x ≡ row) ⊎ Within x around → (if b then Some (turn ts) else vars x) ≡ None → ⊥
    inner x true e w h = cc
    inner x false e (inl at) h = let apart : x ≡ row → ⊥ = λ s. grind (arith, nat_tests) in apart at
    inner x false e (inr w) h = s.inner x w h

-- Tables

wide : (tables : List TableInfo) (t : ℕ) (info : TableInfo) → slice_get tables t ≡ Some info → length (kinds_of info) ≡ length (columns_at tables t)
wide tables t info is = length-map info.columns (λ (c : Column). kind_of_column c.kind) ∙ sym (ap (λ o. length (columns_in o)) is)

not_contained : (keys : List ℕ) (c : ℕ) → (Contains keys c → ⊥) → list_any (λ k. k == c) keys ≡ false
not_contained [] c h = refl
not_contained (k ∷ ks) c h = by (k == c) refl (not_contained ks c (λ at. h (suc at.0, (let lt : at.0 < length ks = at.1 in omega (arith, lt)), at.2)))
  where
    by : (b : Bool) → (k == c) ≡ b → list_any (λ k. k == c) ks ≡ false → (b || list_any (λ k. k == c) ks) ≡ false
    by true e rest = let same : k ≡ c = grind (arith, eqb_tells) in absurd (h (0, (omega arith), same))
    by false e rest = rest

plain_items : (tables : List TableInfo) (vars : Vars) (t : ℕ) (info : TableInfo) (items : List RSetItem) → slice_get tables t ≡ Some info → All (IsItem vars info) items
    → Each (λ (i : RSetItem). (i.column < length (columns_at tables t)) × (list_any (λ k. k == i.column) (key_columns tables t) ≡ false)) items
plain_items tables vars t info [] is h = tt
plain_items tables vars t info (i ∷ rest) is h =
    let first = h 0 i (omega arith) in
    let lt : i.column < length (kinds_of info) = slice_get_within (kinds_of info) i.column first.0 first.1 in (
      (omega (arith, lt, wide tables t info is), ap (λ o. list_any (λ k. k == i.column) (key_in o)) is ∙ not_contained info.key i.column first.2),
      plain_items tables vars t info rest is (λ k d lt. h (suc k) d (omega (arith, lt))),
    )

targets_own : (params base : ℕ) (vars : Vars) (around : List ℕ) (ks : List Kind) (cs xs : List ℕ) → Scope params base vars around
    → AllZip (λ c x. (t : Kind) × (slice_get ks c ≡ Some t) × (vars x ≡ Some (declared t))) cs xs → Each (λ x. (params ≤ x) × (x < base)) xs
targets_own params base vars around ks [] [] s h = tt
targets_own params base vars around ks (c ∷ cs) [] s h = absurd h
targets_own params base vars around ks [] (x ∷ xs) s h = absurd h
targets_own params base vars around ks (c ∷ cs) (x ∷ xs) s h = (s.declares x h.0.0 h.0.2, targets_own params base vars around ks cs xs s h.1)

-- Statements

abbrev Claim : List TableInfo → ℕ → ℕ → RStmt → Type 0
Claim tables params base s =
    (vars : Vars) (around : List ℕ) → IsWell tables s vars → Scope params base vars around → Each (λ x. base ≤ x) (rows_in s) → Each (IsStatedWell tables params base) (flat s around)

abbrev Suited : List TableInfo → ℕ → ℕ → Type 0
Suited tables params base = (s : RStmt) × Claim tables params base s

abbrev plain : (tables : List TableInfo) (params base : ℕ) → List (Suited tables params base) → List RStmt
plain tables params base known = map (λ k. k.0) known

all_suit : (tables : List TableInfo) (params base : ℕ) (known : List (Suited tables params base)) (vars : Vars) (around : List ℕ) → all_well (IsWell tables) (plain tables params base known) vars → Scope params base vars around
    → Each (λ x. base ≤ x) (rows_of (plain tables params base known)) → Each (IsStatedWell tables params base) (flat_all (plain tables params base known) around)
all_suit tables params base [] vars around h s high = tt
all_suit tables params base (k ∷ ks) vars around h s high =
    let split = each_both (λ x. base ≤ x) (rows_in k.0) (rows_of (plain tables params base ks)) high in
    each_join (IsStatedWell tables params base) (flat k.0 around) (flat_all (plain tables params base ks) around) (k.1 vars around h.0 s split.0) (all_suit tables params base ks vars around h.1 s split.1)

abbrev unknown : (tables : List TableInfo) (params base : ℕ) → RStmt-F (Suited tables params base) → RStmt-F RStmt
unknown tables params base y = map-RStmt (Suited tables params base) RStmt (λ k. k.0) y

step_suits : (tables : List TableInfo) (params base : ℕ) (y : RStmt-F (Suited tables params base)) (vars : Vars) (around : List ℕ) → stmt_step tables RStmt (λ s. s) (IsWell tables) (unknown tables params base y) vars
    → Scope params base vars around → Each (λ x. base ≤ x) (rows_step (map-RStmt RStmt (List ℕ) rows_in (unknown tables params base y)))
    → Each (IsStatedWell tables params base) (flat_step (map-RStmt RStmt Flat flat (unknown tables params base y)) around)
step_suits tables params base (Assign x e) vars around h s high =
    (record { columns = tt; targets = (s.declares x h.0 h.1, tt); loop = tt; over = tt; items = tt; reads = reads_in params base vars around _ s (known_one vars [] e h.0 h.2) }, tt)
step_suits tables params base (Select cs xs t conds sorts offset) vars around h s high = (
  record {
    columns = columns_there {X = RStmt} tables (λ s. s) (IsWell tables) (Select cs xs t conds sorts offset) vars h;
    targets = targets_own params base vars around (kinds_of h.0.0) cs xs s h.0.2.0;
    loop = tt;
    over = tt;
    items = tt;
    reads = reads_in params base vars around _ s (known_both vars (rights conds) (option_to_list offset) (conds_known vars (kinds_of h.0.0) conds h.0.2.1) (offset_known vars offset h.1));
  },
  tt,
)
step_suits tables params base (Total agg x t conds) vars around h s high =
    (record { columns = tt; targets = (s.declares x h.2.0.0 h.2.0.2, tt); loop = tt; over = tt; items = tt; reads = reads_in params base vars around _ s (conds_known vars (kinds_of h.0) conds h.2.1) }, tt)
step_suits tables params base (ForSelect x once cs t conds sorts body) vars around h s high = (
  record { columns = tt; targets = tt; loop = (high.0, λ w. s.inner x w h.2.2); over = tt; items = tt; reads = reads_in params base vars around _ s (conds_known vars (kinds_of h.0) conds h.2.0) },
  all_suit tables params base body (with_turn vars x h.2.3.0) (x ∷ around) h.2.3.2 (scope_turn params base vars around x h.2.3.0 s) high.1,
)
step_suits tables params base (ForRows x y body) vars around h s high = (
  record { columns = tt; targets = tt; loop = (high.0, λ w. s.inner x w h.2); over = s.over y h.0 h.1; items = tt; reads = tt },
  all_suit tables params base body (with_turn vars x h.0) (x ∷ around) h.3 (scope_turn params base vars around x h.0 s) high.1,
)
step_suits tables params base (Branch e ys ns) vars around h s high =
    let split = each_both (λ x. base ≤ x) (rows_of (plain tables params base ys)) (rows_of (plain tables params base ns)) high in (
      record { columns = tt; targets = tt; loop = tt; over = tt; items = tt; reads = reads_in params base vars around _ s (known_one vars [] e _ h.0) },
      each_join (IsStatedWell tables params base) (flat_all (plain tables params base ys) around) (flat_all (plain tables params base ns) around) (all_suit tables params base ys vars around h.1 s split.0) (all_suit tables params base ns vars around h.2 s split.1),
    )
step_suits tables params base (Insert t es) vars around h s high =
    let all = values_known vars (kinds_of h.0) es h.2 in
    (record { columns = tt; targets = tt; loop = tt; over = tt; items = tt; reads = reads_in params base vars around _ s all.0 }, tt)
step_suits tables params base (Update t items conds) vars around h s high = (
  record {
    columns = tt;
    targets = tt;
    loop = tt;
    over = tt;
    items = plain_items tables vars t h.0 items h.1 h.2.0;
    reads = reads_in params base vars around _ s (known_both vars (map (λ i. i.right) items) (rights conds) (items_known vars h.0 items h.2.0) (conds_known vars (kinds_of h.0) conds h.2.2));
  },
  tt,
)
step_suits tables params base (Delete t conds) vars around h s high =
    (record { columns = tt; targets = tt; loop = tt; over = tt; items = tt; reads = reads_in params base vars around _ s (conds_known vars (kinds_of h.0) conds h.2) }, tt)
step_suits tables params base (Print es) vars around h s high =
    (record { columns = tt; targets = tt; loop = tt; over = tt; items = tt; reads = reads_in params base vars around _ s (printed_known vars es h) }, tt)
step_suits tables params base (Rollback reason) vars around h s high = (record { columns = tt; targets = tt; loop = tt; over = tt; items = tt; reads = tt }, tt)

statement_suits : (tables : List TableInfo) (params base : ℕ) (s : RStmt) → Claim tables params base s
statement_suits tables params base = ind-RStmt (Claim tables params base) (λ x y is.
    subst (λ z. Claim tables params base (roll-RStmt z)) is (λ vars around h s high.
    let z : RStmt-F RStmt = unknown tables params base y in
    subst (Each (IsStatedWell tables params base)) (sym (ap (λ f. f around) (fold-roll-RStmt Flat flat_step z)))
    (step_suits tables params base y vars around (well_by tables z (roll-RStmt z) vars refl h) s (subst (Each (λ x. base ≤ x)) (fold-roll-RStmt (List ℕ) rows_step z) high))))

known_firsts : (tables : List TableInfo) (params base : ℕ) (ss : List RStmt) → map (λ (k : Suited tables params base). k.0) (map (λ s. (s, statement_suits tables params base s)) ss) ≡ ss
known_firsts tables params base [] = refl
known_firsts tables params base (s ∷ ss) = ap (λ l. s ∷ l) (known_firsts tables params base ss)

pub body_suits : (tables : List TableInfo) (params base : ℕ) (ss : List RStmt) (vars : Vars) → all_well (IsWell tables) ss vars → Scope params base vars [] → Each (λ x. base ≤ x) (rows_of ss) → Each (IsStatedWell tables params base) (flat_all ss [])
body_suits tables params base ss vars h s high =
    subst (λ ts. Each (IsStatedWell tables params base) (flat_all ts [])) (known_firsts tables params base ss)
    (all_suit tables params base (map (λ s. (s, statement_suits tables params base s)) ss) vars [] (subst (λ ts. all_well (IsWell tables) ts vars) (sym (known_firsts tables params base ss)) h) s
    (subst (λ ts. Each (λ x. base ≤ x) (rows_of ts)) (sym (known_firsts tables params base ss)) high))

-- The variables of a procedure

abbrev own_list : List ParamInfo → List Value → List Var
own_list ps ds = map param_var ps ++ map (λ v. declared (kind_of_value v)) ds ++ fixed int ∷ []

declares_at : (ps : List ParamInfo) (ds : List Value) (x : ℕ) (t : Kind) → slice_get (own_list ps ds) x ≡ Some (declared t) → length ps ≤ x
declares_at [] ds x t h = omega arith
declares_at (p ∷ ps) ds zero t h = by p h
  where
    by : (p : ParamInfo) → Some (param_var p) ≡ Some (declared t) → length (p ∷ ps) ≤ 0
    by (param.One k) e = cc
    by (param.Many ks) e = cc
declares_at (p ∷ ps) ds (suc x) t h = omega (arith, declares_at ps ds x t h)

over_at : (ps : List ParamInfo) (ds : List Value) (x : ℕ) (ts : List Kind) → slice_get (own_list ps ds) x ≡ Some (rows ts) → x < length ps
over_at [] [] zero ts h = cc
over_at [] [] (suc x) ts h = cc
over_at [] (d ∷ ds) zero ts h = cc
over_at [] (d ∷ ds) (suc x) ts h = absurd (let lt : x < 0 = over_at [] ds x ts h in omega (arith, lt))
over_at (p ∷ ps) ds zero ts h = omega arith
over_at (p ∷ ps) ds (suc x) ts h = omega (arith, over_at ps ds x ts h)

long_own : (ps : List ParamInfo) (ds : List Value) → length (own_list ps ds) ≡ length ps + length ds + 1
long_own [] [] = refl
long_own [] (d ∷ ds) = let rest = long_own [] ds in omega (arith, rest)
long_own (p ∷ ps) ds = let rest = long_own ps ds in omega (arith, rest)

scope_of : (ps : List ParamInfo) (ds : List Value) → Scope (length ps) (length ps + length ds + 1) (slice_get (own_list ps ds)) []
scope_of ps ds = record {
  declares = λ x t h. (declares_at ps ds x t h, omega (arith, slice_get_within (own_list ps ds) x (declared t) h, long_own ps ds));
  over = λ x ts h. over_at ps ds x ts h;
  known = λ x v h. inl (omega (arith, slice_get_within (own_list ps ds) x v h, long_own ps ds));
  inner = λ x w h. w;
}

counts_high : (b n : ℕ) (ms : List ℕ) → b ≤ n → CountsFrom n ms → Each (λ x. b ≤ x) ms
counts_high b n [] le h = tt
counts_high b n (m ∷ ms) le h = (omega (arith, le, h.0), counts_high b (n + 1) ms (omega (arith, le)) h.1)

-- the law
pub procedure_suits : (tables : List TableInfo) (proc : ProcInfo) (call : Call) → IsProcedure tables proc → length call.arguments ≡ length proc.params → AllSuit tables proc call
procedure_suits tables proc call p many =
    let n : ℕ = length proc.params in
    subst (λ k. Each (IsStatedWell tables k (k + length proc.defaults + 1)) (flat_all proc.body [])) (sym many)
    (body_suits tables n (n + length proc.defaults + 1) proc.body (vars_of proc) p.body (scope_of proc.params proc.defaults)
    (counts_high (n + length proc.defaults + 1) (length (own_vars proc)) (rows_of proc.body) (let e = long_own proc.params proc.defaults in omega (arith, e)) p.loops))
