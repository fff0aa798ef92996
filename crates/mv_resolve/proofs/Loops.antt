-- The names inside a loop, and the numbers of loops.
use Rattle.std.proofs.Common.{◌≡◌, ℕ, suc, ◌≤◌, ◌+◌, Bool, true, false, List, [], ◌∷◌, ◌++◌, Option, Some, None, refl, sym, ap, subst, subst₂, ◌∙◌, map, length, slice_get, arith, nat_eq, eqb-true, if◌then◌else◌}
use Rattle.std.specs.List.{flat_map}
use Rattle.std.proofs.lemmas.Bool.{eqb-false}
use Rattle.mv_ast.specs.declared.tree.Name.{Name}
use Rattle.mv_ast.specs.declared.tree.ColDef.{ColDef}
use Rattle.mv_names.specs.declared.scope.Binding.{Binding}
use Rattle.mv_names.specs.declared.scope.Binding.TheVariants.{Rows}
use Rattle.mv_names.specs.declared.scope.Entry.{Entry}
use Rattle.mv_names.specs.Named.{Text, same_text, first_named}
use Rattle.mv_names.specs.Scope.{entry_of, selected_field, fields_of, rows_in}
use Rattle.mv_names.specs.Typing.{column_faults}
use Rattle.mv_names.specs.Statements.{rows_faults, not_rows}
use Rattle.mv_resolve.specs.declared.slot.NamedSlot.{NamedSlot}
use Rattle.mv_resolve.specs.Building.{slot_named, number_in, fields_in, names_of, column_number}
use Rattle.mv_catalog.specs.Types.{Kind, Var, rows, turn, Vars}
use Rattle.mv_catalog.specs.Statements.{with_turn, CountsFrom}
use Rattle.mv_resolve.proofs.Lists.{nothing_left, nothing_right}
use Rattle.mv_resolve.proofs.Scopes.{SameFields, Means, Same, Matches, kinds_in, column_typed}

before_step : {A : Type 0} (x z : A) (b : Bool) (first first' : Option A) → (if b then Some x else first) ≡ Some z → (first ≡ Some z → first' ≡ Some z)
    → (if b then Some x else first') ≡ Some z
before_step x z true first first' h ih = h
before_step x z false first first' h ih = ih h

-- the first of a name, where more stand behind
pub first_before : {A : Type 0} (name : A → Text) (xs ys : List A) (n : Text) (z : A) → first_named name xs n ≡ Some z → first_named name (xs ++ ys) n ≡ Some z
first_before name [] ys n z h = cc
first_before name (x ∷ xs) ys n z h =
    before_step x z (same_text (name x) n) (first_named name xs n) (first_named name (xs ++ ys) n) h (first_before name xs ys n z)

behind_step : {A : Type 0} (x : A) (b : Bool) (first first' last : Option A) → (if b then Some x else first) ≡ None → (first ≡ None → first' ≡ last) → (if b then Some x else first') ≡ last
behind_step x true first first' last h ih = cc
behind_step x false first first' last h ih = ih h

pub first_behind : {A : Type 0} (name : A → Text) (xs ys : List A) (n : Text) → first_named name xs n ≡ None → first_named name (xs ++ ys) n ≡ first_named name ys n
first_behind name [] ys n h = refl
first_behind name (x ∷ xs) ys n h =
    behind_step x (same_text (name x) n) (first_named name xs n) (first_named name (xs ++ ys) n) (first_named name ys n) h (first_behind name xs ys n)

-- nothing stands at this number or at a greater one
abbrev pub Fresh : Vars → ℕ → Type 0
Fresh vars n = (m : ℕ) → n ≤ m → vars m ≡ None

turn_here : (vars : Vars) (row : ℕ) (ts : List Kind) (b : Bool) → nat_eq row row ≡ b → (if b then Some (turn ts) else vars row) ≡ Some (turn ts)
turn_here vars row ts true e = refl
turn_here vars row ts false e = absurd (eqb-false row row e refl)

turn_there : (vars : Vars) (row m : ℕ) (ts : List Kind) (v : Var) (b : Bool) → nat_eq m row ≡ b → Fresh vars row → vars m ≡ Some v → (if b then Some (turn ts) else vars m) ≡ Some v
turn_there vars row m ts v true e fresh at = let same : m ≡ row = eqb-true m row e in let none : vars m ≡ None = fresh m (omega arith) in cc
turn_there vars row m ts v false e fresh at = at

fresh_step : (vars : Vars) (row m : ℕ) (ts : List Kind) (b : Bool) → nat_eq m row ≡ b → row + 1 ≤ m → vars m ≡ None → (if b then Some (turn ts) else vars m) ≡ None
fresh_step vars row m ts true e lt none = let same : m ≡ row = eqb-true m row e in absurd (omega arith)
fresh_step vars row m ts false e lt none = none

pub fresh_behind : (vars : Vars) (row : ℕ) (ts : List Kind) → Fresh vars row → Fresh (with_turn vars row ts) (row + 1)
fresh_behind vars row ts fresh m le = fresh_step vars row m ts (nat_eq m row) refl le (fresh m (omega arith))

one_more : (vars : Vars) (e : Entry) (s : NamedSlot) (v : Var) (b : Bool) → vars s.number ≡ Some v → Means e.binding v s.fields → Same vars (if b then Some e else None) (if b then Some s else None)
one_more vars e s v true at means = (v, at, means)
one_more vars e s v false at means = tt

module _ (scope : List Entry) (slots : List NamedSlot) (vars : Vars) (e : Entry) (s : NamedSlot) (ts : List Kind) where
  within : (x : Text) (o : Option Entry) (q : Option NamedSlot) → Fresh vars s.number → e.name ≡ s.name → Means e.binding (turn ts) s.fields
      → entry_of scope x ≡ o → slot_named slots x ≡ q → Same vars o q → Same (with_turn vars s.number ts) (entry_of (scope ++ e ∷ []) x) (slot_named (slots ++ s ∷ []) x)
  within x None None fresh name means io iq same =
      subst₂ (Same (with_turn vars s.number ts)) (sym (first_behind (λ (y : Entry). y.name) scope (e ∷ []) x io)) (sym (first_behind (λ (y : NamedSlot). y.name) slots (s ∷ []) x iq))
      (subst (λ n. Same (with_turn vars s.number ts) (if same_text e.name x then Some e else None) (if same_text n x then Some s else None)) name
      (one_more (with_turn vars s.number ts) e s (turn ts) (same_text e.name x) (turn_here vars s.number ts (nat_eq s.number s.number) refl) means))
  within x None (Some q) fresh name means io iq same = absurd same
  within x (Some o) None fresh name means io iq same = absurd same
  within x (Some o) (Some q) fresh name means io iq same =
      subst₂ (Same (with_turn vars s.number ts)) (sym (first_before (λ (y : Entry). y.name) scope (e ∷ []) x o io)) (sym (first_before (λ (y : NamedSlot). y.name) slots (s ∷ []) x q iq))
      (same.0, turn_there vars s.number q.number ts same.0 (nat_eq q.number s.number) refl fresh same.1, same.2)

  -- the names with the row of a loop
  pub matches_within : Matches scope slots vars → Fresh vars s.number → e.name ≡ s.name → Means e.binding (turn ts) s.fields
      → Matches (scope ++ e ∷ []) (slots ++ s ∷ []) (with_turn vars s.number ts)
  matches_within m fresh name means x = within x (entry_of scope x) (slot_named slots x) fresh name means refl refl (m x)

-- the columns that a loop selects
pub record Chosen (columns : List ColDef) (ns : List Name) : Type 0 where
  pub types : List Kind
  pub fields : SameFields (map (selected_field (Some columns)) ns) types (names_of ns)
  pub places : map (slice_get (kinds_in columns)) (map (column_number columns) ns) ≡ map Some types
  pub count : length types ≡ length ns

pub chosen : (columns : List ColDef) → length columns ≤ 32 → (ns : List Name) → flat_map (column_faults (Some columns)) ns ≡ [] → Chosen columns ns
chosen columns few [] h = record { types = []; fields = tt; places = refl; count = refl }
chosen columns few (n ∷ ns) h =
    let own = column_faults (Some columns) n in
    let t = column_typed columns n few (nothing_left own (flat_map (column_faults (Some columns)) ns) h) in
    let rest = chosen columns few ns (nothing_right own (flat_map (column_faults (Some columns)) ns) h) in
    record {
      types = t.0 ∷ rest.types;
      fields = (t.1, refl, rest.fields);
      places = ap (λ x. x ∷ map (slice_get (kinds_in columns)) (map (column_number columns) ns)) t.2 ∙ ap (λ xs. Some t.0 ∷ xs) rest.places;
      count = ap suc rest.count;
    }

-- the columns of a ROWS parameter
abbrev pub Over : Vars → Option Entry → Option NamedSlot → Type 0
Over vars e s = (ts : List Kind) × (vars (number_in s) ≡ Some (rows ts)) × SameFields (fields_of e) ts (fields_in s) × (length ts ≤ 32)

rows_means : (vars : Vars) (m : Binding) (v : Var) (fs : List Text) (token x : ℕ) → vars x ≡ Some v → Means m v fs → not_rows token m ≡ []
    → (ts : List Kind) × (vars x ≡ Some (rows ts)) × SameFields (rows_in m) ts fs × (length ts ≤ 32)
rows_means vars (Rows fields) (rows ks) fs token x at means h = (ks, at, means.0, means.1)
rows_means vars (Rows fields) v fs token x at means h = absurd means
rows_means vars m v fs token x at means h = cc

pub rows_same : (e : Option Entry) (s : Option NamedSlot) (vars : Vars) (token : ℕ) → Same vars e s → rows_faults token e ≡ [] → Over vars e s
rows_same None s vars token same h = cc
rows_same (Some e) None vars token same h = absurd same
rows_same (Some e) (Some s) vars token same h = rows_means vars e.binding same.0 s.fields token s.number same.1 same.2 h

-- numbers that count on
pub counts_on : (n : ℕ) (xs ys : List ℕ) → CountsFrom n xs → CountsFrom (n + length xs) ys → CountsFrom n (xs ++ ys)
counts_on n [] ys h k = let e : n + 0 ≡ n = omega arith in subst (λ m. CountsFrom m ys) e k
counts_on n (x ∷ xs) ys h k =
    let e : n + suc (length xs) ≡ n + 1 + length xs = omega arith in
    (h.0, counts_on (n + 1) xs ys h.1 (subst (λ m. CountsFrom m ys) e k))
