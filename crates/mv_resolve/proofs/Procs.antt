-- Procedures without faults.
use Rattle.std.proofs.Common.{◌≡◌, ℕ, suc, ◌≤◌, ◌+◌, ◌-◌, ◌^◌, Bool, true, false, not, List, [], ◌∷◌, ◌++◌, Option, Some, None, refl, sym, ap, subst, subst₂, ◌∙◌, map, length, slice_get, arith, All, length-append, leb-true, if◌then◌else◌}
use Rattle.std.specs.List.{flat_map}
use Rattle.std.specs.Cmp.Lexicographic.{same_text as told_same}
use Rattle.std.proofs.lemmas.List.{length-map}
use Rattle.std.proofs.lemmas.Option.{slice_get_past}
use Rattle.std.proofs.lemmas.Bool.{not-false}
use Rattle.mv_values.specs.declared.value.Value.{Value}
use Rattle.mv_values.specs.declared.value.Value.TheVariants as value
use Rattle.mv_ast.specs.declared.limit.Which.TheVariants as limit
use Rattle.mv_ast.specs.declared.tree.ColDef.{ColDef}
use Rattle.mv_ast.specs.declared.tree.TableDef.{TableDef}
use Rattle.mv_ast.specs.declared.tree.Param.{Param}
use Rattle.mv_ast.specs.declared.tree.ParamKind.{ParamKind}
use Rattle.mv_ast.specs.declared.tree.ParamKind.TheVariants as param
use Rattle.mv_ast.specs.declared.tree.VarDef.{VarDef}
use Rattle.mv_ast.specs.declared.tree.ProcDef.{ProcDef}
use Rattle.mv_ast.specs.declared.tree.Stmt.{Stmt}
use Rattle.mv_ast.specs.declared.tree.Stmt.TheOpen as tree
use Rattle.mv_ast.specs.declared.tree.Stmt.TheViews.{roll-Stmt}
use Rattle.mv_ast.specs.declared.tree.Stmt.TheFolds.{fold-roll-Stmt, map-Stmt, ind-Stmt}
use Rattle.mv_ast.specs.Limits.{too_many, column_token, param_token, declared_token, together, statement_passes, statement_tokens, tokens_step, procedure_passes, param_passes, kind_passes}
use Rattle.mv_ast.proofs.Limited.{few}
use Rattle.mv_names.specs.declared.scope.Entry.{Entry}
use Rattle.mv_names.specs.First.{wrong}
use Rattle.mv_names.specs.Named.{Text, same_text}
use Rattle.mv_names.specs.Scope.{entry_of, found, parameter, variable, binding_of, declared_field, scope_of}
use Rattle.mv_names.specs.Statements.{doubles}
use Rattle.mv_names.specs.Statements as names
use Rattle.mv_names.specs.Writes.{all_writes, writes}
use Rattle.mv_names.specs.Faults as faults
use Rattle.mv_resolve.specs.declared.slot.NamedSlot.{NamedSlot}
use Rattle.mv_resolve.specs.Building as build
use Rattle.mv_resolve.specs.Building.{Built, built, loops_in, slot, small, slot_named, param_slots, param_fields, variable_slots, slots_of, found_number, param_of, table_of, procedure_of, column_name}
use Rattle.mv_catalog.specs.Types.{int, Var, fixed, declared, Vars, kind_of_value, kind_of_column}
use Rattle.mv_catalog.specs.Statements.{rows_of, CountsFrom}
use Rattle.mv_catalog.specs.Text.{param_var, own_vars, vars_of, IsShort, IsProcedure}
use Rattle.mv_resolve.proofs.Lists.{nothing_left, nothing_right, not_when, all_mapped, small_is}
use Rattle.mv_catalog.proofs.Maps.{map_map}
use Rattle.mv_resolve.proofs.Doubles.{doubles_apart, none_named}
use Rattle.mv_resolve.proofs.Scopes.{SameFields, Means, Same, Matches, type_known}
use Rattle.mv_resolve.proofs.Exprs.{value_known}
use Rattle.mv_resolve.proofs.Loops.{first_before, first_behind, Fresh}
use Rattle.mv_resolve.proofs.Stmts.{stmts_claim}
use Rattle.mv_resolve.proofs.Sized.{all_sized}
use Rattle.mv_resolve.proofs.Still.{all_still}

-- What stands at the numbers from one on

abbrev pub At : Vars → ℕ → List Var → Type 0
At vars i [] = Unit {0}
At vars i (v ∷ vs) = (vars i ≡ Some v) × At vars (i + 1) vs

at_by : (vars : Vars) (vs : List Var) (i : ℕ) → ((j : ℕ) → vars (i + j) ≡ slice_get vs j) → At vars i vs
at_by vars [] i h = tt
at_by vars (v ∷ vs) i h =
    let e : i + 0 ≡ i = omega arith in
    (subst (λ k. vars k ≡ Some v) e (h 0), at_by vars vs (i + 1) (λ j. let f : i + suc j ≡ i + 1 + j = omega arith in subst (λ k. vars k ≡ slice_get vs j) f (h (suc j))))

at_left : (vars : Vars) (i : ℕ) (vs ws : List Var) → At vars i (vs ++ ws) → At vars i vs
at_left vars i [] ws h = tt
at_left vars i (v ∷ vs) ws h = (h.0, at_left vars (i + 1) vs ws h.1)

at_right : (vars : Vars) (i : ℕ) (vs ws : List Var) → At vars i (vs ++ ws) → At vars (i + length vs) ws
at_right vars i [] ws h = let e : i ≡ i + 0 = omega arith in subst (λ k. At vars k ws) e h
at_right vars i (v ∷ vs) ws h =
    let e : i + 1 + length vs ≡ i + suc (length vs) = omega arith in
    subst (λ k. At vars k ws) e (at_right vars (i + 1) vs ws h.1)

-- Entries and slots, one beside the other

abbrev pub Pairs : Vars → List Entry → List NamedSlot → Type 0
Pairs vars [] [] = Unit {0}
Pairs vars (e ∷ es) (s ∷ ss) = (e.name ≡ s.name) × ((v : Var) × (vars s.number ≡ Some v) × Means e.binding v s.fields) × Pairs vars es ss
Pairs vars es ss = ⊥

pair_step : (vars : Vars) (e : Entry) (s : NamedSlot) (b : Bool) (o : Option Entry) (q : Option NamedSlot) → ((v : Var) × (vars s.number ≡ Some v) × Means e.binding v s.fields) → Same vars o q
    → Same vars (if b then Some e else o) (if b then Some s else q)
pair_step vars e s true o q means h = means
pair_step vars e s false o q means h = h

pairs_match : (vars : Vars) (es : List Entry) (ss : List NamedSlot) → Pairs vars es ss → Matches es ss vars
pairs_match vars [] [] h x = tt
pairs_match vars [] (s ∷ ss) h x = absurd h
pairs_match vars (e ∷ es) [] h x = absurd h
pairs_match vars (e ∷ es) (s ∷ ss) h x =
    subst (λ n. Same vars (if same_text e.name x then Some e else entry_of es x) (if same_text n x then Some s else slot_named ss x)) h.0
    (pair_step vars e s (same_text e.name x) (entry_of es x) (slot_named ss x) h.1 (pairs_match vars es ss h.2 x))

pairs_on : (vars : Vars) (es es' : List Entry) (ss ss' : List NamedSlot) → Pairs vars es ss → Pairs vars es' ss' → Pairs vars (es ++ es') (ss ++ ss')
pairs_on vars [] es' [] ss' h k = k
pairs_on vars [] es' (s ∷ ss) ss' h k = absurd h
pairs_on vars (e ∷ es) es' [] ss' h k = absurd h
pairs_on vars (e ∷ es) es' (s ∷ ss) ss' h k = (h.0, h.1, pairs_on vars es es' ss ss' h.2 k)

-- the columns of a ROWS parameter
declared_fields : (columns : List ColDef) → SameFields (map declared_field columns) (map kind_of_column (map (λ (c : ColDef). c.kind) columns)) (map column_name columns)
declared_fields [] = tt
declared_fields (c ∷ cs) = (type_known c.kind, refl, declared_fields cs)

param_means : (k : ParamKind) → kind_passes k ≡ [] → Means (binding_of k) (param_var (param_of k)) (param_fields k)
param_means (param.One type) h = type_known type
param_means (param.Many columns) h =
    let most = few limit.Columns 32 column_token columns h in (
      declared_fields columns,
      omega (arith, length-map (map (λ (c : ColDef). c.kind) columns) kind_of_column, length-map columns (λ (c : ColDef). c.kind)),
    )

param_pairs : (vars : Vars) (qs : List Param) (i : ℕ) → i + length qs ≤ 2 ^ 16 - 1 → together (map param_passes qs) ≡ [] → At vars i (map (λ (q : Param). param_var (param_of q.kind)) qs)
    → Pairs vars (map parameter qs) (param_slots i qs)
param_pairs vars [] i le h at = tt
param_pairs vars (q ∷ qs) i le h at =
    let is : i ≡ small i = sym (small_is i (omega arith)) in (
      refl,
      (param_var (param_of q.kind), subst (λ k. vars k ≡ Some (param_var (param_of q.kind))) is at.0, param_means q.kind (nothing_left (param_passes q) (together (map param_passes qs)) h)),
      param_pairs vars qs (i + 1) (omega arith) (nothing_right (param_passes q) (together (map param_passes qs)) h) at.1,
    )

variable_pairs : (vars : Vars) (vs : List VarDef) (i : ℕ) → i + length vs ≤ 2 ^ 16 - 1 → At vars i (map (λ (v : VarDef). declared (kind_of_value v.initial.value)) vs)
    → Pairs vars (map variable vs) (variable_slots i vs)
variable_pairs vars [] i le at = tt
variable_pairs vars (v ∷ vs) i le at =
    let is : i ≡ small i = sym (small_is i (omega arith)) in (
      refl,
      (declared (kind_of_value v.initial.value), subst (λ k. vars k ≡ Some (declared (kind_of_value v.initial.value))) is at.0, value_known v.initial.value),
      variable_pairs vars vs (i + 1) (omega arith) at.1,
    )

-- The names of a procedure outside its loops

no_slot : (vars : Vars) (o : Option Entry) (q : Option NamedSlot) → Same vars o q → o ≡ None → q ≡ None
no_slot vars None None same h = refl
no_slot vars None (Some q) same h = absurd same
no_slot vars (Some e) q same h = cc

module _ (vars : Vars) (es : List Entry) (ss : List NamedSlot) (n : ℕ) where
  last_other : (x : Text) (o : Option Entry) (q : Option NamedSlot) → same_text found.name x ≡ false → slot_named ss x ≡ q → Same vars o q
      → Same vars o (slot_named (ss ++ slot n found.name [] ∷ []) x)
  last_other x o None e is same =
      let last : (if same_text found.name x then Some (slot n found.name []) else None) ≡ None = ap (λ c. if c then Some (slot n found.name []) else None) e in
      subst (Same vars o) (sym (first_behind (λ (s : NamedSlot). s.name) ss (slot n found.name [] ∷ []) x is ∙ last)) same
  last_other x o (Some q) e is same = subst (Same vars o) (sym (first_before (λ (s : NamedSlot). s.name) ss (slot n found.name [] ∷ []) x q is)) same

  found_case : Pairs vars es ss → entry_of es found.name ≡ None → vars (small n) ≡ Some (fixed int) → (x : Text) (b : Bool) → same_text found.name x ≡ b
      → Same vars (if b then Some found else entry_of es x) (slot_named (ss ++ slot n found.name [] ∷ []) x)
  found_case pairs none at x true e =
      let is : found.name ≡ x = told_same found.name x (sym e) in
      let no_entry : entry_of es x ≡ None = subst (λ t. entry_of es t ≡ None) is none in
      let last : (if same_text found.name x then Some (slot n found.name []) else None) ≡ Some (slot n found.name []) = ap (λ c. if c then Some (slot n found.name []) else None) e in
      subst (Same vars (Some found))
      (sym (first_behind (λ (s : NamedSlot). s.name) ss (slot n found.name [] ∷ []) x (no_slot vars (entry_of es x) (slot_named ss x) (pairs_match vars es ss pairs x) no_entry) ∙ last))
      (fixed int, at, refl)
  found_case pairs none at x false e = last_other x (entry_of es x) (slot_named ss x) e refl (pairs_match vars es ss pairs x)

  with_found : Pairs vars es ss → entry_of es found.name ≡ None → vars (small n) ≡ Some (fixed int) → Matches (found ∷ es) (ss ++ slot n found.name [] ∷ []) vars
  with_found pairs none at x = found_case pairs none at x (same_text found.name x) refl

module _ (tables : List TableDef) (p : ProcDef) where
  as_params : List Var
  as_params = map param_var (map (λ (q : Param). param_of q.kind) p.params)

  as_vars : List Var
  as_vars = map (λ v. declared (kind_of_value v)) (map (λ (v : VarDef). v.initial.value) p.vars)

  count_params : length as_params ≡ length p.params
  unfolding as_params
  count_params = length-map (map (λ (q : Param). param_of q.kind) p.params) param_var ∙ length-map p.params (λ (q : Param). param_of q.kind)

  count_vars : length as_vars ≡ length p.vars
  unfolding as_vars
  count_vars = length-map (map (λ (v : VarDef). v.initial.value) p.vars) (λ v. declared (kind_of_value v)) ∙ length-map p.vars (λ (v : VarDef). v.initial.value)

  all_at : At (vars_of (procedure_of tables p)) 0 ((as_params ++ as_vars) ++ fixed int ∷ [])
  unfolding as_params as_vars
  all_at = at_by (vars_of (procedure_of tables p)) (own_vars (procedure_of tables p)) 0 (λ j. let e : 0 + j ≡ j = omega arith in ap (vars_of (procedure_of tables p)) e)

  pub count_own : length (own_vars (procedure_of tables p)) ≡ found_number p + 1
  unfolding as_params as_vars
  count_own = omega (arith, length-append (as_params ++ as_vars) (fixed int ∷ []), length-append as_params as_vars, count_params, count_vars)

  param_columns : length p.params ≤ 16 → together (map param_passes p.params) ≡ [] → Pairs (vars_of (procedure_of tables p)) (map parameter p.params) (param_slots 0 p.params)
  unfolding as_params
  param_columns most h =
      param_pairs (vars_of (procedure_of tables p)) p.params 0 (omega arith) h
      (subst (At (vars_of (procedure_of tables p)) 0) (map_map param_var (λ (q : Param). param_of q.kind) p.params)
      (at_left (vars_of (procedure_of tables p)) 0 as_params as_vars (at_left (vars_of (procedure_of tables p)) 0 (as_params ++ as_vars) (fixed int ∷ []) all_at)))

  var_columns : length p.params ≤ 16 → length p.vars ≤ 64 → Pairs (vars_of (procedure_of tables p)) (map variable p.vars) (variable_slots (length p.params) p.vars)
  unfolding as_vars
  var_columns most many =
      let e : 0 + length as_params ≡ length p.params = omega (arith, count_params) in
      variable_pairs (vars_of (procedure_of tables p)) p.vars (length p.params) (omega arith)
      (subst (At (vars_of (procedure_of tables p)) (length p.params)) (map_map (λ v. declared (kind_of_value v)) (λ (v : VarDef). v.initial.value) p.vars)
      (subst (λ i. At (vars_of (procedure_of tables p)) i as_vars) e
      (at_right (vars_of (procedure_of tables p)) 0 as_params as_vars (at_left (vars_of (procedure_of tables p)) 0 (as_params ++ as_vars) (fixed int ∷ []) all_at))))

  found_at : length p.params ≤ 16 → length p.vars ≤ 64 → vars_of (procedure_of tables p) (small (found_number p)) ≡ Some (fixed int)
  found_at most many =
      let e : 0 + length (as_params ++ as_vars) ≡ small (found_number p) =
      omega (arith, length-append as_params as_vars, count_params, count_vars, small_is (found_number p) (omega arith)) in
      subst (λ i. vars_of (procedure_of tables p) i ≡ Some (fixed int)) e (at_right (vars_of (procedure_of tables p)) 0 (as_params ++ as_vars) (fixed int ∷ []) all_at).0

  none_found : faults.name_doubles (found.name ∷ []) p ≡ [] → entry_of (map parameter p.params ++ map variable p.vars) found.name ≡ None
  none_found h =
      let a = doubles (λ (q : Param). q.name) (found.name ∷ []) p.params in
      let b = doubles (λ (v : VarDef). v.name) (found.name ∷ map (λ (q : Param). q.name.text) p.params) p.vars in
      let params : entry_of (map parameter p.params) found.name ≡ None =
      none_named (λ (e : Entry). e.name) (λ (q : Param). q.name) parameter found.name p.params (λ q. refl) (doubles_apart (λ (q : Param). q.name) [] found.name [] p.params (nothing_left a b h)) in
      first_behind (λ (e : Entry). e.name) (map parameter p.params) (map variable p.vars) found.name params
      ∙ none_named (λ (e : Entry). e.name) (λ (v : VarDef). v.name) variable found.name p.vars (λ v. refl)
      (doubles_apart (λ (v : VarDef). v.name) [] found.name (map (λ (q : Param). q.name.text) p.params) p.vars (nothing_right a b h))

  pub all_match : faults.name_doubles (found.name ∷ []) p ≡ [] → length p.params ≤ 16 → length p.vars ≤ 64 → together (map param_passes p.params) ≡ []
      → Matches (scope_of p) (slots_of p) (vars_of (procedure_of tables p))
  all_match h most many passes =
      with_found (vars_of (procedure_of tables p)) (map parameter p.params ++ map variable p.vars) (param_slots 0 p.params ++ variable_slots (length p.params) p.vars) (found_number p)
      (pairs_on (vars_of (procedure_of tables p)) (map parameter p.params) (map variable p.vars) (param_slots 0 p.params) (variable_slots (length p.params) p.vars) (param_columns most passes) (var_columns most many))
      (none_found h) (found_at most many)

-- Loops are no more than statements

abbrev Few : Built → List ℕ → Type 0
Few b ts = b.loops ≤ length ts

module _ (tables : List TableDef) where
  abbrev Counted : Type 0
  Counted = (s : Stmt) × Few (built tables s) (statement_tokens s)

  all_few : (ys : List Counted) → let ss = map (λ p. p.0) ys in loops_in (map (built tables) ss) ≤ length (together (map statement_tokens ss))
  all_few [] = omega arith
  all_few (p ∷ ps) =
      let ss = map (λ q. q.0) ps in
      let first = p.1 in
      let rest = all_few ps in
      omega (arith, length-append (statement_tokens p.0) (together (map statement_tokens ss)))

  step_few : (y : tree.Stmt-F Counted) → let d = map-Stmt Counted Stmt (λ p. p.0) y in
      Few (build.stmt_step tables (map-Stmt Stmt Built (built tables) d)) (tokens_step (map-Stmt Stmt (List ℕ) statement_tokens d))
  step_few (tree.ForSelect token turn distinct columns table conds sorts body) = let h = all_few body in omega arith
  step_few (tree.ForRows token turn over body) = let h = all_few body in omega arith
  step_few (tree.Branch token test ys ns) =
      let h = all_few ys in
      let k = all_few ns in
      omega (arith, length-append (together (map statement_tokens (map (λ p. p.0) ys))) (together (map statement_tokens (map (λ p. p.0) ns))))
  step_few y = omega arith

  rolled_few : (x : tree.Stmt-F Stmt) (y : tree.Stmt-F Counted) → map-Stmt Counted Stmt (λ p. p.0) y ≡ x → Few (built tables (roll-Stmt x)) (statement_tokens (roll-Stmt x))
  rolled_few x y is =
      let d = map-Stmt Counted Stmt (λ p. p.0) y in
      subst (λ z. Few (built tables (roll-Stmt z)) (statement_tokens (roll-Stmt z))) is
      (subst₂ Few (sym (fold-roll-Stmt Built (build.stmt_step tables) d)) (sym (fold-roll-Stmt (List ℕ) tokens_step d)) (step_few y))

  stmt_few : (s : Stmt) → Few (built tables s) (statement_tokens s)
  stmt_few = ind-Stmt (λ s. Few (built tables s) (statement_tokens s)) rolled_few

  pub few_loops : (ss : List Stmt) → loops_in (map (built tables) ss) ≤ length (together (map statement_tokens ss))
  few_loops [] = omega arith
  few_loops (s ∷ ss) =
      let h = stmt_few s in
      let k = few_loops ss in
      omega (arith, length-append (statement_tokens s) (together (map statement_tokens ss)))

-- The whole of a procedure

short : (v : Value) → faults.begins v ≡ true → IsShort v
short (value.Int z) h = tt
short (value.Text t) h = leb-true (length t) 4000 h

fresh_own : (vs : List Var) (n : ℕ) → length vs ≡ n → Fresh (slice_get vs) n
fresh_own vs n e m le = slice_get_past vs m (omega arith)

pub procedure_is : (tables : List TableDef) (p : ProcDef) → length tables ≤ 64 → All (λ (t : TableDef). length t.columns ≤ 32) tables → faults.procedure tables p ≡ [] → procedure_passes p ≡ []
    → IsProcedure (map (table_of tables) tables) (procedure_of tables p)
procedure_is tables p few_tables narrow h k =
    let a = faults.name_doubles (found.name ∷ []) p in
    let b = flat_map (λ (q : Param). faults.param_columns q.kind) p.params in
    let c = flat_map faults.initial p.vars in
    let d = names.statements tables p.body (scope_of p) in
    let hd : ((a ++ b) ++ c) ++ d ≡ [] = nothing_left (((a ++ b) ++ c) ++ d) (writes p) h in
    let hc : (a ++ b) ++ c ≡ [] = nothing_left ((a ++ b) ++ c) d hd in
    let hb : a ++ b ≡ [] = nothing_left (a ++ b) c hc in
    let k1 = too_many limit.Parameters 16 param_token p.params in
    let k2 = too_many limit.Variables 64 declared_token p.vars in
    let k3 = together (map param_passes p.params) in
    let k4 = together (map statement_passes p.body) in
    let k5 = too_many limit.Statements 1000 (λ t. t) (together (map statement_tokens p.body)) in
    let r2 : k2 ++ (k3 ++ (k4 ++ k5)) ≡ [] = nothing_right k1 (k2 ++ (k3 ++ (k4 ++ k5))) k in
    let r3 : k3 ++ (k4 ++ k5) ≡ [] = nothing_right k2 (k3 ++ (k4 ++ k5)) r2 in
    let r4 : k4 ++ k5 ≡ [] = nothing_right k3 (k4 ++ k5) r3 in
    let most : length p.params ≤ 16 = few limit.Parameters 16 param_token p.params (nothing_left k1 (k2 ++ (k3 ++ (k4 ++ k5))) k) in
    let many : length p.vars ≤ 64 = few limit.Variables 64 declared_token p.vars (nothing_left k2 (k3 ++ (k4 ++ k5)) r2) in
    let lines : length (together (map statement_tokens p.body)) ≤ 1000 = few limit.Statements 1000 (λ t. t) (together (map statement_tokens p.body)) (nothing_right k4 k5 r4) in
    let loops = few_loops tables p.body in
    let room : found_number p + 1 + loops_in (map (built tables) p.body) ≤ 2 ^ 16 - 1 = omega arith in
    let r = stmts_claim tables few_tables narrow p.body (scope_of p) (slots_of p) (vars_of (procedure_of tables p)) (found_number p + 1)
    (all_match tables p (nothing_left a b hb) most many (nothing_left k3 (k4 ++ k5) r3)) (fresh_own (own_vars (procedure_of tables p)) (found_number p + 1) (count_own tables p)) room
    (nothing_right ((a ++ b) ++ c) d hd) (nothing_left k4 k5 r4) in
    record {
      few = omega (arith, most, length-map p.params (λ (q : Param). param_of q.kind));
      declared = omega (arith, many, length-map p.vars (λ (v : VarDef). v.initial.value));
      defaults = all_mapped faults.initial (λ (v : VarDef). v.initial.value) IsShort
          (λ v e. short v.initial.value (not-false (faults.begins v.initial.value) (not_when (not (faults.begins v.initial.value)) (wrong v.initial.token) e))) p.vars (nothing_right (a ++ b) c hc);
      short = omega (arith, lines, all_sized tables p.body (slots_of p) (found_number p + 1));
      body = r.allowed;
      loops = subst (λ n. CountsFrom n (rows_of (procedure_of tables p).body)) (sym (count_own tables p)) r.counts;
      reads = λ is. all_still tables p.body (slots_of p) (found_number p + 1) (ap (λ b. if b then all_writes p.body else []) (sym is) ∙ nothing_right (((a ++ b) ++ c) ++ d) (writes p) h);
    }
