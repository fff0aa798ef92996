-- The columns that statements test with `=`, added one after another.
use Rattle.std.proofs.Common.{◌≡◌, ◌<◌, ◌≤◌, ◌^◌, ◌+◌, ℕ, suc, All, true, false, cond, List, [], ◌∷◌, ◌++◌, length, map, drop, slice_index_or, refl, sym, ap, subst, ◌∙◌, arith}
use Rattle.std.specs.List.{flat_map}
use Rattle.std.proofs.Math.Seq.{drop-cons}
use Rattle.std.proofs.lemmas.Grind.{flat_map-append}
use Rattle.std.proofs.lemmas.List.Elements.{All-cons}
use Rattle.std.proofs.lemmas.Option.{slice_get_within}
use Rattle.mv_values.specs.declared.schema.TableInfo.{TableInfo}
use Rattle.mv_values.specs.declared.tested.Tested.{Tested}
use Rattle.mv_values.specs.Testing.{is_equality}
use Rattle.mv_catalog.specs.Statements.{all_well, stmt_step, IsWell, with_turn}
use Rattle.mv_catalog.specs.Types.{Vars}
use Rattle.mv_catalog.specs.declared.resolved.RCond.{RCond}
use Rattle.mv_catalog.specs.declared.resolved.RStmt.{RStmt, out-RStmt, roll-RStmt, roll-out-RStmt, out-roll-RStmt}
use Rattle.mv_catalog.specs.declared.resolved.RStmt.TheVariants as whole
use Rattle.mv_catalog.specs.declared.resolved.RExpr.{RExpr}
use Rattle.mv_catalog.specs.declared.resolved.RStmt.TheFolds.{fold-roll-RStmt, map-RStmt, ind-RStmt}
use Rattle.mv_catalog.specs.declared.resolved.RStmt.TheOpen.{RStmt-F, Assign, Select, Total, ForSelect, ForRows, Branch, Insert, Update, Delete, Print, Rollback}
use Rattle.mv_catalog.proofs.Typed.{well_by}
use Rattle.mv_recorded.specs.Own.{Each}
use Rattle.mv_recorded.proofs.Inverting.{each_join, each_map}
use Rattle.mv_compile.specs.Held.{wheres_held, IsNarrow, HoldsNarrow}
use Rattle.mv_graph.specs.Tests.{Where, own_where, wheres_step, wheres_in, wheres_of, equalities, equalities_in, with_tested, with_all_tested, AreNarrow}

-- One after another

pub all_append : (all xs ys : List Tested) → with_all_tested all (xs ++ ys) ≡ with_all_tested (with_all_tested all xs) ys
all_append all [] ys = refl
all_append all (x ∷ xs) ys = all_append (with_tested all x) xs ys

-- the WHEREs of one list, and then those of another
pub all_then : (all mid new : List Tested) (vs ws : List Where) → mid ≡ with_all_tested all (equalities_in vs) → new ≡ with_all_tested mid (equalities_in ws) → new ≡ with_all_tested all (equalities_in (vs ++ ws))
all_then all mid new vs ws one two =
    two
    ∙ (ap (λ m. with_all_tested m (equalities_in ws)) one
    ∙ (sym (all_append all (equalities_in vs) (equalities_in ws)) ∙ ap (with_all_tested all) (sym (flat_map-append (λ (w : Where). equalities w.0 w.1) vs ws))))

-- the WHERE of a statement, if it has one
none_more : {A : Type 0} (xs : List A) → xs ++ [] ≡ xs
none_more [] = refl
none_more (x ∷ xs) = ap (λ l. x ∷ l) (none_more xs)

pub own_taken : (all new : List Tested) (t : ℕ) (conds : List RCond) (ws : List Where) → (t, conds) ∷ [] ≡ ws → new ≡ with_all_tested all (equalities t conds) → new ≡ with_all_tested all (equalities_in ws)
own_taken all new t conds ws is added = added ∙ (ap (with_all_tested all) (sym (none_more (equalities t conds))) ∙ ap (λ l. with_all_tested all (equalities_in l)) is)

pub own_narrow : (t : ℕ) (conds : List RCond) (ws : List Where) → (t, conds) ∷ [] ≡ ws → AreNarrow ws → t < 2 ^ 8
own_narrow t conds ws is h = (subst AreNarrow (sym is) h).0

pub own_none : (all : List Tested) (ws : List Where) → [] ≡ ws → all ≡ with_all_tested all (equalities_in ws)
own_none all ws is = ap (λ l. with_all_tested all (equalities_in l)) is

-- What a statement holds

own_same : (y : RStmt-F RStmt) → own_where (map-RStmt RStmt (List Where) wheres_in y) ≡ own_where y
own_same (Assign x e) = refl
own_same (Select cs xs t conds sorts offset) = refl
own_same (Total agg x t conds) = refl
own_same (ForSelect x once cs t conds sorts body) = refl
own_same (ForRows x y body) = refl
own_same (Branch e ys ns) = refl
own_same (Insert t es) = refl
own_same (Update t items conds) = refl
own_same (Delete t conds) = refl
own_same (Print es) = refl
own_same (Rollback reason) = refl

-- the WHERE of a statement, and those of the statements that it holds
wheres_out : (s : RStmt) → wheres_in s ≡ own_where (out-RStmt s) ++ wheres_held (out-RStmt s)
wheres_out s =
    let y = out-RStmt s in
    ap wheres_in (sym (roll-out-RStmt s)) ∙ (fold-roll-RStmt (List Where) wheres_step y ∙ ap (λ l. l ++ wheres_held y) (own_same y))

pub own_first : (all mid new : List Tested) (s : RStmt) → mid ≡ with_all_tested all (equalities_in (own_where (out-RStmt s))) → new ≡ with_all_tested mid (equalities_in (wheres_held (out-RStmt s)))
    → new ≡ with_all_tested all (equalities_in (wheres_in s))
own_first all mid new s one two = all_then all mid new (own_where (out-RStmt s)) (wheres_held (out-RStmt s)) one two ∙ ap (λ l. with_all_tested all (equalities_in l)) (sym (wheres_out s))

-- one condition more
split : {A : Type 0} (xs : List A) (i : ℕ) (d : A) → i < length xs → drop i xs ≡ slice_index_or xs i d ∷ drop (i + 1) xs
split xs i d lt =
    let next : suc i ≡ i + 1 = omega arith in
    drop-cons xs i d lt ∙ ap (λ k. slice_index_or xs i d ∷ drop k xs) next

pub cond_taken : (all new : List Tested) (t : ℕ) (conds : List RCond) (i : ℕ) (c : RCond) → i < length conds → c ≡ slice_index_or conds i c → is_equality c.op ≡ true → new ≡ with_tested all (record { table = t; column = c.column })
    → with_all_tested new (equalities t (drop (i + 1) conds)) ≡ with_all_tested all (equalities t (drop i conds))
cond_taken all new t conds i c lt is equal added =
    ap (λ m. with_all_tested m (equalities t (drop (i + 1) conds))) added
    ∙ sym (ap (λ l. with_all_tested all (equalities t l)) (split conds i c lt ∙ ap (λ x. x ∷ drop (i + 1) conds) (sym is))
    ∙ ap (λ b. with_all_tested all (cond b (record { table = t; column = c.column } ∷ equalities t (drop (i + 1) conds)) (equalities t (drop (i + 1) conds)))) equal)

pub cond_passed : (all : List Tested) (t : ℕ) (conds : List RCond) (i : ℕ) (c : RCond) → i < length conds → c ≡ slice_index_or conds i c → is_equality c.op ≡ false
    → with_all_tested all (equalities t (drop (i + 1) conds)) ≡ with_all_tested all (equalities t (drop i conds))
cond_passed all t conds i c lt is other =
    sym (ap (λ l. with_all_tested all (equalities t l)) (split conds i c lt ∙ ap (λ x. x ∷ drop (i + 1) conds) (sym is))
    ∙ ap (λ b. with_all_tested all (cond b (record { table = t; column = c.column } ∷ equalities t (drop (i + 1) conds)) (equalities t (drop (i + 1) conds)))) other)

-- one statement more
pub statement_taken : (all new : List Tested) (ss : List RStmt) (i : ℕ) (s : RStmt) → i < length ss → s ≡ slice_index_or ss i s → new ≡ with_all_tested all (equalities_in (wheres_in s))
    → with_all_tested new (equalities_in (wheres_of (drop (i + 1) ss))) ≡ with_all_tested all (equalities_in (wheres_of (drop i ss)))
statement_taken all new ss i s lt is added =
    all_then all new _ (wheres_in s) (wheres_of (drop (i + 1) ss)) added refl ∙ sym (ap (λ l. with_all_tested all (equalities_in (wheres_of l))) (split ss i s lt ∙ ap (λ x. x ∷ drop (i + 1) ss) (sym is)))

-- Narrow numbers

front : (vs ws : List Where) → AreNarrow (vs ++ ws) → AreNarrow vs
front [] ws h = tt
front (v ∷ vs) ws h = (h.0, front vs ws h.1)

back : (vs ws : List Where) → AreNarrow (vs ++ ws) → AreNarrow ws
back [] ws h = h
back (v ∷ vs) ws h = back vs ws h.1

pub narrow_parts : (vs ws : List Where) → AreNarrow (vs ++ ws) → AreNarrow vs × AreNarrow ws
narrow_parts vs ws h = (front vs ws h, back vs ws h)

pub narrow_all : (ss : List RStmt) → AreNarrow (wheres_of ss) → All IsNarrow ss
narrow_all [] h = λ k d lt. absurd (omega (arith, lt))
narrow_all (s ∷ ss) h =
    let parts = narrow_parts (wheres_in s) (wheres_of ss) h in
    All-cons IsNarrow s ss parts.0 (narrow_all ss parts.1)

branch_out : (s : RStmt) (test : RExpr) (ys ns : List RStmt) → s ≡ whole.Branch test ys ns → out-RStmt s ≡ Branch test ys ns
branch_out s test ys ns is = ap out-RStmt is ∙ (ap out-RStmt (sym (whole.rolls-Branch test ys ns)) ∙ out-roll-RStmt (Branch test ys ns))

-- the statements that an IF holds
pub both_held : (all mid new : List Tested) (s : RStmt) (test : RExpr) (ys ns ys' ns' : List RStmt) → s ≡ whole.Branch test ys ns → ys' ≡ ys → ns' ≡ ns → mid ≡ with_all_tested all (equalities_in (wheres_of ys')) → new ≡ with_all_tested mid (equalities_in (wheres_of ns'))
    → new ≡ with_all_tested all (equalities_in (wheres_held (out-RStmt s)))
both_held all mid new s test ys ns ys' ns' is yes_is no_is one two =
    all_then all mid new (wheres_of ys) (wheres_of ns) (one ∙ ap (λ l. with_all_tested all (equalities_in (wheres_of l))) yes_is) (two ∙ ap (λ l. with_all_tested mid (equalities_in (wheres_of l))) no_is)
    ∙ ap (λ y. with_all_tested all (equalities_in (wheres_held y))) (sym (branch_out s test ys ns is))

holds_narrow : (y : RStmt-F RStmt) → AreNarrow (wheres_held y) → HoldsNarrow y
holds_narrow (Assign x e) h = tt
holds_narrow (Select cs xs t conds sorts offset) h = tt
holds_narrow (Total agg x t conds) h = tt
holds_narrow (ForSelect x once cs t conds sorts body) h = narrow_all body h
holds_narrow (ForRows x y body) h = narrow_all body h
holds_narrow (Branch e ys ns) h =
    let parts = narrow_parts (wheres_of ys) (wheres_of ns) h in
    (narrow_all ys parts.0, narrow_all ns parts.1)
holds_narrow (Insert t es) h = tt
holds_narrow (Update t items conds) h = tt
holds_narrow (Delete t conds) h = tt
holds_narrow (Print es) h = tt
holds_narrow (Rollback reason) h = tt

pub own_parts : (s : RStmt) → IsNarrow s → AreNarrow (own_where (out-RStmt s)) × HoldsNarrow (out-RStmt s)
own_parts s h =
    let parts = narrow_parts (own_where (out-RStmt s)) (wheres_held (out-RStmt s)) (subst AreNarrow (wheres_out s) h) in
    (parts.0, holds_narrow (out-RStmt s) parts.1)

-- The tables of a well formed text

module _ (tables : List TableInfo) where
  abbrev IsThere : Where → Type 0
  IsThere w = w.0 < length tables

  abbrev Claim : RStmt → Type 0
  Claim s = (vars : Vars) → IsWell tables s vars → Each IsThere (wheres_in s)

  abbrev Known : Type 0
  Known = (s : RStmt) × Claim s

  abbrev unknown : RStmt-F Known → RStmt-F RStmt
  unknown y = map-RStmt Known RStmt (λ k. k.0) y

  all_there : (ks : List Known) (vars : Vars) → all_well (IsWell tables) (map (λ k. k.0) ks) vars → Each IsThere (wheres_of (map (λ k. k.0) ks))
  all_there [] vars h = tt
  all_there (k ∷ ks) vars h = each_join IsThere (wheres_in k.0) (wheres_of (map (λ j. j.0) ks)) (k.1 vars h.0) (all_there ks vars h.1)

  step_there : (y : RStmt-F Known) (vars : Vars) → stmt_step tables RStmt (λ s. s) (IsWell tables) (unknown y) vars → Each IsThere (wheres_step (map-RStmt RStmt (List Where) wheres_in (unknown y)))
  step_there (Assign x e) vars h = tt
  step_there (Select cs xs t conds sorts offset) vars h = (slice_get_within tables t h.0.0 h.0.1, tt)
  step_there (Total agg x t conds) vars h = (slice_get_within tables t h.0 h.1, tt)
  step_there (ForSelect x once cs t conds sorts body) vars h = (slice_get_within tables t h.0 h.1, all_there body (with_turn vars x h.2.3.0) h.2.3.2)
  step_there (ForRows x y body) vars h = all_there body (with_turn vars x h.0) h.3
  step_there (Branch e ys ns) vars h = each_join IsThere (wheres_of (map (λ k. k.0) ys)) (wheres_of (map (λ k. k.0) ns)) (all_there ys vars h.1) (all_there ns vars h.2)
  step_there (Insert t es) vars h = tt
  step_there (Update t items conds) vars h = (slice_get_within tables t h.0 h.1, tt)
  step_there (Delete t conds) vars h = (slice_get_within tables t h.0 h.1, tt)
  step_there (Print es) vars h = tt
  step_there (Rollback reason) vars h = tt

  statement_there : (s : RStmt) → Claim s
  statement_there = ind-RStmt Claim (λ x y is.
      subst (λ z. Claim (roll-RStmt z)) is (λ vars h.
      subst (Each IsThere) (sym (fold-roll-RStmt (List Where) wheres_step (unknown y))) (step_there y vars (well_by tables (unknown y) (roll-RStmt (unknown y)) vars refl h))))

  body_there : (ss : List RStmt) (vars : Vars) → all_well (IsWell tables) ss vars → Each IsThere (wheres_of ss)
  body_there [] vars h = tt
  body_there (s ∷ ss) vars h = each_join IsThere (wheres_in s) (wheres_of ss) (statement_there s vars h.0) (body_there ss vars h.1)

  pub body_narrow : (ss : List RStmt) (vars : Vars) → length tables ≤ 64 → all_well (IsWell tables) ss vars → AreNarrow (wheres_of ss)
  body_narrow ss vars few h = each_map IsThere (λ w. w.0 < 2 ^ 8) (wheres_of ss) (λ w lt. omega (arith, lt, few)) (body_there ss vars h)
