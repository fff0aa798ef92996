-- A statement has as many steps as it is statements, with those that it holds: its own one, and behind it theirs.
use Rattle.std.proofs.Common.{◌≡◌, ℕ, ◌+◌, ◌≤◌, List, [], ◌∷◌, ◌++◌, map, length, refl, sym, ap, subst, ◌∙◌, arith, length-append}
use Rattle.mv_catalog.specs.Statements.{size, size_step, total_size, size_of}
use Rattle.mv_catalog.specs.declared.resolved.RStmt.TheOpen as open'
use Rattle.mv_catalog.specs.declared.resolved.RStmt.{RStmt, roll-RStmt, out-RStmt, roll-out-RStmt}
use Rattle.mv_catalog.specs.declared.resolved.RStmt.TheFolds.{fold-roll-RStmt, map-RStmt, ind-RStmt}
use Rattle.mv_graph.specs.declared.graph.Step.{Step}
use Rattle.mv_graph.specs.Steps.{Steps, all_steps, inner_steps, own_step, skip_by, statement_steps, steps_of, body_steps}

abbrev Counts : ℕ → RStmt → Type 0
Counts params s = (behind : ℕ) → length (steps_of params s behind) ≡ size s

abbrev Known : ℕ → Type 0
Known params = (s : RStmt) × Counts params s

all_count : (params : ℕ) (ks : List (Known params)) → length (all_steps (map (steps_of params) (map (λ k. k.0) ks))) ≡ total_size (map size (map (λ k. k.0) ks))
all_count params [] = refl
all_count params (k ∷ ks) =
    let rest : List Step = all_steps (map (steps_of params) (map (λ j. j.0) ks)) in
    omega (arith, length-append (steps_of params k.0 (length rest)) rest, k.1 (length rest), all_count params ks)

step_counts : (params : ℕ) (y : open'.RStmt-F (Known params)) → let d = map-RStmt (Known params) RStmt (λ k. k.0) y in
    (behind : ℕ) → length (statement_steps params (map-RStmt RStmt Steps (steps_of params) d) behind) ≡ size_step (map-RStmt RStmt ℕ size d)
step_counts params (open'.Assign x e) behind = refl
step_counts params (open'.Select cs xs t conds sorts offset) behind = refl
step_counts params (open'.Total agg x t conds) behind = refl
step_counts params (open'.ForSelect x once cs t conds sorts body) behind = omega (arith, all_count params body)
step_counts params (open'.ForRows x y body) behind = omega (arith, all_count params body)
step_counts params (open'.Branch e ys ns) behind =
    let first : List Step = all_steps (map (steps_of params) (map (λ k. k.0) ys)) in
    let second : List Step = all_steps (map (steps_of params) (map (λ k. k.0) ns)) in
    omega (arith, length-append first second, all_count params ys, all_count params ns)
step_counts params (open'.Insert t es) behind = refl
step_counts params (open'.Update t items conds) behind = refl
step_counts params (open'.Delete t conds) behind = refl
step_counts params (open'.Print es) behind = refl
step_counts params (open'.Rollback reason) behind = refl

-- a statement has as many steps as it is statements
pub steps_count : (params : ℕ) (s : RStmt) → Counts params s
steps_count params = ind-RStmt (Counts params) rolled
  where
    rolled : (x : open'.RStmt-F RStmt) (y : open'.RStmt-F (Known params)) → map-RStmt (Known params) RStmt (λ k. k.0) y ≡ x → Counts params (roll-RStmt x)
    rolled x y is =
        let d = map-RStmt (Known params) RStmt (λ k. k.0) y in
        subst (λ z. Counts params (roll-RStmt z)) is
        (λ behind. ap (λ f. length (f behind)) (fold-roll-RStmt Steps (statement_steps params) d) ∙ (step_counts params y behind ∙ sym (fold-roll-RStmt ℕ size_step d)))

pub many_steps : (params : ℕ) (ss : List RStmt) → length (body_steps params ss) ≡ size_of ss
many_steps params [] = refl
many_steps params (s ∷ ss) =
    let rest : List Step = body_steps params ss in
    omega (arith, length-append (steps_of params s (length rest)) rest, steps_count params s (length rest), many_steps params ss)

-- the steps of what a statement holds
abbrev pub steps_inside : ℕ → open'.RStmt-F RStmt → List Step
steps_inside params y = inner_steps (map-RStmt RStmt Steps (steps_of params) y)

-- what a statement's step tells doesn't depend on what the statement holds
own_same : (params : ℕ) (y : open'.RStmt-F RStmt) (whole skip behind : ℕ) → own_step params (map-RStmt RStmt Steps (steps_of params) y) whole skip behind ≡ own_step params y whole skip behind
own_same params (open'.Assign x e) whole skip behind = refl
own_same params (open'.Select cs xs t conds sorts offset) whole skip behind = refl
own_same params (open'.Total agg x t conds) whole skip behind = refl
own_same params (open'.ForSelect x once cs t conds sorts body) whole skip behind = refl
own_same params (open'.ForRows x y body) whole skip behind = refl
own_same params (open'.Branch e ys ns) whole skip behind = refl
own_same params (open'.Insert t es) whole skip behind = refl
own_same params (open'.Update t items conds) whole skip behind = refl
own_same params (open'.Delete t conds) whole skip behind = refl
own_same params (open'.Print es) whole skip behind = refl
own_same params (open'.Rollback reason) whole skip behind = refl

skip_same : (params : ℕ) (y : open'.RStmt-F RStmt) → skip_by (λ ss. length (all_steps ss)) (map-RStmt RStmt Steps (steps_of params) y) ≡ skip_by size_of y
skip_same params (open'.Branch e ys ns) = omega (arith, many_steps params ys)
skip_same params (open'.Assign x e) = refl
skip_same params (open'.Select cs xs t conds sorts offset) = refl
skip_same params (open'.Total agg x t conds) = refl
skip_same params (open'.ForSelect x once cs t conds sorts body) = refl
skip_same params (open'.ForRows x y body) = refl
skip_same params (open'.Insert t es) = refl
skip_same params (open'.Update t items conds) = refl
skip_same params (open'.Delete t conds) = refl
skip_same params (open'.Print es) = refl
skip_same params (open'.Rollback reason) = refl

-- a statement's own step, and behind it those of what it holds
pub steps_out : (params : ℕ) (s : RStmt) (behind : ℕ)
    → steps_of params s behind ≡ own_step params (out-RStmt s) (size s) (skip_by size_of (out-RStmt s)) behind ∷ steps_inside params (out-RStmt s)
steps_out params s behind =
    let y = out-RStmt s in
    let held : List Step = steps_inside params y in
    let mapped = map-RStmt RStmt Steps (steps_of params) y in
    let skip : ℕ = skip_by (λ ss. length (all_steps ss)) mapped in
    let out : steps_of params s behind ≡ own_step params mapped (1 + length held) skip behind ∷ held =
    ap (λ t. steps_of params t behind) (sym (roll-out-RStmt s)) ∙ ap (λ f. f behind) (fold-roll-RStmt Steps (statement_steps params) y) in
    let whole : 1 + length held ≡ size s = omega (arith, ap length out, steps_count params s behind) in
    out
    ∙ ap (λ step. step ∷ held)
    (own_same params y (1 + length held) skip behind
    ∙ (ap (λ n. own_step params y n skip behind) whole ∙ ap (λ k. own_step params y (size s) k behind) (skip_same params y)))
