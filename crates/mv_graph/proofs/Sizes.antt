-- A statement has as many nodes as it is statements, with those that it holds: its own one, and behind it theirs.
use Rattle.std.proofs.Common.{◌≡◌, ℕ, ◌+◌, ◌≤◌, List, [], ◌∷◌, ◌++◌, Option, Some, map, length, refl, sym, ap, subst, ◌∙◌, arith, length-append}
use Rattle.mv_values.specs.declared.schema.TableInfo.{TableInfo}
use Rattle.mv_catalog.specs.Statements.{size, size_step, total_size}
use Rattle.mv_catalog.specs.declared.resolved.RStmt.TheOpen as open'
use Rattle.mv_catalog.specs.declared.resolved.RStmt.{RStmt, roll-RStmt, out-RStmt, roll-out-RStmt}
use Rattle.mv_catalog.specs.declared.resolved.RStmt.TheFolds.{fold-roll-RStmt, map-RStmt, ind-RStmt}
use Rattle.mv_graph.specs.declared.graph.Node.{Node}
use Rattle.mv_graph.specs.Nodes.{Nodes, all_nodes, own_node, node_step, nodes_of, nodes_inside, body_nodes}

abbrev pub Counts : List TableInfo → ℕ → ℕ → RStmt → Type 0
Counts tables params found s = (n : ℕ) (holder : Option ℕ) (loops : List ℕ) → length (nodes_of tables params found s n holder loops) ≡ size s

abbrev Known : List TableInfo → ℕ → ℕ → Type 0
Known tables params found = (s : RStmt) × Counts tables params found s

all_count : (tables : List TableInfo) (params found : ℕ) (ks : List (Known tables params found)) (n : ℕ) (holder : Option ℕ) (loops : List ℕ)
    → length (all_nodes (map (nodes_of tables params found) (map (λ k. k.0) ks)) n holder loops) ≡ total_size (map size (map (λ k. k.0) ks))
all_count tables params found [] n holder loops = refl
all_count tables params found (k ∷ ks) n holder loops =
    let these : List Node = nodes_of tables params found k.0 n holder loops in
    let first : length these ≡ size k.0 = k.1 n holder loops in
    let others : List Node = all_nodes (map (nodes_of tables params found) (map (λ j. j.0) ks)) (n + length these) holder loops in
    length-append these others ∙ (ap (λ m. m + length others) first ∙ (ap (λ m. size k.0 + m) (all_count tables params found ks (n + length these) holder loops)))

step_counts : (tables : List TableInfo) (params found : ℕ) (y : open'.RStmt-F (Known tables params found)) → let d = map-RStmt (Known tables params found) RStmt (λ k. k.0) y in
    (n : ℕ) (holder : Option ℕ) (loops : List ℕ) → length (node_step tables params found (map-RStmt RStmt Nodes (nodes_of tables params found) d) n holder loops) ≡ size_step (map-RStmt RStmt ℕ size d)
step_counts tables params found (open'.Assign x e) n holder loops = refl
step_counts tables params found (open'.Select cs xs t conds sorts offset) n holder loops = refl
step_counts tables params found (open'.Total agg x t conds) n holder loops = refl
step_counts tables params found (open'.ForSelect x once cs t conds sorts body) n holder loops = omega (arith, all_count tables params found body (n + 1) (Some n) (loops ++ n ∷ []))
step_counts tables params found (open'.ForRows x y body) n holder loops = omega (arith, all_count tables params found body (n + 1) (Some n) (loops ++ n ∷ []))
step_counts tables params found (open'.Branch e ys ns) n holder loops =
    let first : List Node = all_nodes (map (nodes_of tables params found) (map (λ k. k.0) ys)) (n + 1) (Some n) loops in
    let second : List Node = all_nodes (map (nodes_of tables params found) (map (λ k. k.0) ns)) (n + 1 + length first) (Some n) loops in
    omega (arith, length-append first second, all_count tables params found ys (n + 1) (Some n) loops, all_count tables params found ns (n + 1 + length first) (Some n) loops)
step_counts tables params found (open'.Insert t es) n holder loops = refl
step_counts tables params found (open'.Update t items conds) n holder loops = refl
step_counts tables params found (open'.Delete t conds) n holder loops = refl
step_counts tables params found (open'.Print es) n holder loops = refl
step_counts tables params found (open'.Rollback reason) n holder loops = refl

-- a statement has as many nodes as it is statements
pub nodes_count : (tables : List TableInfo) (params found : ℕ) (s : RStmt) → Counts tables params found s
nodes_count tables params found = ind-RStmt (Counts tables params found) rolled
  where
    rolled : (x : open'.RStmt-F RStmt) (y : open'.RStmt-F (Known tables params found)) → map-RStmt (Known tables params found) RStmt (λ k. k.0) y ≡ x → Counts tables params found (roll-RStmt x)
    rolled x y is =
        let d = map-RStmt (Known tables params found) RStmt (λ k. k.0) y in
        subst (λ z. Counts tables params found (roll-RStmt z)) is
        (λ n holder loops. ap (λ f. length (f n holder loops)) (fold-roll-RStmt Nodes (node_step tables params found) d) ∙ (step_counts tables params found y n holder loops ∙ sym (fold-roll-RStmt ℕ size_step d)))

pub body_counts : (tables : List TableInfo) (params found : ℕ) (ss : List RStmt) (n : ℕ) (holder : Option ℕ) (loops : List ℕ) → length (body_nodes tables params found ss n holder loops) ≡ total_size (map size ss)
body_counts tables params found [] n holder loops = refl
body_counts tables params found (s ∷ ss) n holder loops =
    let these : List Node = nodes_of tables params found s n holder loops in
    let first : length these ≡ size s = nodes_count tables params found s n holder loops in
    let others : List Node = body_nodes tables params found ss (n + length these) holder loops in
    length-append these others ∙ (ap (λ m. m + length others) first ∙ (ap (λ m. size s + m) (body_counts tables params found ss (n + length these) holder loops)))

-- what a statement's node tells doesn't depend on what the statement holds
own_same : (tables : List TableInfo) (params found : ℕ) (x : open'.RStmt-F RStmt) (holder : Option ℕ) (loops : List ℕ) (whole : ℕ)
    → own_node tables params found (map-RStmt RStmt Nodes (nodes_of tables params found) x) holder loops whole ≡ own_node tables params found x holder loops whole
own_same tables params found (open'.Assign x e) holder loops whole = refl
own_same tables params found (open'.Select cs xs t conds sorts offset) holder loops whole = refl
own_same tables params found (open'.Total agg x t conds) holder loops whole = refl
own_same tables params found (open'.ForSelect x once cs t conds sorts body) holder loops whole = refl
own_same tables params found (open'.ForRows x y body) holder loops whole = refl
own_same tables params found (open'.Branch e ys ns) holder loops whole = refl
own_same tables params found (open'.Insert t es) holder loops whole = refl
own_same tables params found (open'.Update t items conds) holder loops whole = refl
own_same tables params found (open'.Delete t conds) holder loops whole = refl
own_same tables params found (open'.Print es) holder loops whole = refl
own_same tables params found (open'.Rollback reason) holder loops whole = refl

-- a statement's own node, and behind it those of what it holds
pub nodes_out : (tables : List TableInfo) (params found : ℕ) (s : RStmt) (n : ℕ) (holder : Option ℕ) (loops : List ℕ)
    → nodes_of tables params found s n holder loops ≡ own_node tables params found (out-RStmt s) holder loops (size s) ∷ nodes_inside tables params found (out-RStmt s) n loops
nodes_out tables params found s n holder loops =
    let held : List Node = nodes_inside tables params found (out-RStmt s) n loops in
    let out : nodes_of tables params found s n holder loops ≡ own_node tables params found (map-RStmt RStmt Nodes (nodes_of tables params found) (out-RStmt s)) holder loops (1 + length held) ∷ held =
    ap (λ t. nodes_of tables params found t n holder loops) (sym (roll-out-RStmt s)) ∙ ap (λ f. f n holder loops) (fold-roll-RStmt Nodes (node_step tables params found) (out-RStmt s)) in
    let whole : 1 + length held ≡ size s = omega (arith, ap length out, nodes_count tables params found s n holder loops) in
    out ∙ ap (λ node. node ∷ held) (own_same tables params found (out-RStmt s) holder loops (1 + length held) ∙ ap (own_node tables params found (out-RStmt s) holder loops) whole)

-- a statement is one at least
pub some_size : (s : RStmt) → 1 ≤ size s
some_size s = omega (arith, ap length (nodes_out [] 0 0 s 0 none []), nodes_count [] 0 0 s 0 none [])
  where
    none : Option ℕ
    none = Some 0
