-- The nodes of statements, added one after another.
use Rattle.std.proofs.Common.{◌≡◌, ℕ, suc, ◌+◌, ◌<◌, List, [], ◌∷◌, ◌++◌, Option, Some, map, length, drop, slice_index_or, sym, ap, ◌∙◌, arith, append_assoc, length-append}
use Rattle.std.proofs.Math.Seq.{drop-cons}
use Rattle.mv_values.specs.declared.schema.TableInfo.{TableInfo}
use Rattle.mv_catalog.specs.Statements.{size, total_size}
use Rattle.mv_catalog.specs.declared.resolved.RStmt.{RStmt, out-RStmt, out-roll-RStmt}
use Rattle.mv_catalog.specs.declared.resolved.RStmt.TheOpen as open'
use Rattle.mv_catalog.specs.declared.resolved.RStmt.TheVariants.{Branch, rolls-Branch}
use Rattle.mv_catalog.specs.declared.resolved.RExpr.{RExpr}
use Rattle.mv_graph.specs.declared.graph.Node.{Node}
use Rattle.mv_graph.specs.Nodes.{own_node, nodes_of, nodes_inside, body_nodes}
use Rattle.mv_graph.proofs.Sizes.{nodes_count, nodes_out}

branches : (tables : List TableInfo) (params found : ℕ) (nodes first second : List Node) (ys ns : List RStmt) (holder : Option ℕ) (loops : List ℕ)
    → first ≡ nodes ++ body_nodes tables params found ys (length nodes + 1) holder loops → second ≡ first ++ body_nodes tables params found ns (length first + 1) holder loops
    → second ≡ nodes ++ (body_nodes tables params found ys (length nodes + 1) holder loops ++ body_nodes tables params found ns (length nodes + 1 + length (body_nodes tables params found ys (length nodes + 1) holder loops)) holder loops)
branches tables params found nodes first second ys ns holder loops one two =
    let inner : List Node = body_nodes tables params found ys (length nodes + 1) holder loops in
    let at : length first + 1 ≡ length nodes + 1 + length inner = omega (arith, ap length one, length-append nodes inner) in
    two
    ∙ (ap (λ k. first ++ body_nodes tables params found ns k holder loops) at
    ∙ (ap (λ l. l ++ body_nodes tables params found ns (length nodes + 1 + length inner) holder loops) one
    ∙ append_assoc nodes inner (body_nodes tables params found ns (length nodes + 1 + length inner) holder loops)))

-- the nodes of what an IF holds
pub both_branches : (tables : List TableInfo) (params found : ℕ) (nodes first second : List Node) (s : RStmt) (test : RExpr) (ys ns ys' ns' : List RStmt) (number : ℕ) (loops : List ℕ)
    → s ≡ Branch test ys ns → ys' ≡ ys → ns' ≡ ns → number ≡ length nodes
    → first ≡ nodes ++ body_nodes tables params found ys' (length nodes + 1) (Some number) loops → second ≡ first ++ body_nodes tables params found ns' (length first + 1) (Some number) loops
    → second ≡ nodes ++ nodes_inside tables params found (out-RStmt s) (length nodes) loops
both_branches tables params found nodes first second s test ys ns ys' ns' number loops is yes_is no_is at one two =
    branches tables params found nodes first second ys ns (Some (length nodes)) loops
    (one ∙ (ap (λ l. nodes ++ body_nodes tables params found l (length nodes + 1) (Some number) loops) yes_is ∙ ap (λ k. nodes ++ body_nodes tables params found ys (length nodes + 1) (Some k) loops) at))
    (two ∙ (ap (λ l. first ++ body_nodes tables params found l (length first + 1) (Some number) loops) no_is ∙ ap (λ k. first ++ body_nodes tables params found ns (length first + 1) (Some k) loops) at))
    ∙ sym (ap (λ t. nodes ++ nodes_inside tables params found t (length nodes) loops) (ap out-RStmt is ∙ (ap out-RStmt (sym (rolls-Branch test ys ns)) ∙ out-roll-RStmt (open'.Branch test ys ns))))

-- a statement's own node, and behind it those of what it holds
pub own_first : (tables : List TableInfo) (params found : ℕ) (nodes pushed new : List Node) (node : Node) (s : RStmt) (holder : Option ℕ) (loops : List ℕ)
    → node ≡ own_node tables params found (out-RStmt s) holder loops (size s) → pushed ≡ nodes ++ node ∷ []
    → new ≡ pushed ++ nodes_inside tables params found (out-RStmt s) (length pushed) loops
    → new ≡ nodes ++ nodes_of tables params found s (length nodes + 1) holder loops
own_first tables params found nodes pushed new node s holder loops own push held =
    let at : length pushed ≡ length nodes + 1 = ap length push ∙ length-append nodes (node ∷ []) in
    held
    ∙ (ap (λ k. pushed ++ nodes_inside tables params found (out-RStmt s) k loops) at
    ∙ (ap (λ l. l ++ nodes_inside tables params found (out-RStmt s) (length nodes + 1) loops) push
    ∙ (append_assoc nodes (node ∷ []) (nodes_inside tables params found (out-RStmt s) (length nodes + 1) loops)
    ∙ (ap (λ k. nodes ++ (k ∷ nodes_inside tables params found (out-RStmt s) (length nodes + 1) loops)) own
    ∙ ap (λ l. nodes ++ l) (sym (nodes_out tables params found s (length nodes + 1) holder loops))))))

-- one statement more
pub one_more : (tables : List TableInfo) (params found : ℕ) (nodes new : List Node) (ss : List RStmt) (i : ℕ) (d : RStmt) (holder : Option ℕ) (loops : List ℕ) → i < length ss
    → new ≡ nodes ++ nodes_of tables params found (slice_index_or ss i d) (length nodes + 1) holder loops
    → new ++ body_nodes tables params found (drop (i + 1) ss) (length new + 1) holder loops ≡ nodes ++ body_nodes tables params found (drop i ss) (length nodes + 1) holder loops
one_more tables params found nodes new ss i d holder loops lt is =
    let next : suc i ≡ i + 1 = omega arith in
    let these : List Node = nodes_of tables params found (slice_index_or ss i d) (length nodes + 1) holder loops in
    let rest : List RStmt = drop (i + 1) ss in
    let at : length new + 1 ≡ length nodes + 1 + length these = omega (arith, ap length is, length-append nodes these) in
    let split : drop i ss ≡ slice_index_or ss i d ∷ rest = drop-cons ss i d lt ∙ ap (λ k. slice_index_or ss i d ∷ drop k ss) next in
    ap (λ k. new ++ body_nodes tables params found rest k holder loops) at
    ∙ (ap (λ l. l ++ body_nodes tables params found rest (length nodes + 1 + length these) holder loops) is
    ∙ (append_assoc nodes these (body_nodes tables params found rest (length nodes + 1 + length these) holder loops)
    ∙ sym (ap (λ l. nodes ++ body_nodes tables params found l (length nodes + 1) holder loops) split)))

pub one_more_counted : (tables : List TableInfo) (params found : ℕ) (nodes new : List Node) (ss : List RStmt) (i : ℕ) (d : RStmt) (holder : Option ℕ) (loops : List ℕ) → i < length ss
    → new ≡ nodes ++ nodes_of tables params found (slice_index_or ss i d) (length nodes + 1) holder loops
    → length new + total_size (map size (drop (i + 1) ss)) ≡ length nodes + total_size (map size (drop i ss))
one_more_counted tables params found nodes new ss i d holder loops lt is =
    let next : suc i ≡ i + 1 = omega arith in
    let these : List Node = nodes_of tables params found (slice_index_or ss i d) (length nodes + 1) holder loops in
    let rest : List RStmt = drop (i + 1) ss in
    let split : drop i ss ≡ slice_index_or ss i d ∷ rest = drop-cons ss i d lt ∙ ap (λ k. slice_index_or ss i d ∷ drop k ss) next in
    let sums : total_size (map size (drop i ss)) ≡ size (slice_index_or ss i d) + total_size (map size rest) = ap (λ l. total_size (map size l)) split in
    omega (arith, ap length is, length-append nodes these, nodes_count tables params found (slice_index_or ss i d) (length nodes + 1) holder loops, sums)
