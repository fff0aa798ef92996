-- Steps added one after another.
use Rattle.std.proofs.Common.{◌≡◌, ◌<◌, ◌≤◌, ℕ, suc, ◌+◌, ◌-◌, List, [], ◌∷◌, ◌++◌, length, drop, slice_index_or, sym, ap, ◌∙◌, arith, append_assoc}
use Rattle.std.proofs.Math.Seq.{drop-cons}
use Rattle.mv_catalog.specs.Statements.{size, size_of}
use Rattle.mv_catalog.specs.declared.resolved.RStmt.{RStmt, out-RStmt, roll-RStmt, out-roll-RStmt}
use Rattle.mv_catalog.specs.declared.resolved.RStmt.TheOpen as open'
use Rattle.mv_catalog.specs.declared.resolved.RStmt.TheVariants.{ForSelect, rolls-ForSelect}
use Rattle.mv_graph.specs.declared.graph.Step.{Step}
use Rattle.mv_graph.specs.Steps.{own_part, own_step, skip_by, steps_of, body_steps}
use Rattle.mv_graph.proofs.Counts.{many_steps, steps_out}
use Rattle.mv_compile.specs.Held.{steps_held}

pub own_first : (params : ℕ) (old mid new : List Step) (own : Step) (s : RStmt) (behind : ℕ) → own ≡ own_step params (out-RStmt s) (size s) (skip_by size_of (out-RStmt s)) behind
    → mid ≡ old ++ own ∷ [] → new ≡ mid ++ steps_held params (out-RStmt s) → new ≡ old ++ steps_of params s behind
own_first params old mid new own s behind own_is mid_is new_is =
    new_is
    ∙ (ap (λ l. l ++ steps_held params (out-RStmt s)) mid_is
    ∙ (append_assoc old (own ∷ []) (steps_held params (out-RStmt s))
    ∙ (ap (λ o. old ++ (o ∷ steps_held params (out-RStmt s))) own_is ∙ ap (λ l. old ++ l) (sym (steps_out params s behind)))))

-- the first of those that are left
pub one_more : (params : ℕ) (old new : List Step) (s : RStmt) (rest all : List RStmt) (behind left : ℕ) → new ≡ old ++ steps_of params s behind → all ≡ s ∷ rest → left ≡ size_of all → behind ≡ left - size s
    → new ++ body_steps params rest ≡ old ++ body_steps params all
one_more params old new s rest all behind left is are many less =
    let same : behind ≡ length (body_steps params rest) = (let e : size_of all ≡ size s + size_of rest = ap size_of are in omega (arith, less, many, e, many_steps params rest)) in
    ap (λ l. l ++ body_steps params rest) (is ∙ ap (λ n. old ++ steps_of params s n) same)
    ∙ (append_assoc old (steps_of params s (length (body_steps params rest))) (body_steps params rest) ∙ ap (λ l. old ++ l) (sym (ap (body_steps params) are)))

pub record MoreSteps (params : ℕ) (old new : List Step) (ss : List RStmt) (i left : ℕ) : Type 0 where
  pub steps : new ++ body_steps params (drop (i + 1) ss) ≡ old ++ body_steps params (drop i ss)
  pub behind : left ≡ size_of (drop (i + 1) ss)
  pub fewer : size_of (drop (i + 1) ss) ≤ size_of (drop i ss)

pub more_steps : (params : ℕ) (old new : List Step) (ss : List RStmt) (i : ℕ) (d : RStmt) (behind size_is : ℕ) → i < length ss → size_is ≡ size (slice_index_or ss i d)
    → new ≡ old ++ steps_of params (slice_index_or ss i d) (behind - size_is) → behind ≡ size_of (drop i ss) → MoreSteps params old new ss i (behind - size_is)
more_steps params old new ss i d behind size_is lt sized is left =
    let next : suc i ≡ i + 1 = omega arith in
    let s : RStmt = slice_index_or ss i d in
    let rest : List RStmt = drop (i + 1) ss in
    let split : drop i ss ≡ s ∷ rest = drop-cons ss i d lt ∙ ap (λ k. s ∷ drop k ss) next in
    let sums : size_of (drop i ss) ≡ size s + size_of rest = ap size_of split in
    record {
      steps = one_more params old new s rest (drop i ss) (behind - size_is) behind is split left (omega (arith, sized));
      behind = omega (arith, left, sums, sized);
      fewer = omega (arith, sums);
    }

-- a FOR over a query without its body
pub select_own : (s : RStmt) (x : ℕ) (once : _) (cs : _) (t : ℕ) (conds : _) (sorts : _) (body none : List RStmt) (cs' : _) (conds' : _) (sorts' : _) → s ≡ ForSelect x once cs t conds sorts body
    → cs' ≡ cs → conds' ≡ conds → sorts' ≡ sorts → none ≡ [] → ForSelect x once cs' t conds' sorts' none ≡ roll-RStmt (own_part (out-RStmt s))
select_own s x once cs t conds sorts body none cs' conds' sorts' is cs_is conds_is sorts_is none_is =
    let out : out-RStmt s ≡ open'.ForSelect x once cs t conds sorts body = ap out-RStmt (is ∙ sym (rolls-ForSelect x once cs t conds sorts body)) ∙ out-roll-RStmt (open'.ForSelect x once cs t conds sorts body) in
    ap (λ l. ForSelect x once l t conds' sorts' none) cs_is
    ∙ (ap (λ l. ForSelect x once cs t l sorts' none) conds_is
    ∙ (ap (λ l. ForSelect x once cs t conds l none) sorts_is
    ∙ (ap (ForSelect x once cs t conds sorts) none_is
    ∙ (sym (rolls-ForSelect x once cs t conds sorts []) ∙ sym (ap (λ y. roll-RStmt (own_part y)) out)))))
