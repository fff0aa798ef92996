-- The tables that statements ask.
use Rattle.std.proofs.Common.{◌≡◌, ℕ, List, [], ◌∷◌, map, refl, sym, ap, ◌∙◌}
use Rattle.mv_values.specs.References.{Reference}
use Rattle.mv_checks.specs.declared.children.Child.{Child}
use Rattle.mv_checks.specs.Checking.{reference_to}

-- columns and their references are of the same tables
pub child_tables : (t : ℕ) (children : List Child) (refs : List Reference) → map (reference_to t) children ≡ refs → map (λ (child : Child). child.table) children ≡ map (λ (r : Reference). r.table) refs
child_tables t children refs is = same children ∙ ap (map (λ (r : Reference). r.table)) is
  where
    same : (cs : List Child) → map (λ (child : Child). child.table) cs ≡ map (λ (r : Reference). r.table) (map (reference_to t) cs)
    same [] = refl
    same (c ∷ cs) = ap (λ l. c.table ∷ l) (same cs)
