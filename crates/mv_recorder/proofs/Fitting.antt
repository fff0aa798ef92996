-- Statements of a text that are well formed, and what they hold.
use Rattle.std.proofs.Common.{◌≡◌, ◌<◌, ◌+◌, ◌^◌, ℕ, List, ◌∷◌, length, map, drop, get_or, refl, sym, ap, subst, ◌∙◌, arith}
use Rattle.mv_values.specs.declared.schema.TableInfo.{TableInfo}
use Rattle.mv_values.proofs.Deciding.{from_place}
use Rattle.mv_catalog.specs.declared.resolved.RStmt.{RStmt, out-RStmt, roll-out-RStmt, map-RStmt}
use Rattle.mv_catalog.specs.declared.resolved.RStmt.TheOpen.{RStmt-F, Assign, Select, Total, ForSelect, ForRows, Branch, Insert, Update, Delete, Print, Rollback}
use Rattle.mv_catalog.specs.Statements.{stmt_step, IsWell, with_turn, size, size_step, size_of, total_size}
use Rattle.mv_catalog.specs.Types.{Vars}
use Rattle.mv_catalog.proofs.Typed.{well_by}
use Rattle.mv_recorded.specs.Effect.{HasColumns}
use Rattle.mv_recorded.proofs.Effects.{columns_there}
use Rattle.mv_recorded.proofs.Unrolled.{size_is}
use Rattle.mv_recorded.specs.Naming.{NamesColumns}
use Rattle.mv_recorder.specs.Running.{IsFit, AreFit, IsBranchFit, HoldsFit}
use Rattle.mv_recorded.proofs.WellNamed.{well_named}

pub fit_named : (tables : List TableInfo) (s : RStmt) → IsFit tables s → NamesColumns tables (out-RStmt s)
fit_named tables s fit = well_named tables s fit.0 fit.1

-- the rules of its kind hold of a statement that is well formed
rules_of : (tables : List TableInfo) (s : RStmt) (y : RStmt-F RStmt) (fit : IsFit tables s) → out-RStmt s ≡ y → stmt_step tables RStmt (λ z. z) (IsWell tables) y fit.0
rules_of tables s y fit is = subst (λ z. stmt_step tables RStmt (λ w. w) (IsWell tables) z fit.0) is (well_by tables (out-RStmt s) s fit.0 (roll-out-RStmt s) fit.1)

pub fit_columns : (tables : List TableInfo) (s : RStmt) → IsFit tables s → HasColumns (out-RStmt s)
fit_columns tables s fit = columns_there tables (λ z. z) (IsWell tables) (out-RStmt s) fit.0 (rules_of tables s (out-RStmt s) fit refl)

-- Lists

first_fit : (tables : List TableInfo) (n : ℕ) (s : RStmt) (ss : List RStmt) → AreFit tables n (s ∷ ss) → IsFit tables s × (n + size s < 2 ^ 16) × AreFit tables (n + size s) ss
first_fit tables n s ss fit =
    let sum : size_of (s ∷ ss) ≡ size s + size_of ss = refl in
    ((fit.vars, fit.well.0), omega (arith, fit.small, sum), record { vars = fit.vars; well = fit.well.1; small = omega (arith, fit.small, sum) })

pub place_fit : (tables : List TableInfo) (n : ℕ) (ss : List RStmt) (k : ℕ) (s : RStmt) → k < length ss → s ≡ get_or ss k s → AreFit tables n (drop k ss)
    → IsFit tables s × (n + size s < 2 ^ 16) × AreFit tables (n + size s) (drop (k + 1) ss)
place_fit tables n ss k s lt is fit = first_fit tables n s (drop (k + 1) ss) (subst (AreFit tables n) (from_place ss k s lt is) fit)

-- What statements hold

size_out : (s : RStmt) (y : RStmt-F RStmt) → out-RStmt s ≡ y → size s ≡ size_step (map-RStmt RStmt ℕ size y)
size_out s y is = sym (ap size (roll-out-RStmt s)) ∙ (size_is (out-RStmt s) ∙ ap (λ z. size_step (map-RStmt RStmt ℕ size z)) is)

-- a statement counts itself
pub size_some : (s : RStmt) → 0 < size s
size_some s = subst (λ k. 0 < k) (sym (size_out s (out-RStmt s) refl)) (by (map-RStmt RStmt ℕ size (out-RStmt s)))
  where
    by : (y : RStmt-F ℕ) → 0 < size_step y
    by (Assign x e) = omega arith
    by (Select cs xs t conds sorts offset) = omega arith
    by (Total agg x t conds) = omega arith
    by (ForSelect x once cs t conds sorts body) = omega arith
    by (ForRows x over body) = omega arith
    by (Branch e ys ns) = omega arith
    by (Insert t es) = omega arith
    by (Update t items conds) = omega arith
    by (Delete t conds) = omega arith
    by (Print es) = omega arith
    by (Rollback reason) = omega arith

holds : (tables : List TableInfo) (n : ℕ) (y : RStmt-F RStmt) (vars : Vars) → stmt_step tables RStmt (λ z. z) (IsWell tables) y vars → n + size_step (map-RStmt RStmt ℕ size y) < 2 ^ 16 → HoldsFit tables (n + 1) y
holds tables n (ForSelect x once cs t conds sorts body) vars h small = record { vars = with_turn vars x h.2.3.0; well = h.2.3.2; small = omega (arith, small) }
holds tables n (ForRows x over body) vars h small = record { vars = with_turn vars x h.0; well = h.3; small = omega (arith, small) }
holds tables n (Branch e ys ns) vars h small = record {
  first = record { vars = vars; well = h.1; small = omega (arith, small) };
  second = record { vars = vars; well = h.2; small = omega (arith, small) };
}
holds tables n (Assign x e) vars h small = tt
holds tables n (Select cs xs t conds sorts offset) vars h small = tt
holds tables n (Total agg x t conds) vars h small = tt
holds tables n (Insert t es) vars h small = tt
holds tables n (Update t items conds) vars h small = tt
holds tables n (Delete t conds) vars h small = tt
holds tables n (Print es) vars h small = tt
holds tables n (Rollback reason) vars h small = tt

-- what a statement holds is well formed
pub holds_fit : (tables : List TableInfo) (n : ℕ) (s : RStmt) → IsFit tables s → n + size s < 2 ^ 16 → HoldsFit tables (n + 1) (out-RStmt s)
holds_fit tables n s fit small = holds tables n (out-RStmt s) fit.0 (rules_of tables s (out-RStmt s) fit refl) (subst (λ k. n + k < 2 ^ 16) (size_out s (out-RStmt s) refl) small)

-- the second branch of an IF, after the statements of the first one
pub second_fit : (tables : List TableInfo) (n m : ℕ) (ys ns : List RStmt) → IsBranchFit tables n ys ns → m ≡ total_size (map size ys) → AreFit tables (n + m) ns
second_fit tables n m ys ns fit is = subst (λ k. AreFit tables (n + k) ns) (sym is) fit.second
