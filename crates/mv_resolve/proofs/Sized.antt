-- What is built of statements is as many statements.
use Rattle.std.proofs.Common.{◌≡◌, ℕ, ◌+◌, List, [], ◌∷◌, ◌++◌, map, length, refl, sym, ap, subst, ◌∙◌, arith, length-append}
use Rattle.mv_ast.specs.declared.tree.TableDef.{TableDef}
use Rattle.mv_ast.specs.declared.tree.Stmt.{Stmt}
use Rattle.mv_ast.specs.declared.tree.Stmt.TheOpen as tree
use Rattle.mv_ast.specs.declared.tree.Stmt.TheViews.{roll-Stmt}
use Rattle.mv_ast.specs.declared.tree.Stmt.TheFolds.{fold-roll-Stmt, map-Stmt, ind-Stmt}
use Rattle.mv_ast.specs.Limits.{together, statement_tokens, tokens_step}
use Rattle.mv_resolve.specs.declared.slot.NamedSlot.{NamedSlot}
use Rattle.mv_catalog.specs.declared.resolved.RStmt.{RStmt}
use Rattle.mv_catalog.specs.declared.resolved.RStmt.TheOpen as open'
use Rattle.mv_catalog.specs.declared.resolved.RStmt.TheViews.{roll-RStmt}
use Rattle.mv_catalog.specs.declared.resolved.RStmt.TheVariants.{rolls-Assign, rolls-Select, rolls-Total, rolls-ForSelect, rolls-ForRows, rolls-Branch, rolls-Insert, rolls-Update, rolls-Delete, rolls-Print, rolls-Rollback}
use Rattle.mv_catalog.specs.declared.resolved.RStmt.TheFolds.{fold-roll-RStmt, map-RStmt}
use Rattle.mv_resolve.specs.Building as build
use Rattle.mv_resolve.specs.Building.{Built, built, build_all}
use Rattle.mv_catalog.specs.Statements.{size, size_of, size_step}

size_is : (d : open'.RStmt-F RStmt) (s : RStmt) → roll-RStmt d ≡ s → size s ≡ size_step (map-RStmt RStmt ℕ size d)
size_is d s e = subst (λ r. size r ≡ size_step (map-RStmt RStmt ℕ size d)) e (fold-roll-RStmt ℕ size_step d)

-- what is built is as many statements as there are first tokens
abbrev Sized : Built → List ℕ → Type 0
Sized b ts = (slots : List NamedSlot) (n : ℕ) → size (b.build slots n) ≡ length ts

module _ (tables : List TableDef) where
  abbrev Known : Type 0
  Known = (s : Stmt) × Sized (built tables s) (statement_tokens s)

  known_sized : (ys : List Known) (slots : List NamedSlot) (n : ℕ) → let ss = map (λ p. p.0) ys in size_of (build_all (map (built tables) ss) slots n) ≡ length (together (map statement_tokens ss))
  known_sized [] slots n = refl
  known_sized (p ∷ ps) slots n =
      let ss = map (λ q. q.0) ps in
      let first = p.1 slots n in
      let rest = known_sized ps slots (n + (built tables p.0).loops) in
      omega (arith, first, rest, length-append (statement_tokens p.0) (together (map statement_tokens ss)))

  step_sized : (y : tree.Stmt-F Known) → let d = map-Stmt Known Stmt (λ p. p.0) y in
      Sized (build.stmt_step tables (map-Stmt Stmt Built (built tables) d)) (tokens_step (map-Stmt Stmt (List ℕ) statement_tokens d))
  step_sized (tree.Assign token to right) slots n = size_is (open'.Assign _ _) _ (rolls-Assign _ _)
  step_sized (tree.Select token columns to table conds sorts offset) slots n = size_is (open'.Select _ _ _ _ _ _) _ (rolls-Select _ _ _ _ _ _)
  step_sized (tree.Total token agg to table conds) slots n = size_is (open'.Total _ _ _ _) _ (rolls-Total _ _ _ _)
  step_sized (tree.ForSelect token turn distinct columns table conds sorts body) slots n =
      let h = known_sized body (slots ++ build.slot n turn.text (build.names_of columns) ∷ []) (n + 1) in
      size_is (open'.ForSelect _ _ _ _ _ _ _) _ (rolls-ForSelect _ _ _ _ _ _ _) ∙ omega (arith, h)
  step_sized (tree.ForRows token turn over body) slots n =
      let h = known_sized body (slots ++ build.slot n turn.text (build.fields_in (build.slot_named slots over.text)) ∷ []) (n + 1) in
      size_is (open'.ForRows _ _ _) _ (rolls-ForRows _ _ _) ∙ omega (arith, h)
  step_sized (tree.Branch token test ys ns) slots n =
      let h = known_sized ys slots n in
      let k = known_sized ns slots (n + build.loops_in (map (built tables) (map (λ p. p.0) ys))) in
      size_is (open'.Branch _ _ _) _ (rolls-Branch _ _ _)
      ∙ omega (arith, h, k, length-append (together (map statement_tokens (map (λ p. p.0) ys))) (together (map statement_tokens (map (λ p. p.0) ns))))
  step_sized (tree.Insert token table values) slots n = size_is (open'.Insert _ _) _ (rolls-Insert _ _)
  step_sized (tree.Update token table items conds) slots n = size_is (open'.Update _ _ _) _ (rolls-Update _ _ _)
  step_sized (tree.Delete token table conds) slots n = size_is (open'.Delete _ _) _ (rolls-Delete _ _)
  step_sized (tree.Print token values) slots n = size_is (open'.Print _) _ (rolls-Print _)
  step_sized (tree.Rollback token reason) slots n = size_is (open'.Rollback _) _ (rolls-Rollback _)

  rolled_sized : (x : tree.Stmt-F Stmt) (y : tree.Stmt-F Known) → map-Stmt Known Stmt (λ p. p.0) y ≡ x → Sized (built tables (roll-Stmt x)) (statement_tokens (roll-Stmt x))
  rolled_sized x y is slots n =
      let d = map-Stmt Known Stmt (λ p. p.0) y in
      subst (λ z. size ((built tables (roll-Stmt z)).build slots n) ≡ length (statement_tokens (roll-Stmt z))) is
      (ap (λ b. size (b.build slots n)) (fold-roll-Stmt Built (build.stmt_step tables) d) ∙ (step_sized y slots n ∙ ap length (sym (fold-roll-Stmt (List ℕ) tokens_step d))))

  stmt_sized : (s : Stmt) → Sized (built tables s) (statement_tokens s)
  stmt_sized = ind-Stmt (λ s. Sized (built tables s) (statement_tokens s)) rolled_sized

  pub all_sized : (ss : List Stmt) (slots : List NamedSlot) (n : ℕ) → size_of (build_all (map (built tables) ss) slots n) ≡ length (together (map statement_tokens ss))
  all_sized [] slots n = refl
  all_sized (s ∷ ss) slots n =
      omega (arith, stmt_sized s slots n, all_sized ss slots (n + (built tables s).loops), length-append (statement_tokens s) (together (map statement_tokens ss)))
