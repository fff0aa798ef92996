-- The grammar of scripts is read with one token ahead.
use Rattle.std.proofs.Common.{◌≡◌, ℕ, zero, suc, Bool, true, false, cond, List, [], ◌∷◌, Ok, inl, inr, refl, sym, subst, append-nil}
use Rattle.mv_lex.proofs.Fronts.{chosen}
use denote.Enum.Bare.{sameb}
use Rattle.mv_ast.specs.contracts.lexeme.Terminal.{the_type}
use Rattle.mv_ast.specs.declared.lexeme.Lexeme.{Lexeme}
use Rattle.mv_ast.specs.declared.lexeme.Terminal.{Terminal}
use Rattle.mv_ast.specs.declared.tree.Script.{Script}
use Rattle.mv_ast.specs.Parts.{Is}
use Rattle.mv_ast.specs.Grammar as rule
use Rattle.mv_ast.specs.Grammar.{inner, script, expr, stmt}
use Rattle.mv_parser.specs.Reading.{inside, read, first, is_among, starts_with, expression_words, statement_words}
use Rattle.mv_parser.proofs.Basics.{same_kind}
use Rattle.mv_parser.proofs.Takes.{TakesAll, InnerTakes, takes}
use Rattle.mv_parser.proofs.Guarded.{is_guarded}
use Rattle.mv_parser.proofs.Again.{expression_tail, tail, is_clear, InnerHeads, heads, InnerAgain, again}

-- all rules, opened at once
all_rules : Unit {0}
unfolding rule.name rule.variable rule.literal rule.lit_row rule.column_type rule.row_col rule.col_def rule.columns rule.opening_rows rule.table rule.param_kind rule.param rule.declaration rule.read_only rule.procedure rule.block rule.lit_rows rule.arg rule.create rule.copy rule.call rule.journal rule.an_item rule.script rule.op rule.variable_expr rule.in_parentheses rule.left_call rule.contains_call rule.text_of_call rule.prim rule.fac rule.term_op rule.term rule.sum_op rule.sum rule.comp rule.neg rule.conj rule.expr rule.cond rule.conds rule.direction rule.sort rule.sorts rule.assign rule.select_columns rule.counted rule.aggregate rule.total rule.select rule.loop_body rule.for_plain rule.for_distinct rule.for_rows rule.for_each rule.otherwise rule.branch rule.insert rule.set_item rule.update rule.delete rule.print rule.rollback rule.stmt
all_rules = tt

abbrev are_within : List Terminal → List Terminal → Bool
are_within [] ks = true
are_within (j ∷ js) ks = cond (is_among ks j) (are_within js ks) false

within_not : (js ks : List Terminal) (t : Terminal) → are_within js ks ≡ true → is_among ks t ≡ false → is_among js t ≡ false
within_not [] ks t w n = refl
within_not (j ∷ js) ks t w n =
    elim (chosen (is_among ks j) (are_within js ks) false true w) [
      | inl a ↦ go (sameb the_type t j) refl a.0 (within_not js ks t a.1 n)
      | inr a ↦ cc
    ]
  where
    go : (b : Bool) → sameb the_type t j ≡ b → is_among ks j ≡ true → is_among js t ≡ false → cond b true (is_among js t) ≡ false
    go true e a i = let f : is_among ks t ≡ true = subst (λ k. is_among ks k ≡ true) (sym (same_kind t j e)) a in cc
    go false e a i = i

within_not_starting : (js ks : List Terminal) (ts : List Lexeme) → are_within js ks ≡ true → starts_with ks ts ≡ false → starts_with js ts ≡ false
within_not_starting js ks [] w n = refl
within_not_starting js ks (l ∷ ts) w n = within_not js ks l.kind w n

pub inner_takes : (bytes : List ℕ) (d : ℕ) → InnerTakes (inner bytes d) (inside bytes d)
unfolding inner inside
inner_takes bytes zero = record { expr = λ ts v rest h. cc; stmt = λ ts v rest h. cc }
inner_takes bytes (suc d) = record {
  expr = takes (inner bytes d) (inside bytes d) (inner_takes bytes d) (expr bytes);
  stmt = takes (inner bytes d) (inside bytes d) (inner_takes bytes d) (stmt bytes);
}

pub inner_heads : (bytes : List ℕ) (d : ℕ) → InnerHeads (inner bytes d)
unfolding inner all_rules
inner_heads bytes zero = record { expr = λ ts v i. absurd i; stmt = λ ts v i. absurd i }
inner_heads bytes (suc d) = record {
  expr = λ ts v i. heads (inner bytes d) (inner_heads bytes d) (expr bytes) ts v i;
  stmt = λ ts v i. heads (inner bytes d) (inner_heads bytes d) (stmt bytes) ts v i;
}

pub expr_first : (bytes : List ℕ) → first (expr bytes) ≡ expression_words
unfolding all_rules
expr_first bytes = refl

pub stmt_first : (bytes : List ℕ) → first (stmt bytes) ≡ statement_words
unfolding all_rules
stmt_first bytes = refl

pub expr_clear : (bytes : List ℕ) → is_clear (expr bytes) ≡ true
unfolding all_rules
expr_clear bytes = refl

expr_tail : (bytes : List ℕ) → are_within (tail (expr bytes)) expression_tail ≡ true
unfolding all_rules
expr_tail bytes = refl

pub stmt_clear : (bytes : List ℕ) → is_clear (stmt bytes) ≡ true
unfolding all_rules
stmt_clear bytes = refl

stmt_tail : (bytes : List ℕ) → tail (stmt bytes) ≡ []
unfolding all_rules
stmt_tail bytes = refl

pub script_clear : (bytes : List ℕ) → is_clear (script bytes) ≡ true
unfolding all_rules
script_clear bytes = refl

pub expr_guarded : (bytes : List ℕ) → is_guarded (expr bytes) ≡ true
unfolding all_rules
expr_guarded bytes = refl

pub stmt_guarded : (bytes : List ℕ) → is_guarded (stmt bytes) ≡ true
unfolding all_rules
stmt_guarded bytes = refl

pub script_guarded : (bytes : List ℕ) → is_guarded (script bytes) ≡ true
unfolding all_rules
script_guarded bytes = refl

pub inner_again : (bytes : List ℕ) (d : ℕ) → InnerAgain (inner bytes d) (inside bytes d)
unfolding inner inside
inner_again bytes zero = record { expr = λ ts v i rest h. absurd i; stmt = λ ts v i rest h. absurd i }
inner_again bytes (suc d) = record {
  expr = λ ts v i rest h. again (inner bytes d) (inside bytes d) (inner_heads bytes d) (inner_again bytes d) (expr bytes) (expr_clear bytes) ts v i rest
      (within_not_starting (tail (expr bytes)) expression_tail rest (expr_tail bytes) h);
  stmt = λ ts v i rest h. again (inner bytes d) (inside bytes d) (inner_heads bytes d) (inner_again bytes d) (stmt bytes) (stmt_clear bytes) ts v i rest
      (subst (λ ks. starts_with ks rest ≡ false) (sym (stmt_tail bytes)) h);
}

-- the whole of a script
pub script_takes : (bytes : List ℕ) (d : ℕ) → TakesAll (Is (inner bytes d) (script bytes)) (read (inside bytes d) (script bytes))
script_takes bytes d = takes (inner bytes d) (inside bytes d) (inner_takes bytes d) (script bytes)

pub script_again : (bytes : List ℕ) (d : ℕ) (ts : List Lexeme) (v : Script) → Is (inner bytes d) (script bytes) ts v
    → read (inside bytes d) (script bytes) ts ≡ Ok (v, [])
script_again bytes d ts v i =
    subst (λ zs. read (inside bytes d) (script bytes) zs ≡ Ok (v, [])) (append-nil ts)
    (again (inner bytes d) (inside bytes d) (inner_heads bytes d) (inner_again bytes d) (script bytes) (script_clear bytes) ts v i [] refl)
