-- Statements, as they are printed and read again.
use Rattle.std.proofs.Common.{◌≡◌, ℕ, zero, suc, ◌≤◌, Bool, true, false, List, [], ◌∷◌, ◌++◌, Option, map, refl, sym, ap, subst, ◌∙◌, append_assoc, arith, inl, inr}
use Rattle.std.specs.Option.{option_map}
use Rattle.mv_ast.specs.declared.lexeme.Lexeme.{Lexeme}
use Rattle.mv_ast.specs.declared.lexeme.Terminal.TheVariants as word
use Rattle.mv_ast.specs.declared.tree.Agg.{Agg}
use Rattle.mv_ast.specs.declared.tree.Cond.{Cond}
use Rattle.mv_ast.specs.declared.tree.Expr.{Expr}
use Rattle.mv_ast.specs.declared.tree.Name.{Name}
use Rattle.mv_ast.specs.declared.tree.SetItem.{SetItem}
use Rattle.mv_ast.specs.declared.tree.Sort.{Sort}
use Rattle.mv_ast.specs.declared.tree.Stmt.{Stmt}
use Rattle.mv_ast.specs.declared.tree.Stmt.TheFolds.{fold-roll-Stmt}
use Rattle.mv_ast.specs.declared.tree.Stmt.TheOpen as inside
use Rattle.mv_ast.specs.declared.tree.Stmt.TheOpen.{Stmt-F}
use Rattle.mv_ast.specs.declared.tree.Stmt.TheVariants as tree
use Rattle.mv_ast.specs.Parts.{Part, give, one, expression, statement}
use Rattle.mv_ast.specs.Grammar as rule
use Rattle.mv_ast.specs.Grammar.{inner, ◌⊛◌, ◌▸◌}
use Rattle.mv_print.specs.Printing.{Piece, key, line_end, name_piece, name_pieces, variable_piece, variable_pieces, text_piece, whole_expr, conds_pieces, sorts_pieces, offset_pieces, agg_pieces, set_pieces, listed, else_lead, statement_step, statement_pieces, statements_pieces}
use Rattle.mv_print.specs.Same.{placeless_name, placeless_expr, placeless_cond, placeless_sort, placeless_set, placeless_agg, placeless_statement, statement_step as placeless_step}
use Rattle.mv_print.proofs.Light.{kinds, Light, light_plain, light_drop, light_through}
use Rattle.mv_print.proofs.Building.{marks, light_nothing, TurnsTo, turns_then, turns_level, turns_deeper, turns_raised, Prints, Turned, Turns, turns_give, turns_next, turns_either, turns_as, Reading, gives_next, gives_give, gives_one, prints_inl, prints_inr, prints_give}
use Rattle.mv_print.proofs.Sounding.{IsContent, sound_key, sound_text}
use Rattle.mv_print.proofs.Meaning.{Good, meant_text}
use Rattle.mv_print.proofs.Trees.{of_rows, of_select, of_branch, ending}
use Rattle.mv_print.proofs.Turning.{plain_key, skip_ends, place_open, skip, skip_end, behind_key, place_key, turns_parens, turns_many, turns_commas, turns_optional, turns_found}
use Rattle.mv_print.proofs.Tokens.{prints_token, SameName, text_read}
use Rattle.mv_print.proofs.Rules.{Rule, same2, same3, same4, same5, same6, rule_name, rule_variable, rule_expression, rule_conds, rule_sorts, rule_set, rule_agg}

-- the pieces and the tree without places of each statement
pieces_assign : (t : ℕ) (to : Name) (right : Expr) → statement_pieces (tree.Assign t to right) ≡ key word.Set ∷ variable_piece to ∷ key word.Equal ∷ (whole_expr right ++ line_end ∷ [])
pieces_assign t to right = ap statement_pieces (sym (tree.rolls-Assign t to right)) ∙ fold-roll-Stmt (List Piece) statement_step (inside.Assign t to right)

pub bare_assign : (t : ℕ) (to : Name) (right : Expr) → placeless_statement (tree.Assign t to right) ≡ tree.Assign 0 (placeless_name to) (placeless_expr right)
bare_assign t to right = ap placeless_statement (sym (tree.rolls-Assign t to right)) ∙ fold-roll-Stmt Stmt placeless_step (inside.Assign t to right)

pieces_select : (t : ℕ) (columns to : List Name) (table : Name) (conds : List Cond) (sorts : List Sort) (offset : Option Expr) → statement_pieces (tree.Select t columns to table conds sorts offset)
    ≡ key word.Select ∷ (listed name_pieces columns ++ key word.Into ∷ (listed variable_pieces to ++ key word.From ∷ name_piece table ∷ (conds_pieces conds ++ (sorts_pieces sorts ++ (offset_pieces offset ++ line_end ∷ [])))))
pieces_select t columns to table conds sorts offset =
    ap statement_pieces (sym (tree.rolls-Select t columns to table conds sorts offset)) ∙ fold-roll-Stmt (List Piece) statement_step (inside.Select t columns to table conds sorts offset)

pub bare_select : (t : ℕ) (columns to : List Name) (table : Name) (conds : List Cond) (sorts : List Sort) (offset : Option Expr) → placeless_statement (tree.Select t columns to table conds sorts offset)
    ≡ tree.Select 0 (map placeless_name columns) (map placeless_name to) (placeless_name table) (map placeless_cond conds) (map placeless_sort sorts) (option_map placeless_expr offset)
bare_select t columns to table conds sorts offset =
    ap placeless_statement (sym (tree.rolls-Select t columns to table conds sorts offset)) ∙ fold-roll-Stmt Stmt placeless_step (inside.Select t columns to table conds sorts offset)

pieces_total : (t : ℕ) (f : Agg) (to : Name) (table : Name) (conds : List Cond) → statement_pieces (tree.Total t f to table conds) ≡ key word.Select ∷ (agg_pieces f ++ key word.Into ∷ variable_piece to ∷ key word.From ∷ name_piece table ∷ (conds_pieces conds ++ line_end ∷ []))
pieces_total t f to table conds = ap statement_pieces (sym (tree.rolls-Total t f to table conds)) ∙ fold-roll-Stmt (List Piece) statement_step (inside.Total t f to table conds)

pub bare_total : (t : ℕ) (f : Agg) (to : Name) (table : Name) (conds : List Cond) → placeless_statement (tree.Total t f to table conds) ≡ tree.Total 0 (placeless_agg f) (placeless_name to) (placeless_name table) (map placeless_cond conds)
bare_total t f to table conds = ap placeless_statement (sym (tree.rolls-Total t f to table conds)) ∙ fold-roll-Stmt Stmt placeless_step (inside.Total t f to table conds)

pub bare_for_select : (t : ℕ) (row : Name) (distinct : Bool) (columns : List Name) (table : Name) (conds : List Cond) (sorts : List Sort) (body : List Stmt) → placeless_statement (tree.ForSelect t row distinct columns table conds sorts body) ≡ tree.ForSelect 0 (placeless_name row) distinct (map placeless_name columns) (placeless_name table) (map placeless_cond conds) (map placeless_sort sorts) (map placeless_statement body)
bare_for_select t row distinct columns table conds sorts body = ap placeless_statement (sym (tree.rolls-ForSelect t row distinct columns table conds sorts body)) ∙ fold-roll-Stmt Stmt placeless_step (inside.ForSelect t row distinct columns table conds sorts body)

pub bare_for_rows : (t : ℕ) (row : Name) (rows : Name) (body : List Stmt) → placeless_statement (tree.ForRows t row rows body) ≡ tree.ForRows 0 (placeless_name row) (placeless_name rows) (map placeless_statement body)
bare_for_rows t row rows body = ap placeless_statement (sym (tree.rolls-ForRows t row rows body)) ∙ fold-roll-Stmt Stmt placeless_step (inside.ForRows t row rows body)

pub bare_branch : (t : ℕ) (test : Expr) (ys : List Stmt) (ns : List Stmt) → placeless_statement (tree.Branch t test ys ns) ≡ tree.Branch 0 (placeless_expr test) (map placeless_statement ys) (map placeless_statement ns)
bare_branch t test ys ns = ap placeless_statement (sym (tree.rolls-Branch t test ys ns)) ∙ fold-roll-Stmt Stmt placeless_step (inside.Branch t test ys ns)

pieces_insert : (t : ℕ) (table : Name) (values : List Expr) → statement_pieces (tree.Insert t table values) ≡ key word.Insert ∷ key word.Into ∷ name_piece table ∷ key word.Values ∷ key word.Open ∷ (listed whole_expr values ++ key word.Close ∷ line_end ∷ [])
pieces_insert t table values = ap statement_pieces (sym (tree.rolls-Insert t table values)) ∙ fold-roll-Stmt (List Piece) statement_step (inside.Insert t table values)

pub bare_insert : (t : ℕ) (table : Name) (values : List Expr) → placeless_statement (tree.Insert t table values) ≡ tree.Insert 0 (placeless_name table) (map placeless_expr values)
bare_insert t table values = ap placeless_statement (sym (tree.rolls-Insert t table values)) ∙ fold-roll-Stmt Stmt placeless_step (inside.Insert t table values)

pieces_update : (t : ℕ) (table : Name) (items : List SetItem) (conds : List Cond) → statement_pieces (tree.Update t table items conds) ≡ key word.Update ∷ name_piece table ∷ key word.Set ∷ (listed set_pieces items ++ (conds_pieces conds ++ line_end ∷ []))
pieces_update t table items conds = ap statement_pieces (sym (tree.rolls-Update t table items conds)) ∙ fold-roll-Stmt (List Piece) statement_step (inside.Update t table items conds)

pub bare_update : (t : ℕ) (table : Name) (items : List SetItem) (conds : List Cond) → placeless_statement (tree.Update t table items conds) ≡ tree.Update 0 (placeless_name table) (map placeless_set items) (map placeless_cond conds)
bare_update t table items conds = ap placeless_statement (sym (tree.rolls-Update t table items conds)) ∙ fold-roll-Stmt Stmt placeless_step (inside.Update t table items conds)

pieces_delete : (t : ℕ) (table : Name) (conds : List Cond) → statement_pieces (tree.Delete t table conds) ≡ key word.Delete ∷ key word.From ∷ name_piece table ∷ (conds_pieces conds ++ line_end ∷ [])
pieces_delete t table conds = ap statement_pieces (sym (tree.rolls-Delete t table conds)) ∙ fold-roll-Stmt (List Piece) statement_step (inside.Delete t table conds)

pub bare_delete : (t : ℕ) (table : Name) (conds : List Cond) → placeless_statement (tree.Delete t table conds) ≡ tree.Delete 0 (placeless_name table) (map placeless_cond conds)
bare_delete t table conds = ap placeless_statement (sym (tree.rolls-Delete t table conds)) ∙ fold-roll-Stmt Stmt placeless_step (inside.Delete t table conds)

pieces_print : (t : ℕ) (values : List Expr) → statement_pieces (tree.Print t values) ≡ key word.Print ∷ (listed whole_expr values ++ line_end ∷ [])
pieces_print t values = ap statement_pieces (sym (tree.rolls-Print t values)) ∙ fold-roll-Stmt (List Piece) statement_step (inside.Print t values)

pub bare_print : (t : ℕ) (values : List Expr) → placeless_statement (tree.Print t values) ≡ tree.Print 0 (map placeless_expr values)
bare_print t values = ap placeless_statement (sym (tree.rolls-Print t values)) ∙ fold-roll-Stmt Stmt placeless_step (inside.Print t values)

pieces_rollback : (t : ℕ) (reason : List ℕ) → statement_pieces (tree.Rollback t reason) ≡ key word.Rollback ∷ text_piece reason ∷ line_end ∷ []
pieces_rollback t reason = ap statement_pieces (sym (tree.rolls-Rollback t reason)) ∙ fold-roll-Stmt (List Piece) statement_step (inside.Rollback t reason)

pub bare_rollback : (t : ℕ) (reason : List ℕ) → placeless_statement (tree.Rollback t reason) ≡ tree.Rollback 0 reason
bare_rollback t reason = ap placeless_statement (sym (tree.rolls-Rollback t reason)) ∙ fold-roll-Stmt Stmt placeless_step (inside.Rollback t reason)

regroup : (test ys lead ns : List Piece) (a b c e f : Piece) → ((((((a ∷ test) ++ b ∷ []) ++ ys) ++ (lead ++ ns)) ++ c ∷ []) ++ e ∷ []) ++ f ∷ []
    ≡ a ∷ (test ++ b ∷ (ys ++ (lead ++ (ns ++ c ∷ e ∷ f ∷ []))))
regroup test ys lead ns a b c e f =
    let front = a ∷ (test ++ b ∷ []) in
    let tail = c ∷ e ∷ f ∷ [] in
    append_assoc (((front ++ ys) ++ (lead ++ ns)) ++ c ∷ []) (e ∷ []) (f ∷ [])
    ∙ (append_assoc ((front ++ ys) ++ (lead ++ ns)) (c ∷ []) (e ∷ f ∷ [])
    ∙ (append_assoc (front ++ ys) (lead ++ ns) tail
    ∙ (ap (λ r. (front ++ ys) ++ r) (append_assoc lead ns tail)
    ∙ (append_assoc front ys (lead ++ (ns ++ tail)) ∙ ap (λ r. a ∷ r) (append_assoc test (b ∷ []) (ys ++ (lead ++ (ns ++ tail))))))))

module _ (bytes text : List ℕ) (d : ℕ) where
  abbrev Way : {A B : Type 0} → Part A → Part A → (A → List Piece) → (A → B) → Type 0
  Way = Rule bytes text d

  abbrev Statement : Part Stmt → Part Stmt → Type 0
  Statement p q = Way p q statement_pieces placeless_statement

  way_assign : Statement (rule.assign bytes) (rule.assign text)
  unfolding rule.assign
  way_assign =
      skip_end (turns_next (rule_expression bytes text d) (skip (plain_key word.Equal) (turns_next (rule_variable bytes text d) (turns_next (place_key (plain_key word.Set))
      (turns_give (λ n to e. sym (pieces_assign n to e)) (λ n m u to x h e f k. bare_assign n to e ∙ (same2 (tree.Assign 0) h k ∙ sym (bare_assign m x f))))))))

  -- a SELECT behind its first word
  abbrev AfterSelect : (ℕ → Stmt) → List Piece → Type 0
  AfterSelect h ps = (n : ℕ) → key word.Select ∷ ps ≡ statement_pieces (h n)

  abbrev SameAfter : (ℕ → Stmt) → (ℕ → Stmt) → Type 0
  SameAfter h j = (n m : ℕ) → placeless_statement (h n) ≡ placeless_statement (j m)

  way_offset : Way (rule.optional (one word.Offset ▸ expression)) (rule.optional (one word.Offset ▸ expression)) offset_pieces (option_map placeless_expr)
  way_offset = turns_optional (behind_key (plain_key word.Offset) (turns_as (λ e ps h. ap (λ r. key word.Offset ∷ r) h) (λ v w h. h) (rule_expression bytes text d))) refl

  way_columns : Turns (Good bytes) bytes text d (rule.select_columns bytes) (rule.select_columns text) AfterSelect SameAfter
  unfolding rule.select_columns
  way_columns =
      skip_end (turns_next way_offset (turns_next (rule_sorts bytes text d) (turns_next (rule_conds bytes text d) (turns_next (rule_name bytes text d) (skip (plain_key word.From)
      (turns_next {fq = listed variable_pieces} (turns_commas (rule_variable bytes text d) (λ v vs. refl)) (skip (plain_key word.Into)
      (turns_next {fq = listed name_pieces} (turns_commas (rule_name bytes text d) (λ v vs. refl))
      (turns_give (λ columns to table conds sorts offset n. simp append_assoc (sym (pieces_select n columns to table conds sorts offset)))
      (λ a a' h b b' i c c' j e e' k f f' l g g' m n n'. bare_select n a b c e f g ∙ (same6 (tree.Select 0) h i j k l m ∙ sym (bare_select n' a' b' c' e' f' g'))))))))))))

  way_total : Turns (Good bytes) bytes text d (rule.total bytes) (rule.total text) AfterSelect SameAfter
  unfolding rule.total
  way_total =
      skip_end (turns_next (rule_conds bytes text d) (turns_next (rule_name bytes text d) (skip (plain_key word.From) (turns_next (rule_variable bytes text d) (skip (plain_key word.Into)
      (turns_next (rule_agg bytes text d)
      (turns_give (λ f to table conds n. simp append_assoc (sym (pieces_total n f to table conds)))
      (λ a a' h b b' i c c' j e e' k n n'. bare_total n a b c e ∙ (same4 (tree.Total 0) h i j k ∙ sym (bare_total n' a' b' c' e'))))))))))

  way_select : Statement (rule.select bytes) (rule.select text)
  unfolding rule.select
  way_select = turns_then (turns_either way_columns way_total) (turns_next (place_key (plain_key word.Select))
      (turns_give (λ n h qs k. k n) (λ n m u h j k. k n m)))

  way_insert : Statement (rule.insert bytes) (rule.insert text)
  unfolding rule.insert
  way_insert =
      skip_end (turns_next {fq = λ es. key word.Open ∷ (listed whole_expr es ++ key word.Close ∷ [])} (turns_parens (turns_commas (rule_expression bytes text d) (λ v vs. refl)))
      (skip (plain_key word.Values) (turns_next (rule_name bytes text d) (skip (plain_key word.Into) (turns_next (place_key (plain_key word.Insert))
      (turns_give (λ n table values. simp append_assoc (sym (pieces_insert n table values)))
      (λ n n' u a a' h b b' i. bare_insert n a b ∙ (same2 (tree.Insert 0) h i ∙ sym (bare_insert n' a' b')))))))))

  way_update : Statement (rule.update bytes) (rule.update text)
  unfolding rule.update
  way_update =
      skip_end (turns_next (rule_conds bytes text d) (turns_next {fq = listed set_pieces} (turns_commas (rule_set bytes text d) (λ v vs. refl)) (skip (plain_key word.Set)
      (turns_next (rule_name bytes text d) (turns_next (place_key (plain_key word.Update))
      (turns_give (λ n table items conds. simp append_assoc (sym (pieces_update n table items conds)))
      (λ n n' u a a' h b b' i c c' j. bare_update n a b c ∙ (same3 (tree.Update 0) h i j ∙ sym (bare_update n' a' b' c')))))))))

  way_delete : Statement (rule.delete bytes) (rule.delete text)
  unfolding rule.delete
  way_delete =
      skip_end (turns_next (rule_conds bytes text d) (turns_next (rule_name bytes text d) (skip (plain_key word.From) (turns_next (place_key (plain_key word.Delete))
      (turns_give (λ n table conds. sym (pieces_delete n table conds))
      (λ n n' u a a' h b b' i. bare_delete n a b ∙ (same2 (tree.Delete 0) h i ∙ sym (bare_delete n' a' b'))))))))

  way_print : Statement (rule.print bytes) (rule.print text)
  unfolding rule.print
  way_print =
      skip_end (turns_next {fq = listed whole_expr} (turns_commas (rule_expression bytes text d) (λ v vs. refl)) (turns_next (place_key (plain_key word.Print))
      (turns_give (λ n values. sym (pieces_print n values)) (λ n n' u a a' h. bare_print n a ∙ (ap (tree.Print 0) h ∙ sym (bare_print n' a'))))))

  way_text : Way (give (rule.text_of bytes) ⊛ one word.Quoted) (give (rule.text_of text) ⊛ one word.Quoted) (λ t. text_piece t ∷ []) (λ t. t)
  way_text = turns_found {H = IsContent} (gives_next (gives_give (λ ys l h. h)) (gives_one (λ l g e. (meant_text l g e, subst (λ r. Light 0 0 (r ∷ []) (word.Quoted ∷ [])) (sym e) (light_plain 0 word.Quoted (record { opens = refl; closes = refl; ends = refl }))))))
      (λ t h. prints_token (text_piece t) (sound_text t h) refl (λ l f. sym (text_read text t l f)))

  way_rollback : Statement (rule.rollback bytes) (rule.rollback text)
  unfolding rule.rollback
  way_rollback =
      skip_end (turns_next way_text (turns_next (place_key (plain_key word.Rollback))
      (turns_give (λ n t. sym (pieces_rollback n t)) (λ n n' u a a' h. bare_rollback n a ∙ (ap (tree.Rollback 0) h ∙ sym (bare_rollback n' a'))))))

  -- with statements inside
  abbrev Inside : Type 0
  Inside = Statement statement statement

  way_body : Inside → TurnsTo 1 0 (Good bytes) bytes text d (rule.loop_body bytes) (rule.loop_body text) (λ body ps. ps ≡ key word.Do ∷ (statements_pieces body ++ ending)) (λ v w. map placeless_statement v ≡ map placeless_statement w)
  unfolding rule.loop_body
  way_body inside = skip_end (skip_ends (sound_key word.For) (record { opens = refl; closes = refl; ends = refl }) (behind_key (plain_key word.Do) (turns_raised 1 (turns_many inside (λ vs. simp append_assoc refl)))))

  -- a loop behind its first words
  abbrev AfterFor : (ℕ → Name → Stmt) → List Piece → Type 0
  AfterFor h ps = (n : ℕ) (row : Name) → key word.For ∷ variable_piece row ∷ key word.In ∷ ps ≡ statement_pieces (h n row)

  abbrev SameFor : (ℕ → Name → Stmt) → (ℕ → Name → Stmt) → Type 0
  SameFor h j = (n m : ℕ) (row x : Name) → SameName row x → placeless_statement (h n row) ≡ placeless_statement (j m x)

  abbrev Loop : Part (ℕ → Name → Stmt) → Part (ℕ → Name → Stmt) → Type 0
  Loop p q = TurnsTo 1 0 (Good bytes) bytes text d p q AfterFor SameFor

  way_rows : Inside → Loop (rule.for_rows bytes) (rule.for_rows text)
  unfolding rule.for_rows
  way_rows inside = turns_deeper (way_body inside) (turns_next (rule_variable bytes text d)
      (turns_give (λ rows body n row. sym (of_rows n row rows body))
      (λ a a' h b b' i n n' row x j. bare_for_rows n row a b ∙ (same3 (tree.ForRows 0) j h i ∙ sym (bare_for_rows n' x a' b')))))

  abbrev OfSelect : (ℕ → Name → Stmt) → List Piece → Type 0
  OfSelect h ps = AfterFor h (key word.Select ∷ ps)

  way_plain : Inside → TurnsTo 1 0 (Good bytes) bytes text d (rule.for_plain bytes) (rule.for_plain text) OfSelect SameFor
  unfolding rule.for_plain
  way_plain inside =
      turns_deeper (way_body inside) (turns_next (rule_sorts bytes text d) (turns_next (rule_conds bytes text d) (turns_next (rule_name bytes text d) (skip (plain_key word.From)
      (turns_next {fq = listed name_pieces} (turns_commas (rule_name bytes text d) (λ v vs. refl))
      (turns_give (λ columns table conds sorts body n row. simp append_assoc (sym (simp append_assoc at of_select n row false columns table conds sorts body)))
      (λ a a' h b b' i c c' j e e' k f f' l n n' row x m.
      bare_for_select n row false a b c e f ∙ (same6 (λ r. tree.ForSelect 0 r false) m h i j k l ∙ sym (bare_for_select n' x false a' b' c' e' f')))))))))

  way_distinct : Inside → TurnsTo 1 0 (Good bytes) bytes text d (rule.for_distinct bytes) (rule.for_distinct text) OfSelect SameFor
  unfolding rule.for_distinct
  way_distinct inside =
      turns_deeper (way_body inside) (turns_next (rule_conds bytes text d) (turns_next (rule_name bytes text d) (skip (plain_key word.From)
      (turns_next {fq = listed name_pieces} (turns_commas (rule_name bytes text d) (λ v vs. refl)) (skip (plain_key word.Distinct)
      (turns_give (λ columns table conds body n row. simp append_assoc (sym (simp append_assoc at of_select n row true columns table conds [] body)))
      (λ a a' h b b' i c c' j f f' l n n' row x m.
      bare_for_select n row true a b c [] f ∙ (same5 (λ r s t u. tree.ForSelect 0 r true s t u []) m h i j l ∙ sym (bare_for_select n' x true a' b' c' [] f')))))))))

  way_for : Inside → Statement (rule.for_each bytes) (rule.for_each text)
  unfolding rule.for_each
  way_for inside =
      turns_level (turns_either (behind_key (plain_key word.Select) (turns_either (way_distinct inside) (way_plain inside))) (way_rows inside))
      (skip (plain_key word.In) (turns_next (rule_variable bytes text d) (turns_deeper (place_open (sound_key word.For) (record { opens = refl; ends = refl }))
      (turns_give (λ n row h qs k. k n row) (λ n m u row x s h j k. k n m row x s)))))

  -- an ELSE with no statements isn't printed
  abbrev else_pieces : List Stmt → List Piece
  else_pieces ns = else_lead ns ++ statements_pieces ns

  otherwise_turned : (ts : List Lexeme) (ns : List Stmt) → Turned text (one word.Else ▸ rule.many statement) (λ ps. ps ≡ key word.Else ∷ statements_pieces ns) (λ w. map placeless_statement ns ≡ map placeless_statement w) ts
      → Turned text (rule.otherwise text) (λ ps. ps ≡ else_pieces ns) (λ w. map placeless_statement ns ≡ map placeless_statement w) ts
  unfolding rule.otherwise
  otherwise_turned ts [] x = record {
    pieces = [];
    is = refl;
    prints = prints_inr (prints_give [] refl);
    light = light_through 0 0 (kinds ts) (word.Else ∷ []) [] (subst (λ r. Light 0 0 (kinds ts) (marks r)) x.is x.light) (light_drop 0 word.Else (record { opens = refl; closes = refl; ends = refl }) refl);
  }
  otherwise_turned ts (n ∷ ns) x = record { pieces = x.pieces; is = x.is; prints = prints_inl x.prints; light = x.light }

  way_else : Inside → Way (one word.Else ▸ rule.many statement) (one word.Else ▸ rule.many statement) (λ ns. key word.Else ∷ statements_pieces ns) (map placeless_statement)
  way_else inside = behind_key (plain_key word.Else) (turns_many inside (λ vs. refl))

  way_otherwise : Inside → Way (rule.otherwise bytes) (rule.otherwise text) else_pieces (map placeless_statement)
  unfolding rule.otherwise
  way_otherwise inside = record {
    turn = λ ts v g i. elim i as (λ j. Turned text (rule.otherwise text) (λ ps. ps ≡ else_pieces v) (λ w. map placeless_statement v ≡ map placeless_statement w) ts) [
      | inl h ↦ otherwise_turned ts v ((way_else inside).turn ts v g h)
      | inr h ↦ subst (λ r. Turned text (rule.otherwise text) (λ ps. ps ≡ else_pieces r) (λ w. map placeless_statement r ≡ map placeless_statement w) ts) (sym h.1) (record { pieces = []; is = refl; prints = prints_inr (prints_give [] refl); light = light_nothing 0 ts h.0 })
    ];
  }

  way_branch : Inside → Statement (rule.branch bytes) (rule.branch text)
  unfolding rule.branch
  way_branch inside =
      skip_end (skip_ends (sound_key word.If) (record { opens = refl; closes = refl; ends = refl }) (turns_next (way_otherwise inside) (turns_next {fq = statements_pieces} (turns_many inside (λ vs. refl)) (skip (plain_key word.Then)
      (turns_next (rule_expression bytes text d) (turns_deeper (place_open (sound_key word.If) (record { opens = refl; ends = refl }))
      (turns_give (λ n test ys ns. regroup (whole_expr test) (statements_pieces ys) (else_lead ns) (statements_pieces ns) (key word.If) (key word.Then) (key word.End) (key word.If) line_end ∙ sym (of_branch n test ys ns))
      (λ n n' u a a' h b b' i c c' j. bare_branch n a b c ∙ (same3 (tree.Branch 0) h i j ∙ sym (bare_branch n' a' b' c'))))))))))

  way_stmt : Inside → Statement (rule.stmt bytes) (rule.stmt text)
  unfolding rule.stmt
  way_stmt inside =
      turns_either way_assign (turns_either way_select (turns_either (way_for inside) (turns_either (way_branch inside)
      (turns_either way_insert (turns_either way_update (turns_either way_delete (turns_either way_print way_rollback)))))))

-- a statement inside another
statement_read : (text : List ℕ) (Q : Stmt → Type 0) (m d : ℕ) (ls : List Lexeme) → suc m ≤ d → ((e : ℕ) → m ≤ e → Reading text (rule.stmt text) Q e ls) → Reading text statement Q d ls
unfolding inner
statement_read text Q m zero ls h r = absurd (omega arith)
statement_read text Q m (suc d) ls h r = r d (omega arith)

prints_statement : {text : List ℕ} {Q : Stmt → Type 0} {ps : List Piece} → Prints text (rule.stmt text) Q ps → Prints text statement Q ps
prints_statement {text = text} {Q = Q} x = record { sounds = x.sounds; levels = suc x.levels; reads = λ d ls h s. statement_read text Q x.levels d ls h (λ e l. x.reads e ls l s) }

pub way_inside : (bytes text : List ℕ) (d : ℕ) → Inside bytes text d
unfolding inner
way_inside bytes text zero = record { turn = λ ts v g i. absurd i }
way_inside bytes text (suc d) = record {
  turn = λ ts v g i. (let a = (way_stmt bytes text d (way_inside bytes text d)).turn ts v g i in record { pieces = a.pieces; is = a.is; prints = prints_statement a.prints; light = a.light });
}
