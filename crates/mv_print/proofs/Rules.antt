-- Names, literals and the clauses of statements, as they are printed and read again.
use Rattle.std.proofs.Common.{◌≡◌, ℕ, zero, suc, ◌-◌, ◌≤◌, min, Bool, true, false, nat_lt, List, [], ◌∷◌, ◌++◌, Option, None, map, refl, sym, ap, subst, ◌∙◌, append-nil, arith, inr}
use Rattle.std.specs.Option.{option_map}
use Rattle.std.specs.Prelude.{pos, negsuc, ◌-ℤ◌}
use Rattle.std.proofs.lemmas.Bool.{lt-ltb}
use Rattle.std.proofs.lemmas.Bool.Decides.{nat_tests}
use Rattle.std.proofs.lemmas.List.{map-append}
use Rattle.mv_values.specs.declared.op.Op.{Op}
use Rattle.mv_values.specs.declared.op.Op.TheVariants.{Eq, Ne, Lt, Le, Gt, Ge}
use Rattle.mv_values.specs.declared.schema.ColType.{ColType}
use Rattle.mv_values.specs.declared.schema.ColType.TheVariants as column
use Rattle.mv_values.specs.declared.value.Value.{Value}
use Rattle.mv_values.specs.declared.value.Value.TheVariants as value
use Rattle.mv_ast.specs.declared.lexeme.Lexeme.{Lexeme}
use Rattle.mv_ast.specs.declared.lexeme.Terminal.{Terminal}
use Rattle.mv_ast.specs.declared.lexeme.Terminal.TheVariants as word
use Rattle.mv_ast.specs.declared.tree.Agg.TheVariants as agg
use Rattle.mv_ast.specs.declared.tree.ColDef.{ColDef}
use Rattle.mv_ast.specs.declared.tree.Cond.{Cond}
use Rattle.mv_ast.specs.declared.tree.Expr.{Expr}
use Rattle.mv_ast.specs.declared.tree.Lit.{Lit}
use Rattle.mv_ast.specs.declared.tree.LitRow.{LitRow}
use Rattle.mv_ast.specs.declared.tree.Name.{Name}
use Rattle.mv_ast.specs.declared.tree.SetItem.{SetItem}
use Rattle.mv_ast.specs.declared.tree.Sort.{Sort}
use Rattle.mv_ast.specs.Texts.{greatest, number_from, spelling}
use Rattle.mv_ast.specs.Limits.{is_size, is_size_of}
use Rattle.mv_ast.specs.Parts.{Part, give, one, expression}
use Rattle.mv_ast.specs.Grammar as rule
use Rattle.mv_ast.specs.Grammar.{inner, in_parens, ◌⊛◌, ◌▸◌, number_of, text_of, negative_of, positive_of, quoted_of, text_column}
use Rattle.mv_print.specs.Printing.{Piece, key, name_piece, name_pieces, variable_pieces, number_piece, text_piece, value_pieces, literal_pieces, row_pieces, type_pieces, reference_pieces, column_pieces, whole_expr, expr_pieces, cond_pieces, conds_pieces, direction_pieces, sort_pieces, sorts_pieces, agg_pieces, set_pieces, op_word, listed}
use Rattle.mv_print.specs.Same.{placeless_name, placeless_expr, placeless_literal, placeless_row, placeless_column, placeless_cond, placeless_sort, placeless_set, placeless_agg}
use Rattle.mv_print.proofs.Light.{kinds, Light, light_none, light_joined, light_plain, light_drop, light_within}
use Rattle.mv_print.proofs.Building.{Fits, AllGood, both_read, one_read, prints_skip, marks, light_both, light_nothing, gives_for, turns_deeper, Prints, Turns, Gives, gives_give, gives_one, gives_both, gives_next, gives_either, prints_give, prints_one, prints_next, prints_behind, prints_inl, prints_inr, prints_for, turns_give, turns_next, turns_either, turns_as}
use Rattle.mv_print.proofs.Sounding.{IsContent, digits_back, IsName, IsVariable, sound_key, sound_number, sound_text}
use Rattle.mv_print.proofs.Meaning.{Good, meant_text}
use Rattle.mv_print.proofs.Tokens.{prints_token, prints_name, prints_variable, number_read, text_read}
use Rattle.mv_print.proofs.Levels.{prints_inside, Printable}
use Rattle.mv_print.proofs.Expressions.{found_name, found_variable, found_op, plain_op, found_inside, found_sum}
use Rattle.mv_print.proofs.Turning.{plain_key, skip_close, place_open, skip, behind_key, behind_keys, turns_parens, turns_separated, turns_commas, turns_optional, turns_found}

-- functions at what is the same
pub same2 : {A B C : Type 0} (f : A → B → C) {a x : A} {b y : B} → a ≡ x → b ≡ y → f a b ≡ f x y
same2 f {x = x} {b = b} h k = ap (λ r. f r b) h ∙ ap (f x) k

pub same3 : {A B C D : Type 0} (f : A → B → C → D) {a x : A} {b y : B} {c z : C} → a ≡ x → b ≡ y → c ≡ z → f a b c ≡ f x y z
same3 f {x = x} {b = b} {c = c} h k l = ap (λ r. f r b c) h ∙ same2 (f x) k l

pub same4 : {A B C D E : Type 0} (f : A → B → C → D → E) {a x : A} {b y : B} {c z : C} {d w : D} → a ≡ x → b ≡ y → c ≡ z → d ≡ w → f a b c d ≡ f x y z w
same4 f {x = x} {b = b} {c = c} {d = d} h k l m = ap (λ r. f r b c d) h ∙ same3 (f x) k l m

pub same5 : {A B C D E F : Type 0} (f : A → B → C → D → E → F) {a x : A} {b y : B} {c z : C} {d w : D} {e v : E} → a ≡ x → b ≡ y → c ≡ z → d ≡ w → e ≡ v → f a b c d e ≡ f x y z w v
same5 f {x = x} {b = b} {c = c} {d = d} {e = e} h k l m n = ap (λ r. f r b c d e) h ∙ same4 (f x) k l m n

pub same6 : {A B C D E F G : Type 0} (f : A → B → C → D → E → F → G) {a x : A} {b y : B} {c z : C} {d w : D} {e v : E} {g u : F}
    → a ≡ x → b ≡ y → c ≡ z → d ≡ w → e ≡ v → g ≡ u → f a b c d e g ≡ f x y z w v u
same6 f {x = x} {b = b} {c = c} {d = d} {e = e} {g = g} h k l m n o = ap (λ r. f r b c d e g) h ∙ same5 (f x) k l m n o

-- values that a literal has
abbrev pub IsLiteral : Value → Type 0
IsLiteral (value.Int (pos n)) = n ≤ greatest
IsLiteral (value.Int (negsuc n)) = suc n ≤ greatest
IsLiteral (value.Text t) = IsContent t

negated : (n : ℕ) → pos 0 -ℤ pos (suc n) ≡ negsuc n
negated n =
    let l : nat_lt 0 (suc n) ≡ true = lt-ltb 0 (suc n) (omega arith) in
    let e : suc n - 1 ≡ n = omega arith in
    rw l (ap negsuc e)

negated_literal : (n : ℕ) → n ≤ greatest → IsLiteral (value.Int (pos 0 -ℤ pos n))
negated_literal zero h = omega arith
negated_literal (suc n) h = subst (λ r. IsLiteral (value.Int r)) (sym (negated n)) h

negated_light : (n : ℕ) → Light 0 0 (word.Minus ∷ word.Number ∷ []) (marks (value_pieces (value.Int (pos 0 -ℤ pos n))))
negated_light zero =
    light_joined 0 0 0 (word.Minus ∷ []) (word.Number ∷ []) [] (word.Number ∷ []) (light_drop 0 word.Minus (record { opens = refl; closes = refl; ends = refl }) refl) (light_plain 0 word.Number (record { opens = refl; closes = refl; ends = refl }))
negated_light (suc n) =
    subst (λ r. Light 0 0 (word.Minus ∷ word.Number ∷ []) (marks (value_pieces (value.Int r)))) (sym (negated n))
    (light_joined 0 0 0 (word.Minus ∷ []) (word.Number ∷ []) (word.Minus ∷ []) (word.Number ∷ []) (light_plain 0 word.Minus (record { opens = refl; closes = refl; ends = refl })) (light_plain 0 word.Number (record { opens = refl; closes = refl; ends = refl })))

value_same : (l : Lit) (v : Value) (t : ℕ) → v ≡ l.value → placeless_literal l ≡ placeless_literal (record { value = v; token = t })
value_same l v t h = ap (λ (r : Value). (let x : Lit = record { value = r; token = 0 } in x)) (sym h)

prints_value : {text : List ℕ} (l : Lit) (v : Value) → l.value ≡ v → IsLiteral v → Prints text (rule.literal text) (λ w. placeless_literal l ≡ placeless_literal w) (value_pieces v)
unfolding rule.literal
prints_value {text = text} l (value.Int (pos n)) e h =
    prints_inr (prints_inl (prints_token (number_piece n) (sound_number n h) refl (λ m f. value_same l _ m.number (ap (λ (r : ℕ). value.Int (pos r)) (number_read text n m h f) ∙ sym e))))
prints_value {text = text} l (value.Int (negsuc n)) e h =
    prints_inl (prints_next (prints_next {P = λ o. Unit {0}} (prints_give (negative_of text) (λ m u o f. value_same l _ m.number
    (ap (λ (r : ℕ). value.Int (pos 0 -ℤ pos r)) (number_read text (suc n) o h f) ∙ (ap value.Int (negated n) ∙ sym e))))
    (prints_for (λ m u. tt) (prints_one (key word.Minus) (sound_key word.Minus) refl))) (prints_one (number_piece (suc n)) (sound_number (suc n) h) refl))
prints_value {text = text} l (value.Text t) e h =
    prints_inr (prints_inr (prints_token (text_piece t) (sound_text t h) refl (λ m f. value_same l _ m.number (ap value.Text (text_read text t m f) ∙ sym e))))

prints_op : {text : List ℕ} (o : Op) → Prints text (rule.op text) (λ x. o ≡ x) (key (op_word o) ∷ [])
unfolding rule.op
prints_op Eq = prints_inl (prints_behind (key word.Equal) (sound_key word.Equal) refl (prints_give Eq refl))
prints_op Ne = prints_inr (prints_inl (prints_behind (key word.NotEqual) (sound_key word.NotEqual) refl (prints_give Ne refl)))
prints_op Lt = prints_inr (prints_inr (prints_inl (prints_behind (key word.Less) (sound_key word.Less) refl (prints_give Lt refl))))
prints_op Le = prints_inr (prints_inr (prints_inr (prints_inl (prints_behind (key word.LessOrEqual) (sound_key word.LessOrEqual) refl (prints_give Le refl)))))
prints_op Gt = prints_inr (prints_inr (prints_inr (prints_inr (prints_inl (prints_behind (key word.Greater) (sound_key word.Greater) refl (prints_give Gt refl))))))
prints_op Ge = prints_inr (prints_inr (prints_inr (prints_inr (prints_inr (prints_behind (key word.GreaterOrEqual) (sound_key word.GreaterOrEqual) refl (prints_give Ge refl))))))

prints_direction : {text : List ℕ} (b : Bool) → Prints text (rule.direction text) (λ x. b ≡ x) (direction_pieces b)
unfolding rule.direction
prints_direction true = prints_inr (prints_inl (prints_behind (key word.Desc) (sound_key word.Desc) refl (prints_give true refl)))
prints_direction false = prints_inr (prints_inr (prints_give false refl))

-- the column TEXT ( n ), as it is printed
size_prints : {text : List ℕ} (n : ℕ) (v : ColType) → v ≡ column.Text n → n ≤ 4000 → Prints text (in_parens (give (text_column text) ⊛ one word.Number)) (λ w. v ≡ w) (key word.Open ∷ number_piece n ∷ key word.Close ∷ [])
size_prints {text = text} n v e h =
    prints_skip (key word.Close) (sound_key word.Close) refl (prints_behind (key word.Open) (sound_key word.Open) refl
    (prints_token (number_piece n) (sound_number n (omega arith)) refl (λ l f. e ∙ ap column.Text (size_back n (number_of text l) h (number_read text n l (omega arith) f)))))
  where
    size_back : (n m : ℕ) → n ≤ 4000 → m ≡ n → n ≡ min m 65535
    size_back n m h e = omega arith

type_prints : {text : List ℕ} (n : ℕ) (v : ColType) → v ≡ column.Text n → is_size n ≡ true → n ≤ 4000
    → Prints text (one word.Text ▸ in_parens (give (text_column text) ⊛ one word.Number)) (λ w. v ≡ w) (key word.Text ∷ key word.Open ∷ number_piece n ∷ key word.Close ∷ [])
type_prints {text = text} n v e i h =
    let y = size_prints {text = text} n v e h in
    record {
      sounds = (inr (sound_key word.Text, ap is_size (digits_back n (omega arith)) ∙ i), y.sounds);
      levels = y.levels;
      reads = λ d ls l s. both_read {P = λ m. Fits text m (key word.Text)} {ps = key word.Text ∷ []} (λ a b. b) (one word.Text) (in_parens (give (text_column text) ⊛ one word.Number)) d ls (λ a b j k. k)
          (λ r z. one_read d word.Text (key word.Text) r refl z) (λ r z. y.reads d r l z) s;
    }

size_most : (n : ℕ) → is_size n ≡ true → n ≤ 4000
size_most n h = grind (arith, nat_tests)

-- a name in parentheses
abbrev within : Name → List Piece
within n = key word.Open ∷ name_piece n ∷ key word.Close ∷ []

module _ (bytes text : List ℕ) (d : ℕ) where
  abbrev pub Rule : {A B : Type 0} → Part A → Part A → (A → List Piece) → (A → B) → Type 0
  Rule p q f c = Turns (Good bytes) bytes text d p q (λ v ps. ps ≡ f v) (λ v w. c v ≡ c w)

  pub rule_name : Rule (rule.name bytes) (rule.name text) name_pieces placeless_name
  rule_name = turns_found {H = λ n. IsName n.text} (found_name bytes text d) (λ v h. prints_name v h)

  pub rule_variable : Rule (rule.variable bytes) (rule.variable text) variable_pieces placeless_name
  rule_variable = turns_found {H = λ n. IsVariable n.text} (found_variable bytes text d) (λ v h. prints_variable v h)

  -- the tokens are these
  abbrev Kinds : List Lexeme → List Terminal → Type 0
  Kinds ts ks = kinds ts ≡ ks

  abbrev LitLight : List Lexeme → Value → Type 0
  LitLight ts v = Light 0 0 (kinds ts) (marks (value_pieces v))

  one_kind : (t : Terminal) → Gives (Good bytes) bytes d (one t) (λ ts l. Kinds ts (t ∷ []))
  one_kind t = gives_one (λ l g e. ap (λ r. r ∷ []) e)

  lit_of : (ts : List Lexeme) (ks : List Terminal) (v : Value) → Kinds ts ks → Light 0 0 ks (marks (value_pieces v)) → LitLight ts v
  lit_of ts ks v e l = subst (λ r. Light 0 0 r (marks (value_pieces v))) (sym e) l

  found_literal : Gives (Good bytes) bytes d (rule.literal bytes) (λ ts l. IsLiteral l.value × LitLight ts l.value)
  unfolding rule.literal
  found_literal =
      gives_either (gives_next (gives_next (gives_give (λ xs m h ys l k. (
        negated_literal (number_of bytes l) (omega arith),
        lit_of (xs ++ ys) (word.Minus ∷ word.Number ∷ []) (value.Int (pos 0 -ℤ pos (number_of bytes l))) (map-append (λ (l : Lexeme). l.kind) xs ys ∙ (ap (λ r. r ++ kinds ys) h ∙ ap (λ r. word.Minus ∷ r) k)) (negated_light (number_of bytes l)),
      )))
      (one_kind word.Minus)) (one_kind word.Number))
      (gives_either (gives_next (gives_give (λ ys l k. (omega arith, lit_of ys (word.Number ∷ []) (value.Int (pos (number_of bytes l))) k (light_plain 0 word.Number (record { opens = refl; closes = refl; ends = refl }))))) (one_kind word.Number))
      (gives_next {P = λ ts l. IsContent (text_of bytes l) × Kinds ts (word.Quoted ∷ [])}
      (gives_give (λ ys l h. (h.0, lit_of ys (word.Quoted ∷ []) (value.Text (text_of bytes l)) h.1 (light_plain 0 word.Quoted (record { opens = refl; closes = refl; ends = refl }))))) (gives_one (λ l g e. (meant_text l g e, ap (λ r. r ∷ []) e)))))

  pub rule_literal : Rule (rule.literal bytes) (rule.literal text) literal_pieces placeless_literal
  rule_literal = turns_found {H = λ l. IsLiteral l.value} found_literal (λ l h. prints_value l l.value refl h)

  pub rule_row : Rule (rule.lit_row bytes) (rule.lit_row text) row_pieces placeless_row
  unfolding rule.lit_row
  rule_row =
      skip_close (turns_next (turns_commas {K = λ ls ps. ps ≡ listed literal_pieces ls} rule_literal (λ v vs. refl)) (turns_deeper (place_open (sound_key word.Open) (record { opens = refl; ends = refl }))
      (turns_give (λ n ls. refl) (λ n m u ls ms h. ap (λ (r : List Lit). (let x : LitRow = record { token = 0; values = r } in x)) h))))

  -- the tokens TEXT ( n )
  abbrev SizeTokens : List Lexeme → ColType → Type 0
  SizeTokens ts v = (a : Lexeme) × (b : Lexeme) × (c : Lexeme) × (e : Lexeme) × (ts ≡ a ∷ b ∷ c ∷ e ∷ []) × ((a.kind ≡ word.Text) × (b.kind ≡ word.Open) × (c.kind ≡ word.Number) × (e.kind ≡ word.Close)) × (v ≡ text_column bytes c)

  abbrev OnlyOf : Terminal → List Lexeme → Lexeme → Type 0
  OnlyOf t ts l = (ts ≡ l ∷ []) × (l.kind ≡ t)

  found_number : Gives (Good bytes) bytes d (give (text_column bytes) ⊛ one word.Number) (λ ts v. (c : Lexeme) × (ts ≡ c ∷ []) × (c.kind ≡ word.Number) × (v ≡ text_column bytes c))
  found_number = gives_next {P = OnlyOf word.Number} (gives_give (λ ys l h. (l, h.0, h.1, refl))) (gives_one (λ l g e. (refl, e)))

  found_size : Gives (Good bytes) bytes d (one word.Text ▸ in_parens (give (text_column bytes) ⊛ one word.Number)) SizeTokens
  found_size =
      gives_both {P = OnlyOf word.Text} {Q = λ ts v. (b : Lexeme) × (c : Lexeme) × (e : Lexeme) × (ts ≡ b ∷ c ∷ e ∷ []) × ((b.kind ≡ word.Open) × (c.kind ≡ word.Number) × (e.kind ≡ word.Close)) × (v ≡ text_column bytes c)}
      (gives_one (λ l g e. (refl, e)))
      (gives_both {P = λ ts v. (b : Lexeme) × (c : Lexeme) × (ts ≡ b ∷ c ∷ []) × ((b.kind ≡ word.Open) × (c.kind ≡ word.Number)) × (v ≡ text_column bytes c)} {Q = OnlyOf word.Close}
      (gives_both {P = OnlyOf word.Open} (gives_one (λ l g e. (refl, e))) found_number (λ xs ys l v h k. (l, k.0, ap (λ r. r ++ ys) h.0 ∙ ap (λ r. l ∷ r) k.1, (h.1, k.2), k.3)))
      (gives_one (λ l g e. (refl, e)))
      (λ xs ys v l h k. (h.0, h.1, l, ap (λ r. r ++ ys) h.2 ∙ ap (λ r. h.0 ∷ h.1 ∷ r) k.0, (h.3.0, h.3.1, k.1), h.4)))
      (λ xs ys l v h k. (l, k.0, k.1, k.2, ap (λ r. r ++ ys) h.0 ∙ ap (λ r. l ∷ r) k.3, (h.1, k.4.0, k.4.1, k.4.2), k.5))

  size_kinds : (a b c e : Lexeme) → (a.kind ≡ word.Text) × (b.kind ≡ word.Open) × (c.kind ≡ word.Number) × (e.kind ≡ word.Close) → kinds (a ∷ b ∷ c ∷ e ∷ []) ≡ word.Text ∷ word.Open ∷ word.Number ∷ word.Close ∷ []
  size_kinds a b c e h = same4 (λ (p q r s : Terminal). p ∷ q ∷ r ∷ s ∷ []) h.0 h.1 h.2 h.3

  is_size_text : (a b c : Lexeme) → a.kind ≡ word.Text → b.kind ≡ word.Open → c.kind ≡ word.Number → is_size_of a.kind b.kind c.kind ≡ true
  is_size_text a b c h k l = subst (λ r. is_size_of r b.kind c.kind ≡ true) (sym h) (subst (λ r. is_size_of word.Text r c.kind ≡ true) (sym k) (subst (λ r. is_size_of word.Text word.Open r ≡ true) (sym l) refl))

  capped : (n : ℕ) → n ≤ 4000 → min (min n greatest) 65535 ≡ n
  capped n h = omega arith

  size_light : Light 0 0 (word.Text ∷ word.Open ∷ word.Number ∷ word.Close ∷ []) (word.Text ∷ word.Open ∷ word.Number ∷ word.Close ∷ [])
  size_light =
      light_joined 0 0 0 (word.Text ∷ []) (word.Open ∷ word.Number ∷ word.Close ∷ []) (word.Text ∷ []) (word.Open ∷ word.Number ∷ word.Close ∷ []) (light_plain 0 word.Text (record { opens = refl; closes = refl; ends = refl }))
      (light_within (word.Number ∷ []) (word.Number ∷ []) (light_plain 0 word.Number (record { opens = refl; closes = refl; ends = refl })))

  turns_size : Turns (Good bytes) bytes text d (one word.Text ▸ in_parens (give (text_column bytes) ⊛ one word.Number)) (one word.Text ▸ in_parens (give (text_column text) ⊛ one word.Number)) (λ v ps. ps ≡ type_pieces v) (λ v w. v ≡ w)
  turns_size = record {
    turn = λ ts v g i. (
        let f = found_size.given ts v g i in
        let good = subst (AllGood (Good bytes)) f.4 g in
        let n = number_from 0 (spelling bytes f.2) in
        let z : is_size n ≡ true = good.1 (is_size_text f.0 f.1 f.2 f.5.0 f.5.1 f.5.2) in
        let m = size_most n z in
        let e : v ≡ column.Text n = f.6 ∙ ap column.Text (capped n m) in
        record {
          pieces = key word.Text ∷ key word.Open ∷ number_piece n ∷ key word.Close ∷ [];
          is = ap type_pieces (sym e);
          prints = type_prints n v e z m;
          light = subst (λ r. Light 0 0 r (word.Text ∷ word.Open ∷ word.Number ∷ word.Close ∷ [])) (sym (ap kinds f.4 ∙ size_kinds f.0 f.1 f.2 f.3 f.5)) size_light;
        });
  }

  pub rule_type : Rule (rule.column_type bytes) (rule.column_type text) type_pieces (λ k. k)
  unfolding rule.column_type
  rule_type = turns_either (behind_key (plain_key word.Int) (turns_give refl refl)) turns_size

  rule_reference : Rule (rule.optional (one word.References ▸ rule.name bytes)) (rule.optional (one word.References ▸ rule.name text)) reference_pieces (option_map placeless_name)
  rule_reference = turns_optional (behind_key (plain_key word.References) (turns_as (λ n ps h. ap (λ r. key word.References ∷ r) h) (λ v w h. h) rule_name)) refl

  -- a column of a ROWS parameter
  pub rule_row_column : Rule (rule.row_col bytes) (rule.row_col text) column_pieces placeless_column
  unfolding rule.row_col
  rule_row_column = turns_next rule_type (turns_next rule_name (turns_give (λ n k. ap (λ r. name_piece n ∷ r) (sym (append-nil (type_pieces k))))
      (λ n m h k l i. same2 (λ (r : Name) (s : ColType). (let x : ColDef = record { name = r; kind = s; refers = None } in x)) h i)))

  pub rule_column : Rule (rule.col_def bytes) (rule.col_def text) column_pieces placeless_column
  unfolding rule.col_def
  rule_column = turns_next rule_reference (turns_next rule_type (turns_next rule_name (turns_give (λ n k o. refl)
      (λ n m h k l i o p j. same3 (λ (r : Name) (s : ColType) (t : Option Name). (let x : ColDef = record { name = r; kind = s; refers = t } in x)) h i j))))

  pub rule_op : Rule (rule.op bytes) (rule.op text) (λ o. key (op_word o) ∷ []) (λ o. o)
  rule_op = turns_found {H = λ o. Unit {0}}
      (gives_for (λ ts o h. (tt, subst (λ r. Light 0 0 (kinds r) (op_word o ∷ [])) (sym h.1) (subst (λ r. Light 0 0 (r ∷ []) (op_word o ∷ [])) (sym h.2) (light_plain 0 (op_word o) (plain_op o))))) (found_op bytes text d)) (λ o h. prints_op o)

  pub rule_expression : Rule expression expression whole_expr placeless_expr
  rule_expression = turns_found {H = Printable text} (gives_for (λ ts e h. (h.0, h.1 0 (omega arith))) (found_inside bytes text d)) (λ e h. prints_inside (h.0 0 (omega arith)))

  rule_sum : Rule (rule.sum bytes) (rule.sum text) (λ e. expr_pieces e 4) placeless_expr
  rule_sum = turns_found {H = Printable text} (gives_for (λ ts e h. (h.0, h.1 4 (omega arith))) (found_sum bytes text d (found_inside bytes text d))) (λ e h. h.0 4 (omega arith))

  rule_cond : Rule (rule.cond bytes) (rule.cond text) cond_pieces placeless_cond
  unfolding rule.cond
  rule_cond = turns_next rule_sum (turns_next rule_op (turns_next rule_name
      (turns_give (λ n o e. refl) (λ n m h o p i e f j. same3 (λ (r : Name) (s : Op) (t : Expr). (let x : Cond = record { column = r; op = s; right = t } in x)) h i j))))

  pub rule_conds : Rule (rule.conds bytes) (rule.conds text) conds_pieces (map placeless_cond)
  unfolding rule.conds
  rule_conds = turns_either (behind_key (plain_key word.Where) (turns_separated (plain_key word.And) rule_cond (λ v vs. refl))) (turns_give refl refl)

  -- ASC isn't printed
  found_direction : Gives (Good bytes) bytes d (rule.direction bytes) (λ ts b. Unit {0} × Light 0 0 (kinds ts) (marks (direction_pieces b)))
  unfolding rule.direction
  found_direction =
      gives_either (gives_both {P = λ ts l. Light 0 0 (kinds ts) []} {Q = λ ts b. (ts ≡ []) × (b ≡ false)} (gives_one (λ l g e. subst (λ r. Light 0 0 (r ∷ []) []) (sym e) (light_drop 0 word.Asc (record { opens = refl; closes = refl; ends = refl }) refl))) (gives_give (refl, refl))
      (λ xs ys l b h k. (tt, subst (λ r. Light 0 0 (kinds (xs ++ ys)) (marks (direction_pieces r))) (sym k.1) (light_both 0 0 0 (xs ++ ys) xs ys [] [] refl h (light_nothing 0 ys k.0)))))
      (gives_either (gives_both {P = λ ts l. Light 0 0 (kinds ts) (word.Desc ∷ [])} {Q = λ ts b. (ts ≡ []) × (b ≡ true)} (gives_one (λ l g e. subst (λ r. Light 0 0 (r ∷ []) (word.Desc ∷ [])) (sym e) (light_plain 0 word.Desc (record { opens = refl; closes = refl; ends = refl })))) (gives_give (refl, refl))
      (λ xs ys l b h k. (tt, subst (λ r. Light 0 0 (kinds (xs ++ ys)) (marks (direction_pieces r))) (sym k.1) (light_both 0 0 0 (xs ++ ys) xs ys (key word.Desc ∷ []) [] refl h (light_nothing 0 ys k.0)))))
      (gives_give (tt, light_none 0)))

  rule_direction : Rule (rule.direction bytes) (rule.direction text) direction_pieces (λ b. b)
  rule_direction = turns_found {H = λ o. Unit {0}} found_direction (λ b h. prints_direction b)

  rule_sort : Rule (rule.sort bytes) (rule.sort text) sort_pieces placeless_sort
  unfolding rule.sort
  rule_sort = turns_next rule_direction (turns_next rule_name
      (turns_give (λ n b. refl) (λ n m h b c i. same2 (λ (r : Name) (s : Bool). (let x : Sort = record { column = r; descending = s } in x)) h i)))

  pub rule_sorts : Rule (rule.sorts bytes) (rule.sorts text) sorts_pieces (map placeless_sort)
  unfolding rule.sorts
  rule_sorts = turns_either (behind_keys (plain_key word.Order) (plain_key word.By) (turns_commas rule_sort (λ v vs. refl))) (turns_give refl refl)

  pub rule_set : Rule (rule.set_item bytes) (rule.set_item text) set_pieces placeless_set
  unfolding rule.set_item
  rule_set = turns_next rule_expression (skip (plain_key word.Equal) (turns_next rule_name
      (turns_give (λ n e. refl) (λ n m h e f i. same2 (λ (r : Name) (s : Expr). (let x : SetItem = record { column = r; right = s } in x)) h i))))

  rule_within : Rule (rule.in_parens (rule.name bytes)) (rule.in_parens (rule.name text)) within placeless_name
  rule_within = turns_parens (turns_as (λ v ps h. ap (λ r. key word.Open ∷ (r ++ key word.Close ∷ [])) h) (λ v w h. h) rule_name)

  pub rule_agg : Rule (rule.aggregate bytes) (rule.aggregate text) agg_pieces placeless_agg
  unfolding rule.aggregate rule.counted
  rule_agg =
      turns_either (behind_key (plain_key word.Count) (turns_parens (turns_either (behind_key (plain_key word.Star) (turns_give refl refl))
      (behind_key (plain_key word.Distinct) (turns_next rule_name (turns_give (λ n. refl) (λ n m h. ap agg.CountDistinct h)))))))
      (turns_either (behind_key (plain_key word.Sum) (turns_next rule_within (turns_give (λ n. refl) (λ n m h. ap agg.Sum h))))
      (turns_either (behind_key (plain_key word.Min) (turns_next rule_within (turns_give (λ n. refl) (λ n m h. ap agg.Min h))))
      (behind_key (plain_key word.Max) (turns_next rule_within (turns_give (λ n. refl) (λ n m h. ap agg.Max h))))))
