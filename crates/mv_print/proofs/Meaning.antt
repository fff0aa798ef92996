-- What the tokens of a source mean, and where the bytes of its blocks stand.
use Rattle.std.proofs.Common.{◌≡◌, ℕ, suc, ◌+◌, ◌-◌, ◌<◌, Bool, true, false, cond, ◌==◌, nat_lt, List, [], ◌∷◌, ◌++◌, length, take, drop, slice_range, refl, sym, ap, subst, ◌∙◌, append_assoc, append-nil, length-append, arith, inl, inr}
use Rattle.std.specs.List.{list_all, ends_with, prefix_len}
use Rattle.std.proofs.lemmas.Bool.{and_parts, and_from, lt-ltb}
use Rattle.std.proofs.lemmas.List.{take_at, drop_at, drop-drop, take-append-drop, length-map}
use Rattle.std.specs.Cmp.Lexicographic.{pointwise}
use Rattle.mv_lex.specs.Bytes.{is_allowed, is_blank, is_in_line}
use Rattle.mv_lex.specs.Spelling.{IsSpelled, is_word, is_variable, IsText, IsClosing, is_inner_blank, opening}
use Rattle.mv_lex.specs.declared.token.Kind.{Kind}
use Rattle.mv_lex.specs.declared.token.Kind.TheVariants as token
use Rattle.mv_lex.proofs.Runs.{run_exact}
use Rattle.mv_ast.specs.declared.lexeme.Lexeme.{Lexeme}
use Rattle.mv_ast.specs.declared.lexeme.Terminal.{Terminal}
use Rattle.mv_ast.specs.declared.lexeme.Terminal.TheVariants as word
use Rattle.mv_ast.specs.Texts.{spelling, number_from, lower, unquoted, first_line, last_line}
use Rattle.mv_ast.specs.Lexemes.{kind_of, keywords, symbols, listed}
use Rattle.mv_ast.specs.Grammar.{closed_of, open_of}
use Rattle.mv_print.specs.Same.{span_bytes}
use Rattle.mv_ast.specs.declared.limit.PassedLimit.{PassedLimit}
use Rattle.mv_ast.specs.declared.limit.Which.TheVariants as limit
use Rattle.mv_ast.specs.Limits.{at_token, when, own_passes, is_size_of, is_size}
use Rattle.std.specs.Char.{to_ascii_lowercase}
use Rattle.mv_values.specs.Printable.{is_printable}
use Rattle.mv_print.proofs.Building.{Goodness}
use Rattle.mv_print.proofs.Sounding.{IsContent, IsName, IsVariable, lower_word, lower_twice, unquoted_back}

-- the token is spelled so in the bytes
pub record Meant (bytes : List ℕ) (l : Lexeme) : Type 0 where
  pub token : Kind
  pub after : List ℕ
  pub spelled : IsSpelled token (spelling bytes l) after
  pub is : kind_of token (spelling bytes l) ≡ l.kind
  pub len : l.len ≡ length (spelling bytes l)
  pub allowed : list_all is_allowed (spelling bytes l) ≡ true

-- the kind of token that the grammar sees so
abbrev pub kind_behind : Terminal → Kind
kind_behind word.Number = token.Number
kind_behind word.Quoted = token.Text
kind_behind word.Variable = token.Variable
kind_behind word.Block = token.Block
kind_behind word.OpenBlock = token.OpenBlock
kind_behind word.Open = token.Symbol
kind_behind word.Close = token.Symbol
kind_behind word.Comma = token.Symbol
kind_behind word.Semicolon = token.Symbol
kind_behind word.Dot = token.Symbol
kind_behind word.Equal = token.Symbol
kind_behind word.NotEqual = token.Symbol
kind_behind word.Less = token.Symbol
kind_behind word.LessOrEqual = token.Symbol
kind_behind word.Greater = token.Symbol
kind_behind word.GreaterOrEqual = token.Symbol
kind_behind word.Plus = token.Symbol
kind_behind word.Minus = token.Symbol
kind_behind word.Star = token.Symbol
kind_behind word.Slash = token.Symbol
kind_behind word.Percent = token.Symbol
kind_behind word.Bars = token.Symbol
kind_behind t = token.Word

abbrev Listed : Kind → List (List ℕ × Terminal) → Type 0
Listed k [] = Unit {0}
Listed k (w ∷ ws) = (kind_behind w.1 ≡ k) × Listed k ws

listed_behind : (k : Kind) (ws : List (List ℕ × Terminal)) (other : Terminal) (text : List ℕ) → Listed k ws → kind_behind other ≡ k → kind_behind (listed ws other text) ≡ k
unfolding listed
listed_behind k [] other text h o = o
listed_behind k (w ∷ ws) other text h o = go (pointwise ◌==◌ w.0 text) (listed_behind k ws other text h.1 o)
  where
    go : (b : Bool) → kind_behind (listed ws other text) ≡ k → kind_behind (cond b w.1 (listed ws other text)) ≡ k
    go true i = h.0
    go false i = i

words_behind : Listed token.Word keywords
unfolding keywords
words_behind = search refl

symbols_behind : Listed token.Symbol symbols
unfolding symbols
symbols_behind = search refl

pub behind : (k : Kind) (text : List ℕ) → kind_behind (kind_of k text) ≡ k
behind token.Word text = listed_behind token.Word keywords word.Name (lower text) words_behind refl
behind token.Number text = refl
behind token.Text text = refl
behind token.Variable text = refl
behind token.Symbol text = listed_behind token.Symbol symbols word.Bars text symbols_behind refl
behind token.Block text = refl
behind token.OpenBlock text = refl

-- the token behind a terminal
pub meant : {bytes : List ℕ} (l : Lexeme) (t : Terminal) (m : Meant bytes l) → l.kind ≡ t → IsSpelled (kind_behind t) (spelling bytes l) m.after
meant {bytes = bytes} l t m e =
    let k : m.token ≡ kind_behind t = sym (behind m.token (spelling bytes l)) ∙ ap kind_behind (m.is ∙ e) in
    subst (λ k. IsSpelled k (spelling bytes l) m.after) k m.spelled

-- the tokens of a source that passes no limit
abbrev pub Good : List ℕ → Goodness
Good bytes = record {
  one_good = λ l. Meant bytes l × (own_passes l.kind (spelling bytes l) l.number ≡ []);
  three_good = λ a b c. is_size_of a.kind b.kind c.kind ≡ true → is_size (number_from 0 (spelling bytes c)) ≡ true;
}

abbrev GoodOne : List ℕ → Lexeme → Type 0
GoodOne bytes l = Meant bytes l × (own_passes l.kind (spelling bytes l) l.number ≡ [])

pub never_when : (b : Bool) (p : PassedLimit) → when b p ≡ [] → b ≡ false
never_when true p h = cc
never_when false p h = refl

own_at : (l : Lexeme) (t : Terminal) (text : List ℕ) → l.kind ≡ t → own_passes l.kind text l.number ≡ [] → own_passes t text l.number ≡ []
own_at l t text e h = subst (λ k. own_passes k text l.number ≡ []) e h

pub meant_name : {bytes : List ℕ} (l : Lexeme) → GoodOne bytes l → l.kind ≡ word.Name → IsName (lower (spelling bytes l))
meant_name {bytes = bytes} l g e =
    let m = g.0 in
    let s = spelling bytes l in
    let k : m.token ≡ token.Word = sym (behind m.token s) ∙ ap kind_behind (m.is ∙ e) in
    let f : kind_of token.Word s ≡ word.Name = sym (ap (λ k. kind_of k s) k) ∙ (m.is ∙ e) in
    record {
      letters = lower_word s (meant l word.Name m e);
      free = ap (listed keywords word.Name) (lower_twice s) ∙ f;
      lowered = lower_twice s;
      short = ap (nat_lt 64) (length-map s to_ascii_lowercase) ∙ never_when (nat_lt 64 (length s)) (at_token limit.Name l.number) (own_at l word.Name s e g.1);
    }

variable_word : (s : List ℕ) → is_variable s ≡ true → (is_word (drop 1 s) ≡ true) × (length (58 ∷ drop 1 s) ≡ length s)
variable_word [] h = cc
variable_word (b ∷ s) h = ((and_parts (b == 58) (is_word s) h).1, refl)

pub meant_variable : {bytes : List ℕ} (l : Lexeme) → GoodOne bytes l → l.kind ≡ word.Variable → IsVariable (lower (drop 1 (spelling bytes l)))
meant_variable {bytes = bytes} l g e =
    let s = drop 1 (spelling bytes l) in
    let w = variable_word (spelling bytes l) (meant l word.Variable g.0 e) in
    let n : length (58 ∷ lower s) ≡ length (spelling bytes l) = ap suc (length-map s to_ascii_lowercase) ∙ w.1 in
    record {
      letters = lower_word s w.0;
      lowered = lower_twice s;
      short = ap (nat_lt 65) n ∙ never_when (nat_lt 65 (length (spelling bytes l))) (at_token limit.Name l.number) (own_at l word.Variable (spelling bytes l) e g.1);
    }

pub meant_text : {bytes : List ℕ} (l : Lexeme) → GoodOne bytes l → l.kind ≡ word.Quoted → IsContent (unquoted (spelling bytes l))
meant_text {bytes = bytes} l g e =
    let t : IsText (spelling bytes l) = meant l word.Quoted g.0 e in (
      ap (list_all is_printable) (ap unquoted t.written ∙ unquoted_back t.content) ∙ t.printable,
      never_when (nat_lt 4000 (length (unquoted (spelling bytes l)))) (at_token limit.Text l.number) (own_at l word.Quoted (spelling bytes l) e g.1),
    )

-- Where a block's lines stand.
slice_inside : (bytes : List ℕ) (a n : ℕ) (front inside after : List ℕ) → slice_range bytes a (a + n) ≡ front ++ (inside ++ after)
    → (f m : ℕ) → f ≡ length front → m ≡ length inside → slice_range bytes (a + f) (a + f + m) ≡ inside
slice_inside bytes a n front inside after h f m ef em =
    let k = a + n - a in
    let r = drop k (drop a bytes) in
    let y : drop a bytes ≡ front ++ (inside ++ (after ++ r)) = sym (take-append-drop k (drop a bytes)) ∙ (ap (λ x. x ++ r) h ∙ (append_assoc front (inside ++ after) r ∙ ap (λ x. front ++ x) (append_assoc inside after r))) in
    let z : drop (a + f) bytes ≡ inside ++ (after ++ r) = sym (drop-drop f a bytes) ∙ (ap (drop f) y ∙ drop_at front (inside ++ (after ++ r)) f (sym ef)) in
    let c : a + f + m - (a + f) ≡ m = omega arith in
    ap (λ (x : ℕ). take x (drop (a + f) bytes)) c ∙ (ap (take m) z ∙ take_at inside (after ++ r) m (sym em))

blank_in_line : (bs : List ℕ) → list_all is_inner_blank bs ≡ true → list_all is_in_line bs ≡ true
blank_in_line [] h = refl
blank_in_line (b ∷ bs) h =
    let k = and_parts (is_inner_blank b) (list_all is_inner_blank bs) h in
    and_from (is_in_line b) (list_all is_in_line bs) (and_parts (is_blank b) (is_in_line b) k.0).1 (blank_in_line bs k.1)

first_line_by : (text : List ℕ) (n : ℕ) → prefix_len is_in_line text ≡ n → n < length text → first_line text ≡ n + 1
first_line_by text n e h = let l : nat_lt n (length text) ≡ true = lt-ltb n (length text) h in rw (e, l) refl

no_line_by : (text : List ℕ) (n : ℕ) → prefix_len is_in_line text ≡ n → nat_lt n (length text) ≡ false → first_line text ≡ length text
no_line_by text n e h = rw (e, h) refl

first_line_is : (blanks rest : List ℕ) → list_all is_inner_blank blanks ≡ true → first_line (opening blanks ++ 10 ∷ rest) ≡ length blanks + 3
first_line_is blanks rest h =
    let r = run_exact is_in_line (opening blanks) (10 ∷ rest) (blank_in_line blanks h) refl in
    first_line_by (opening blanks ++ 10 ∷ rest) (length (opening blanks)) r (omega (arith, length-append blanks (10 ∷ rest))) ∙ omega arith

abbrev which : Bool → Bool → ℕ
which p q = cond p 4 (cond q 3 2)

last_line_cut : (front : List ℕ) (a b : ℕ) → ◌≡◌ {A = ℕ} (last_line (front ++ a ∷ b ∷ [])) (cond (pointwise ◌==◌ (13 ∷ 10 ∷ []) (a ∷ b ∷ [])) 4 (cond (pointwise ◌==◌ (10 ∷ []) (b ∷ [])) 3 2))
last_line_cut front a b =
    let n : length (front ++ a ∷ b ∷ []) - 2 ≡ length front = omega (arith, length-append front (a ∷ b ∷ [])) in
    let m : length (front ++ a ∷ b ∷ []) - 1 ≡ length (front ++ a ∷ []) = omega (arith, length-append front (a ∷ b ∷ []), length-append front (a ∷ [])) in
    let two : drop (length (front ++ a ∷ b ∷ []) - 2) (front ++ a ∷ b ∷ []) ≡ a ∷ b ∷ [] = ap (λ (k : ℕ). drop k (front ++ a ∷ b ∷ [])) n ∙ drop_at front (a ∷ b ∷ []) (length front) refl in
    let one : drop (length (front ++ a ∷ b ∷ []) - 1) (front ++ a ∷ b ∷ []) ≡ b ∷ [] =
    ap (λ (k : ℕ). drop k (front ++ a ∷ b ∷ [])) m ∙ (ap (drop (length (front ++ a ∷ []))) (sym (append_assoc front (a ∷ []) (b ∷ []))) ∙ drop_at (front ++ a ∷ []) (b ∷ []) (length (front ++ a ∷ [])) refl) in
    ap (λ (r : List ℕ). which (pointwise ◌==◌ (13 ∷ 10 ∷ []) r) (ends_with ◌==◌ (front ++ a ∷ b ∷ []) (10 ∷ []))) two
    ∙ ap (λ (r : List ℕ). which (pointwise ◌==◌ (13 ∷ 10 ∷ []) (a ∷ b ∷ [])) (pointwise ◌==◌ (10 ∷ []) r)) one

last_line_is : (front closing after : List ℕ) → IsClosing closing after → last_line (front ++ closing) ≡ length closing
last_line_is front closing after (inl e) =
    rw e (ap last_line (sym (append_assoc front (62 ∷ []) (62 ∷ 10 ∷ []))) ∙ last_line_cut (front ++ 62 ∷ []) 62 10)
last_line_is front closing after (inr (inl e)) =
    rw e (ap last_line (sym (append_assoc front (62 ∷ 62 ∷ []) (13 ∷ 10 ∷ []))) ∙ last_line_cut (front ++ 62 ∷ 62 ∷ []) 13 10)
last_line_is front closing after (inr (inr e)) = rw e.0 (last_line_cut front 62 62)

pub closed_bytes : (bytes : List ℕ) (l : Lexeme) (blanks lines closing after : List ℕ) → spelling bytes l ≡ opening blanks ++ 10 ∷ (lines ++ closing) → l.len ≡ length (spelling bytes l)
    → list_all is_inner_blank blanks ≡ true → IsClosing closing after → span_bytes bytes (closed_of bytes l) ≡ lines
closed_bytes bytes l blanks lines closing after e n b c =
    let front = 60 ∷ 60 ∷ (blanks ++ 10 ∷ []) in
    let e' : spelling bytes l ≡ front ++ (lines ++ closing) = e ∙ ap (λ r. 60 ∷ 60 ∷ r) (sym (append_assoc blanks (10 ∷ []) (lines ++ closing))) in
    let f : first_line (spelling bytes l) ≡ length front = ap first_line e ∙ (first_line_is blanks (lines ++ closing) b ∙ omega (arith, length-append blanks (10 ∷ []))) in
    let g : last_line (spelling bytes l) ≡ length closing = ap last_line (e' ∙ sym (append_assoc front lines closing)) ∙ last_line_is (front ++ lines) closing after c in
    slice_inside bytes l.at l.len front lines closing e' (first_line (spelling bytes l)) (l.len - first_line (spelling bytes l) - last_line (spelling bytes l)) f
    (omega (arith, ap length e', length-append front (lines ++ closing), length-append lines closing))

pub open_bytes : (bytes : List ℕ) (l : Lexeme) (blanks lines : List ℕ) → spelling bytes l ≡ opening blanks ++ 10 ∷ lines → l.len ≡ length (spelling bytes l)
    → list_all is_inner_blank blanks ≡ true → span_bytes bytes (open_of bytes l) ≡ lines
open_bytes bytes l blanks lines e n b =
    let front = 60 ∷ 60 ∷ (blanks ++ 10 ∷ []) in
    let e' : spelling bytes l ≡ front ++ (lines ++ []) = e ∙ ap (λ r. 60 ∷ 60 ∷ r) (sym (append_assoc blanks (10 ∷ []) lines) ∙ ap (λ r. (blanks ++ 10 ∷ []) ++ r) (sym (append-nil lines))) in
    let f : first_line (spelling bytes l) ≡ length front = ap first_line e ∙ (first_line_is blanks lines b ∙ omega (arith, length-append blanks (10 ∷ []))) in
    slice_inside bytes l.at l.len front lines [] e' (first_line (spelling bytes l)) (l.len - first_line (spelling bytes l)) f
    (omega (arith, ap length e', length-append front (lines ++ []), length-append lines []))

bare_line : (blanks : List ℕ) → list_all is_inner_blank blanks ≡ true → first_line (opening blanks) ≡ length (opening blanks)
bare_line blanks h =
    let e = append-nil (opening blanks) in
    let r : prefix_len is_in_line (opening blanks) ≡ length (opening blanks) = ap (prefix_len is_in_line) (sym e) ∙ run_exact is_in_line (opening blanks) [] (blank_in_line blanks h) tt in
    no_line_by (opening blanks) (length (opening blanks)) r (same_not (length (opening blanks)))
  where
    same_not : (n : ℕ) → nat_lt n n ≡ false
    same_not n = grind arith

pub bare_bytes : (bytes : List ℕ) (l : Lexeme) (blanks : List ℕ) → spelling bytes l ≡ opening blanks → l.len ≡ length (spelling bytes l)
    → list_all is_inner_blank blanks ≡ true → span_bytes bytes (open_of bytes l) ≡ []
bare_bytes bytes l blanks e n b =
    let e' : spelling bytes l ≡ opening blanks ++ ([] ++ []) = e ∙ sym (append-nil (opening blanks)) in
    let f : first_line (spelling bytes l) ≡ length (opening blanks) = ap first_line e ∙ bare_line blanks b in
    slice_inside bytes l.at l.len (opening blanks) [] [] e' (first_line (spelling bytes l)) (l.len - first_line (spelling bytes l)) f (omega (arith, ap length e))
