-- The tokens of the bytes lie in them, and are printable.
use Rattle.std.proofs.Common.{◌≡◌, ℕ, ◌+◌, ◌-◌, ◌≤◌, Bool, true, false, cond, ◌&&◌, nat_eq, nat_lt, List, [], ◌∷◌, ◌++◌, length, take, drop, refl, sym, subst, arith}
use Rattle.std.proofs.lemmas.Bool.Decides.{nat_tests}
use Rattle.std.proofs.lemmas.Bool.{le-leb, and_parts, and_from}
use Rattle.std.specs.Prelude.{nat_le}
use Rattle.std.specs.List.{list_all}
use Rattle.mv_values.specs.Texts.{doubled}
use Rattle.mv_values.specs.Printable.{is_printable}
use Rattle.mv_lex.specs.Bytes.{is_digit, begins_word, continues_word, is_short_symbol, is_long_symbol}
use Rattle.mv_lex.specs.Spelling.{IsSpelled, is_word, is_number, is_variable, is_symbol, stands_alone, IsText}
use Rattle.mv_lex.specs.Tokens.{IsSpelledIn}
use Rattle.mv_lex.specs.declared.token.Token.{Token}
use Rattle.mv_lex.specs.declared.token.Kind.{Kind}
use Rattle.mv_lex.specs.declared.token.Kind.TheVariants as token
use Rattle.mv_ast.specs.declared.lexeme.Lexeme.{Lexeme}
use Rattle.mv_ast.specs.declared.lexeme.Terminal.{Terminal}
use Rattle.mv_ast.specs.declared.lexeme.Terminal.TheVariants as word
use Rattle.mv_ast.specs.Lexemes.{kind_of, lexeme_of}
use Rattle.mv_parser.specs.Fitting.{fits, must_print}

digit_prints : (b : ℕ) → is_digit b ≡ true → is_printable b ≡ true
digit_prints b h = grind (arith, nat_tests)

begin_prints : (b : ℕ) → begins_word b ≡ true → is_printable b ≡ true
begin_prints b h = grind (arith, nat_tests)

continue_prints : (b : ℕ) → continues_word b ≡ true → is_printable b ≡ true
continue_prints b h = grind (arith, nat_tests)

short_prints : (b : ℕ) → is_short_symbol b ≡ true → is_printable b ≡ true
short_prints b h = grind (arith, nat_tests)

long_prints : (a b : ℕ) → is_long_symbol a b ≡ true → (is_printable a && is_printable b) ≡ true
long_prints a b h = grind (arith, nat_tests)

colon_prints : (b : ℕ) → nat_eq b 58 ≡ true → is_printable b ≡ true
colon_prints b h = grind (arith, nat_tests)

each_prints : (p : ℕ → Bool) → ((b : ℕ) → p b ≡ true → is_printable b ≡ true) → (text : List ℕ) → list_all p text ≡ true → list_all is_printable text ≡ true
each_prints p f [] h = refl
each_prints p f (b ∷ bs) h = let k = and_parts (p b) (list_all p bs) h in and_from (is_printable b) (list_all is_printable bs) (f b k.0) (each_prints p f bs k.1)

word_prints : (text : List ℕ) → is_word text ≡ true → list_all is_printable text ≡ true
word_prints [] h = cc
word_prints (b ∷ bs) h = let k = and_parts (begins_word b) (list_all continues_word bs) h in and_from (is_printable b) (list_all is_printable bs) (begin_prints b k.0) (each_prints continues_word continue_prints bs k.1)

number_prints : (text : List ℕ) → is_number text ≡ true → list_all is_printable text ≡ true
number_prints [] h = cc
number_prints (b ∷ bs) h = let k = and_parts (is_digit b) (list_all is_digit bs) h in and_from (is_printable b) (list_all is_printable bs) (digit_prints b k.0) (each_prints is_digit digit_prints bs k.1)

variable_prints : (text : List ℕ) → is_variable text ≡ true → list_all is_printable text ≡ true
variable_prints [] h = cc
variable_prints (b ∷ bs) h = let k = and_parts (nat_eq b 58) (is_word bs) h in and_from (is_printable b) (list_all is_printable bs) (colon_prints b k.0) (word_prints bs k.1)

symbol_prints : (text : List ℕ) → is_symbol text ≡ true → list_all is_printable text ≡ true
symbol_prints [] h = cc
symbol_prints (a ∷ []) h = and_from (is_printable a) true (short_prints a h) refl
symbol_prints (a ∷ b ∷ []) h = let k = and_parts (is_printable a) (is_printable b) (long_prints a b h) in and_from (is_printable a) (is_printable b && true) k.0 (and_from (is_printable b) true k.1 refl)
symbol_prints (a ∷ b ∷ c ∷ bs) h = cc

append_prints : (xs ys : List ℕ) → list_all is_printable xs ≡ true → list_all is_printable ys ≡ true → list_all is_printable (xs ++ ys) ≡ true
append_prints [] ys h k = k
append_prints (x ∷ xs) ys h k = let two = and_parts (is_printable x) (list_all is_printable xs) h in and_from (is_printable x) _ two.0 (append_prints xs ys two.1 k)

doubled_prints : (text : List ℕ) → list_all is_printable text ≡ true → list_all is_printable (doubled text) ≡ true
doubled_prints [] h = refl
doubled_prints (b ∷ bs) h =
    let two = and_parts (is_printable b) (list_all is_printable bs) h in
    elim (nat_eq b 39) as (λ c. list_all is_printable (cond c (39 ∷ 39 ∷ doubled bs) (b ∷ doubled bs)) ≡ true) [
      | true ↦ doubled_prints bs two.1
      | false ↦ and_from (is_printable b) (list_all is_printable (doubled bs)) two.0 (doubled_prints bs two.1)
    ]

text_prints : (text : List ℕ) → IsText text → list_all is_printable text ≡ true
text_prints text t = rw t.written (append_prints (doubled t.content) (39 ∷ []) (doubled_prints t.content t.printable) refl)

-- what is printable is so whatever the grammar sees in it
prints_as : (t : Terminal) (text : List ℕ) → list_all is_printable text ≡ true → must_print t text ≡ true
prints_as word.Block text h = refl
prints_as word.OpenBlock text h = refl
prints_as t text h = h

spelled_prints : (kind : Kind) (text after : List ℕ) → IsSpelled kind text after → must_print (kind_of kind text) text ≡ true
spelled_prints token.Word text after s = prints_as (kind_of token.Word text) text (word_prints text s)
spelled_prints token.Number text after s = number_prints text s
spelled_prints token.Text text after s = text_prints text s
spelled_prints token.Variable text after s = variable_prints text s
spelled_prints token.Symbol text after s = prints_as (kind_of token.Symbol text) text (symbol_prints text (and_parts (is_symbol text) (stands_alone text after) s).0)
spelled_prints token.Block text after s = refl
spelled_prints token.OpenBlock text after s = refl

below : (x n : ℕ) → x ≤ n → n ≤ 16777216 → nat_lt x 4294967296 ≡ true
below x n h k = grind (arith, nat_tests)

-- a token that is spelled in the bytes fits
pub token_fits : (bytes : List ℕ) (n : ℕ) (t : Token) → length bytes ≤ 16777216 → IsSpelledIn bytes t → fits bytes (lexeme_of n bytes t) ≡ true
token_fits bytes n t few s =
    let e : (t.at + t.len) - t.at ≡ t.len = omega arith in
    and_from (nat_le (t.at + t.len) (length bytes) && nat_lt (t.at + t.len) 4294967296) _
    (and_from (nat_le (t.at + t.len) (length bytes)) (nat_lt (t.at + t.len) 4294967296) (le-leb (t.at + t.len) (length bytes) s.within) (below (t.at + t.len) (length bytes) s.within few))
    (subst (λ m. must_print (kind_of t.kind (take m (drop t.at bytes))) (take m (drop t.at bytes)) ≡ true) (sym e) (spelled_prints t.kind (take t.len (drop t.at bytes)) _ s.spelled))

-- and so one more that fits
pub fitting_more : (bytes : List ℕ) (ls : List Lexeme) (l : Lexeme) → list_all (fits bytes) ls ≡ true → fits bytes l ≡ true → list_all (fits bytes) (ls ++ l ∷ []) ≡ true
fitting_more bytes [] l h k = and_from (fits bytes l) true k refl
fitting_more bytes (m ∷ ms) l h k = let two = and_parts (fits bytes m) (list_all (fits bytes) ms) h in and_from (fits bytes m) _ two.0 (fitting_more bytes ms l two.1 k)
