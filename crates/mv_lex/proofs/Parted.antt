-- A token that a blank or the end of the input follows is the longest that fits.
use Rattle.std.proofs.Common.{◌≡◌, ◌⊎◌, inl, inr, ℕ, ◌+◌, Bool, true, false, ◌==◌, ◌&&◌, ◌||◌, List, [], ◌∷◌, ◌++◌, Some, None, length, refl, sym, ap, subst, ◌∙◌, arith, append_assoc, length-append}
use Rattle.std.specs.List.{list_all}
use Rattle.std.proofs.lemmas.Bool.{and_parts, and_right, or_from, eqb-true}
use Rattle.mv_values.specs.Texts.{doubled, quoted}
use Rattle.mv_values.specs.Printable.{is_printable}
use Rattle.mv_lex.specs.Bytes.{is_digit, begins_word, continues_word, is_short_symbol, is_long_symbol}
use Rattle.mv_lex.specs.Spelling.{is_word, is_number, is_variable, is_symbol, stands_alone, IsText, IsSpelled}
use Rattle.mv_lex.specs.Tokens.{IsLongest, is_parted}
use Rattle.mv_lex.specs.Reading.{text_len, word_len, symbol_len, of_kind, token_of}
use Rattle.mv_lex.specs.declared.token.Kind.{Kind}
use Rattle.mv_lex.specs.declared.token.Kind.TheVariants.{Word, Number, Text, Variable, Symbol, Block, OpenBlock}
use Rattle.mv_lex.proofs.Runs.{Stops, run_exact}
use Rattle.mv_lex.proofs.Fronts.{block_is, long_cases, long_found_at, short_front, short_other, no_block, text_at, variable_at, digit_no_word}
use Rattle.mv_lex.proofs.Pieces.{blank_cases, found_longest}

-- a class that has no blank stops there
blank_out : (p : ℕ → Bool) (b : ℕ) → p 9 ≡ false → p 10 ≡ false → p 13 ≡ false → p 32 ≡ false → (b ≡ 9) ⊎ ((b ≡ 10) ⊎ ((b ≡ 13) ⊎ (b ≡ 32))) → p b ≡ false
blank_out p b h i j k (inl e) = rw e h
blank_out p b h i j k (inr (inl e)) = rw e i
blank_out p b h i j k (inr (inr (inl e))) = rw e j
blank_out p b h i j k (inr (inr (inr e))) = rw e k

stops_parted : (p : ℕ → Bool) (after : List ℕ) → p 9 ≡ false → p 10 ≡ false → p 13 ≡ false → p 32 ≡ false → is_parted after ≡ true → Stops p after
stops_parted p [] h i j k a = tt
stops_parted p (b ∷ after) h i j k a = blank_out p b h i j k (blank_cases b a)

word_is : (text after : List ℕ) → is_parted after ≡ true → is_word text ≡ true → token_of (text ++ after) ≡ Some (Word, length text)
unfolding token_of
word_is [] after a h = cc
word_is (b ∷ bs) after a h =
    let p = and_parts (begins_word b) (list_all continues_word bs) h in
    let r = run_exact continues_word bs after p.1 (stops_parted continues_word after refl refl refl refl a) in
    rw (p.0, r) (ap (λ n. Some (Word, n)) (omega arith))

number_is : (text after : List ℕ) → is_parted after ≡ true → is_number text ≡ true → token_of (text ++ after) ≡ Some (Number, length text)
unfolding token_of
number_is [] after a h = cc
number_is (b ∷ bs) after a h =
    let p = and_parts (is_digit b) (list_all is_digit bs) h in
    let r = run_exact is_digit bs after p.1 (stops_parted is_digit after refl refl refl refl a) in
    rw (digit_no_word b p.0, p.0, r) (ap (λ n. Some (Number, n)) (omega arith))

word_len_is : (text after : List ℕ) → is_parted after ≡ true → is_word text ≡ true → word_len (text ++ after) ≡ Some (length text)
word_len_is [] after a h = cc
word_len_is (b ∷ bs) after a h =
    let p = and_parts (begins_word b) (list_all continues_word bs) h in
    let r = run_exact continues_word bs after p.1 (stops_parted continues_word after refl refl refl refl a) in
    rw (p.0, r) (ap Some (omega arith))

variable_is : (text after : List ℕ) → is_parted after ≡ true → is_variable text ≡ true → token_of (text ++ after) ≡ Some (Variable, length text)
variable_is [] after a h = cc
variable_is (b ∷ word) after a h =
    let p = and_parts (b == 58) (is_word word) h in
    variable_at b (length word) (word ++ after) (eqb-true b 58 p.0) (word_len_is word after a p.1) ∙ ap (λ n. Some (Variable, n)) (omega arith)

not_long : (a b : ℕ) → (b == 62) ≡ false → (b == 61) ≡ false → (b == 124) ≡ false → is_long_symbol a b ≡ false
not_long a b h i j =
    or_from ((a == 60 && (b == 62 || b == 61)) || (a == 62 && b == 61)) (a == 124 && b == 124)
    (or_from (a == 60 && (b == 62 || b == 61)) (a == 62 && b == 61) (and_right (a == 60) (b == 62 || b == 61) (or_from (b == 62) (b == 61) h i)) (and_right (a == 62) (b == 61) i))
    (and_right (a == 124) (b == 124) j)

short_len : (a : ℕ) (after : List ℕ) → is_parted after ≡ true → is_short_symbol a ≡ true → stands_alone (a ∷ []) after ≡ true → symbol_len (a ∷ after) ≡ Some 1
short_len a [] p h s = rw h refl
short_len a (b ∷ after) p h s =
    let c = blank_cases b p in
    let l = not_long a b (blank_out (λ x. x == 62) b refl refl refl refl c) (blank_out (λ x. x == 61) b refl refl refl refl c) (blank_out (λ x. x == 124) b refl refl refl refl c) in
    rw (l, h, s) refl

symbol_is : (text after : List ℕ) → is_parted after ≡ true → (is_symbol text && stands_alone text after) ≡ true → token_of (text ++ after) ≡ Some (Symbol, length text)
symbol_is [] after a h = cc
symbol_is (b ∷ []) after a h =
    let p = and_parts (is_short_symbol b) (stands_alone (b ∷ []) after) h in
    short_front b after (short_other b p.0) (no_block b after p.1) ∙ ap (of_kind Symbol) (short_len b after a p.0 p.1)
symbol_is (b ∷ c ∷ []) after a h =
    let p = and_parts (is_long_symbol b c) (stands_alone (b ∷ c ∷ []) after) h in
    long_found_at b c after (long_cases b c p.0)
symbol_is (b ∷ c ∷ d ∷ text) after a h = cc

-- no quote follows the one that closes a text
closed_none : (after : List ℕ) → Stops (λ b. b == 39) after → text_len true after ≡ None
unfolding text_len
closed_none [] s = refl
closed_none (b ∷ after) s = rw s refl

text_byte : (b : ℕ) (content after : List ℕ) (q : Bool) → (b == 39) ≡ q → is_printable b ≡ true
    → text_len false (doubled content ++ 39 ∷ after) ≡ Some (length (doubled content) + 1)
    → text_len false (doubled (b ∷ content) ++ 39 ∷ after) ≡ Some (length (doubled (b ∷ content)) + 1)
unfolding text_len
text_byte b content after true q p h = rw (q, h) (ap Some (omega arith))
text_byte b content after false q p h = rw (q, q, p, h) (ap Some (omega arith))

text_len_is : (content after : List ℕ) → Stops (λ b. b == 39) after → list_all is_printable content ≡ true
    → text_len false (doubled content ++ 39 ∷ after) ≡ Some (length (doubled content) + 1)
unfolding text_len
text_len_is [] after s h = rw (closed_none after s) refl
text_len_is (b ∷ content) after s h =
    let p = and_parts (is_printable b) (list_all is_printable content) h in
    text_byte b content after (b == 39) refl p.0 (text_len_is content after s p.1)

text_is : (text after : List ℕ) → is_parted after ≡ true → IsText text → token_of (text ++ after) ≡ Some (Text, length text)
text_is text after a t =
    let len : 1 + (length (doubled t.content) + 1) ≡ length (quoted t.content) = simp length-append (omega arith) in
    let is = text_at (doubled t.content ++ 39 ∷ after) _ (text_len_is t.content after (stops_parted (λ b. b == 39) after refl refl refl refl a) t.printable) in
    let way : token_of (quoted t.content ++ after) ≡ Some (Text, length (quoted t.content)) =
    ap (λ xs. token_of (39 ∷ xs)) (append_assoc (doubled t.content) (39 ∷ []) after) ∙ (is ∙ ap (λ n. Some (Text, n)) len) in
    subst (λ xs. token_of (xs ++ after) ≡ Some (Text, length xs)) (sym t.written) way

-- what ends with the input has nothing longer
last_longest : (kind : Kind) (text : List ℕ) → IsSpelled kind text [] → IsLongest kind text []
last_longest kind text s = record { spelled = s; longest = λ other front rest e l h. omega (arith, ap length e, length-append front rest, length-append text []) }

pub parted_longest : (kind : Kind) (text after : List ℕ) → is_parted after ≡ true → IsSpelled kind text after → IsLongest kind text after
parted_longest Word text after a s = found_longest Word (length text) text after (word_is text after a s) refl s
parted_longest Number text after a s = found_longest Number (length text) text after (number_is text after a s) refl s
parted_longest Text text after a s = found_longest Text (length text) text after (text_is text after a s) refl s
parted_longest Variable text after a s = found_longest Variable (length text) text after (variable_is text after a s) refl s
parted_longest Symbol text after a s = found_longest Symbol (length text) text after (symbol_is text after a s) refl s
parted_longest Block text after a s = found_longest Block (length text) text after (block_is text after s) refl s
parted_longest OpenBlock text after a s =
    let t : IsSpelled OpenBlock text [] = (s.0, refl) in
    rw s.1 (last_longest OpenBlock text t)
