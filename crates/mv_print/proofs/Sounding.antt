-- Each printed piece is one token, and means what the tree has.
use Rattle.std.proofs.Common.{◌≡◌, ℕ, ◌+◌, ◌-◌, ◌*◌, ◌<◌, ◌≤◌, ◌/◌, ◌%◌, Bool, true, false, cond, nat_lt, ◌&&◌, ◌==◌, List, [], ◌∷◌, ◌++◌, length, take, refl, sym, ap, ◌∙◌, length-append, arith}
use Rattle.std.specs.Prelude.{decimal, ◌^◌}
use Rattle.std.specs.List.{list_all}
use Rattle.std.specs.Char.{to_ascii_lowercase}
use Rattle.std.proofs.lemmas.Bool.{and_parts, and_from, eqb-true, le-ltb}
use Rattle.std.proofs.lemmas.Bool.Decides.{nat_tests}
use Rattle.std.proofs.lemmas.Fmt.{decimal_by_steps}
use Rattle.std.proofs.lemmas.List.{take_at}
use Rattle.std.proofs.lemmas.List.Folds.{list_all-append}
use Rattle.std.proofs.lemmas.Str.Ascii.{lowercase-lowercase}
use Rattle.mv_values.specs.Texts.{doubled, quoted}
use Rattle.mv_values.specs.Printable.{is_printable}
use Rattle.mv_lex.specs.Bytes.{is_allowed, is_digit, begins_word, continues_word}
use Rattle.mv_lex.specs.Spelling.{is_word, is_number, is_symbol, stands_alone}
use Rattle.mv_lex.specs.declared.token.Kind.TheVariants as token
use Rattle.mv_lex.proofs.Parted.{parted_longest}
use Rattle.mv_ast.specs.declared.lexeme.Terminal.{Terminal}
use Rattle.mv_ast.specs.declared.lexeme.Terminal.TheVariants as word
use Rattle.mv_ast.specs.declared.tree.Name.{Name}
use Rattle.mv_ast.specs.declared.limit.PassedLimit.{PassedLimit}
use Rattle.mv_ast.specs.declared.limit.Which.TheVariants as limit
use Rattle.mv_ast.specs.Limits.{at_token, when, own_passes}
use Rattle.mv_ast.specs.Texts.{lower, number, number_from, greatest, undoubled, unquoted}
use Rattle.mv_ast.specs.Lexemes.{kind_of, keywords, symbols, listed}
use Rattle.mv_print.specs.Printing.{key, line_end, spelled, name_piece, variable_piece, number_piece, text_piece}
use Rattle.mv_print.proofs.Building.{Base, Sound}

-- keywords and symbols
word_sound : (t : Terminal) → is_word (spelled t) ≡ true → kind_of token.Word (spelled t) ≡ t → list_all is_allowed (spelled t) ≡ true → ((n : ℕ) → own_passes t (spelled t) n ≡ []) → Base (key t)
word_sound t w k a o = record { token = token.Word; longest = λ rest. parted_longest token.Word (spelled t) (32 ∷ rest) refl w; is = k; allowed = a; gaps = refl; own = o }

symbol_sound : (t : Terminal) → ((rest : List ℕ) → (is_symbol (spelled t) && stands_alone (spelled t) (32 ∷ rest)) ≡ true) → kind_of token.Symbol (spelled t) ≡ t → list_all is_allowed (spelled t) ≡ true → ((n : ℕ) → own_passes t (spelled t) n ≡ []) → Base (key t)
symbol_sound t w k a o = record { token = token.Symbol; longest = λ rest. parted_longest token.Symbol (spelled t) (32 ∷ rest) refl (w rest); is = k; allowed = a; gaps = refl; own = o }

abbrev pub SoundKey : Terminal → Type 0
SoundKey word.Name = Unit {0}
SoundKey word.Number = Unit {0}
SoundKey word.Quoted = Unit {0}
SoundKey word.Variable = Unit {0}
SoundKey word.Block = Unit {0}
SoundKey word.OpenBlock = Unit {0}
SoundKey word.Text = Base (key word.Text)
SoundKey t = Sound (key t)

pub sound_key : (t : Terminal) → SoundKey t
unfolding listed keywords symbols
sound_key word.Name = tt
sound_key word.Number = tt
sound_key word.Quoted = tt
sound_key word.Variable = tt
sound_key word.Block = tt
sound_key word.OpenBlock = tt
sound_key word.Open = record { base = symbol_sound word.Open (λ r. refl) refl refl (λ n. refl); plain = refl }
sound_key word.Close = record { base = symbol_sound word.Close (λ r. refl) refl refl (λ n. refl); plain = refl }
sound_key word.Comma = record { base = symbol_sound word.Comma (λ r. refl) refl refl (λ n. refl); plain = refl }
sound_key word.Semicolon = record { base = symbol_sound word.Semicolon (λ r. refl) refl refl (λ n. refl); plain = refl }
sound_key word.Dot = record { base = symbol_sound word.Dot (λ r. refl) refl refl (λ n. refl); plain = refl }
sound_key word.Equal = record { base = symbol_sound word.Equal (λ r. refl) refl refl (λ n. refl); plain = refl }
sound_key word.NotEqual = record { base = symbol_sound word.NotEqual (λ r. refl) refl refl (λ n. refl); plain = refl }
sound_key word.Less = record { base = symbol_sound word.Less (λ r. refl) refl refl (λ n. refl); plain = refl }
sound_key word.LessOrEqual = record { base = symbol_sound word.LessOrEqual (λ r. refl) refl refl (λ n. refl); plain = refl }
sound_key word.Greater = record { base = symbol_sound word.Greater (λ r. refl) refl refl (λ n. refl); plain = refl }
sound_key word.GreaterOrEqual = record { base = symbol_sound word.GreaterOrEqual (λ r. refl) refl refl (λ n. refl); plain = refl }
sound_key word.Plus = record { base = symbol_sound word.Plus (λ r. refl) refl refl (λ n. refl); plain = refl }
sound_key word.Minus = record { base = symbol_sound word.Minus (λ r. refl) refl refl (λ n. refl); plain = refl }
sound_key word.Star = record { base = symbol_sound word.Star (λ r. refl) refl refl (λ n. refl); plain = refl }
sound_key word.Slash = record { base = symbol_sound word.Slash (λ r. refl) refl refl (λ n. refl); plain = refl }
sound_key word.Percent = record { base = symbol_sound word.Percent (λ r. refl) refl refl (λ n. refl); plain = refl }
sound_key word.Bars = record { base = symbol_sound word.Bars (λ r. refl) refl refl (λ n. refl); plain = refl }
sound_key word.Text = word_sound word.Text refl refl refl (λ n. refl)
sound_key t = record { base = word_sound t refl refl refl (λ n. refl); plain = refl }

pub sound_end : Sound line_end
unfolding listed symbols
sound_end = record { base = record { token = token.Symbol; longest = λ rest. parted_longest token.Symbol (spelled word.Semicolon) (10 ∷ rest) refl refl; is = refl; allowed = refl; gaps = refl; own = λ n. refl }; plain = refl }

-- a text of printable bytes
each_by : (p q : ℕ → Bool) → ((b : ℕ) → p b ≡ true → q b ≡ true) → (bs : List ℕ) → list_all p bs ≡ true → list_all q bs ≡ true
each_by p q f [] h = refl
each_by p q f (b ∷ bs) h = let k = and_parts (p b) (list_all p bs) h in and_from (q b) (list_all q bs) (f b k.0) (each_by p q f bs k.1)

begun_allowed : (b : ℕ) → begins_word b ≡ true → is_allowed b ≡ true
begun_allowed b h = grind (arith, nat_tests)

continued_allowed : (b : ℕ) → continues_word b ≡ true → is_allowed b ≡ true
continued_allowed b h = grind (arith, nat_tests)

digit_allowed : (b : ℕ) → is_digit b ≡ true → is_allowed b ≡ true
digit_allowed b h = grind (arith, nat_tests)

printable_allowed : (b : ℕ) → is_printable b ≡ true → is_allowed b ≡ true
printable_allowed b h = grind (arith, nat_tests)

word_allowed : (t : List ℕ) → is_word t ≡ true → list_all is_allowed t ≡ true
word_allowed [] h = cc
word_allowed (b ∷ bs) h =
    let k = and_parts (begins_word b) (list_all continues_word bs) h in
    and_from (is_allowed b) (list_all is_allowed bs) (begun_allowed b k.0) (each_by continues_word is_allowed continued_allowed bs k.1)

number_allowed : (t : List ℕ) → is_number t ≡ true → list_all is_allowed t ≡ true
number_allowed [] h = cc
number_allowed (b ∷ bs) h =
    let k = and_parts (is_digit b) (list_all is_digit bs) h in
    and_from (is_allowed b) (list_all is_allowed bs) (digit_allowed b k.0) (each_by is_digit is_allowed digit_allowed bs k.1)

pub lower_twice : (t : List ℕ) → lower (lower t) ≡ lower t
lower_twice [] = refl
lower_twice (b ∷ bs) = ap (λ c. c ∷ lower (lower bs)) (lowercase-lowercase b) ∙ ap (λ r. to_ascii_lowercase b ∷ r) (lower_twice bs)

lower_begins : (b : ℕ) → begins_word b ≡ true → begins_word (to_ascii_lowercase b) ≡ true
lower_begins b h = grind (arith, nat_tests)

lower_continues : (b : ℕ) → continues_word b ≡ true → continues_word (to_ascii_lowercase b) ≡ true
lower_continues b h = grind (arith, nat_tests)

lower_each : (bs : List ℕ) → list_all continues_word bs ≡ true → list_all continues_word (lower bs) ≡ true
lower_each [] h = refl
lower_each (b ∷ bs) h = let k = and_parts (continues_word b) (list_all continues_word bs) h in and_from (continues_word (to_ascii_lowercase b)) (list_all continues_word (lower bs)) (lower_continues b k.0) (lower_each bs k.1)

pub lower_word : (t : List ℕ) → is_word t ≡ true → is_word (lower t) ≡ true
lower_word [] h = cc
lower_word (b ∷ bs) h = let k = and_parts (begins_word b) (list_all continues_word bs) h in and_from (begins_word (to_ascii_lowercase b)) (list_all continues_word (lower bs)) (lower_begins b k.0) (lower_each bs k.1)

-- a name, in lower case
pub record IsName (t : List ℕ) : Type 0 where
  pub letters : is_word t ≡ true
  pub free : kind_of token.Word t ≡ word.Name
  pub lowered : lower t ≡ t
  pub short : nat_lt 64 (length t) ≡ false

pub record IsVariable (t : List ℕ) : Type 0 where
  pub letters : is_word t ≡ true
  pub lowered : lower t ≡ t
  pub short : nat_lt 65 (length (58 ∷ t)) ≡ false

-- the bytes of a text
abbrev pub IsContent : List ℕ → Type 0
IsContent t = (list_all is_printable t ≡ true) × (nat_lt 4000 (length t) ≡ false)

pub none_when : (b : Bool) (p : PassedLimit) → b ≡ false → when b p ≡ []
none_when b p h = rw h refl

pub sound_name : (n : Name) → IsName n.text → Sound (name_piece n)
sound_name n h = record { base = record { token = token.Word; longest = λ rest. parted_longest token.Word n.text (32 ∷ rest) refl h.letters; is = h.free; allowed = word_allowed n.text h.letters; gaps = refl; own = λ m. none_when (nat_lt 64 (length n.text)) (at_token limit.Name m) h.short }; plain = refl }

pub sound_variable : (n : Name) → IsVariable n.text → Sound (variable_piece n)
sound_variable n h = record { base = record { token = token.Variable; longest = λ rest. parted_longest token.Variable (58 ∷ n.text) (32 ∷ rest) refl h.letters; is = refl; allowed = word_allowed n.text h.letters; gaps = refl; own = λ m. none_when (nat_lt 65 (length (58 ∷ n.text))) (at_token limit.Name m) h.short }; plain = refl }

-- numbers
number_more : (ds : List ℕ) (k d : ℕ) → number_from k (ds ++ d ∷ []) ≡ 10 * number_from k ds + (d - 48)
unfolding number_from
number_more [] k d = refl
number_more (c ∷ ds) k d = number_more ds (10 * k + (c - 48)) d

-- digits that are this number
abbrev Digits : ℕ → List ℕ → Type 0
Digits n ds = (is_number ds ≡ true) × (number_from 0 ds ≡ n)

digits_more : (ds : List ℕ) (d : ℕ) → is_digit d ≡ true → is_number ds ≡ true → is_number (ds ++ d ∷ []) ≡ true
digits_more [] d h k = cc
digits_more (b ∷ bs) d h k =
    let p = and_parts (is_digit b) (list_all is_digit bs) k in
    and_from (is_digit b) (list_all is_digit (bs ++ d ∷ [])) p.0 (list_all-append is_digit bs (d ∷ []) ∙ and_from (list_all is_digit bs) (list_all is_digit (d ∷ [])) p.1 (and_from (is_digit d) true h refl))

a_digit : (n : ℕ) → n < 10 → is_digit (48 + n) ≡ true
a_digit n h = grind (arith, nat_tests)

one_digit : (n : ℕ) → n < 10 → Digits n ((48 + n) ∷ [])
unfolding number_from
one_digit n h = (and_from (is_digit (48 + n)) true (a_digit n h) refl, omega arith)

next_digit : (n : ℕ) (ds : List ℕ) → 10 ≤ n → Digits (n / 10) ds → Digits n (ds ++ ((48 + n % 10) ∷ []))
next_digit n ds h k =
    let e = k.1 in
    let m = number_more ds 0 (48 + n % 10) in
    (digits_more ds (48 + n % 10) (a_digit (n % 10) (omega arith)) k.0, omega arith)

digits_of : (n : ℕ) → n < 2 ^ 64 → Digits n (decimal n)
digits_of n h = decimal_by_steps Digits one_digit next_digit n h

pub number_back : (n : ℕ) → n ≤ greatest → number (decimal n) ≡ n
number_back n h = let e = (digits_of n (omega arith)).1 in omega arith

-- the digits of a number are that number
pub digits_back : (n : ℕ) → n ≤ greatest → number_from 0 (decimal n) ≡ n
digits_back n h = (digits_of n (omega arith)).1

pub sound_number : (n : ℕ) → n ≤ greatest → Sound (number_piece n)
sound_number n h =
    let d = (digits_of n (omega arith)).0 in
    let e = (digits_of n (omega arith)).1 in
    record { base = record { token = token.Number; longest = λ rest. parted_longest token.Number (decimal n) (32 ∷ rest) refl d; is = refl; allowed = number_allowed (decimal n) d; gaps = refl; own = λ m. none_when (nat_lt greatest (number_from 0 (decimal n))) (at_token limit.Literal m) (le-ltb greatest (number_from 0 (decimal n)) (omega arith)) }; plain = refl }

-- texts
undoubled_quote : (b : ℕ) (bs : List ℕ) (q : Bool) → (b == 39) ≡ q → undoubled (doubled bs) ≡ bs → undoubled (doubled (b ∷ bs)) ≡ b ∷ bs
unfolding undoubled
undoubled_quote b bs true q h = let e = eqb-true b 39 q in rw q (ap (λ r. 39 ∷ r) h ∙ ap (λ c. c ∷ bs) (sym e))
undoubled_quote b bs false q h = rw q (go (doubled bs) (ap (λ r. b ∷ r) h))
  where
    go : (ds : List ℕ) → b ∷ undoubled ds ≡ b ∷ bs → undoubled (b ∷ ds) ≡ b ∷ bs
    go [] e = e
    go (d ∷ ds) e = rw q e

pub undoubled_back : (t : List ℕ) → undoubled (doubled t) ≡ t
unfolding undoubled
undoubled_back [] = refl
undoubled_back (b ∷ bs) = undoubled_quote b bs (b == 39) refl (undoubled_back bs)

pub unquoted_back : (t : List ℕ) → unquoted (quoted t) ≡ t
unquoted_back t =
    let n : length (quoted t) - 1 - 1 ≡ length (doubled t) = omega (arith, length-append (doubled t) (39 ∷ [])) in
    ap undoubled (ap (λ (k : ℕ). take k (doubled t ++ 39 ∷ [])) n ∙ take_at (doubled t) (39 ∷ []) (length (doubled t)) refl) ∙ undoubled_back t

doubled_allowed : (t : List ℕ) → list_all is_printable t ≡ true → list_all is_allowed (doubled t) ≡ true
doubled_allowed [] h = refl
doubled_allowed (b ∷ bs) h = let k = and_parts (is_printable b) (list_all is_printable bs) h in go (b == 39) refl (printable_allowed b k.0) (doubled_allowed bs k.1)
  where
    go : (q : Bool) → (b == 39) ≡ q → is_allowed b ≡ true → list_all is_allowed (doubled bs) ≡ true → list_all is_allowed (cond q (39 ∷ 39 ∷ doubled bs) (b ∷ doubled bs)) ≡ true
    go true q p r = r
    go false q p r = and_from (is_allowed b) (list_all is_allowed (doubled bs)) p r

pub sound_text : (t : List ℕ) → IsContent t → Sound (text_piece t)
sound_text t h = record {
  base = record {
    token = token.Text;
    longest = λ rest. parted_longest token.Text (quoted t) (32 ∷ rest) refl (record { content = t; printable = h.0; written = refl });
    is = refl;
    allowed = list_all-append is_allowed (doubled t) (39 ∷ []) ∙ and_from (list_all is_allowed (doubled t)) true (doubled_allowed t h.0) refl;
    gaps = refl;
    own = λ m. none_when (nat_lt 4000 (length (unquoted (quoted t)))) (at_token limit.Text m) (ap (λ r. nat_lt 4000 (length r)) (unquoted_back t) ∙ h.1);
  };
  plain = refl;
}
