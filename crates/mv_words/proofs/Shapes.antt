-- The shapes of a word: what `clap` and the definition of the words take of its bytes.
use Rattle.std.proofs.Common.{◌≡◌, ◌∙◌, ◌+◌, ℕ, Bool, true, false, suc, refl, sym, ap, subst, [], ◌∷◌, None, Some, length, nat_lt, true≢false, arith, inl, inr, lt-ltb, le-ltb}
use Rattle.std.specs.Prelude.{bytes_eq, ◌==◌}
use Rattle.std.specs.List.{position_or_len, before_first, after_first}
use Rattle.std.proofs.lemmas.Bool.{cases_lt, eqb-true}
use Rattle.std.proofs.lemmas.Option.{none-some}
use Rattle.std.proofs.lemmas.Slice.Eq.{bytes_eq-Decides}
use Rattle.clap.specs.Lexer.{has_byte, long_of, short_of}
use Rattle.clap.specs.Walk.{Text}
use Rattle.mv_words.specs.Words.{is_equals, is_joined}
use Rattle.mv_words.specs.Program.{is_escape}

pub differs : (a b : Text) → bytes_eq a b ≡ false → bytes_eq b a ≡ false
differs a b apart = go (bytes_eq b a) refl
  where
    go : (t : Bool) → bytes_eq b a ≡ t → bytes_eq b a ≡ false
    go false e = e
    go true e = absurd (true≢false (sym ((bytes_eq-Decides a b).1 (sym ((bytes_eq-Decides b a).0 e))) ∙ apart))

-- ---- the first `=` of a word

before_next : (x : ℕ) (w : Text) → is_equals x ≡ false → before_first is_equals (x ∷ w) ≡ x ∷ before_first is_equals w
before_next x w e =
    let next : 1 + position_or_len is_equals w ≡ suc (position_or_len is_equals w) = omega arith in
    rw (e, next) refl

after_next : (x : ℕ) (w : Text) → is_equals x ≡ false → after_first is_equals (x ∷ w) ≡ after_first is_equals w
after_next x w e =
    let next : 1 + position_or_len is_equals w + 1 ≡ suc (position_or_len is_equals w + 1) = omega arith in
    rw (e, next) refl

before_now : (x : ℕ) (w : Text) → is_equals x ≡ true → before_first is_equals (x ∷ w) ≡ []
before_now x w e = rw e refl

lt_next : (a b : ℕ) → nat_lt (1 + a) (suc b) ≡ nat_lt a b
lt_next a b = elim (cases_lt a b) [
  | inl below ↦ lt-ltb (1 + a) (suc b) (omega (arith, below)) ∙ sym (lt-ltb a b below)
  | inr above ↦ le-ltb (1 + a) (suc b) (omega (arith, above)) ∙ sym (le-ltb a b above)
]

joined_has : (w : Text) → is_joined w ≡ has_byte 61 w
joined_has [] = refl
joined_has (x ∷ w) = go (x == 61) refl (joined_has w)
  where
    go : (b : Bool) → (x == 61) ≡ b → is_joined w ≡ has_byte 61 w → is_joined (x ∷ w) ≡ has_byte 61 (x ∷ w)
    go true e rest = rw e (lt-ltb 0 (length (x ∷ w)) (omega arith))
    go false e rest = rw e (lt_next (position_or_len is_equals w) (length w) ∙ rest)

pub joined_is : (w : Text) → is_joined (45 ∷ 45 ∷ w) ≡ has_byte 61 w
joined_is w = joined_has (45 ∷ 45 ∷ w)

pub front_is : (w : Text) → before_first is_equals (45 ∷ 45 ∷ w) ≡ 45 ∷ 45 ∷ before_first is_equals w
front_is w = before_next 45 (45 ∷ w) refl ∙ ap (λ t. 45 ∷ t) (before_next 45 w refl)

pub back_is : (w : Text) → after_first is_equals (45 ∷ 45 ∷ w) ≡ after_first is_equals w
back_is w = after_next 45 (45 ∷ w) refl ∙ after_next 45 w refl

-- a word without `=` is all before it
pub whole_is : (w : Text) → has_byte 61 w ≡ false → before_first is_equals w ≡ w
whole_is [] e = refl
whole_is (x ∷ w) e = go (x == 61) refl (whole_is w)
  where
    go : (b : Bool) → (x == 61) ≡ b → (has_byte 61 w ≡ false → before_first is_equals w ≡ w) → before_first is_equals (x ∷ w) ≡ x ∷ w
    go true is rest = let bad : true ≡ false = rw is at e in absurd (true≢false bad)
    go false is rest = let none : has_byte 61 w ≡ false = rw is at e in before_next x w is ∙ ap (λ t. x ∷ t) (rest none)

-- ---- words

-- the word is neither `--` nor an option with two hyphens
pub record IsPlain (word : Text) : Type 0 where
  pub escape : is_escape word ≡ false
  pub long : long_of word ≡ None
  pub word_is : (z : Text) → bytes_eq word (45 ∷ 45 ∷ z) ≡ false
  pub front : (z : Text) → bytes_eq (before_first is_equals word) (45 ∷ 45 ∷ z) ≡ false

pub data Form : Text → Type 0 where
  escapes : Form (45 ∷ 45 ∷ [])
  names : (c : ℕ) (rest : Text) → Form (45 ∷ 45 ∷ c ∷ rest)
  stands : (word : Text) → IsPlain word → Form word

-- a first byte that is no hyphen
bare : (x : ℕ) (w : Text) → (x == 45) ≡ false → IsPlain (x ∷ w)
bare x w e = record { escape = rw e refl; long = rw e refl; word_is = λ z. rw e refl; front = λ z. go z (is_equals x) refl }
  where
    go : (z : Text) (b : Bool) → is_equals x ≡ b → bytes_eq (before_first is_equals (x ∷ w)) (45 ∷ 45 ∷ z) ≡ false
    go z true is = ap (λ t. bytes_eq t (45 ∷ 45 ∷ z)) (before_now x w is)
    go z false is = ap (λ t. bytes_eq t (45 ∷ 45 ∷ z)) (before_next x w is) ∙ rw e refl

-- one hyphen
dashed : (y : ℕ) (w : Text) → (y == 45) ≡ false → IsPlain (45 ∷ y ∷ w)
dashed y w e = record { escape = rw e refl; long = rw e refl; word_is = λ z. rw e refl; front = λ z. go z (is_equals y) refl }
  where
    go : (z : Text) (b : Bool) → is_equals y ≡ b → bytes_eq (before_first is_equals (45 ∷ y ∷ w)) (45 ∷ 45 ∷ z) ≡ false
    go z true is = ap (λ t. bytes_eq t (45 ∷ 45 ∷ z)) (before_next 45 (y ∷ w) refl ∙ ap (λ t. 45 ∷ t) (before_now y w is))
    go z false is = ap (λ t. bytes_eq t (45 ∷ 45 ∷ z)) (before_next 45 (y ∷ w) refl ∙ ap (λ t. 45 ∷ t) (before_next y w is)) ∙ rw e refl

hyphens : (w : Text) → Form (45 ∷ 45 ∷ w)
hyphens [] = escapes
hyphens (c ∷ w) = names c w

hyphen : (w : Text) → Form (45 ∷ w)
hyphen [] = stands (45 ∷ []) (record { escape = refl; long = refl; word_is = λ z. refl; front = λ z. refl })
hyphen (y ∷ w) = go (y == 45) refl
  where
    go : (b : Bool) → (y == 45) ≡ b → Form (45 ∷ y ∷ w)
    go true e = subst (λ n. Form (45 ∷ n ∷ w)) (sym (eqb-true y 45 e)) (hyphens w)
    go false e = stands (45 ∷ y ∷ w) (dashed y w e)

pub form : (word : Text) → Form word
form [] = stands [] (record { escape = refl; long = refl; word_is = λ z. refl; front = λ z. refl })
form (x ∷ w) = go (x == 45) refl
  where
    go : (b : Bool) → (x == 45) ≡ b → Form (x ∷ w)
    go true e = subst (λ n. Form (n ∷ w)) (sym (eqb-true x 45 e)) (hyphen w)
    go false e = stands (x ∷ w) (bare x w e)

-- what has short options begins with a hyphen
pub begins : (word flags : Text) → short_of word ≡ Some flags → (rest : Text) × (word ≡ 45 ∷ rest)
begins [] flags e = absurd (none-some flags e)
begins (x ∷ w) flags e = go (x == 45) refl
  where
    go : (b : Bool) → (x == 45) ≡ b → (rest : Text) × (x ∷ w ≡ 45 ∷ rest)
    go true is = (w, ap (λ n. n ∷ w) (eqb-true x 45 is))
    go false is = let bad : None ≡ Some flags = rw is at e in absurd (none-some flags bad)
