-- The token at the front is one that is spelled so, and reaches as far as each that is.
use Rattle.std.proofs.Common.{◌≡◌, ◌⊎◌, inl, inr, ℕ, ◌+◌, ◌<◌, ◌≤◌, Bool, true, false, cond, ◌==◌, ◌&&◌, ◌||◌, List, [], ◌∷◌, ◌++◌, Option, Some, None, length, drop, refl, sym, ap, subst, ◌∙◌, arith, append_assoc, append-nil, length-append, ne_eqb, leb}
use Rattle.std.specs.List.{list_all, prefix_len}
use Rattle.std.proofs.lemmas.Bool.{and_parts, and_from, or_cases, or_parts, or_from, eqb-true, not-true, leb-true, lt-leb}
use Rattle.std.proofs.Math.Seq.{drop-append_seam}
use Rattle.mv_values.specs.Texts.{doubled, quoted, lines_text}
use Rattle.mv_lex.specs.Bytes.{is_from, is_digit, begins_word, continues_word, is_short_symbol, is_long_symbol}
use Rattle.mv_lex.specs.Spelling.{is_word, is_number, is_variable, is_symbol, stands_alone, IsText, opening, is_inner_blank, IsBlock, IsBareOpening, IsUnclosed, IsSpelled}
use Rattle.mv_lex.specs.Reading.{past, text_len, block_len, body_of, block_after, block_of, word_len, symbol_len, begins_block, of_kind, past_mark, token_of}
use Rattle.mv_lex.specs.declared.token.Kind.{Kind}
use Rattle.mv_lex.specs.declared.token.Kind.TheVariants.{Word, Number, Text, Variable, Symbol, Block, OpenBlock}
use Rattle.mv_lex.proofs.Runs.{Stops, run_of, run_exact, run_reaches}
use Rattle.mv_lex.proofs.Texts.{past_some, text_takes, Reaches, text_reaches}
use Rattle.mv_lex.proofs.Bodies.{Closed, Unended, body_is, closed_len, unended_len}

-- a token of the kind and of n bytes is at the front
pub record TakesFront (kind : Kind) (n : ℕ) (bytes : List ℕ) : Type 0 where
  pub text : List ℕ
  pub after : List ℕ
  pub splits : bytes ≡ text ++ after
  pub count : n ≡ length text
  pub spelled : IsSpelled kind text after

-- the token at the front has the kind, and is as long at least
pub record Found (kind : Kind) (text after : List ℕ) : Type 0 where
  pub len : ℕ
  pub is : token_of (text ++ after) ≡ Some (kind, len)
  pub reaches : length text ≤ len

pub same_token : (j k : Kind) (m n : ℕ) → ◌≡◌ {A = Option (Kind × ℕ)} (Some (j, m)) (Some (k, n)) → (j ≡ k) × (m ≡ n)
same_token j k m n h = let same : ◌≡◌ {A = Kind × ℕ} (j, m) (k, n) = cc in (ap (λ p. p.0) same, ap (λ p. p.1) same)

of_kind_some : (j k : Kind) (n : ℕ) (o : Option ℕ) → of_kind j o ≡ Some (k, n) → (j ≡ k) × (o ≡ Some n)
of_kind_some j k n None h = cc
of_kind_some j k n (Some m) h = let p = same_token j k m n h in (p.0, ap Some p.1)

-- words
pub record TakesWord (n : ℕ) (bytes : List ℕ) : Type 0 where
  pub text : List ℕ
  pub after : List ℕ
  pub splits : bytes ≡ text ++ after
  pub count : n ≡ length text
  pub word : is_word text ≡ true

word_by : (b n : ℕ) (bytes : List ℕ) (w : Bool) → begins_word b ≡ w → word_len (b ∷ bytes) ≡ Some n → TakesWord n (b ∷ bytes)
word_by b n bytes true w h =
    let r = run_of continues_word bytes in
    let e = rw w at h in
    let s : 1 + prefix_len continues_word bytes ≡ n = cc in
    let t = r.count in
    record { text = b ∷ r.front; after = r.rest; splits = ap (λ xs. b ∷ xs) r.splits; count = omega arith; word = and_from (begins_word b) (list_all continues_word r.front) w r.all }
word_by b n bytes false w h = let e = rw w at h in cc

word_takes : (n : ℕ) (bytes : List ℕ) → word_len bytes ≡ Some n → TakesWord n bytes
word_takes n [] h = cc
word_takes n (b ∷ bytes) h = word_by b n bytes (begins_word b) refl h

word_reaches : (text after : List ℕ) → is_word text ≡ true → (n : ℕ) × (word_len (text ++ after) ≡ Some n) × (length text ≤ n)
word_reaches [] after h = cc
word_reaches (b ∷ bs) after h =
    let p = and_parts (begins_word b) (list_all continues_word bs) h in
    (1 + prefix_len continues_word (bs ++ after), rw p.0 refl, omega (arith, run_reaches continues_word bs after p.1))

-- blocks
block_at : (blanks rest : List ℕ) → list_all is_inner_blank blanks ≡ true → Stops is_inner_blank rest → block_of (blanks ++ rest) ≡ block_after (length blanks) rest
block_at blanks rest a s = let e = run_exact is_inner_blank blanks rest a s in rw e (rw (drop-append_seam blanks rest) refl)

body_closed : (bytes : List ℕ) (n : ℕ) → block_len true bytes ≡ Some n → body_of bytes ≡ (Block, n)
body_closed bytes n h = rw h refl

body_open : (bytes : List ℕ) → block_len true bytes ≡ None → body_of bytes ≡ (OpenBlock, length bytes)
body_open bytes h = rw h refl

block_regroup : (blanks lines closing after : List ℕ) → blanks ++ 10 ∷ (lines ++ (closing ++ after)) ≡ (blanks ++ 10 ∷ (lines ++ closing)) ++ after
block_regroup blanks lines closing after =
    ap (λ xs. blanks ++ 10 ∷ xs) (sym (append_assoc lines closing after)) ∙ sym (append_assoc blanks (10 ∷ (lines ++ closing)) after)

closed_takes : (blanks body : List ℕ) (kind : Kind) (n : ℕ) → list_all is_inner_blank blanks ≡ true → Closed body
    → ◌≡◌ {A = Option (Kind × ℕ)} (Some ((body_of body).0, length blanks + 1 + (body_of body).1)) (Some (kind, n)) → TakesFront kind (2 + n) (60 ∷ 60 ∷ (blanks ++ 10 ∷ body))
closed_takes blanks body kind n a c h =
    let l = ap (block_len true) c.splits ∙ closed_len c.lines c.closing c.after c.inner c.closes in
    let e = rw (body_closed body _ l) at h in
    let p = same_token Block kind _ n e in
    let q = p.1 in
    subst (λ k. TakesFront k (2 + n) (60 ∷ 60 ∷ (blanks ++ 10 ∷ body))) p.0 (record {
      text = opening blanks ++ 10 ∷ (lines_text c.lines ++ c.closing);
      after = c.after;
      splits = ap (λ xs. 60 ∷ 60 ∷ xs) (ap (λ xs. blanks ++ 10 ∷ xs) c.splits ∙ block_regroup blanks (lines_text c.lines) c.closing c.after);
      count = simp length-append (omega arith);
      spelled = record { blanks = blanks; lines = c.lines; closing = c.closing; are_blanks = a; are_inner = c.inner; is_closing = c.closes; written = refl };
    })

unended_takes : (blanks body : List ℕ) (kind : Kind) (n : ℕ) → list_all is_inner_blank blanks ≡ true → Unended body
    → ◌≡◌ {A = Option (Kind × ℕ)} (Some ((body_of body).0, length blanks + 1 + (body_of body).1)) (Some (kind, n)) → TakesFront kind (2 + n) (60 ∷ 60 ∷ (blanks ++ 10 ∷ body))
unended_takes blanks body kind n a u h =
    let l = ap (block_len true) u.splits ∙ unended_len u.lines u.last u.inner u.is_last in
    let e = rw (body_open body l) at h in
    let p = same_token OpenBlock kind _ n e in
    let q = p.1 in
    subst (λ k. TakesFront k (2 + n) (60 ∷ 60 ∷ (blanks ++ 10 ∷ body))) p.0 (record {
      text = 60 ∷ 60 ∷ (blanks ++ 10 ∷ body);
      after = [];
      splits = sym (append-nil (60 ∷ 60 ∷ (blanks ++ 10 ∷ body)));
      count = simp length-append (omega arith);
      spelled = (inr (record { blanks = blanks; lines = u.lines; last = u.last; are_blanks = a; are_inner = u.inner; is_last = u.is_last; written = ap (λ xs. 60 ∷ 60 ∷ (blanks ++ 10 ∷ xs)) u.splits }), refl);
    })

line_takes : (blanks body : List ℕ) (c : ℕ) (kind : Kind) (n : ℕ) (q : Bool) → (c == 10) ≡ q → list_all is_inner_blank blanks ≡ true
    → block_after (length blanks) (c ∷ body) ≡ Some (kind, n) → TakesFront kind (2 + n) (60 ∷ 60 ∷ (blanks ++ c ∷ body))
line_takes blanks body c kind n true q a h =
    let e = rw q at h in
    let way : TakesFront kind (2 + n) (60 ∷ 60 ∷ (blanks ++ 10 ∷ body)) =
    elim (body_is body) [ inl b ↦ closed_takes blanks body kind n a b e | inr b ↦ unended_takes blanks body kind n a b e ] in
    rw (eqb-true c 10 q) way
line_takes blanks body c kind n false q a h = let e = rw q at h in cc

head_takes : (blanks rest : List ℕ) (kind : Kind) (n : ℕ) → list_all is_inner_blank blanks ≡ true → block_after (length blanks) rest ≡ Some (kind, n)
    → TakesFront kind (2 + n) (60 ∷ 60 ∷ (blanks ++ rest))
head_takes blanks [] kind n a h =
    let p = same_token OpenBlock kind (length blanks) n h in
    let q = p.1 in
    subst (λ k. TakesFront k (2 + n) (60 ∷ 60 ∷ (blanks ++ []))) p.0 (record {
      text = opening blanks;
      after = [];
      splits = refl;
      count = omega arith;
      spelled = (inl (record { blanks = blanks; are_blanks = a; written = refl }), refl);
    })
head_takes blanks (c ∷ body) kind n a h = line_takes blanks body c kind n (c == 10) refl a h

block_takes : (bytes : List ℕ) (kind : Kind) (n : ℕ) → block_of bytes ≡ Some (kind, n) → TakesFront kind (2 + n) (60 ∷ 60 ∷ bytes)
block_takes bytes kind n h =
    let r = run_of is_inner_blank bytes in
    let e = r.splits in
    let at_rest = sym (block_at r.front r.rest r.all r.stops) ∙ (sym (ap block_of e) ∙ h) in
    subst (λ xs. TakesFront kind (2 + n) (60 ∷ 60 ∷ xs)) (sym e) (head_takes r.front r.rest kind n r.all at_rest)

block_exact : (blanks lines closing after : List ℕ) (len : ℕ) (kind : Kind) → list_all is_inner_blank blanks ≡ true → body_of (lines ++ (closing ++ after)) ≡ (kind, len)
    → block_of ((blanks ++ 10 ∷ (lines ++ closing)) ++ after) ≡ Some (kind, length blanks + 1 + len)
block_exact blanks lines closing after len kind a b =
    ap block_of (sym (block_regroup blanks lines closing after)) ∙ (block_at blanks (10 ∷ (lines ++ (closing ++ after))) a refl ∙ rw b refl)

-- symbols
below_from : (low high b : ℕ) → b < low → is_from low high b ≡ false
below_from low high b h = rw (lt-leb low b h) refl

above_from : (low high b : ℕ) (t : Bool) → high < b → (t && leb b high) ≡ false
above_from low high b true h = lt-leb b high h
above_from low high b false h = refl

in_from : (low high b : ℕ) → is_from low high b ≡ true → (low ≤ b) × (b ≤ high)
in_from low high b h = let p = and_parts (leb low b) (leb b high) h in (leb-true low b p.0, leb-true b high p.1)

-- a byte below the letters begins no word
low_no_word : (b : ℕ) → b < 65 → begins_word b ≡ false
low_no_word b h = or_from (is_from 65 90 b || is_from 97 122 b) (b == 95) (or_from (is_from 65 90 b) (is_from 97 122 b) (below_from 65 90 b h) (below_from 97 122 b (omega arith))) (ne_eqb b 95 (λ e. omega arith))

above_no_digit : (b : ℕ) → 57 < b → is_digit b ≡ false
above_no_digit b h = above_from 48 57 b (leb 48 b) h

-- what the one byte of a symbol isn't
pub record NoOther (b : ℕ) : Type 0 where
  pub no_word : begins_word b ≡ false
  pub no_digit : is_digit b ≡ false
  pub no_quote : (b == 39) ≡ false
  pub no_colon : (b == 58) ≡ false

short_low : (b : ℕ) → 39 < b → b < 48 → NoOther b
short_low b h i = record { no_word = low_no_word b (omega arith); no_digit = below_from 48 57 b i; no_quote = ne_eqb b 39 (λ e. omega arith); no_colon = ne_eqb b 58 (λ e. omega arith) }

short_high : (b : ℕ) → 58 < b → b < 65 → NoOther b
short_high b h i = record { no_word = low_no_word b i; no_digit = above_no_digit b (omega arith); no_quote = ne_eqb b 39 (λ e. omega arith); no_colon = ne_eqb b 58 (λ e. omega arith) }

short_none : (b : ℕ) → b ≡ 37 → NoOther b
short_none b e = rw e (record { no_word = refl; no_digit = refl; no_quote = refl; no_colon = refl })

short_in : (b : ℕ) → (is_from 40 47 b ≡ true) ⊎ (is_from 59 62 b ≡ true) → NoOther b
short_in b (inl h) = let i = in_from 40 47 b h in short_low b (omega arith) (omega arith)
short_in b (inr h) = let i = in_from 59 62 b h in short_high b (omega arith) (omega arith)

short_by : (b : ℕ) → ((is_from 40 47 b || is_from 59 62 b) ≡ true) ⊎ ((b == 37) ≡ true) → NoOther b
short_by b (inr e) = short_none b (eqb-true b 37 e)
short_by b (inl h) = short_in b (or_cases (is_from 40 47 b) (is_from 59 62 b) h)

pub short_other : (b : ℕ) → is_short_symbol b ≡ true → NoOther b
short_other b h = short_by b (or_cases (is_from 40 47 b || is_from 59 62 b) (b == 37) h)

alone_by : (a b : ℕ) (after : List ℕ) (long : Bool) → is_long_symbol a b ≡ long → is_short_symbol a ≡ true → stands_alone (a ∷ []) (b ∷ after) ≡ true
    → (n : ℕ) × (symbol_len (a ∷ b ∷ after) ≡ Some n) × (1 ≤ n)
alone_by a b after true l h s = (2, rw l refl, omega arith)
alone_by a b after false l h s = (1, rw (l, h, s) refl, omega arith)

-- a symbol that stands alone is seen, or a longer one
alone_len : (a : ℕ) (after : List ℕ) → is_short_symbol a ≡ true → stands_alone (a ∷ []) after ≡ true → (n : ℕ) × (symbol_len (a ∷ after) ≡ Some n) × (1 ≤ n)
alone_len a [] h s = (1, rw h refl, omega arith)
alone_len a (b ∷ after) h s = alone_by a b after (is_long_symbol a b) refl h s

pub short_front : (a : ℕ) (after : List ℕ) → NoOther a → begins_block (a ∷ after) ≡ false → token_of (a ∷ after) ≡ of_kind Symbol (symbol_len (a ∷ after))
unfolding token_of
short_front a after o b = rw (o.no_word, o.no_digit, o.no_quote, o.no_colon, b) refl

pub no_block : (a : ℕ) (after : List ℕ) → stands_alone (a ∷ []) after ≡ true → begins_block (a ∷ after) ≡ false
no_block a [] s = refl
no_block a (b ∷ after) s = (or_parts (a == 60 && b == 60) (a == 45 && b == 45) (not-true ((a == 60 && b == 60) || (a == 45 && b == 45)) s)).0

short_found : (a : ℕ) (after : List ℕ) → is_short_symbol a ≡ true → stands_alone (a ∷ []) after ≡ true → Found Symbol (a ∷ []) after
short_found a after h s =
    let l = alone_len a after h s in
    record { len = l.0; is = short_front a after (short_other a h) (no_block a after s) ∙ ap (of_kind Symbol) l.1; reaches = l.2 }

-- the first of two bytes is one, and the second another
long_is : (m n a b : ℕ) → (a == m && b == n) ≡ true → (a ≡ m) × (b ≡ n)
long_is m n a b h = let p = and_parts (a == m) (b == n) h in (eqb-true a m p.0, eqb-true b n p.1)

pub long_found_at : (a b : ℕ) (after : List ℕ) → ((a ≡ 60) × ((b ≡ 62) ⊎ (b ≡ 61))) ⊎ (((a ≡ 62) × (b ≡ 61)) ⊎ ((a ≡ 124) × (b ≡ 124))) → token_of (a ∷ b ∷ after) ≡ Some (Symbol, 2)
unfolding token_of
long_found_at a b after (inl (e, inl f)) = rw (e, f) refl
long_found_at a b after (inl (e, inr f)) = rw (e, f) refl
long_found_at a b after (inr (inl (e, f))) = rw (e, f) refl
long_found_at a b after (inr (inr (e, f))) = rw (e, f) refl

second_less : (b : ℕ) → ((b == 62) ≡ true) ⊎ ((b == 61) ≡ true) → (b ≡ 62) ⊎ (b ≡ 61)
second_less b (inl e) = inl (eqb-true b 62 e)
second_less b (inr e) = inr (eqb-true b 61 e)

long_less : (a b : ℕ) → (a == 60 && (b == 62 || b == 61)) ≡ true → (a ≡ 60) × ((b ≡ 62) ⊎ (b ≡ 61))
long_less a b h =
    let p = and_parts (a == 60) (b == 62 || b == 61) h in
    (eqb-true a 60 p.0, second_less b (or_cases (b == 62) (b == 61) p.1))

abbrev LongCases : ℕ → ℕ → Type 0
LongCases a b = ((a ≡ 60) × ((b ≡ 62) ⊎ (b ≡ 61))) ⊎ (((a ≡ 62) × (b ≡ 61)) ⊎ ((a ≡ 124) × (b ≡ 124)))

long_two : (a b : ℕ) → ((a == 60 && (b == 62 || b == 61)) ≡ true) ⊎ ((a == 62 && b == 61) ≡ true) → LongCases a b
long_two a b (inl h) = inl (long_less a b h)
long_two a b (inr h) = inr (inl (long_is 62 61 a b h))

long_three : (a b : ℕ) → (((a == 60 && (b == 62 || b == 61)) || (a == 62 && b == 61)) ≡ true) ⊎ ((a == 124 && b == 124) ≡ true) → LongCases a b
long_three a b (inl h) = long_two a b (or_cases (a == 60 && (b == 62 || b == 61)) (a == 62 && b == 61) h)
long_three a b (inr h) = inr (inr (long_is 124 124 a b h))

pub long_cases : (a b : ℕ) → is_long_symbol a b ≡ true → LongCases a b
long_cases a b h = long_three a b (or_cases ((a == 60 && (b == 62 || b == 61)) || (a == 62 && b == 61)) (a == 124 && b == 124) h)

symbol_found : (text after : List ℕ) → (is_symbol text && stands_alone text after) ≡ true → Found Symbol text after
symbol_found [] after h = cc
symbol_found (a ∷ []) after h =
    let p = and_parts (is_short_symbol a) (stands_alone (a ∷ []) after) h in
    short_found a after p.0 p.1
symbol_found (a ∷ b ∷ []) after h =
    let p = and_parts (is_long_symbol a b) (stands_alone (a ∷ b ∷ []) after) h in
    record { len = 2; is = long_found_at a b after (long_cases a b p.0); reaches = omega arith }
symbol_found (a ∷ b ∷ c ∷ text) after h = cc

-- what is spelled so is found, or more
pub digit_no_word : (b : ℕ) → is_digit b ≡ true → begins_word b ≡ false
digit_no_word b h = let i = in_from 48 57 b h in low_no_word b (omega arith)

word_found : (text after : List ℕ) → is_word text ≡ true → Found Word text after
unfolding token_of
word_found [] after h = cc
word_found (b ∷ bs) after h =
    let p = and_parts (begins_word b) (list_all continues_word bs) h in
    let r = run_reaches continues_word bs after p.1 in
    record { len = 1 + prefix_len continues_word (bs ++ after); is = rw p.0 refl; reaches = omega arith }

number_found : (text after : List ℕ) → is_number text ≡ true → Found Number text after
unfolding token_of
number_found [] after h = cc
number_found (b ∷ bs) after h =
    let p = and_parts (is_digit b) (list_all is_digit bs) h in
    let r = run_reaches is_digit bs after p.1 in
    record { len = 1 + prefix_len is_digit (bs ++ after); is = rw (digit_no_word b p.0, p.0) refl; reaches = omega arith }

pub variable_at : (b n : ℕ) (bytes : List ℕ) → b ≡ 58 → word_len bytes ≡ Some n → token_of (b ∷ bytes) ≡ Some (Variable, 1 + n)
unfolding token_of
variable_at b n bytes e h = rw e (rw h refl)

variable_found : (text after : List ℕ) → is_variable text ≡ true → Found Variable text after
variable_found [] after h = cc
variable_found (b ∷ word) after h =
    let p = and_parts (b == 58) (is_word word) h in
    let w = word_reaches word after p.1 in
    let r = w.2 in
    record { len = 1 + w.0; is = variable_at b w.0 (word ++ after) (eqb-true b 58 p.0) w.1; reaches = omega arith }

pub text_at : (bytes : List ℕ) (n : ℕ) → text_len false bytes ≡ Some n → token_of (39 ∷ bytes) ≡ Some (Text, 1 + n)
unfolding token_of
text_at bytes n h = rw h refl

text_by : (content after : List ℕ) (o : Option ℕ) → text_len false (doubled content ++ 39 ∷ after) ≡ o → Reaches (length (doubled content) + 1) o → Found Text (quoted content) after
text_by content after None e r = absurd r
text_by content after (Some n) e r = record {
  len = 1 + n;
  is = ap (λ xs. token_of (39 ∷ xs)) (append_assoc (doubled content) (39 ∷ []) after) ∙ text_at (doubled content ++ 39 ∷ after) n e;
  reaches = simp length-append (omega arith);
}

text_found : (text after : List ℕ) → IsText text → Found Text text after
text_found text after t = subst (λ xs. Found Text xs after) (sym t.written) (text_by t.content after (text_len false (doubled t.content ++ 39 ∷ after)) refl (text_reaches t.content after t.printable))

block_found_at : (bytes : List ℕ) (kind : Kind) (n : ℕ) → block_of bytes ≡ Some (kind, n) → token_of (60 ∷ 60 ∷ bytes) ≡ Some (kind, 2 + n)
unfolding token_of
block_found_at bytes kind n h = rw h refl

pub block_is : (text after : List ℕ) → IsBlock text after → token_of (text ++ after) ≡ Some (Block, length text)
block_is text after b =
    let len : 2 + (length b.blanks + 1 + (length (lines_text b.lines) + length b.closing)) ≡ length (opening b.blanks ++ 10 ∷ (lines_text b.lines ++ b.closing)) = simp length-append (omega arith) in
    let is = block_found_at _ Block _ (block_exact b.blanks (lines_text b.lines) b.closing after _ Block b.are_blanks
    (body_closed _ _ (closed_len b.lines b.closing after b.are_inner b.is_closing))) in
    subst (λ xs. token_of (xs ++ after) ≡ Some (Block, length xs)) (sym b.written) (is ∙ ap (λ n. Some (Block, n)) len)

block_found : (text after : List ℕ) → IsBlock text after → Found Block text after
block_found text after b = record { len = length text; is = block_is text after b; reaches = omega arith }

bare_found : (text : List ℕ) → IsBareOpening text → Found OpenBlock text []
bare_found text b = subst (λ xs. Found OpenBlock xs []) (sym b.written) (record {
  len = 2 + length b.blanks;
  is = block_found_at _ OpenBlock _ (block_at b.blanks [] b.are_blanks tt);
  reaches = omega arith;
})

unclosed_found : (text : List ℕ) → IsUnclosed text → Found OpenBlock text []
unclosed_found text b = subst (λ xs. Found OpenBlock xs []) (sym b.written) (record {
  len = 2 + (length b.blanks + 1 + length (lines_text b.lines ++ (b.last ++ [])));
  is = block_found_at _ OpenBlock _ (block_exact b.blanks (lines_text b.lines) b.last [] _ OpenBlock b.are_blanks
      (body_open _ (ap (λ xs. block_len true (lines_text b.lines ++ xs)) (append-nil b.last) ∙ unended_len b.lines b.last b.are_inner b.is_last)));
  reaches = simp length-append (omega arith);
})

open_found : (text : List ℕ) → IsBareOpening text ⊎ IsUnclosed text → Found OpenBlock text []
open_found text (inl b) = bare_found text b
open_found text (inr b) = unclosed_found text b

pub token_found : (kind : Kind) (text after : List ℕ) → IsSpelled kind text after → Found kind text after
token_found Word text after h = word_found text after h
token_found Number text after h = number_found text after h
token_found Text text after h = text_found text after h
token_found Variable text after h = variable_found text after h
token_found Symbol text after h = symbol_found text after h
token_found Block text after h = block_found text after h
token_found OpenBlock text after h = rw h.1 (open_found text h.0)

-- what is found is spelled so
pub chosen : {X : Type 0} (b : Bool) (x y z : X) → cond b x y ≡ z → ((b ≡ true) × (x ≡ z)) ⊎ ((b ≡ false) × (y ≡ z))
chosen true x y z h = inl (refl, h)
chosen false x y z h = inr (refl, h)

takes_word : (b n : ℕ) (bytes : List ℕ) (kind : Kind) → of_kind Word (word_len (b ∷ bytes)) ≡ Some (kind, n) → TakesFront kind n (b ∷ bytes)
takes_word b n bytes kind h =
    let p = of_kind_some Word kind n (word_len (b ∷ bytes)) h in
    let w = word_takes n (b ∷ bytes) p.1 in
    subst (λ k. TakesFront k n (b ∷ bytes)) p.0 (record { text = w.text; after = w.after; splits = w.splits; count = w.count; spelled = w.word })

takes_number : (b n : ℕ) (bytes : List ℕ) (kind : Kind) → is_digit b ≡ true → ◌≡◌ {A = Option (Kind × ℕ)} (Some (Number, 1 + prefix_len is_digit bytes)) (Some (kind, n)) → TakesFront kind n (b ∷ bytes)
takes_number b n bytes kind d h =
    let p = same_token Number kind (1 + prefix_len is_digit bytes) n h in
    let r = run_of is_digit bytes in
    let e = r.count in
    let q = p.1 in
    subst (λ k. TakesFront k n (b ∷ bytes)) p.0 (record {
      text = b ∷ r.front;
      after = r.rest;
      splits = ap (λ xs. b ∷ xs) r.splits;
      count = omega arith;
      spelled = and_from (is_digit b) (list_all is_digit r.front) d r.all;
    })

takes_text : (b n : ℕ) (bytes : List ℕ) (kind : Kind) → (b == 39) ≡ true → of_kind Text (past 1 (text_len false bytes)) ≡ Some (kind, n) → TakesFront kind n (b ∷ bytes)
takes_text b n bytes kind q h =
    let p = of_kind_some Text kind n (past 1 (text_len false bytes)) h in
    let m = past_some 1 n (text_len false bytes) p.1 in
    let g = text_takes false bytes m.0 m.1 in
    let e = g.count in
    let f = m.2 in
    let way : TakesFront Text n (39 ∷ bytes) = record {
      text = quoted g.content;
      after = g.after;
      splits = ap (λ xs. 39 ∷ xs) (g.splits ∙ sym (append_assoc (doubled g.content) (39 ∷ []) g.after));
      count = simp length-append (omega arith);
      spelled = record { content = g.content; printable = g.printable; written = refl };
    } in
    subst (λ k. TakesFront k n (b ∷ bytes)) p.0 (subst (λ (x : ℕ). TakesFront Text n (x ∷ bytes)) (sym (eqb-true b 39 q)) way)

takes_variable : (b n : ℕ) (bytes : List ℕ) (kind : Kind) → (b == 58) ≡ true → of_kind Variable (past 1 (word_len bytes)) ≡ Some (kind, n) → TakesFront kind n (b ∷ bytes)
takes_variable b n bytes kind q h =
    let p = of_kind_some Variable kind n (past 1 (word_len bytes)) h in
    let m = past_some 1 n (word_len bytes) p.1 in
    let w = word_takes m.0 bytes m.1 in
    let e = w.count in
    let f = m.2 in
    subst (λ k. TakesFront k n (b ∷ bytes)) p.0 (record {
      text = b ∷ w.text;
      after = w.after;
      splits = ap (λ xs. b ∷ xs) w.splits;
      count = omega arith;
      spelled = and_from (b == 58) (is_word w.text) q w.word;
    })

past_mark_some : (o : Option (Kind × ℕ)) (kind : Kind) (n : ℕ) → past_mark o ≡ Some (kind, n) → (m : ℕ) × (o ≡ Some (kind, m)) × (n ≡ 2 + m)
past_mark_some None kind n h = cc
past_mark_some (Some q) kind n h =
    let p = same_token q.0 kind (2 + q.1) n h in
    (q.1, ap (λ k. Some (k, q.1)) p.0, sym p.1)

takes_block : (a b n : ℕ) (bytes : List ℕ) (kind : Kind) → (a == 60 && b == 60) ≡ true → past_mark (block_of bytes) ≡ Some (kind, n) → TakesFront kind n (a ∷ b ∷ bytes)
takes_block a b n bytes kind q h =
    let m = past_mark_some (block_of bytes) kind n h in
    let t : TakesFront kind n (60 ∷ 60 ∷ bytes) = rw m.2 (block_takes bytes kind m.0 m.1) in
    let e = long_is 60 60 a b q in
    rw (e.0, e.1) t

-- a byte that stands before another of its kind is no symbol
takes_symbol_two : (a b n : ℕ) (bytes : List ℕ) (long short : Bool) → is_long_symbol a b ≡ long → (is_short_symbol a && stands_alone (a ∷ []) (b ∷ [])) ≡ short
    → symbol_len (a ∷ b ∷ bytes) ≡ Some n → TakesFront Symbol n (a ∷ b ∷ bytes)
takes_symbol_two a b n bytes true short l s h =
    let e = rw l at h in
    record { text = a ∷ b ∷ []; after = bytes; splits = refl; count = (let i : 2 ≡ n = cc in sym i); spelled = and_from (is_long_symbol a b) true l refl }
takes_symbol_two a b n bytes false true l s h =
    let e = rw (l, s) at h in
    record { text = a ∷ []; after = b ∷ bytes; splits = refl; count = (let i : 1 ≡ n = cc in sym i); spelled = s }
takes_symbol_two a b n bytes false false l s h = let e = rw (l, s) at h in cc

takes_symbol_one : (a n : ℕ) (short : Bool) → is_short_symbol a ≡ short → symbol_len (a ∷ []) ≡ Some n → TakesFront Symbol n (a ∷ [])
takes_symbol_one a n true s h =
    let e = rw s at h in
    record { text = a ∷ []; after = []; splits = refl; count = (let i : 1 ≡ n = cc in sym i); spelled = and_from (is_short_symbol a) true s refl }
takes_symbol_one a n false s h = let e = rw s at h in cc

symbol_takes : (n : ℕ) (bytes : List ℕ) → symbol_len bytes ≡ Some n → TakesFront Symbol n bytes
symbol_takes n [] h = cc
symbol_takes n (a ∷ []) h = takes_symbol_one a n (is_short_symbol a) refl h
symbol_takes n (a ∷ b ∷ bytes) h = takes_symbol_two a b n bytes (is_long_symbol a b) (is_short_symbol a && stands_alone (a ∷ []) (b ∷ [])) refl refl h

takes_symbol : (n : ℕ) (bytes : List ℕ) (kind : Kind) → of_kind Symbol (symbol_len bytes) ≡ Some (kind, n) → TakesFront kind n bytes
takes_symbol n bytes kind h =
    let p = of_kind_some Symbol kind n (symbol_len bytes) h in
    subst (λ k. TakesFront k n bytes) p.0 (symbol_takes n bytes p.1)

takes_mark : (b n : ℕ) (bytes : List ℕ) (kind : Kind)
    → cond (begins_block (b ∷ bytes)) (past_mark (block_of (drop 1 bytes))) (of_kind Symbol (symbol_len (b ∷ bytes))) ≡ Some (kind, n) → TakesFront kind n (b ∷ bytes)
takes_mark b n [] kind h = takes_symbol n (b ∷ []) kind h
takes_mark b n (c ∷ bytes) kind h =
    elim (chosen (b == 60 && c == 60) _ _ _ h) [
      | inl p ↦ takes_block b c n bytes kind p.0 p.1
      | inr p ↦ takes_symbol n (b ∷ c ∷ bytes) kind p.1
    ]

pub token_takes : (kind : Kind) (n : ℕ) (bytes : List ℕ) → token_of bytes ≡ Some (kind, n) → TakesFront kind n bytes
unfolding token_of
token_takes kind n [] h = cc
token_takes kind n (b ∷ bytes) h =
    elim (chosen (begins_word b) _ _ _ h) [
      | inl w ↦ takes_word b n bytes kind w.1
      | inr w ↦ elim (chosen (is_digit b) _ _ _ w.1) [
        | inl d ↦ takes_number b n bytes kind d.0 d.1
        | inr d ↦ elim (chosen (b == 39) _ _ _ d.1) [
          | inl t ↦ takes_text b n bytes kind t.0 t.1
          | inr t ↦ elim (chosen (b == 58) _ _ _ t.1) [
            | inl v ↦ takes_variable b n bytes kind v.0 v.1
            | inr v ↦ takes_mark b n bytes kind v.1
          ]
        ]
      ]
    ]
