-- Texts are read as they are written.
use Rattle.std.proofs.Common.{◌≡◌, ℕ, ◌+◌, ◌≤◌, Bool, true, false, ◌==◌, List, [], ◌∷◌, ◌++◌, Option, Some, None, length, refl, sym, ap, arith}
use Rattle.std.specs.List.{list_all}
use Rattle.std.proofs.lemmas.Bool.{and_parts, and_from, eqb-true}
use Rattle.mv_values.specs.Texts.{doubled}
use Rattle.mv_values.specs.Printable.{is_printable}
use Rattle.mv_lex.specs.Reading.{past, either, text_len}

pub past_some : (i n : ℕ) (o : Option ℕ) → past i o ≡ Some n → (m : ℕ) × (o ≡ Some m) × (n ≡ i + m)
past_some i n None h = cc
past_some i n (Some m) h = (m, refl, let e : i + m ≡ n = cc in sym e)

-- a text behind its opening quote
pub record TextGoesOn (bytes : List ℕ) (n : ℕ) : Type 0 where
  pub content : List ℕ
  pub after : List ℕ
  pub printable : list_all is_printable content ≡ true
  pub splits : bytes ≡ doubled content ++ 39 ∷ after
  pub count : n ≡ length (doubled content) + 1

-- the same where the byte before can close it: a second quote stands there
abbrev pub GoesOnAfter : Bool → List ℕ → ℕ → Type 0
GoesOnAfter false bytes n = TextGoesOn bytes n
GoesOnAfter true bytes n = (bs : List ℕ) × (m : ℕ) × (bytes ≡ 39 ∷ bs) × (n ≡ 1 + m) × TextGoesOn bs m

add_byte : (b n : ℕ) (bs : List ℕ) → (b == 39) ≡ false → is_printable b ≡ true → TextGoesOn bs n → TextGoesOn (b ∷ bs) (1 + n)
add_byte b n bs q p g = record {
  content = b ∷ g.content;
  after = g.after;
  printable = and_from (is_printable b) (list_all is_printable g.content) p g.printable;
  splits = rw q (ap (λ xs. b ∷ xs) g.splits);
  count = (let e = g.count in rw q (omega arith));
}

add_quote : (n : ℕ) (bs : List ℕ) → TextGoesOn bs n → TextGoesOn (39 ∷ 39 ∷ bs) (2 + n)
add_quote n bs g = record {
  content = 39 ∷ g.content;
  after = g.after;
  printable = g.printable;
  splits = ap (λ xs. 39 ∷ 39 ∷ xs) g.splits;
  count = (let e = g.count in omega arith);
}

at_quote : (n : ℕ) (bs : List ℕ) (o : Option ℕ) → ((m : ℕ) → o ≡ Some m → GoesOnAfter true bs m) → past 1 (either o (Some 0)) ≡ Some n → TextGoesOn (39 ∷ bs) n
at_quote n bs None f h = record { content = []; after = bs; printable = refl; splits = refl; count = (let e : 1 ≡ n = cc in sym e) }
at_quote n bs (Some m) f h =
    let g = f m refl in
    let e : n ≡ 2 + g.1 = (let e' : 1 + m ≡ n = cc in let e'' = g.3 in omega arith) in
    let q : TextGoesOn (39 ∷ 39 ∷ g.0) (2 + g.1) = add_quote g.1 g.0 g.4 in
    rw (e, g.2) q

text_cases : (closed : Bool) (b n : ℕ) (bs : List ℕ) (q p : Bool) → (b == 39) ≡ q → is_printable b ≡ p
    → ((c : Bool) (m : ℕ) → text_len c bs ≡ Some m → GoesOnAfter c bs m) → text_len closed (b ∷ bs) ≡ Some n → GoesOnAfter closed (b ∷ bs) n
unfolding text_len
text_cases true b n bs true p q' p' f h =
    let i = past_some 1 n (text_len false bs) (rw q' at h) in
    (bs, i.0, ap (λ c. c ∷ bs) (eqb-true b 39 q'), i.2, f false i.0 i.1)
text_cases true b n bs false p q' p' f h = let e = rw q' at h in cc
text_cases false b n bs true p q' p' f h =
    let g = at_quote n bs (text_len true bs) (λ m. f true m) (rw q' at h) in
    rw (eqb-true b 39 q') g
text_cases false b n bs false true q' p' f h =
    let i = past_some 1 n (text_len false bs) (rw (q', p') at h) in
    rw i.2 (add_byte b i.0 bs q' p' (f false i.0 i.1))
text_cases false b n bs false false q' p' f h = let e = rw (q', p') at h in cc

text_nothing : (closed : Bool) (n : ℕ) → text_len closed [] ≡ Some n → GoesOnAfter closed [] n
unfolding text_len
text_nothing true n h = cc
text_nothing false n h = cc

pub text_takes : (closed : Bool) (bs : List ℕ) (n : ℕ) → text_len closed bs ≡ Some n → GoesOnAfter closed bs n
text_takes closed [] n h = text_nothing closed n h
text_takes closed (b ∷ bs) n h = text_cases closed b n bs (b == 39) (is_printable b) refl refl (λ c m. text_takes c bs m) h

-- a text is read on to one of its quotes at least
abbrev pub Reaches : ℕ → Option ℕ → Type 0
Reaches n None = ⊥
Reaches n (Some m) = n ≤ m

closes_reach : (o : Option ℕ) → Reaches 1 (past 1 (either o (Some 0)))
closes_reach None = omega arith
closes_reach (Some m) = omega arith

quote_reach : (n m : ℕ) (o : Option ℕ) → m ≡ 2 + n → Reaches n o → Reaches m (past 1 (either (past 1 o) (Some 0)))
quote_reach n m None e h = absurd h
quote_reach n m (Some k) e h = omega arith

byte_reach : (n m : ℕ) (o : Option ℕ) → m ≡ 1 + n → Reaches n o → Reaches m (past 1 o)
byte_reach n m None e h = absurd h
byte_reach n m (Some k) e h = omega arith

reach_cases : (b : ℕ) (content after : List ℕ) (q : Bool) → (b == 39) ≡ q → is_printable b ≡ true
    → Reaches (length (doubled content) + 1) (text_len false (doubled content ++ 39 ∷ after))
    → Reaches (length (doubled (b ∷ content)) + 1) (text_len false (doubled (b ∷ content) ++ 39 ∷ after))
unfolding text_len
reach_cases b content after true q p r = rw q (quote_reach (length (doubled content) + 1) _ (text_len false (doubled content ++ 39 ∷ after)) (omega arith) r)
reach_cases b content after false q p r = rw (q, q, p) (byte_reach (length (doubled content) + 1) _ (text_len false (doubled content ++ 39 ∷ after)) (omega arith) r)

pub text_reaches : (content after : List ℕ) → list_all is_printable content ≡ true
    → Reaches (length (doubled content) + 1) (text_len false (doubled content ++ 39 ∷ after))
unfolding text_len
text_reaches [] after h = closes_reach (text_len true after)
text_reaches (b ∷ content) after h =
    let parts = and_parts (is_printable b) (list_all is_printable content) h in
    reach_cases b content after (b == 39) refl parts.0 (text_reaches content after parts.1)
