-- What is written of words and numbers is characters.
use Rattle.std.proofs.Common.{◌≡◌, ℕ, zero, suc, ◌/◌, ◌%◌, ◌<◌, Bool, true, false, List, [], ◌∷◌, ◌++◌, refl, sym, subst, inl, inr, append_assoc, arith}
use Rattle.std.specs.Prelude.{if◌then◌else◌, ◌==◌, decimal}
use Rattle.std.specs.Fmt.{digits, digits_onto, digit_glyph}
use Rattle.std.proofs.lemmas.Bool.Decides.{nat_tests}
use Rattle.mv_svg.specs.Escapes.{is_markup, is_plain, reference, escaped_byte, escaped}
use Rattle.mv_svg.specs.Xml.{IsReference, IsCharacters, no_characters, plain, refers}

-- what holds of each of two texts holds of the one that a test chooses
pub chosen : (P : List ℕ → Type 0) (b : Bool) (x y : List ℕ) → (b ≡ true → P x) → (b ≡ false → P y) → P (if b then x else y)
chosen P true x y p q = p refl
chosen P false x y p q = q refl

is_reference : (b : ℕ) → IsReference (reference b)
is_reference b =
    chosen IsReference (b == 60) _ _ (λ _. inl refl) (λ _.
    chosen IsReference (b == 62) _ _ (λ _. inr (inl refl)) (λ _.
    chosen IsReference (b == 38) _ _ (λ _. inr (inr (inl refl))) (λ _.
    chosen IsReference (b == 34) _ _ (λ _. inr (inr (inr (inl refl)))) (λ _. inr (inr (inr (inr refl)))))))

is_byte : (b : ℕ) (rest : List ℕ) → IsCharacters rest → IsCharacters (escaped_byte b ++ rest)
is_byte b rest h =
    let P : List ℕ → Type 0 = λ text. IsCharacters (text ++ rest) in
    chosen P (is_markup b) _ _ (λ _. refers (reference b) (is_reference b) h) (λ _.
    chosen P (is_plain b) _ _ (λ stands. plain b stands h) (λ _. plain 63 refl h))

-- escaped words are characters
pub escaped_is : (words : List ℕ) → IsCharacters (escaped words)
escaped_is [] = no_characters
escaped_is (b ∷ bs) = is_byte b (escaped bs) (escaped_is bs)

-- characters after characters are characters
pub both : (a b : List ℕ) → IsCharacters a → IsCharacters b → IsCharacters (a ++ b)
both a b no_characters h = h
both a b (plain c stands rest) h = plain c stands (both _ b rest h)
both a b (refers text known rest) h = subst IsCharacters (sym (append_assoc text _ b)) (refers text known (both _ b rest h))

glyph_is : (d : ℕ) → d < 10 → is_plain (digit_glyph false d) ≡ true
glyph_is d small = grind (arith, nat_tests)

digits_are : (k n : ℕ) (acc : List ℕ) → IsCharacters acc → IsCharacters (digits_onto k 10 false n acc)
digits_are zero n acc h = h
digits_are (suc k) n acc h =
    let more : IsCharacters (digit_glyph false (n % 10) ∷ acc) = plain (digit_glyph false (n % 10)) (glyph_is (n % 10) (omega arith)) h in
    chosen IsCharacters (n / 10 == 0) _ _ (λ _. more) (λ _. digits_are k (n / 10) _ more)

-- a number in decimal is characters
pub decimal_is : (n : ℕ) → IsCharacters (decimal n)
unfolding digits
decimal_is n = digits_are 64 n [] no_characters
