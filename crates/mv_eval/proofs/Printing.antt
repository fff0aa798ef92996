-- The digits of numbers, and texts without quotes.
use Rattle.std.proofs.Common.{◌≡◌, ◌==◌, ◌<◌, ℕ, suc, Bool, true, false, List, [], ◌∷◌, length, refl, ap, arith}
use Rattle.std.specs.Prelude.{decimal, ◌^◌}
use Rattle.std.specs.List.{All}
use Rattle.std.specs.Int.{IsInRange as IsBetween}
use Rattle.std.specs.Str.Parse.{AllDigits}
use Rattle.std.proofs.lemmas.Fmt.{decimal_is_IsNumeral}
use Rattle.std.proofs.lemmas.Str.Parse.{digit_from_value}
use Rattle.std.proofs.lemmas.List.Elements.{All-nil, All-cons}
use Rattle.memchr.specs.Find.{Nowhere, Passes, is_byte}
use Rattle.mv_values.specs.Printable.{IsPrintable}
use Rattle.mv_values.specs.Texts.{doubled}

digits_printable : (ds : List ℕ) → AllDigits 10 ds → All IsPrintable ds
digits_printable [] h = All-nil IsPrintable
digits_printable (d ∷ ds) h = let digit : IsBetween 48 57 d = digit_from_value d h.0 in All-cons IsPrintable d ds (omega arith, omega arith) (digits_printable ds h.1)

-- the decimal digits of a number are printable
pub decimal_printable : (n : ℕ) → n < 2 ^ 64 → All IsPrintable (decimal n)
decimal_printable n small = digits_printable (decimal n) (decimal_is_IsNumeral n small).0.1

-- a byte that isn't a quote stays as it is
other_byte : (b : ℕ) (bs : List ℕ) → b == 39 ≡ false → doubled bs ≡ bs → doubled (b ∷ bs) ≡ b ∷ bs
other_byte b bs other same = rw other (ap (λ l. b ∷ l) same)

-- a text without a quote stays as it is
pub no_quote : (bs : List ℕ) → Nowhere (Passes (is_byte 39) bs) 0 (length bs) → doubled bs ≡ bs
no_quote [] none = refl
no_quote (b ∷ bs) none = by (no_quote bs (λ k low high. none (suc k) (omega (arith, low)) (omega (arith, high)))) (b == 39) refl
  where
    by : doubled bs ≡ bs → (t : Bool) → b == 39 ≡ t → doubled (b ∷ bs) ≡ b ∷ bs
    by same true e = absurd (none 0 (omega arith) (omega arith) e)
    by same false e = other_byte b bs e same
