-- What digits are read as.
use Rattle.std.proofs.Common.{◌≡◌, ◌∷◌, ◌<◌, ◌^◌, ◌&&◌, rules, ℕ, true, false, List, [], length, Some, None, Result, Ok, Err, refl, ap, sym, ◌∙◌, arith}
use Rattle.std.specs.Prelude.{MatchResult, nat_lt}
use Rattle.std.specs.Char.{is_ascii_digit}
use Rattle.std.specs.List.{list_all}
use Rattle.std.specs.Result.{OkIff, result_ok}
use Rattle.std.specs.Str.{all_ascii_digits, IsUtf8}
use Rattle.std.specs.Str.Parse.{digits_value, ParsesUnsigned}
use Rattle.std.proofs.lemmas.Str.{IsUtf8-from_ascii}
use Rattle.std.proofs.lemmas.Fmt.{IsAscii-from_digits}
use Rattle.std.proofs.lemmas.Str.Parse.{parse_digits}
use Rattle.std.proofs.lemmas.Bool.{and_parts, and_from}
use Rattle.std.proofs.lemmas.Option.{cond_some}
use Rattle.mv_values.proofs.Deciding.{nothing_where, some_where}
use Rattle.mv_values.proofs.Numerals.{Digits, numerals}
use Rattle.mv_journal.specs.Lines.{IsNumber}
use Rattle.mv_journal.specs.Reading.{is_number, number_in}

same_test : (ds : List ℕ) → list_all is_ascii_digit ds ≡ all_ascii_digits ds
same_test [] = refl
same_test (d ∷ ds) = ap (λ b. is_ascii_digit d && b) (same_test ds)

parts : (ds : List ℕ) → is_number ds ≡ true → Digits ds × (0 < length ds) × (digits_value 10 ds < 2 ^ 32)
parts ds h =
    let k = and_parts (all_ascii_digits ds) (nat_lt 0 (length ds) && nat_lt (digits_value 10 ds) (2 ^ 32)) h in
    let l = and_parts (nat_lt 0 (length ds)) (nat_lt (digits_value 10 ds) (2 ^ 32)) k.1 in
    (k.0, search (rules, l.0), search (rules, l.1))

whole : (ds : List ℕ) → Digits ds → 0 < length ds → digits_value 10 ds < 2 ^ 32 → is_number ds ≡ true
whole ds digits some short = and_from (all_ascii_digits ds) (nat_lt 0 (length ds) && nat_lt (digits_value 10 ds) (2 ^ 32)) digits (and_from (nat_lt 0 (length ds)) (nat_lt (digits_value 10 ds) (2 ^ 32)) (search (rules, some)) (search (rules, short)))

-- bytes that aren't all digits are no number
pub none_of_others : (ds : List ℕ) → list_all is_ascii_digit ds ≡ false → None ≡ number_in ds
none_of_others ds h = nothing_where (is_number ds) (digits_value 10 ds) (λ t. let k = parts ds t in let bad : false ≡ true = sym h ∙ (same_test ds ∙ k.0) in cc)

-- what the standard library reads of digits
pub read : {E : Type 0} (ds : List ℕ) (r : Result ℕ E) → list_all is_ascii_digit ds ≡ true → ParsesUnsigned 32 10 ds r → result_ok r ≡ number_in ds
read ds r passed h =
    let digits : Digits ds = sym (same_test ds) ∙ passed in
    by digits r (parse_digits numerals 32 ds r h digits)
  where
    by : {E : Type 0} → Digits ds → (r : Result ℕ E) → OkIff r ((0 < length ds) × (digits_value 10 ds < 2 ^ 32)) (digits_value 10 ds) → result_ok r ≡ number_in ds
    by digits (Ok n) g = some_where (is_number ds) n (digits_value 10 ds) (whole ds digits g.0.0 g.0.1) g.1
    by digits (Err e) g = nothing_where (is_number ds) (digits_value 10 ds) (λ t. let k = parts ds t in g (k.1, k.2))

-- digits are UTF-8
pub not_refused : {S E : Type 0} (ds : List ℕ) (r : Result S E) (P : S → Type 0) (Q : E → Type 0) → list_all is_ascii_digit ds ≡ true → MatchResult r P (λ e. (IsUtf8 ds → ⊥) × Q e) → result_ok r ≡ None → None ≡ number_in ds
not_refused ds (Ok s) P Q passed h e = cc e
not_refused ds (Err x) P Q passed h e = absurd (h.0 (IsUtf8-from_ascii ds (IsAscii-from_digits ds (numerals.to ds (sym (same_test ds) ∙ passed)))))

-- the number that is read is the one that the digits are, and no other
pub number_is : (ds : List ℕ) (n : ℕ) → number_in ds ≡ Some n → IsNumber ds n
number_is ds n h =
    let g = cond_some (is_number ds) (digits_value 10 ds) n h in
    let k = parts ds g.0 in
    ((k.1, numerals.to ds k.0), g.1, omega (arith, k.2, g.1))

pub number_found : (ds : List ℕ) (n : ℕ) → IsNumber ds n → number_in ds ≡ Some n
number_found ds n h =
    let short : digits_value 10 ds < 2 ^ 32 = omega (arith, h.1, h.2) in
    sym (some_where (is_number ds) n (digits_value 10 ds) (whole ds (numerals.from ds h.0.1) h.0.0 short) (sym h.1))
