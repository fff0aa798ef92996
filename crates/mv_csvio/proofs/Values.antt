-- What fields are to columns.
use Rattle.std.proofs.Common.{w64, inl, inr, ◌≡◌, ◌∷◌, ◌<◌, ◌≤◌, ◌^◌, ◌==◌, rules, ℕ, zero, suc, true, false, List, [], length, None, Result, Ok, Err, ℤ, pos, neg_ℤ, refl, arith}
use Rattle.std.specs.Prelude.{All}
use Rattle.std.specs.List.{list_all}
use Rattle.std.proofs.lemmas.List.Elements.{All-nil, All-cons}
use Rattle.mv_values.specs.Printable.{IsPrintable, is_printable}
use Rattle.std.specs.Prelude.{slice_index, MatchResult}
use Rattle.std.specs.Result.{OkIff, result_ok}
use Rattle.std.specs.Str.{IsAscii, IsUtf8}
use Rattle.std.proofs.lemmas.Str.{IsUtf8-from_ascii}
use Rattle.std.proofs.lemmas.Fmt.{IsAscii-from_digits}
use Rattle.std.specs.Str.Parse.{digits_value, ParsesSigned}
use Rattle.std.proofs.lemmas.Bool.{cases_Bool, eqb-true, eqb-false, and_parts, and_from}
use Rattle.std.proofs.lemmas.Str.Parse.{parse_signed_plain, parse_signed_minus}
use Rattle.mv_values.proofs.Deciding.{nothing_where, some_where}
use Rattle.mv_values.proofs.Numerals.{Digits, numerals}
use Rattle.mv_values.proofs.Printing.{printable}
use Rattle.mv_csvio.specs.Fields.{are_digits, number_in, natural, negative}

pub all_printable : (field : List ℕ) → list_all is_printable field ≡ true → All IsPrintable field
all_printable [] h = All-nil IsPrintable
all_printable (b ∷ bs) h = let k = and_parts (is_printable b) (list_all is_printable bs) h in All-cons IsPrintable b bs (printable b k.0) (all_printable bs k.1)

-- a field that begins with `+` is no number
pub plus_none : (bs : List ℕ) → (slice_index bs 0 == 43) ≡ true → None ≡ number_in bs
plus_none [] h = refl
plus_none (b ∷ bs) h = rw (eqb-true b 43 h) refl

natural_is : {E : Type 0} (ds : List ℕ) (r : Result ℤ E) → OkIff r (Digits ds × (0 < length ds) × (digits_value 10 ds < 2 ^ 63)) (pos (digits_value 10 ds)) → result_ok r ≡ natural ds
natural_is ds (Ok z) h = some_where _ z _ (and_from _ _ (and_from _ _ h.0.0 (search (rules, h.0.1))) (search (rules, h.0.2))) h.1
natural_is ds (Err e) h = nothing_where _ _ (λ t. let k = and_parts _ _ t in let d = and_parts _ _ k.0 in h (d.0, search (rules, d.1), search (rules, k.1)))

negative_is : {E : Type 0} (ds : List ℕ) (r : Result ℤ E) → OkIff r (Digits ds × (0 < length ds) × (digits_value 10 ds ≤ 2 ^ 63)) (neg_ℤ (pos (digits_value 10 ds))) → result_ok r ≡ negative ds
negative_is ds (Ok z) h = some_where _ z _ (and_from _ _ (and_from _ _ h.0.0 (search (rules, h.0.1))) (search (rules, h.0.2))) h.1
negative_is ds (Err e) h = nothing_where _ _ (λ t. let k = and_parts _ _ t in let d = and_parts _ _ k.0 in h (d.0, search (rules, d.1), search (rules, k.1)))

none_there : {E : Type 0} (r : Result ℤ E) → OkIff r (Digits [] × (0 < 0) × (digits_value 10 [] < 2 ^ 63)) (pos 0) → result_ok r ≡ None
none_there (Ok z) h = absurd (omega (arith, h.0.1))
none_there (Err e) h = refl

-- what the standard library reads of a field that has no `+` in front
pub parsed : {E : Type 0} (bs : List ℕ) (r : Result ℤ E) → (slice_index bs 0 == 43) ≡ false → ParsesSigned w64 10 bs r → result_ok r ≡ number_in bs
parsed [] r n h = none_there r (parse_signed_plain numerals w64 [] r h (λ e. cc e) (λ e. cc e))
parsed (b ∷ bs) r n h = elim (cases_Bool (b == 45)) [
  | inl minus ↦ rw minus (negative_is bs r (parse_signed_minus numerals w64 (b ∷ bs) r h (eqb-true b 45 minus)))
  | inr other ↦ rw other (natural_is (b ∷ bs) r (parse_signed_plain numerals w64 (b ∷ bs) r h (eqb-false b 43 n) (eqb-false b 45 other)))
]

-- a field that is no UTF-8 is no number
ascii : (ds : List ℕ) → are_digits ds ≡ true → IsAscii ds
ascii ds h = IsAscii-from_digits ds (numerals.to ds (and_parts _ _ h).0)

ascii_behind : (ds : List ℕ) → are_digits ds ≡ true → IsAscii (45 ∷ ds)
ascii_behind ds h zero = omega arith
ascii_behind ds h (suc i) = ascii ds h i

utf8_none : (bs : List ℕ) → (IsUtf8 bs → ⊥) → None ≡ number_in bs
utf8_none [] n = refl
utf8_none (b ∷ bs) n = elim (cases_Bool (b == 45)) [
  | inl minus ↦
      let first = eqb-true b 45 minus in
      rw minus (nothing_where _ _ (λ t. n (rw first (IsUtf8-from_ascii (45 ∷ bs) (ascii_behind bs (and_parts _ _ t).0)))))
  | inr other ↦ rw other (nothing_where _ _ (λ t. n (IsUtf8-from_ascii (b ∷ bs) (ascii (b ∷ bs) (and_parts _ _ t).0))))
]

-- what the test of a field for UTF-8 says
pub not_utf8 : {S E : Type 0} (bs : List ℕ) (r : Result S E) (P : S → Type 0) (Q : E → Type 0) → MatchResult r P (λ e. (IsUtf8 bs → ⊥) × Q e) → result_ok r ≡ None → None ≡ number_in bs
not_utf8 bs (Ok s) P Q h e = cc e
not_utf8 bs (Err e) P Q h is = utf8_none bs h.0
