-- Laws of what bytes stand for.
use Rattle.std.proofs.Common.{◌≡◌, ℕ, zero, suc, ◌+◌, ◌-◌, ◌*◌, ◌<◌, ◌≤◌, min, true, false, cond, IsTrue, nat_eq, List, [], ◌∷◌, ◌++◌, length, take, drop, get_or, slice_range, Option, Some, None, refl, sym, ap, ◌∙◌, arith, append_assoc, append-nil}
use Rattle.std.specs.Char.{to_ascii_lowercase}
use Rattle.std.specs.List.{list_all, All, AllByRecursion, position}
use Rattle.std.proofs.lemmas.Bool.{and_parts}
use Rattle.std.proofs.lemmas.List.{drop_all}
use Rattle.std.proofs.lemmas.List.Elements.{All-from_recursion}
use Rattle.std.proofs.lemmas.List.Quantifiers.{position-Some}
use Rattle.mv_values.specs.Printable.{IsPrintable, is_printable}
use Rattle.mv_values.proofs.Printing.{printable}
use Rattle.mv_limits.proofs.TextLaws.{undoubled_none, capped_turn}
use Rattle.mv_ast.specs.Texts.{lower, number_from, greatest, undoubled, unquoted, first_line, line_end}

lower_byte : (b : ℕ) → IsPrintable b → IsPrintable (to_ascii_lowercase b)
lower_byte b h = grind arith

-- each byte can be printed, by recursion
abbrev AllPrint : List ℕ → Type 0
AllPrint [] = Unit {0}
AllPrint (b ∷ bs) = IsPrintable b × AllPrint bs

all_print : (text : List ℕ) → list_all is_printable text ≡ true → AllPrint text
all_print [] h = tt
all_print (b ∷ bs) h = let k = and_parts (is_printable b) (list_all is_printable bs) h in (printable b k.0, all_print bs k.1)

to_all : (text : List ℕ) → AllPrint text → All IsPrintable text
to_all text h = All-from_recursion IsPrintable text (go text h)
  where
    go : (xs : List ℕ) → AllPrint xs → AllByRecursion IsPrintable xs
    go [] p = tt
    go (x ∷ xs) p = (p.0, go xs p.1)

lower_all : (text : List ℕ) → AllPrint text → AllPrint (lower text)
lower_all [] h = tt
lower_all (b ∷ bs) h = (lower_byte b h.0, lower_all bs h.1)

take_all : (n : ℕ) (text : List ℕ) → AllPrint text → AllPrint (take n text)
take_all zero text h = tt
take_all (suc n) [] h = tt
take_all (suc n) (b ∷ bs) h = (h.0, take_all n bs h.1)

drop_all_print : (n : ℕ) (text : List ℕ) → AllPrint text → AllPrint (drop n text)
drop_all_print zero text h = h
drop_all_print (suc n) [] h = tt
drop_all_print (suc n) (b ∷ bs) h = drop_all_print n bs h.1

undoubled_all : (text : List ℕ) → AllPrint text → AllPrint (undoubled text)
unfolding undoubled
undoubled_all [] h = tt
undoubled_all (b ∷ []) h = h
undoubled_all (a ∷ b ∷ bs) h =
    elim (nat_eq a 39) as (λ c. AllPrint (cond c (a ∷ undoubled bs) (a ∷ undoubled (b ∷ bs)))) [
      | true ↦ (h.0, undoubled_all bs h.1.1)
      | false ↦ (h.0, undoubled_all (b ∷ bs) h.1)
    ]

pub lower_printable : (text : List ℕ) → IsTrue (list_all is_printable text) → All IsPrintable (lower text)
lower_printable text h = to_all (lower text) (lower_all text (all_print text h))

pub unquoted_printable : (text : List ℕ) → IsTrue (list_all is_printable text) → All IsPrintable (unquoted text)
unquoted_printable text h =
    to_all (unquoted text) (undoubled_all (slice_range text 1 (length text - 1)) (take_all (length text - 1 - 1) (drop 1 text) (drop_all_print 1 text (all_print text h))))

-- the bytes behind the first can be printed too
behind_print : (text : List ℕ) → list_all is_printable text ≡ true → list_all is_printable (drop 1 text) ≡ true
behind_print [] h = refl
behind_print (b ∷ bs) h = (and_parts (is_printable b) (list_all is_printable bs) h).1

pub behind_printable : (text : List ℕ) → IsTrue (list_all is_printable text) → IsTrue (list_all is_printable (drop 1 text))
behind_printable text h = behind_print text h

pub letters_end : (text done all : List ℕ) (at : ℕ) → length text ≤ at → done ++ undoubled (drop at text) ≡ all → done ≡ all
letters_end text done all at h e = sym (append-nil done) ∙ (ap (λ r. done ++ r) (sym (ap undoubled (drop_all at text h) ∙ undoubled_none)) ∙ e)

pub letter_kept : (text done all : List ℕ) (at next : ℕ) → done ++ undoubled (drop at text) ≡ all → undoubled (drop at text) ≡ get_or text at 0 ∷ undoubled (drop next text)
    → (done ++ get_or text at 0 ∷ []) ++ undoubled (drop next text) ≡ all
letter_kept text done all at next h e = append_assoc done (get_or text at 0 ∷ []) (undoubled (drop next text)) ∙ (ap (λ r. done ++ r) (sym e) ∙ h)

pub number_turn : (digits : List ℕ) (at n next all : ℕ) → at < length digits → min (number_from n (drop at digits)) greatest ≡ all
    → min next greatest ≡ min (10 * n + (get_or digits at 0 - 48)) greatest → min (number_from next (drop (at + 1) digits)) greatest ≡ all
number_turn = capped_turn greatest

-- a first line is no longer than the text
pub first_line_within : (text : List ℕ) → first_line text ≤ length text
first_line_within text = go (position (λ b. nat_eq b 10) text) refl
  where
    go : (o : Option ℕ) → position (λ b. nat_eq b 10) text ≡ o → line_end o (length text) ≤ length text
    go None e = omega arith
    go (Some n) e = let p = position-Some (λ b. nat_eq b 10) text n 0 e in omega (arith, p.0)
