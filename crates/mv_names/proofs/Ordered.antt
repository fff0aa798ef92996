-- Which of two faults is before the other, and the first of faults and one more.
use Rattle.std.proofs.Common.{◌≡◌, ℕ, ◌<◌, Bool, true, false, ◌&&◌, ◌||◌, nat_lt, ◌==◌, refl, arith, List, [], ◌∷◌, ◌++◌, Option, Some, None, take, length, get_or, ◌+◌, ap, ◌∙◌, append_assoc, if◌then◌else◌}
use Rattle.std.proofs.lemmas.Bool.{ltb-true, eqb-true, and_parts, or_parts}
use Rattle.std.proofs.lemmas.List.{take_more}
use Rattle.std.proofs.lemmas.List.Elements.{All-nil, All-cons, All-append}
use Rattle.mv_names.specs.declared.fault.TokenFault.{TokenFault}
use Rattle.mv_names.specs.First.{is_before, rank, IsFirst, IsFirstOf}
use Rattle.mv_names.specs.Earlier.{earlier_of}

pub never_itself : (f : TokenFault) → is_before f f ≡ false
never_itself f = grind (arith)

-- the numbers of the tokens, and the places of the kinds
nearer : (a b c r s q : ℕ) → nat_lt c b ≡ false → a < b → (nat_lt c a || (c == a && nat_lt q r)) ≡ false
nearer a b c r s q h k = grind (arith, h, k)

same_token : (a b c r s q : ℕ) → a ≡ b → nat_lt c b ≡ false → (c == b && nat_lt q s) ≡ false → r < s → (nat_lt c a || (c == a && nat_lt q r)) ≡ false
same_token a b c r s q same h e k = grind (arith, same, h, e, k)

by_token : (a b c r s q : ℕ) (p : Bool) → nat_lt a b ≡ p → (p || (a == b && nat_lt r s)) ≡ true → nat_lt c b ≡ false → (c == b && nat_lt q s) ≡ false → (nat_lt c a || (c == a && nat_lt q r)) ≡ false
by_token a b c r s q true e k h l = nearer a b c r s q h (ltb-true a b e)
by_token a b c r s q false e k h l =
    let two = and_parts (a == b) (nat_lt r s) k in
    let same : a ≡ b = eqb-true a b two.0 in
    same_token a b c r s q same h l (ltb-true r s two.1)

-- what isn't before the best isn't before what is before it
pub not_before : (f g best : TokenFault) → is_before g best ≡ false → is_before f best ≡ true → is_before g f ≡ false
not_before f g best h k =
    let two = or_parts (nat_lt g.token best.token) (g.token == best.token && nat_lt (rank g.kind) (rank best.kind)) h in
    by_token f.token best.token g.token (rank f.kind) (rank best.kind) (rank g.kind) (nat_lt f.token best.token) refl k two.0 two.1

one_more : (seen : List TokenFault) (f best : TokenFault) (b : Bool) → is_before f best ≡ b → IsFirst seen best → IsFirst (seen ++ f ∷ []) (if b then f else best)
one_more seen f best true e h = (
  seen,
  [],
  refl,
  All-append (λ g. is_before g f ≡ false) seen (f ∷ []) (λ k d lt. not_before f (get_or seen k d) best (h.3 k d lt) e)
      (All-cons (λ g. is_before g f ≡ false) f [] (never_itself f) (All-nil (λ g. is_before g f ≡ false))),
)
one_more seen f best false e h = (
  h.0,
  h.1 ++ f ∷ [],
  ap (λ xs. xs ++ f ∷ []) h.2 ∙ append_assoc h.0 (best ∷ h.1) (f ∷ []),
  All-append (λ g. is_before g best ≡ false) seen (f ∷ []) h.3 (All-cons (λ g. is_before g best ≡ false) f [] e (All-nil (λ g. is_before g best ≡ false))),
)

-- the first of faults and one more
pub first_more : (first : Option TokenFault) (seen : List TokenFault) (f : TokenFault) → IsFirstOf seen first → IsFirst (seen ++ f ∷ []) (earlier_of first f)
first_more None seen f h =
    rw h ([], [], refl, All-cons (λ g. is_before g f ≡ false) f [] (never_itself f) (All-nil (λ g. is_before g f ≡ false)))
first_more (Some best) seen f h = one_more seen f best (is_before f best) refl h

-- the same of a front of faults
pub first_at : (faults : List TokenFault) (i : ℕ) (first : Option TokenFault) (d next : TokenFault) → i < length faults → IsFirstOf (take i faults) first → next ≡ earlier_of first (get_or faults i d)
    → IsFirst (take (i + 1) faults) next
first_at faults i first d next lt h e =
    rw (e, take_more faults i d lt) (first_more first (take i faults) (get_or faults i d) h)
