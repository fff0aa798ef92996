-- One turn of the loops over a text and over a block.
use Rattle.std.proofs.Common.{◌≡◌, ℕ, ◌+◌, ◌<◌, ◌≤◌, Bool, true, false, cond, ◌==◌, List, [], ◌∷◌, Option, Some, None, length, get_or, drop, refl, sym, ap, ◌∙◌, arith, eq-eqb, ne_eqb}
use Rattle.std.proofs.lemmas.List.{at_drop_more, at_drop_all}
use Rattle.std.specs.Prelude.{IfSome}
use Rattle.mv_values.specs.Printable.{is_printable}
use Rattle.mv_lex.specs.Reading.{past, either, text_len, closing_len, block_len}

pub past_past : (i : ℕ) (o : Option ℕ) → past i (past 1 o) ≡ past (i + 1) o
past_past i None = refl
past_past i (Some m) = ap Some (omega arith)

pub block_next : (i b : ℕ) (fresh : Bool) (bs : List ℕ) → cond fresh (closing_len (b ∷ bs)) None ≡ None
    → past i (block_len fresh (b ∷ bs)) ≡ past (i + 1) (block_len (b == 10) bs)
unfolding block_len
block_next i b fresh bs h = rw h (past_past i (block_len (b == 10) bs))

pub block_ends : (i b n : ℕ) (fresh : Bool) (bs : List ℕ) → cond fresh (closing_len (b ∷ bs)) None ≡ Some n
    → past i (block_len fresh (b ∷ bs)) ≡ Some (i + n)
unfolding block_len
block_ends i b n fresh bs h = rw h refl

pub block_none : (fresh : Bool) → block_len fresh [] ≡ None
unfolding block_len
block_none fresh = refl

-- a quote opens or closes, from one state to the other
pub text_opens : (i b : ℕ) (end : Option ℕ) (bs : List ℕ) → b ≡ 39
    → either (past i (text_len true (b ∷ bs))) end ≡ either (past (i + 1) (text_len false bs)) end
unfolding text_len
text_opens i b end bs h = rw (eq-eqb b 39 h) (rw (past_past i (text_len false bs)) refl)

text_closes_by : (i : ℕ) (o end : Option ℕ) → either (past i (past 1 (either o (Some 0)))) end ≡ either (past (i + 1) o) (Some (i + 1))
text_closes_by i None end = ap Some (omega arith)
text_closes_by i (Some n) end = ap Some (omega arith)

pub text_closes : (i b : ℕ) (end : Option ℕ) (bs : List ℕ) → b ≡ 39
    → either (past i (text_len false (b ∷ bs))) end ≡ either (past (i + 1) (text_len true bs)) (Some (i + 1))
unfolding text_len
text_closes i b end bs h = rw (eq-eqb b 39 h) (text_closes_by i (text_len true bs) end)

pub text_next : (i b : ℕ) (end : Option ℕ) (bs : List ℕ) → (b ≡ 39 → ⊥) → is_printable b ≡ true
    → either (past i (text_len false (b ∷ bs))) end ≡ either (past (i + 1) (text_len false bs)) end
unfolding text_len
text_next i b end bs h p = rw (ne_eqb b 39 h) (rw p (rw (past_past i (text_len false bs)) refl))

pub text_ends : (i b : ℕ) (closed : Bool) (end : Option ℕ) (bs : List ℕ) → (b ≡ 39 → ⊥) → (closed ≡ false → is_printable b ≡ false)
    → either (past i (text_len closed (b ∷ bs))) end ≡ end
unfolding text_len
text_ends i b true end bs h p = rw (ne_eqb b 39 h) refl
text_ends i b false end bs h p = rw (ne_eqb b 39 h) (rw (p refl) refl)

pub text_none : (i : ℕ) (closed : Bool) (end : Option ℕ) → either (past i (text_len closed [])) end ≡ end
unfolding text_len
text_none i true end = refl
text_none i false end = refl

-- the same in a loop over a list, at the place i
pub block_next_at : (xs : List ℕ) (i : ℕ) (fresh : Bool) → i < length xs → cond fresh (closing_len (drop i xs)) None ≡ None
    → past i (block_len fresh (drop i xs)) ≡ past (i + 1) (block_len (get_or xs i 0 == 10) (drop (i + 1) xs))
block_next_at xs i fresh l e =
    at_drop_more (λ ys. past i (block_len fresh ys)) xs i 0 l
    ∙ block_next i (get_or xs i 0) fresh (drop (i + 1) xs) (sym (at_drop_more (λ ys. cond fresh (closing_len ys) None) xs i 0 l) ∙ e)

pub block_ends_at : (xs : List ℕ) (i n : ℕ) (fresh : Bool) → i < length xs → cond fresh (closing_len (drop i xs)) None ≡ Some n
    → past i (block_len fresh (drop i xs)) ≡ Some (i + n)
block_ends_at xs i n fresh l e =
    at_drop_more (λ ys. past i (block_len fresh ys)) xs i 0 l
    ∙ block_ends i (get_or xs i 0) n fresh (drop (i + 1) xs) (sym (at_drop_more (λ ys. cond fresh (closing_len ys) None) xs i 0 l) ∙ e)

pub block_none_at : (xs : List ℕ) (i : ℕ) (fresh : Bool) → length xs ≤ i → past i (block_len fresh (drop i xs)) ≡ None
block_none_at xs i fresh l = at_drop_all (λ ys. past i (block_len fresh ys)) xs i l ∙ ap (past i) (block_none fresh)

abbrev pub text_so_far : ℕ → Bool → Option ℕ → List ℕ → Option ℕ
text_so_far i closed end xs = either (past i (text_len closed (drop i xs))) end

pub text_opens_at : (xs : List ℕ) (i : ℕ) (end : Option ℕ) → i < length xs → get_or xs i 0 ≡ 39
    → text_so_far i true end xs ≡ text_so_far (i + 1) false end xs
text_opens_at xs i end l e = at_drop_more (λ ys. either (past i (text_len true ys)) end) xs i 0 l ∙ text_opens i (get_or xs i 0) end (drop (i + 1) xs) e

pub text_closes_at : (xs : List ℕ) (i : ℕ) (end : Option ℕ) → i < length xs → get_or xs i 0 ≡ 39
    → text_so_far i false end xs ≡ text_so_far (i + 1) true (Some (i + 1)) xs
text_closes_at xs i end l e = at_drop_more (λ ys. either (past i (text_len false ys)) end) xs i 0 l ∙ text_closes i (get_or xs i 0) end (drop (i + 1) xs) e

pub text_next_at : (xs : List ℕ) (i : ℕ) (end : Option ℕ) → i < length xs → (get_or xs i 0 ≡ 39 → ⊥) → is_printable (get_or xs i 0) ≡ true
    → text_so_far i false end xs ≡ text_so_far (i + 1) false end xs
text_next_at xs i end l e p = at_drop_more (λ ys. either (past i (text_len false ys)) end) xs i 0 l ∙ text_next i (get_or xs i 0) end (drop (i + 1) xs) e p

pub text_ends_at : (xs : List ℕ) (i : ℕ) (closed : Bool) (end : Option ℕ) → i < length xs → (get_or xs i 0 ≡ 39 → ⊥)
    → (closed ≡ false → is_printable (get_or xs i 0) ≡ false) → text_so_far i closed end xs ≡ end
text_ends_at xs i closed end l e p = at_drop_more (λ ys. either (past i (text_len closed ys)) end) xs i 0 l ∙ text_ends i (get_or xs i 0) closed end (drop (i + 1) xs) e p

pub text_none_at : (xs : List ℕ) (i : ℕ) (closed : Bool) (end : Option ℕ) → length xs ≤ i → text_so_far i closed end xs ≡ end
text_none_at xs i closed end l = at_drop_all (λ ys. either (past i (text_len closed ys)) end) xs i l ∙ text_none i closed end

pub later : (i : ℕ) (end : Option ℕ) → IfSome end (λ len. len ≤ i) → IfSome end (λ len. len ≤ i + 1)
later i None h = tt
later i (Some n) h = omega arith
