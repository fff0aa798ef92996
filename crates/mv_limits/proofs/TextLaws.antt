-- Laws of what bytes stand for.
use Rattle.std.proofs.Common.{◌≡◌, ℕ, suc, ◌+◌, ◌-◌, ◌*◌, ◌<◌, ◌≤◌, min, false, nat_eq, List, [], ◌∷◌, length, drop, get_or, refl, sym, ap, subst, ◌∙◌, arith, add-one}
use Rattle.std.proofs.Math.Seq.{drop-cons}
use Rattle.std.proofs.lemmas.List.{drop_all}
use Rattle.mv_ast.specs.Texts.{number_from, greatest, undoubled}

-- the first letter of a text with its quotes doubled
undoubled_twice : (a b : ℕ) (bs : List ℕ) → a ≡ 39 → undoubled (a ∷ b ∷ bs) ≡ a ∷ undoubled bs
unfolding undoubled
undoubled_twice a b bs h = rw h refl

undoubled_once : (a : ℕ) (bs : List ℕ) → nat_eq a 39 ≡ false → undoubled (a ∷ bs) ≡ a ∷ undoubled bs
unfolding undoubled
undoubled_once a [] h = refl
undoubled_once a (b ∷ bs) h = rw h refl

undoubled_last : (a : ℕ) → undoubled (a ∷ []) ≡ a ∷ undoubled []
unfolding undoubled
undoubled_last a = refl

pub undoubled_none : undoubled [] ≡ []
unfolding undoubled
undoubled_none = refl

pub letters_end : (text : List ℕ) (done all at : ℕ) → length text ≤ at → done + length (undoubled (drop at text)) ≡ all → done ≡ all
letters_end text done all at h e = let n : length (undoubled (drop at text)) ≡ 0 = ap (λ r. length (undoubled r)) (drop_all at text h) ∙ ap length undoubled_none in omega arith

pub letter_twice : (text : List ℕ) (at : ℕ) → at + 1 < length text → get_or text at 0 ≡ 39 → undoubled (drop at text) ≡ get_or text at 0 ∷ undoubled (drop (at + 2) text)
letter_twice text at h e =
    let a : drop at text ≡ get_or text at 0 ∷ drop (suc at) text = drop-cons text at 0 (omega arith) in
    let b : drop (suc at) text ≡ get_or text (suc at) 0 ∷ drop (suc (suc at)) text = drop-cons text (suc at) 0 (omega arith) in
    let n : at + 2 ≡ suc (suc at) = omega arith in
    ap undoubled (a ∙ ap (λ r. get_or text at 0 ∷ r) b) ∙ (undoubled_twice (get_or text at 0) (get_or text (suc at) 0) (drop (suc (suc at)) text) e
    ∙ ap (λ r. get_or text at 0 ∷ undoubled (drop r text)) (sym n))

pub letter_once : (text : List ℕ) (at : ℕ) → at < length text → nat_eq (get_or text at 0) 39 ≡ false → undoubled (drop at text) ≡ get_or text at 0 ∷ undoubled (drop (at + 1) text)
letter_once text at h e =
    ap undoubled (drop-cons text at 0 h) ∙ (undoubled_once (get_or text at 0) (drop (suc at) text) e ∙ ap (λ r. get_or text at 0 ∷ undoubled (drop r text)) (sym (add-one at)))

pub letter_last : (text : List ℕ) (at : ℕ) → at < length text → length text ≤ at + 1 → undoubled (drop at text) ≡ get_or text at 0 ∷ undoubled (drop (at + 1) text)
letter_last text at h e =
    let none : drop (suc at) text ≡ [] = drop_all (suc at) text (omega arith) in
    let one : drop (at + 1) text ≡ [] = drop_all (at + 1) text e in
    ap undoubled (drop-cons text at 0 h ∙ ap (λ r. get_or text at 0 ∷ r) none) ∙ (undoubled_last (get_or text at 0) ∙ ap (λ r. get_or text at 0 ∷ undoubled r) (sym one))

-- numbers that are the same up to a bound stay so
number_capped : (most : ℕ) (ds : List ℕ) (m n : ℕ) → min m most ≡ min n most → min (number_from m ds) most ≡ min (number_from n ds) most
unfolding number_from
number_capped most [] m n h = h
number_capped most (d ∷ ds) m n h = number_capped most ds (10 * m + (d - 48)) (10 * n + (d - 48)) (omega arith)

pub capped_turn : (most : ℕ) (digits : List ℕ) (at n next all : ℕ) → at < length digits → min (number_from n (drop at digits)) most ≡ all
    → min next most ≡ min (10 * n + (get_or digits at 0 - 48)) most → min (number_from next (drop (at + 1) digits)) most ≡ all
unfolding number_from
capped_turn most digits at n next all h i e =
    let d : drop at digits ≡ get_or digits at 0 ∷ drop (suc at) digits = drop-cons digits at 0 h in
    let j : min (number_from n (get_or digits at 0 ∷ drop (suc at) digits)) most ≡ all = subst (λ r. min (number_from n r) most ≡ all) d i in
    number_capped most (drop (at + 1) digits) next (10 * n + (get_or digits at 0 - 48)) e
    ∙ (ap (λ r. min (number_from (10 * n + (get_or digits at 0 - 48)) (drop r digits)) most) (add-one at) ∙ j)

pub value_turn : (digits : List ℕ) (at n next all : ℕ) → at < length digits → min (number_from n (drop at digits)) (greatest + 1) ≡ all
    → min next (greatest + 1) ≡ min (10 * n + (get_or digits at 0 - 48)) (greatest + 1) → min (number_from next (drop (at + 1) digits)) (greatest + 1) ≡ all
value_turn = capped_turn (greatest + 1)

pub value_end : (digits : List ℕ) (at n : ℕ) → length digits ≤ at → number_from n (drop at digits) ≡ n
unfolding number_from
value_end digits at n h = let e = drop_all at digits h in rw e refl
