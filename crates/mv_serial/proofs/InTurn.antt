-- Items put into their places in turn.
use Rattle.std.proofs.Common.{◌≡◌, ◌<◌, ◌≤◌, ℕ, zero, suc, List, [], ◌∷◌, All, AllPairs, length, replicate, Some, inl, inr, refl, sym, ap, ◌∙◌, arith}
use Rattle.std.proofs.lemmas.Bool.Decides.{eqb_tells}
use Rattle.std.specs.Prelude.{slice_get, slice_index, slice_set}
use Rattle.std.proofs.lemmas.List.{length-set, length-replicate}
use Rattle.mv_values.specs.declared.calls.Reply.{Reply}
use Rattle.mv_catalog.specs.declared.resolved.Program.{Program}
use Rattle.mv_eval.specs.TableAfter.{no_reply, reply_of, IsOrder, RepliesOf, OthersSilent}

-- a list after the first n items of a function were put at the places of the order
abbrev pub put_in : {X : Type 0} → List X → List ℕ → (ℕ → X) → ℕ → List X
put_in xs order f zero = xs
put_in xs order f (suc n) = slice_set (put_in xs order f n) (slice_index order n) (f n)

length_put : {X : Type 0} (xs : List X) (order : List ℕ) (f : ℕ → X) (n : ℕ) → length (put_in xs order f n) ≡ length xs
length_put xs order f zero = refl
length_put xs order f (suc n) = length-set (put_in xs order f n) (slice_index order n) (f n) ∙ length_put xs order f n

get_same : {X : Type 0} (xs : List X) (i : ℕ) (x : X) → i < length xs → slice_get (slice_set xs i x) i ≡ Some x
get_same [] i x lt = absurd (omega (arith, lt))
get_same (y ∷ ys) zero x lt = refl
get_same (y ∷ ys) (suc i) x lt = get_same ys i x (omega (arith, lt))

get_other : {X : Type 0} (xs : List X) (i j : ℕ) (x : X) → (j ≡ i → ⊥) → slice_get (slice_set xs j x) i ≡ slice_get xs i
get_other [] i j x ne = refl
get_other (y ∷ ys) zero zero x ne = absurd (ne refl)
get_other (y ∷ ys) zero (suc j) x ne = refl
get_other (y ∷ ys) (suc i) zero x ne = refl
get_other (y ∷ ys) (suc i) (suc j) x ne = get_other ys i j x (λ e. ne (ap suc e))

get_replicate : {X : Type 0} (n k : ℕ) (x : X) → k < n → slice_get (replicate n x) k ≡ Some x
get_replicate zero k x lt = absurd (omega (arith, lt))
get_replicate (suc n) zero x lt = refl
get_replicate (suc n) (suc k) x lt = get_replicate n k x (omega (arith, lt))

-- where the places differ, each holds its item
put_there : {X : Type 0} (xs : List X) (order : List ℕ) (f : ℕ → X) (n k : ℕ) → AllPairs (λ a b. a ≡ b → ⊥) order → All (λ c. c < length xs) order
    → n ≤ length order → k < n → slice_get (put_in xs order f n) (slice_index order k) ≡ Some (f k)
put_there xs order f zero k apart inside le lt = absurd (omega (arith, lt))
put_there xs order f (suc n) k apart inside le lt =
    elim (eqb_tells n k) [
      | inl same ↦ (
          let e : n ≡ k = same.1 in
          let w : slice_index order n < length (put_in xs order f n) = omega (arith, length_put xs order f n, inside n 0 (omega (arith, le))) in
          ap (λ m. slice_get (put_in xs order f (suc n)) (slice_index order m)) (sym e)
          ∙ (get_same (put_in xs order f n) (slice_index order n) (f n) w ∙ ap (λ m. Some (f m)) e))
      | inr other ↦ (
          let l : k < n = omega (arith, lt, other.1) in
          get_other (put_in xs order f n) (slice_index order k) (slice_index order n) (f n) (λ e. apart k n 0 l (omega (arith, le)) (sym e))
          ∙ put_there xs order f n k apart inside (omega (arith, le)) l)
    ]

-- a place that isn't in the order holds what it held
put_elsewhere : {X : Type 0} (xs : List X) (order : List ℕ) (f : ℕ → X) (n c : ℕ) → All (λ d. d ≡ c → ⊥) order
    → n ≤ length order → slice_get (put_in xs order f n) c ≡ slice_get xs c
put_elsewhere xs order f zero c others le = refl
put_elsewhere xs order f (suc n) c others le =
    get_other (put_in xs order f n) c (slice_index order n) (f n) (others n 0 (omega (arith, le)))
    ∙ put_elsewhere xs order f n c others (omega (arith, le))

-- the replies after the first n calls of the order
abbrev pub replies_after : Program → List ℕ → ℕ → List Reply
replies_after p order n = put_in (replicate (length p.resolved.calls) no_reply) order (λ k. reply_of p order (suc k)) n

pub length_replies : (p : Program) (order : List ℕ) (n : ℕ) → length (replies_after p order n) ≡ length p.resolved.calls
length_replies p order n =
    length_put (replicate (length p.resolved.calls) no_reply) order (λ k. reply_of p order (suc k)) n
    ∙ length-replicate (length p.resolved.calls) no_reply

pub all_replied : (p : Program) (order : List ℕ) (n : ℕ) (replies : List Reply) → IsOrder p order → n ≡ length order
    → replies ≡ replies_after p order n → RepliesOf p order replies
all_replied p order n replies fits all is k lt =
    ap (λ rs. slice_get rs (slice_index order k)) is
    ∙ put_there (replicate (length p.resolved.calls) no_reply) order (λ m. reply_of p order (suc m)) n k fits.1
    (λ m d l. omega (arith, fits.0 m d l, length-replicate (length p.resolved.calls) no_reply)) (omega (arith, all)) (omega (arith, all, lt))

pub others_silent : (p : Program) (order : List ℕ) (n : ℕ) (replies : List Reply) → n ≡ length order
    → replies ≡ replies_after p order n → OthersSilent p order replies
others_silent p order n replies all is c lt others =
    ap (λ rs. slice_get rs c) is
    ∙ (put_elsewhere (replicate (length p.resolved.calls) no_reply) order (λ m. reply_of p order (suc m)) n c others (omega (arith, all))
    ∙ get_replicate (length p.resolved.calls) c no_reply lt)

-- a call of the order has a place
pub place_within : (p : Program) (order : List ℕ) (n : ℕ) (replies : List Reply) → IsOrder p order → n < length order
    → replies ≡ replies_after p order n → slice_index order n < length replies
place_within p order n replies fits lt is = omega (arith, fits.0 n 0 lt, ap length is, length_replies p order n)
