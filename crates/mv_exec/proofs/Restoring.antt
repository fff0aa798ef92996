-- What variables held at the beginning, and what is kept of it.
use Rattle.std.proofs.Common.{◌≡◌, ℕ, zero, suc, ◌+◌, ◌≤◌, true, false, List, [], ◌∷◌, ◌++◌, Option, Some, None, length, take, slice_get, slice_set, refl, sym, ap, subst, ◌∙◌, arith, add-one}
use Rattle.mv_eval.specs.declared.state.Content.{Content}
use Rattle.mv_eval.specs.Env.{padded}
use Rattle.mv_eval.specs.declared.state.Env.{Env}
use Rattle.mv_exec.specs.Env.{CallVariables, at_beginning, restored, is_unset, set_back, AreNone}

-- Lists

pub set_len : {A : Type 0} (xs : List A) (i : ℕ) (x : A) → length (slice_set xs i x) ≡ length xs
set_len [] i x = refl
set_len (y ∷ ys) zero x = refl
set_len (y ∷ ys) (suc i) x = ap suc (set_len ys i x)

pub padded_longer : (n : ℕ) (hs : List Content) → length hs ≤ length (padded n hs)
padded_longer zero hs = omega arith
padded_longer (suc n) [] = omega arith
padded_longer (suc n) (h ∷ hs) = let k : length hs ≤ length (padded n hs) = padded_longer n hs in omega arith

-- More variables

pub restored_padded : (ks : List (Option Content)) (n : ℕ) (hs : List Content) → length ks ≤ length hs → restored ks (padded n hs) ≡ restored ks hs
restored_padded [] n hs le = refl
restored_padded (k ∷ ks) n [] le = absurd (omega (arith, le))
restored_padded (k ∷ ks) zero (h ∷ hs) le = refl
restored_padded (None ∷ ks) (suc n) (h ∷ hs) le = ap (λ l. h ∷ l) (restored_padded ks n hs (omega (arith, le)))
restored_padded (Some first ∷ ks) (suc n) (h ∷ hs) le = ap (λ l. first ∷ l) (restored_padded ks n hs (omega (arith, le)))

-- A variable set

-- for the first time
pub restored_first : (ks : List (Option Content)) (hs : List Content) (x : ℕ) (was now : Content) → is_unset (slice_get ks x) ≡ true → slice_get hs x ≡ Some was
    → restored (slice_set ks x (Some was)) (slice_set hs x now) ≡ restored ks hs
restored_first [] hs x was now unset held = cc
restored_first (k ∷ ks) [] x was now unset held = cc
restored_first (None ∷ ks) (h ∷ hs) zero was now unset held = let e : h ≡ was = cc in ap (λ g. g ∷ restored ks hs) (sym e)
restored_first (Some first ∷ ks) (h ∷ hs) zero was now unset held = cc
restored_first (None ∷ ks) (h ∷ hs) (suc x) was now unset held = ap (λ l. h ∷ l) (restored_first ks hs x was now unset held)
restored_first (Some first ∷ ks) (h ∷ hs) (suc x) was now unset held = ap (λ l. first ∷ l) (restored_first ks hs x was now unset held)

-- once more, or where there was none at the beginning
pub restored_again : (ks : List (Option Content)) (hs : List Content) (x : ℕ) (now : Content) → is_unset (slice_get ks x) ≡ false → restored ks (slice_set hs x now) ≡ restored ks hs
restored_again [] hs x now set = refl
restored_again (k ∷ ks) [] x now set = refl
restored_again (None ∷ ks) (h ∷ hs) zero now set = cc
restored_again (Some first ∷ ks) (h ∷ hs) zero now set = refl
restored_again (None ∷ ks) (h ∷ hs) (suc x) now set = ap (λ l. h ∷ l) (restored_again ks hs x now set)
restored_again (Some first ∷ ks) (h ∷ hs) (suc x) now set = ap (λ l. first ∷ l) (restored_again ks hs x now set)

-- Where nothing is kept

pub one_none : (ks : List (Option Content)) → AreNone (length ks) ks → AreNone (length (ks ++ None ∷ [])) (ks ++ None ∷ [])
one_none [] none = (refl, tt)
one_none (k ∷ ks) none = (none.0, one_none ks none.1)

-- the variables are the initial ones, if there are no more
pub restored_all : (ks : List (Option Content)) (hs : List Content) → AreNone (length ks) ks → length ks ≡ length hs → restored ks hs ≡ hs
restored_all [] [] none len = refl
restored_all [] (h ∷ hs) none len = absurd (omega (arith, len))
restored_all (k ∷ ks) [] none len = absurd (omega (arith, len))
restored_all (None ∷ ks) (h ∷ hs) none len = ap (λ l. h ∷ l) (restored_all ks hs none.1 (omega (arith, len)))
restored_all (Some first ∷ ks) (h ∷ hs) none len = cc

-- and the first of them, if there are more
pub restored_front : (ks : List (Option Content)) (hs : List Content) → AreNone (length ks) ks → restored ks hs ≡ take (length ks) hs
restored_front [] hs none = refl
restored_front (k ∷ ks) [] none = refl
restored_front (None ∷ ks) (h ∷ hs) none = ap (λ l. h ∷ l) (restored_front ks hs none.1)
restored_front (Some first ∷ ks) (h ∷ hs) none = cc

-- Setting back

-- the variables below a number are set back
pub record AreBack (ks : List (Option Content)) (hs : List Content) (n : ℕ) (left : List (Option Content)) (held : List Content) : Type 0 where
  pub none : AreNone n left
  pub same : restored left held ≡ restored ks hs
  pub many : length left ≡ length ks
  pub room : length held ≡ length hs

none_more : (n : ℕ) (ks : List (Option Content)) → AreNone n ks → AreNone (n + 1) (slice_set ks n None)
none_more n ks none = subst (λ m. AreNone m (slice_set ks n None)) (sym (add-one n)) (at n ks none)
  where
    at : (n : ℕ) (ks : List (Option Content)) → AreNone n ks → AreNone (suc n) (slice_set ks n None)
    at zero [] none = tt
    at zero (k ∷ ks) none = (refl, tt)
    at (suc n) [] none = tt
    at (suc n) (k ∷ ks) none = (none.0, at n ks none.1)

back_same : (ks : List (Option Content)) (hs : List Content) (x : ℕ) (kept : Option Content) → slice_get ks x ≡ Some kept → restored (slice_set ks x None) (set_back hs x kept) ≡ restored ks hs
back_same [] hs x kept is = cc
back_same (k ∷ ks) [] zero None is = refl
back_same (k ∷ ks) [] (suc x) None is = refl
back_same (k ∷ ks) [] zero (Some first) is = refl
back_same (k ∷ ks) [] (suc x) (Some first) is = refl
back_same (None ∷ ks) (h ∷ hs) zero None is = refl
back_same (Some f ∷ ks) (h ∷ hs) zero None is = cc
back_same (None ∷ ks) (h ∷ hs) (suc x) None is = ap (λ l. h ∷ l) (back_same ks hs x None is)
back_same (Some f ∷ ks) (h ∷ hs) (suc x) None is = ap (λ l. f ∷ l) (back_same ks hs x None is)
back_same (None ∷ ks) (h ∷ hs) zero (Some first) is = cc
back_same (Some f ∷ ks) (h ∷ hs) zero (Some first) is = let e : f ≡ first = cc in ap (λ g. g ∷ restored ks hs) (sym e)
back_same (None ∷ ks) (h ∷ hs) (suc x) (Some first) is = ap (λ l. h ∷ l) (back_same ks hs x (Some first) is)
back_same (Some f ∷ ks) (h ∷ hs) (suc x) (Some first) is = ap (λ l. f ∷ l) (back_same ks hs x (Some first) is)

back_room : (hs : List Content) (x : ℕ) (kept : Option Content) → length (set_back hs x kept) ≡ length hs
back_room hs x None = refl
back_room hs x (Some first) = set_len hs x first

pub one_back : (ks : List (Option Content)) (hs : List Content) (n : ℕ) (left then : List (Option Content)) (held now : List Content) (kept : Option Content)
    → AreBack ks hs n left held → slice_get left n ≡ Some kept → then ≡ slice_set left n None → now ≡ set_back held n kept → AreBack ks hs (n + 1) then now
one_back ks hs n left then held now kept back is dropped set = record {
  none = subst (AreNone (n + 1)) (sym dropped) (none_more n left back.none);
  same = ap (λ l. restored l now) dropped ∙ (ap (restored (slice_set left n None)) set ∙ (back_same left held n kept is ∙ back.same));
  many = ap length dropped ∙ (set_len left n None ∙ back.many);
  room = ap length set ∙ (back_room held n kept ∙ back.room);
}

-- The beginning

take_len : {A : Type 0} (n : ℕ) (xs : List A) → n ≤ length xs → length (take n xs) ≡ n
take_len zero xs le = refl
take_len (suc n) [] le = absurd (omega (arith, le))
take_len (suc n) (x ∷ xs) le = ap suc (take_len n xs (omega (arith, le)))

-- once nothing is kept, and the later variables are dropped, the variables are the initial ones
pub begun_again : (vs : CallVariables) (ks left : List (Option Content)) (env : Env) (held now : List Content) (n : ℕ) → vs ≡ record { env = env; initial = record env { held = restored ks env.held } }
    → length ks ≤ length env.held → AreNone (length ks) left → length left ≡ length ks → take (length ks) held ≡ restored ks env.held → length held ≡ length env.held → n ≡ length left → now ≡ take n held
    → record { env = record env { held = now }; initial = record env { held = restored left now } } ≡ at_beginning vs.initial
begun_again vs ks left env held now n is few none many back room len cut =
    let first : now ≡ restored ks env.held = cut ∙ (ap (λ m. take m held) (len ∙ many) ∙ back) in
    let size : length now ≡ length ks = ap length cut ∙ (ap (λ m. length (take m held)) (len ∙ many) ∙ take_len (length ks) held (omega (arith, few, room))) in
    let all : restored left now ≡ now = restored_all left now (subst (λ m. AreNone m left) (sym many) none) (many ∙ sym size) in
    ap (λ hs. record { env = record env { held = now }; initial = record env { held = hs } }) all
    ∙ (ap (λ hs. at_beginning (record env { held = hs })) first ∙ ap (λ (v : CallVariables). at_beginning v.initial) (sym is))
