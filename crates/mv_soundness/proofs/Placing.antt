-- Records of two runs among others, by their paths.
use Rattle.std.proofs.Common.{◌≡◌, ℕ, zero, suc, true, false, List, [], ◌∷◌, ◌++◌, Option, Some, None, map, length, refl, sym, ap, subst, ◌∙◌, arith, append_assoc, append-nil, length-append, ◌+◌}
use Rattle.std.specs.Prelude.{slice_get}
use Rattle.std.specs.Option.{option_map, option_and_then}
use Rattle.std.specs.Ordering.{is_eq, nat_cmp}
use Rattle.std.specs.Cmp.Lexicographic.{slice_cmp}
use Rattle.std.specs.declared.cmp.Ordering.{Ordering}
use Rattle.std.specs.declared.cmp.Ordering.TheVariants.{Less, Equal, Greater}
use Rattle.std.proofs.lemmas.Cmp.{tied_itself, nat_list_cmp_total}
use Rattle.std.proofs.lemmas.Map.Lookups.{exact_bytes}
use Rattle.std.proofs.lemmas.Bool.{false_from_ne_true}
use Rattle.std.proofs.lemmas.List.{length-map, nil_from_length}
use Rattle.mv_record.specs.declared.record.Record.{Record}
use Rattle.mv_record.specs.Paths.{path, nests_behind, paths, IsEarlierPath}
use Rattle.mv_recorded.specs.Own.{Stated, Ground, HasStatements, IsOwn, AllOwn}
use Rattle.mv_recorded.specs.Posts.{IsRecordAt}
use Rattle.mv_recorded.proofs.Held.{get_last}
use Rattle.mv_recorded.proofs.Nesting.{many_nests}
use Rattle.mv_history.specs.Kept.{Path, Placed, zip_paths, with_paths, next_placed, path_at, is_path}
use Rattle.mv_history.proofs.Joining.{placed_front}
use Rattle.mv_history.proofs.Zipping.{long_zip, zip_its, zip_firsts}

-- Paths

pub path_is : (a b : Path) → is_path a b ≡ true → a ≡ b
path_is a b h = by (slice_cmp nat_cmp a b) refl h
  where
    by : (o : Ordering) → slice_cmp nat_cmp a b ≡ o → is_eq o ≡ true → a ≡ b
    by Less e k = cc
    by Equal e k = exact_bytes a b e
    by Greater e k = cc

pub path_self : (a : Path) → is_path a a ≡ true
path_self a = ap is_eq (tied_itself nat_list_cmp_total a)

pub not_itself : (a b : Path) → a ≡ b → IsEarlierPath a b → ⊥
not_itself a b same h = clash (slice_cmp nat_cmp a b) h (subst (λ c. slice_cmp nat_cmp a c ≡ Equal) same (tied_itself nat_list_cmp_total a))
  where
    clash : (o : Ordering) → o ≡ Less → o ≡ Equal → ⊥
    clash o h k = cc

pub apart : (a b : Path) → IsEarlierPath a b → is_path a b ≡ false
apart a b h = ap is_eq h

pub apart_back : (a b : Path) → IsEarlierPath a b → is_path b a ≡ false
apart_back a b h = false_from_ne_true (is_path b a) (λ e. not_itself a b (sym (path_is b a e)) h)

-- The paths of records

pub many_paths : (rs : List Record) → length (paths rs) ≡ length rs
many_paths rs = length-map (nests_behind [] rs) path ∙ many_nests [] rs

pub many_placed : (rs : List Record) → length (with_paths rs) ≡ length rs
many_placed rs = long_zip (paths rs) rs (many_paths rs)

pub placed_paths : (rs : List Record) → map (λ (p : Placed). p.path) (with_paths rs) ≡ paths rs
placed_paths rs = zip_firsts (paths rs) rs (many_paths rs)

-- one record more
pub placed_more : (xs : List Record) (r : Record) → with_paths (xs ++ r ∷ []) ≡ with_paths xs ++ next_placed xs r ∷ []
placed_more xs r =
    let it = placed_front xs r [] in
    let long : length (with_paths xs ++ next_placed xs r ∷ it.0) ≡ length xs + 1 = ap length (sym it.1) ∙ (many_placed (xs ++ r ∷ []) ∙ length-append xs (r ∷ [])) in
    let none : it.0 ≡ [] = nil_from_length it.0 (omega (arith, long, length-append (with_paths xs) (next_placed xs r ∷ it.0), many_placed xs)) in
    it.1 ∙ ap (λ l. with_paths xs ++ next_placed xs r ∷ l) none

-- A record among others

pub own_at : (g : Ground) (before xs : List Record) (x : Record) (ys : List Record) → AllOwn g before (xs ++ x ∷ ys) → IsOwn g (before ++ xs) x
own_at g before [] x ys h = subst (λ b. IsOwn g b x) (sym (append-nil before)) h.0
own_at g before (z ∷ xs) x ys h = subst (λ b. IsOwn g b x) (append_assoc before (z ∷ []) xs) (own_at g (before ++ z ∷ []) xs x ys h.1)

abbrev pub its : List Placed → List Record
its ps = map (λ (p : Placed). p.it) ps

pub its_all : (rs : List Record) → its (with_paths rs) ≡ rs
its_all rs = zip_its (paths rs) rs (many_paths rs)

zip_at : (ps : List Path) (rs : List Record) (fr : List Placed) (o : Placed) (back : List Placed) → zip_paths ps rs ≡ fr ++ o ∷ back → (slice_get rs (length fr) ≡ Some o.it) × (slice_get ps (length fr) ≡ Some o.path)
zip_at [] rs [] o back is = cc
zip_at [] rs (f ∷ fr) o back is = cc
zip_at (p ∷ ps) [] [] o back is = cc
zip_at (p ∷ ps) [] (f ∷ fr) o back is = cc
zip_at (p ∷ ps) (r ∷ rs) [] o back is =
    let first : (record { path = p; it = r }) ≡ o = cc in
    (ap (λ (x : Placed). Some x.it) first, ap (λ (x : Placed). Some x.path) first)
zip_at (p ∷ ps) (r ∷ rs) (f ∷ fr) o back is = let rest : zip_paths ps rs ≡ fr ++ o ∷ back = cc in zip_at ps rs fr o back rest

-- its number is that of the records before it
pub is_at : (rs : List Record) (fr : List Placed) (o : Placed) (back : List Placed) → with_paths rs ≡ fr ++ o ∷ back → IsRecordAt rs (length fr) o.it o.path
is_at rs fr o back is = let both = zip_at (paths rs) rs fr o back is in record { there = both.0; path = both.1 }

-- the path of a number
pub at_paths : (rs : List Record) (n : Option ℕ) → option_and_then (slice_get (paths rs)) n ≡ path_at (with_paths rs) n
at_paths rs None = refl
at_paths rs (Some k) = got (paths rs) rs k (many_paths rs)
  where
    got : (ps : List Path) (rs : List Record) (k : ℕ) → length ps ≡ length rs → slice_get ps k ≡ option_map (λ (r : Placed). r.path) (slice_get (zip_paths ps rs) k)
    got [] rs k h = refl
    got (p ∷ ps) [] k h = cc
    got (p ∷ ps) (r ∷ rs) zero h = refl
    got (p ∷ ps) (r ∷ rs) (suc k) h = got ps rs k (let e : length ps ≡ length rs = omega (arith, h) in e)

-- one statement stands at a number of the text
pub same_statement : (text : List Stated) (n m : ℕ) (a b : Stated) → n ≡ m → HasStatements text n (a ∷ []) → HasStatements text m (b ∷ []) → a ≡ b
same_statement text n m a b same h k = found (sym (at a h.0 h.1 h.2) ∙ (ap (slice_get text) (let e : length h.0 ≡ length k.0 = omega (arith, h.3, k.3, same) in e) ∙ at b k.0 k.1 k.2))
  where
    at : (x : Stated) (front back : List Stated) → text ≡ front ++ (x ∷ [] ++ back) → slice_get text (length front) ≡ Some x
    at x front back is = ap (λ l. slice_get l (length front)) is ∙ get_last front x back

    found : {x y : Stated} → ◌≡◌ {A = Option Stated} (Some x) (Some y) → x ≡ y
    found e = cc
