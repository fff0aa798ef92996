-- Items that are tried one after another.
use Rattle.std.proofs.Common.{◌≡◌, ◌≤◌, ◌<◌, ◌+◌, ◌++◌, ℕ, zero, suc, Bool, true, false, List, [], ◌∷◌, Option, Some, length, take, drop, refl, sym, ap, ◌∙◌, arith, if◌then◌else◌}
use Rattle.std.specs.Prelude.{◌||◌, slice_get, slice_index_or}
use Rattle.std.specs.List.{list_any}
use Rattle.std.proofs.lemmas.List.{drop_all, take_more}
use Rattle.mv_record.specs.declared.record.Record.{Record}
use Rattle.mv_history.specs.declared.change.Change.{Change}
use Rattle.mv_history.specs.Hits.{any_hits}
use Rattle.mv_changes.specs.Hitting.{first_record}

some_same : {X : Type 0} (x y : X) → ◌≡◌ {A = Option X} (Some x) (Some y) → x ≡ y
some_same x y e = cc

-- the item that was got, by its index
pub item_got : {X : Type 0} (xs : List X) (i : ℕ) (x : X) → slice_get xs i ≡ Some x → x ≡ slice_index_or xs i x
item_got [] i x e = cc
item_got (y ∷ xs) zero x e = sym (some_same y x e)
item_got (y ∷ xs) (suc i) x e = item_got xs i x e

rest_got : {X : Type 0} (xs : List X) (i : ℕ) (x : X) → slice_get xs i ≡ Some x → drop i xs ≡ x ∷ drop (suc i) xs
rest_got [] i x e = cc
rest_got (y ∷ xs) zero x e = ap (λ z. z ∷ xs) (some_same y x e)
rest_got (y ∷ xs) (suc i) x e = rest_got xs i x e

-- an item that was got, and those after it
item_then : {X : Type 0} (xs : List X) (i : ℕ) (x : X) → slice_get xs i ≡ Some x → drop i xs ≡ x ∷ drop (i + 1) xs
item_then xs i x e = let next : i + 1 ≡ suc i = omega arith in rest_got xs i x e ∙ ap (λ n. x ∷ drop n xs) (sym next)

any_next : {X : Type 0} (f : X → Bool) (xs : List X) (i : ℕ) (x : X) → slice_get xs i ≡ Some x → list_any f (drop i xs) ≡ (f x || list_any f (drop (i + 1) xs))
any_next f xs i x e = ap (list_any f) (item_then xs i x e)

pub any_left : {X : Type 0} (f : X → Bool) (xs : List X) (i : ℕ) (x : X) (b : Bool) → slice_get xs i ≡ Some x → b ≡ f x → b ≡ false → list_any f (drop i xs) ≡ list_any f xs → list_any f (drop (i + 1) xs) ≡ list_any f xs
any_left f xs i x b e is fails more = ap (λ c. c || list_any f (drop (i + 1) xs)) (sym fails ∙ is) ∙ (sym (any_next f xs i x e) ∙ more)

pub any_here : {X : Type 0} (f : X → Bool) (xs : List X) (i : ℕ) (x : X) (b : Bool) → slice_get xs i ≡ Some x → b ≡ f x → b ≡ true → list_any f (drop i xs) ≡ list_any f xs → true ≡ list_any f xs
any_here f xs i x b e is passes more = ap (λ c. c || list_any f (drop (i + 1) xs)) (sym passes ∙ is) ∙ (sym (any_next f xs i x e) ∙ more)

pub any_none : {X : Type 0} (f : X → Bool) (xs : List X) (i : ℕ) → length xs ≤ i → list_any f (drop i xs) ≡ list_any f xs → false ≡ list_any f xs
any_none f xs i l more = ap (list_any f) (sym (drop_all i xs l)) ∙ more

-- Records that are tried one after another

front_long : (rs : List Record) (i : ℕ) → i < length rs → length (take i rs) ≡ i
front_long [] i lt = absurd (omega (arith, lt))
front_long (r ∷ rs) zero lt = refl
front_long (r ∷ rs) (suc i) lt = ap suc (front_long rs i (omega (arith, lt)))

tried : (changes : List Change) (rs : List Record) (i : ℕ) (r : Record) (b : Bool) → slice_get rs i ≡ Some r → b ≡ any_hits changes (take i rs) r → first_record changes (take i rs) (drop i rs) ≡ first_record changes [] rs
    → (if b then Some (length (take i rs)) else first_record changes (take i rs ++ r ∷ []) (drop (i + 1) rs)) ≡ first_record changes [] rs
tried changes rs i r b e is so =
    ap (λ c. if c then Some (length (take i rs)) else first_record changes (take i rs ++ r ∷ []) (drop (i + 1) rs)) is
    ∙ (ap (first_record changes (take i rs)) (sym (item_then rs i r e)) ∙ so)

pub tried_here : (changes : List Change) (rs : List Record) (i : ℕ) (r : Record) (b : Bool) → i < length rs → slice_get rs i ≡ Some r → b ≡ any_hits changes (take i rs) r → b ≡ true
    → first_record changes (take i rs) (drop i rs) ≡ first_record changes [] rs → Some i ≡ first_record changes [] rs
tried_here changes rs i r b lt e is hit so =
    ap (λ n. Some n) (sym (front_long rs i lt))
    ∙ (ap (λ c. if c then Some (length (take i rs)) else first_record changes (take i rs ++ r ∷ []) (drop (i + 1) rs)) (sym hit) ∙ tried changes rs i r b e is so)

pub tried_next : (changes : List Change) (rs : List Record) (i : ℕ) (r : Record) (b : Bool) → i < length rs → slice_get rs i ≡ Some r → b ≡ any_hits changes (take i rs) r → b ≡ false
    → first_record changes (take i rs) (drop i rs) ≡ first_record changes [] rs → first_record changes (take (i + 1) rs) (drop (i + 1) rs) ≡ first_record changes [] rs
tried_next changes rs i r b lt e is none so =
    ap (λ l. first_record changes l (drop (i + 1) rs)) (take_more rs i r lt ∙ ap (λ (x : Record). take i rs ++ x ∷ []) (sym (item_got rs i r e)))
    ∙ (ap (λ c. if c then Some (length (take i rs)) else first_record changes (take i rs ++ r ∷ []) (drop (i + 1) rs)) (sym none) ∙ tried changes rs i r b e is so)
