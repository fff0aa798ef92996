-- Items that are taken out of a list, one place after another.
use Rattle.std.proofs.Common.{◌≡◌, ℕ, ◌<◌, ◌+◌, List, ◌∷◌, ◌++◌, Some, length, drop, slice_get, slice_set, arith, ap, sym, ◌∙◌, append_assoc}
use Rattle.std.specs.List.{flat_map}
use Rattle.std.proofs.lemmas.List.{drop_more, drop-set-lt}
use Rattle.std.proofs.lemmas.Option.{get_or_from_slice_get}
use Rattle.std.proofs.lemmas.Grind.{drop_more_same}
use Rattle.mv_ast.specs.declared.tree.Item.{Item}

-- the items behind the place are as before
pub rest_same : (items whole : List Item) (i : ℕ) (v : Item) → drop i items ≡ drop i whole → drop (i + 1) (slice_set items i v) ≡ drop (i + 1) whole
rest_same items whole i v h = drop-set-lt (i + 1) items i v (omega arith) ∙ drop_more_same items whole i h

-- the item at the place, and those behind it
pub rest_is : (items whole : List Item) (i : ℕ) (x : Item) → i < length items → drop i items ≡ drop i whole → slice_get items i ≡ Some x → drop i whole ≡ x ∷ drop (i + 1) whole
rest_is items whole i x lt h is =
    sym h ∙ (drop_more items i x lt ∙ (ap (λ y. y ∷ drop (i + 1) items) (get_or_from_slice_get items i x x is) ∙ ap (λ l. x ∷ l) (drop_more_same items whole i h)))

-- what f makes of the items so far, and of one more
pub one_on : {A : Type 0} (f : Item → List A) (whole : List Item) (i : ℕ) (x : Item) (old new : List A) → drop i whole ≡ x ∷ drop (i + 1) whole → new ≡ old ++ f x
    → old ++ flat_map f (drop i whole) ≡ flat_map f whole → new ++ flat_map f (drop (i + 1) whole) ≡ flat_map f whole
one_on f whole i x old new d e h =
    rw e (append_assoc old (f x) (flat_map f (drop (i + 1) whole)) ∙ (ap (λ l. old ++ flat_map f l) (sym d) ∙ h))
