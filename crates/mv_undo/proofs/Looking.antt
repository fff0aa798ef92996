-- Answers with a fact, and own writes in order with one more.
use Rattle.std.proofs.Common.{◌≡◌, ◌≤◌, List, [], ◌∷◌, ◌++◌, All, Result, Ok, Err, IfOk, length, length-append, slice_index_or, ap, ◌∙◌, inl, inr, arith}
use Rattle.std.proofs.Math.ListN.{get_or-append}
use Rattle.std.proofs.Math.Seq.{get_or-append_seam}
use Rattle.std.proofs.lemmas.Bool.{cases_lt}
use Rattle.mv_undo.specs.Owned.{Owned}
use Rattle.mv_undo.specs.Owning.{IsInOrder}

pub if_ok : {A E : Type 0} (r : Result A E) (P Q : A → Type 0) → ((a : A) → P a → Q a) → IfOk r P → IfOk r Q
if_ok (Ok a) P Q f h = f a h
if_ok (Err e) P Q f h = tt

pub order_more : (items new : List Owned) (o : Owned) → new ≡ items ++ o ∷ [] → IsInOrder items → All (λ x. x.number ≤ o.number) items → IsInOrder new
order_more items new o is order last = rw is more
  where
    more : IsInOrder (items ++ o ∷ [])
    more i j d lt within =
        elim (cases_lt j (length items)) [
          | inl low ↦
              let left : slice_index_or (items ++ o ∷ []) i d ≡ slice_index_or items i d = get_or-append items (o ∷ []) d i (omega (arith, lt, low)) in
              let right : slice_index_or (items ++ o ∷ []) j d ≡ slice_index_or items j d = get_or-append items (o ∷ []) d j low in
              rw (left, right) (order i j d lt low)
          | inr high ↦
              let there : j ≡ length items = omega (arith, high, within, length-append items (o ∷ [])) in
              let left : slice_index_or (items ++ o ∷ []) i d ≡ slice_index_or items i d = get_or-append items (o ∷ []) d i (omega (arith, lt, there)) in
              let right : slice_index_or (items ++ o ∷ []) j d ≡ o = ap (λ k. slice_index_or (items ++ o ∷ []) k d) there ∙ get_or-append_seam items o [] d in
              rw (left, right) (last i d (omega (arith, lt, there)))
        ]
