-- Putting rows in order.
use Rattle.std.proofs.Common.{◌≡◌, suc, true, false, List, [], ◌∷◌, refl, ap, ◌∙◌, arith}
use Rattle.std.specs.Ordering.{is_le}
use Rattle.std.specs.declared.cmp.Ordering.{Ordering}
use Rattle.std.specs.declared.cmp.Ordering.TheVariants.{Less, Equal, Greater}
use Rattle.mv_values.specs.Keys.{IsRising}
use Rattle.mv_values.specs.declared.rows.Keyed.{Keyed}
use Rattle.mv_eval.specs.Rows.{put_in, sort_order, ordered}

put_before : {A : Type 0} (order : A → A → Ordering) (x y : A) (ys : List A) (o : Ordering) → order x y ≡ o → is_le o ≡ true → put_in order x (y ∷ ys) ≡ x ∷ y ∷ ys
put_before order x y ys Less e h = rw e refl
put_before order x y ys Equal e h = rw e refl
put_before order x y ys Greater e h = cc

put_after : {A : Type 0} (order : A → A → Ordering) (x y : A) (ys : List A) (o : Ordering) → order x y ≡ o → is_le o ≡ false → put_in order x (y ∷ ys) ≡ y ∷ put_in order x ys
put_after order x y ys Less e h = cc
put_after order x y ys Equal e h = cc
put_after order x y ys Greater e h = rw e refl

put_first : (x : Keyed) (rows : List Keyed) → IsRising (x ∷ rows) → put_in (sort_order []) x rows ≡ x ∷ rows
put_first x [] h = refl
put_first x (y ∷ ys) h = put_before (sort_order []) x y ys Less (h 0 1 x (omega arith) (omega arith)) refl

-- rows in key order stay so without ORDER BY
pub sorted_rising : (rows : List Keyed) → IsRising rows → ordered [] rows ≡ rows
sorted_rising [] h = refl
sorted_rising (x ∷ rows) h =
    ap (put_in (sort_order []) x) (sorted_rising rows (λ i j d lt within. h (suc i) (suc j) d (omega (arith, lt)) (omega (arith, within)))) ∙ put_first x rows h
