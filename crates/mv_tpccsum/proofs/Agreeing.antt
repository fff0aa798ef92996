-- What the totals of groups tell of the numbers.
use Rattle.std.proofs.Common.{◌<◌, ◌+◌, drop, map, slice_index_or, ◌≡◌, ◌∙◌, ◌-ℤ◌, ◌+ℤ◌, ◌&&◌, ℕ, ℤ, Bool, true, false, List, [], ◌∷◌, Option, Some, None, length, pos, refl, sym, ap, ap₂}
use Rattle.std.specs.List.{list_all}
use Rattle.std.specs.Option.{option_map_or}
use Rattle.std.specs.Ordering.{int_eq}
use Rattle.mv_values.specs.declared.value.Value.{Value}
use Rattle.mv_values.specs.declared.rows.Keyed.{Keyed}
use Rattle.mv_values.specs.Columns.{column_of, columns_of, number}
use Rattle.mv_table.specs.Entries.{item_of}
use Rattle.mv_tpccsum.specs.declared.totals.Totals.{Totals}
use Rattle.mv_tpccsum.specs.declared.consistent.Orders.{Orders}
use Rattle.mv_tpccsum.specs.Tables.{Entry, entry_of, sum_of}
use Rattle.mv_tpccsum.specs.Consistent.{Books, district_agrees, has_largest, is_dense, is_queue, numbers_of, smallest, warehouse_agrees}
use Rattle.mv_tpccsum.proofs.Loops.{drop_at}
use Rattle.mv_tpccsum.specs.Grouping.{IsGroups, IsOrders, IsTotalsOf, HasTotals, count_at, ends_at, is_sum, orders_agree, queues, sum_at}

pub sum_told : (n : ℕ) (zs : List ℤ) (o : Option Totals) → HasTotals n zs o → sum_at o ≡ sum_of zs
sum_told n zs None h = sym (ap sum_of h)
sum_told n zs (Some t) h = h.sum

count_told : (n : ℕ) (zs : List ℤ) (o : Option Totals) → HasTotals n zs o → count_at o ≡ length zs
count_told n zs None h = sym (ap (λ (l : List ℤ). length l) h)
count_told n zs (Some t) h = h.count

end_told : (n : ℕ) (zs : List ℤ) (o : Option Totals) (z : ℤ) → HasTotals n zs o → ends_at z o ≡ has_largest z zs
end_told n zs None z h = sym (ap (has_largest z) h)
end_told n zs (Some t) z h = sym (ap (λ (m : Option ℤ). option_map_or (int_eq z) m false) h.most)

dense_told : (n : ℕ) (zs : List ℤ) (t : Totals) → IsTotalsOf n zs t → is_dense zs ≡ int_eq (t.most -ℤ t.least +ℤ pos 1) (pos t.count)
dense_told n zs t h =
    ap (λ (m : Option ℤ). option_map_or (λ most. option_map_or (λ least. int_eq (most -ℤ least +ℤ pos 1) (pos (length zs))) (smallest zs) false) m false) h.most
    ∙ (ap (λ (m : Option ℤ). option_map_or (λ least. int_eq (t.most -ℤ least +ℤ pos 1) (pos (length zs))) m false) h.least
    ∙ ap (λ c. int_eq (t.most -ℤ t.least +ℤ pos 1) (pos c)) (sym h.count))

queue_told : (n : ℕ) (zs : List ℤ) (o : Option Totals) (z : ℤ) → HasTotals n zs o → queues z o ≡ is_queue z zs
queue_told n zs None z h = sym (ap (is_queue z) h)
queue_told n zs (Some t) z h =
    ap (λ b. int_eq z t.most && b) (sym (dense_told n zs t h)) ∙ sym (ap (λ (m : Option ℤ). option_map_or (λ most. int_eq z most && is_dense zs) m true) h.most)

-- the orders of a district agree by their groups as by their rows
district_told : (b : Books) (o : Orders) (e : Entry) → IsOrders b o → orders_agree o e ≡ district_agrees b e
district_told b o e h =
    ap₂ ◌&&◌ (end_told h.bound.0 (numbers_of b.orders e.0) (item_of o.orders e.0) (e.1 -ℤ pos 1) (h.orders e.0))
    (ap₂ ◌&&◌ (queue_told h.bound.1 (numbers_of b.new_orders e.0) (item_of o.new_orders e.0) (e.1 -ℤ pos 1) (h.new_orders e.0))
    (ap₂ int_eq (sum_told h.bound.2 (numbers_of b.counts e.0) (item_of o.counts e.0) (h.counts e.0))
    (ap (λ (n : ℕ). pos n) (count_told h.bound.3 (numbers_of b.lines e.0) (item_of o.lines e.0) (h.lines e.0)))))

all_same : {X : Type 0} (p q : X → Bool) → ((x : X) → p x ≡ q x) → (xs : List X) → list_all p xs ≡ list_all q xs
all_same p q same [] = refl
all_same p q same (x ∷ xs) = ap₂ ◌&&◌ (same x) (all_same p q same xs)

-- the districts agree by the groups of their orders as by their rows
pub districts_told : (b : Books) (o : Orders) (es : List Entry) → es ≡ b.districts → IsOrders b o → list_all (orders_agree o) es ≡ list_all (district_agrees b) b.districts
districts_told b o es are h = all_same (orders_agree o) (district_agrees b) (λ e. district_told b o e h) es ∙ ap (list_all (district_agrees b)) are

-- the warehouses agree by the groups of their districts as by their rows
pub warehouses_told : (b : Books) (n : ℕ) (es shares : List Entry) (groups : List (List Value × Totals)) → es ≡ b.warehouses → shares ≡ b.shares → IsGroups n shares groups
    → list_all (is_sum groups) es ≡ list_all (warehouse_agrees b) b.warehouses
warehouses_told b n es shares groups are shares_are h =
    all_same (is_sum groups) (warehouse_agrees b) (λ e.
    ap (int_eq e.1) (sum_told n (numbers_of shares e.0) (item_of groups e.0) (h e.0) ∙ ap (λ (l : List Entry). sum_of (numbers_of l e.0)) shares_are)) es
    ∙ ap (list_all (warehouse_agrees b)) are

-- the entry of a row is the first of those from there on
entry_at : (places : List ℕ) (place : ℕ) (rows : List Keyed) (i : ℕ) (item : Keyed) (key : List Value) (z : ℤ) → i < length rows → item ≡ slice_index_or rows i item
    → columns_of item.row places ≡ key → number (column_of item.row place) ≡ z
    → map (entry_of places place) (drop i rows) ≡ (key, z) ∷ map (entry_of places place) (drop (i + 1) rows)
entry_at places place rows i item key z lt is key_is z_is =
    ap (map (entry_of places place)) (drop_at rows i item lt is)
    ∙ ap₂ (λ (k : List Value) (n : ℤ). (k, n) ∷ map (entry_of places place) (drop (i + 1) rows)) key_is z_is

-- a row that passes leaves the rest to decide, and one that fails decides
pub row_told : (p : Entry → Bool) (places : List ℕ) (place : ℕ) (rows : List Keyed) (i : ℕ) (item : Keyed) (key : List Value) (z : ℤ) (told whole : Bool) → i < length rows
    → item ≡ slice_index_or rows i item → columns_of item.row places ≡ key → number (column_of item.row place) ≡ z → p (key, z) ≡ told
    → list_all p (map (entry_of places place) (drop i rows)) ≡ whole → (told && list_all p (map (entry_of places place) (drop (i + 1) rows))) ≡ whole
row_told p places place rows i item key z told whole lt is key_is z_is tells so_far =
    sym (ap (λ b. b && list_all p (map (entry_of places place) (drop (i + 1) rows))) tells)
    ∙ (sym (ap (list_all p) (entry_at places place rows i item key z lt is key_is z_is)) ∙ so_far)
