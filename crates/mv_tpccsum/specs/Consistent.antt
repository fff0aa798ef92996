-- Whether the final tables of the workload agree. From TPC-C 3.3.2, on the tables of this project.
use Rattle.std.specs.Prelude.{ℤ, Bool, true, false, ◌&&◌, List, [], ◌∷◌, Option, Some, None, map, length, pos, ◌+ℤ◌, ◌-ℤ◌, codes}
use Rattle.std.specs.List.{filter, fold, list_all}
use Rattle.std.specs.Int.{int_max, int_min}
use Rattle.std.specs.Option.{option_map_or}
use Rattle.std.specs.Ordering.{int_eq, is_eq}
use Rattle.mv_values.specs.declared.value.Value.{Value}
use Rattle.mv_values.specs.declared.rows.Keyed.{Keyed}
use Rattle.mv_values.specs.declared.schema.TableInfo.{TableInfo}
use Rattle.mv_values.specs.Order.{key_order}
use Rattle.mv_tpccsum.specs.Tables.{Entry, entries, sum_of}

-- the numbers of a group
abbrev pub numbers_of : List Entry → List Value → List ℤ
numbers_of es key = map (λ e. e.1) (filter (λ e. is_eq (key_order e.0 key)) es)

abbrev pub largest : List ℤ → Option ℤ
largest [] = None
largest (z ∷ zs) = Some (fold int_max z zs)

abbrev pub smallest : List ℤ → Option ℤ
smallest [] = None
smallest (z ∷ zs) = Some (fold int_min z zs)

-- the largest number is this one; there is none where there are no numbers
abbrev pub has_largest : ℤ → List ℤ → Bool
has_largest z zs = option_map_or (int_eq z) (largest zs) false

-- the largest number less the smallest plus 1 is how many there are
abbrev pub is_dense : List ℤ → Bool
is_dense zs = option_map_or (λ most. option_map_or (λ least. int_eq (most -ℤ least +ℤ pos 1) (pos (length zs))) (smallest zs) false) (largest zs) false

-- where there are numbers, the largest is this one, and there is no gap
abbrev pub is_queue : ℤ → List ℤ → Bool
is_queue z zs = option_map_or (λ most. int_eq z most && is_dense zs) (largest zs) true

-- what is compared: of each warehouse w_ytd and the d_ytd of its districts; of each district d_next_o_id, and o_id, no_o_id,
-- o_ol_cnt and the lines of its orders
pub record Books : Type 0 where
  pub warehouses : List Entry
  pub shares : List Entry
  pub districts : List Entry
  pub orders : List Entry
  pub new_orders : List Entry
  pub counts : List Entry
  pub lines : List Entry

-- a warehouse's w_ytd is the sum of its d_ytd
abbrev pub warehouse_agrees : Books → Entry → Bool
warehouse_agrees b w = int_eq w.1 (sum_of (numbers_of b.shares w.0))

-- a district's d_next_o_id - 1 is its largest o_id, and its largest no_o_id where it has new orders, which have no gap; the
-- sum of o_ol_cnt is the number of its order lines
abbrev pub district_agrees : Books → Entry → Bool
district_agrees b d =
    has_largest (d.1 -ℤ pos 1) (numbers_of b.orders d.0)
    && (is_queue (d.1 -ℤ pos 1) (numbers_of b.new_orders d.0)
    && int_eq (sum_of (numbers_of b.counts d.0)) (pos (length (numbers_of b.lines d.0))))

unfoldable pub agrees : Books → Bool
agrees b = list_all (warehouse_agrees b) b.warehouses && list_all (district_agrees b) b.districts

-- the books in the final tables
abbrev pub books : List TableInfo → List (List Keyed) → Books
books tables database = record {
  warehouses = entries tables database (codes "warehouse") (codes "w_id" ∷ []) (codes "w_ytd");
  shares = entries tables database (codes "district") (codes "d_w_id" ∷ []) (codes "d_ytd");
  districts = entries tables database (codes "district") (codes "d_w_id" ∷ codes "d_id" ∷ []) (codes "d_next_o_id");
  orders = entries tables database (codes "orders") (codes "o_w_id" ∷ codes "o_d_id" ∷ []) (codes "o_id");
  new_orders = entries tables database (codes "new_order") (codes "no_w_id" ∷ codes "no_d_id" ∷ []) (codes "no_o_id");
  counts = entries tables database (codes "orders") (codes "o_w_id" ∷ codes "o_d_id" ∷ []) (codes "o_ol_cnt");
  lines = entries tables database (codes "order_line") (codes "ol_w_id" ∷ codes "ol_d_id" ∷ []) (codes "ol_d_id");
}
