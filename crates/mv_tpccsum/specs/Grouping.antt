-- What is read of the numbers of a column, and of their groups.
use Rattle.std.specs.Prelude.{◌≡◌, ◌<◌, ◌≤◌, ◌≤ℤ◌, ◌+◌, ◌-◌, ◌+ℤ◌, ◌-ℤ◌, ◌*◌, ◌^◌, ◌&&◌, ℕ, ℤ, Bool, true, false, List, [], Option, Some, None, map, length, pos, neg_ℤ}
use Rattle.std.specs.Int.{int_max, int_min}
use Rattle.std.specs.Ordering.{int_eq}
use Rattle.mv_values.specs.declared.value.Value.{Value}
use Rattle.mv_table.specs.Entries.{item_of}
use Rattle.mv_tpccsum.specs.declared.columns.Numbers.{Numbers}
use Rattle.mv_tpccsum.specs.declared.totals.Totals.{Totals}
use Rattle.mv_tpccsum.specs.declared.consistent.Orders.{Orders}
use Rattle.mv_tpccsum.specs.Tables.{Entry, entry_of, sum_of}
use Rattle.mv_tpccsum.specs.Consistent.{Books, largest, smallest, numbers_of}

-- the numbers with the values by which they are grouped
abbrev pub entries_of : Numbers → List Entry
entries_of n = map (entry_of n.key n.place) n.rows.now

-- the totals of numbers; n is a bound on how many there are
pub record IsTotalsOf (n : ℕ) (zs : List ℤ) (t : Totals) : Type 0 where
  pub sum : t.sum ≡ sum_of zs
  pub least : smallest zs ≡ Some t.least
  pub most : largest zs ≡ Some t.most
  pub count : t.count ≡ length zs
  pub few : t.count ≤ n
  pub low : neg_ℤ (pos (n * 2 ^ 63)) ≤ℤ t.sum
  pub high : t.sum ≤ℤ pos (n * 2 ^ 63)

-- numbers have totals where there are any
abbrev pub HasTotals : ℕ → List ℤ → Option Totals → Type 0
HasTotals n zs None = zs ≡ []
HasTotals n zs (Some t) = IsTotalsOf n zs t

-- the totals of each group
abbrev pub IsGroups : ℕ → List Entry → List (List Value × Totals) → Type 0
IsGroups n es groups = (key : List Value) → HasTotals n (numbers_of es key) (item_of groups key)

-- the totals with one more number
abbrev pub with_number : Option Totals → ℤ → Totals
with_number None z = record { sum = z; least = z; most = z; count = 1 }
with_number (Some t) z = record { sum = t.sum +ℤ z; least = int_min t.least z; most = int_max t.most z; count = t.count + 1 }

-- one more number fits
abbrev pub IsSmall : Option Totals → Type 0
IsSmall None = Unit {0}
IsSmall (Some t) = (t.count + 1 < 2 ^ 64) × (neg_ℤ (pos (2 ^ 127 - 2 ^ 64)) ≤ℤ t.sum) × (t.sum ≤ℤ pos (2 ^ 127 - 2 ^ 64))

-- what the totals of a group tell
abbrev pub sum_at : Option Totals → ℤ
sum_at None = pos 0
sum_at (Some t) = t.sum

abbrev pub count_at : Option Totals → ℕ
count_at None = 0
count_at (Some t) = t.count

abbrev pub ends_at : ℤ → Option Totals → Bool
ends_at z None = false
ends_at z (Some t) = int_eq z t.most

abbrev pub queues : ℤ → Option Totals → Bool
queues z None = true
queues z (Some t) = int_eq z t.most && int_eq (t.most -ℤ t.least +ℤ pos 1) (pos t.count)

-- the groups by district of what is compared with d_next_o_id
pub record IsOrders (b : Books) (o : Orders) : Type 0 where
  pub bound : ℕ × ℕ × ℕ × ℕ
  pub orders : IsGroups bound.0 b.orders o.orders
  pub new_orders : IsGroups bound.1 b.new_orders o.new_orders
  pub counts : IsGroups bound.2 b.counts o.counts
  pub lines : IsGroups bound.3 b.lines o.lines

-- a number is the sum of the group with its key
abbrev pub is_sum : List (List Value × Totals) → Entry → Bool
is_sum groups e = int_eq e.1 (sum_at (item_of groups e.0))

-- the orders of a district agree with its d_next_o_id
abbrev pub orders_agree : Orders → Entry → Bool
orders_agree o e =
    ends_at (e.1 -ℤ pos 1) (item_of o.orders e.0)
    && (queues (e.1 -ℤ pos 1) (item_of o.new_orders e.0)
    && int_eq (sum_at (item_of o.counts e.0)) (pos (count_at (item_of o.lines e.0))))
