-- The rows that the tables begin with. TPC-C draws them at random; these formulas are this project's own.
use Rattle.std.specs.Prelude.{ℕ, ◌+◌, ◌-◌, ◌*◌, ◌/◌, ◌%◌, ◌==◌, Bool, nat_lt, List, [], ◌∷◌, ◌++◌, codes, decimal, if◌then◌else◌}
use Rattle.mv_tpccgen.specs.Names.{last_name}
use Rattle.mv_tpccgen.specs.Writing.{row}

abbrev pub warehouse_row : ℕ → List ℕ
warehouse_row w = row (decimal w ∷ (codes "W" ++ decimal w) ∷ decimal (173 * w % 2001) ∷ codes "30000000" ∷ [])

abbrev pub district_row : ℕ → ℕ → List ℕ
district_row w d = row (decimal w ∷ decimal d ∷ (codes "D" ++ decimal d) ∷ decimal ((31 * w + 97 * d) % 2001) ∷ codes "3000000" ∷ codes "31" ∷ [])

-- `F` and the two digits of 7 times a customer's number, modulo 30
unfoldable pub first_name : ℕ → List ℕ
first_name c = codes "F" ++ (decimal (7 * c % 30 / 10) ++ decimal (7 * c % 30 % 10))

abbrev pub credit : ℕ → List ℕ
credit c = if c % 10 == 0 then codes "BC" else codes "GC"

abbrev pub customer_row : ℕ → ℕ → ℕ → List ℕ
customer_row w d c = row (
    decimal w ∷ decimal d ∷ decimal c ∷ first_name c ∷ codes "OE" ∷ last_name ((c - 1) % 10) ∷ credit c ∷
    decimal (13 * c % 5001) ∷ codes "-1000" ∷ codes "1000" ∷ codes "1" ∷ codes "0" ∷ codes "opening" ∷ [])

abbrev pub history_row : ℕ → ℕ → ℕ → List ℕ
history_row w d c = row (
    decimal (300 * (w - 1) + 30 * (d - 1) + c) ∷ decimal c ∷ decimal d ∷ decimal w ∷ decimal d ∷ decimal w ∷
    codes "20170514" ∷ codes "1000" ∷ codes "opening" ∷ [])

-- the orders from 22 on are not delivered
abbrev pub is_delivered : ℕ → Bool
is_delivered o = nat_lt o 22

abbrev pub new_order_row : ℕ → ℕ → ℕ → List ℕ
new_order_row w d o = if is_delivered o then [] else row (decimal w ∷ decimal d ∷ decimal o ∷ [])

-- the number of lines of an order
abbrev pub line_count : ℕ → ℕ
line_count o = 5 + o % 11

abbrev pub carrier : ℕ → ℕ
carrier o = if is_delivered o then 1 + o % 10 else 0

abbrev pub orders_row : ℕ → ℕ → ℕ → List ℕ
orders_row w d o = row (
    decimal w ∷ decimal d ∷ decimal o ∷ decimal (7 * o % 30 + 1) ∷ decimal 20170514 ∷ decimal (carrier o) ∷
    decimal (line_count o) ∷ codes "1" ∷ [])

abbrev pub delivery_date : ℕ → ℕ
delivery_date o = if is_delivered o then 20170514 else 0

abbrev pub amount : ℕ → ℕ → ℕ
amount o j = if is_delivered o then 0 else 100 * j

abbrev pub order_line_row : ℕ → ℕ → ℕ → ℕ → List ℕ
order_line_row w d o j = row (
    decimal w ∷ decimal d ∷ decimal o ∷ decimal j ∷ decimal ((10 * o + j) % 1000 + 1) ∷ decimal w ∷ decimal (delivery_date o) ∷
    decimal 5 ∷ decimal (amount o j) ∷ [])

-- the data of one item in ten, and of the others
abbrev pub original : ℕ → List ℕ
original number = if number % 10 == 0 then codes "ORIGINAL" else codes "plain"

abbrev pub item_row : ℕ → List ℕ
item_row i = row (
    decimal i ∷ (codes "item" ++ decimal i) ∷ decimal (100 + 37 * i % 9901) ∷ original i ∷ [])

abbrev pub stock_row : ℕ → ℕ → List ℕ
stock_row w i = row (
    decimal w ∷ decimal i ∷ decimal (10 + i % 91) ∷ codes "0" ∷ codes "0" ∷ codes "0" ∷ original (w + i) ∷ [])
