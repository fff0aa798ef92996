-- The calls, each from its draws in order, and their text. The mix of procedures is that of TPC-C 5.11, 5.2.3.
use Rattle.std.specs.Prelude.{ℕ, ◌+◌, ◌==◌, ◌&&◌, Bool, nat_lt, nat_le, List, [], ◌∷◌, ◌++◌, codes, decimal, if◌then◌else◌}
use Rattle.std.specs.List.{join_by}
use Rattle.mv_tpccgen.specs.declared.request.Customer.{Customer}
use Rattle.mv_tpccgen.specs.declared.request.Customer.TheVariants.{ByNumber, ByName}
use Rattle.mv_tpccgen.specs.declared.request.District.{District}
use Rattle.mv_tpccgen.specs.declared.request.Line.{Line}
use Rattle.mv_tpccgen.specs.declared.request.Request.{Request}
use Rattle.mv_tpccgen.specs.declared.request.Request.TheVariants.{NewOrder, Payment, OrderStatus, Delivery, StockLevel}
use Rattle.mv_tpccgen.specs.Draws.{Draw, ◌>>=◌, done, random, nurand, other, each}
use Rattle.mv_tpccgen.specs.Names.{last_name}
use Rattle.mv_tpccgen.specs.Writing.{joined, call}

-- the warehouse that supplies a line: in one of a hundred lines another one, where there are several
unfoldable pub supplier : ℕ → ℕ → Draw ℕ
supplier warehouses w =
    random 1 100 >>= λ y.
    if (y == 1) && nat_lt 1 warehouses then other warehouses w else done w

-- a line of an order; there is no item 1001
unfoldable pub order_line : ℕ → ℕ → Bool → Draw Line
order_line warehouses w invalid =
    nurand 8191 1 1000 >>= λ i.
    supplier warehouses w >>= λ s.
    random 1 10 >>= λ q.
    done (record { item = if invalid then 1001 else i; supplier = s; quantity = q })

-- 5 to 15 lines, and in one of a hundred orders the last one has no valid item
unfoldable pub new_order : ℕ → ℕ → Draw Request
new_order warehouses w =
    random 1 10 >>= λ d.
    nurand 1023 1 30 >>= λ c.
    random 5 15 >>= λ count.
    random 1 100 >>= λ z.
    each (λ j. order_line warehouses w ((z == 1) && (j + 1 == count))) count >>= λ lines.
    done (NewOrder (record { warehouse = w; number = d }) c lines)

-- where the customer of a payment is at home: in fifteen of a hundred in a district of another warehouse, where there are several
unfoldable pub home : ℕ → District → Draw District
home warehouses district =
    random 1 100 >>= λ x.
    if nat_lt 85 x && nat_lt 1 warehouses
    then other warehouses district.warehouse >>= (λ w. random 1 10 >>= (λ d. done (record { warehouse = w; number = d })))
    else done district

-- a customer, in sixty of a hundred by last name
unfoldable pub customer : Draw Customer
customer =
    random 1 100 >>= λ y.
    if nat_le y 60
    then nurand 255 0 9 >>= (λ name. done (ByName name))
    else nurand 1023 1 30 >>= (λ c. done (ByNumber c))

unfoldable pub payment : ℕ → ℕ → ℕ → Draw Request
payment warehouses w k =
    random 1 10 >>= λ d.
    home warehouses (record { warehouse = w; number = d }) >>= λ at.
    customer >>= λ c.
    random 100 500000 >>= λ amount.
    done (Payment (record { warehouse = w; number = d }) at c amount (1000000 + k))

unfoldable pub order_status : ℕ → Draw Request
order_status w =
    random 1 10 >>= λ d.
    customer >>= λ c.
    done (OrderStatus (record { warehouse = w; number = d }) c)

unfoldable pub delivery : ℕ → Draw Request
delivery w =
    random 1 10 >>= λ carrier.
    done (Delivery w carrier)

unfoldable pub stock_level : ℕ → Draw Request
stock_level w =
    random 1 10 >>= λ d.
    random 10 20 >>= λ threshold.
    done (StockLevel (record { warehouse = w; number = d }) threshold)

-- call k
unfoldable pub request : ℕ → ℕ → Draw Request
request warehouses k =
    random 1 warehouses >>= λ w.
    random 1 100 >>= λ t.
    if nat_le t 45 then new_order warehouses w
    else (if nat_le t 88 then payment warehouses w k
    else (if nat_le t 92 then order_status w
    else (if nat_le t 96 then delivery w
    else stock_level w)))

abbrev pub quoted : List ℕ → List ℕ
quoted text = codes "'" ++ (text ++ codes "'")

-- a customer's number, or 0, and the last name, or no text
abbrev pub customer_number : Customer → List ℕ
customer_number (ByNumber c) = decimal c
customer_number (ByName name) = codes "0"

abbrev pub customer_name : Customer → List ℕ
customer_name (ByNumber c) = quoted []
customer_name (ByName name) = quoted (last_name name)

unfoldable pub line_text : Line → List ℕ
line_text line = codes "(" ++ joined (codes ", ") (codes ")") (decimal line.item ∷ decimal line.supplier ∷ decimal line.quantity ∷ [])

abbrev pub lines_text : List Line → List ℕ
lines_text lines = join_by line_text (codes ", ") lines

unfoldable pub call_text : Request → List ℕ
call_text (NewOrder at c lines) = call (codes "new_order") (codes ", ROWS (" ++ (lines_text lines ++ codes "));\n"))
    (decimal at.warehouse ∷ decimal at.number ∷ decimal c ∷ codes "20170515" ∷ [])
call_text (Payment at home c amount entry) = call (codes "payment") (codes ");\n") (
    decimal at.warehouse ∷ decimal at.number ∷ decimal home.warehouse ∷ decimal home.number ∷ customer_number c ∷ customer_name c ∷
    decimal amount ∷ codes "20170515" ∷ decimal entry ∷ [])
call_text (OrderStatus at c) = call (codes "order_status") (codes ");\n")
    (decimal at.warehouse ∷ decimal at.number ∷ customer_number c ∷ customer_name c ∷ [])
call_text (Delivery w carrier) = call (codes "delivery") (codes ");\n") (decimal w ∷ decimal carrier ∷ codes "20170515" ∷ [])
call_text (StockLevel at threshold) = call (codes "stock_level") (codes ");\n")
    (decimal at.warehouse ∷ decimal at.number ∷ decimal threshold ∷ [])
