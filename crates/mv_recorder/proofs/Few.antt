-- A table has few columns, so their numbers are bytes.
use Rattle.std.proofs.Common.{◌<◌, ◌==◌, not, ℕ, List, [], ◌∷◌, All, length, arith}
use Rattle.std.proofs.lemmas.List.Elements.{All-nil, All-cons, All-head, All-tail, All-filter, All-weaker}
use Rattle.mv_values.specs.declared.schema.TableInfo.{TableInfo}
use Rattle.mv_values.specs.Tables.{columns_at}
use Rattle.mv_catalog.specs.Text.{IsTable}
use Rattle.mv_recorded.specs.Reading.{each_once}
use Rattle.mv_checks.proofs.Referring.{columns_few}

-- so their numbers are bytes
pub bytes_of : {A : Type 0} (number : A → ℕ) (tables : List TableInfo) (t : ℕ) (xs : List A) → All IsTable tables → All (λ x. number x < length (columns_at tables t)) xs → All (λ x. number x < 256) xs
bytes_of number tables t xs each h = All-weaker (λ x. number x < length (columns_at tables t)) (λ x. number x < 256) (λ x lt. omega (arith, lt, columns_few tables t each)) xs h

-- each of them once
pub once_few : (cs : List ℕ) → All (λ c. c < 256) cs → All (λ c. c < 256) (each_once cs)
once_few [] h = All-nil (λ c. c < 256)
once_few (c ∷ cs) h =
    All-cons (λ c. c < 256) c _ (All-head (λ c. c < 256) c cs h) (All-filter (λ m. not (m == c)) (λ c. c < 256) (each_once cs) (once_few cs (All-tail (λ c. c < 256) c cs h)))
