-- How the fields of a record are parsed as values of columns. The forms are this project's own: a number is an optional
-- `-` and decimal digits, leading zeros allowed, in the range of 64-bit signed integers; a text is bytes from 32 to
-- 126, no more than its column allows.
use Rattle.std.specs.Prelude.{◌≡◌, ◌++◌, ◌∷◌, ◌+◌, ◌^◌, ◌==◌, ◌&&◌, if◌then◌else◌, ℕ, Bool, List, [], map, length, Option, Some, None, option_map, ℤ, pos, neg_ℤ, nat_lt, nat_le}
use Rattle.std.specs.List.{list_all}
use Rattle.std.specs.Str.{all_ascii_digits}
use Rattle.std.specs.Str.Parse.{digits_value}
use Rattle.mv_values.specs.declared.value.Value.{Value}
use Rattle.mv_values.specs.declared.value.Value.TheVariants as value
use Rattle.mv_values.specs.declared.schema.ColType.{ColType}
use Rattle.mv_values.specs.declared.schema.ColType.TheVariants as column
use Rattle.mv_values.specs.declared.schema.Column.{Column}
use Rattle.mv_values.specs.Printable.{is_printable}
use Rattle.mv_csvio.specs.declared.fault.CopyFault.{CopyFault}
use Rattle.mv_csvio.specs.declared.fault.CopyFault.TheVariants as fault

-- one or more decimal digits
abbrev pub are_digits : List ℕ → Bool
are_digits field = all_ascii_digits field && nat_lt 0 (length field)

-- the number that the digits spell, and the negative number that they spell after a `-`
abbrev pub natural : List ℕ → Option ℤ
natural digits = if are_digits digits && nat_lt (digits_value 10 digits) (2 ^ 63) then Some (pos (digits_value 10 digits)) else None

abbrev pub negative : List ℕ → Option ℤ
negative digits = if are_digits digits && nat_le (digits_value 10 digits) (2 ^ 63) then Some (neg_ℤ (pos (digits_value 10 digits))) else None

-- the field as a number, if it is one
abbrev pub number_in : List ℕ → Option ℤ
number_in [] = None
number_in (b ∷ bs) = if b == 45 then negative bs else natural (b ∷ bs)

-- the field is a printable text of at most n bytes
abbrev pub is_text : ℕ → List ℕ → Bool
is_text n field = nat_le (length field) n && list_all is_printable field

-- the field as a value of the type, if it is one
abbrev pub value_in : ColType → List ℕ → Option Value
value_in column.Int field = option_map value.Int (number_in field)
value_in (column.Text n) field = if is_text n field then Some (value.Text field) else None

-- each field as a value of its column
unfoldable pub values_in : List Column → List (List ℕ) → List (Option Value)
values_in [] fields = []
values_in (c ∷ cs) [] = []
values_in (c ∷ cs) (f ∷ fs) = value_in c.kind f ∷ values_in cs fs

-- the record is this row: it has one field for each column, and each field is the column's value
abbrev pub IsRow : List Column → List (List ℕ) → List Value → Type 0
IsRow columns fields row = (length fields ≡ length columns) × (values_in columns fields ≡ map Some row)

-- the record has one field for each column, and the field with this number is the first that isn't a value of its
-- column; columns count from 1
abbrev pub IsFirstMisfit : List Column → List (List ℕ) → ℕ → Type 0
IsFirstMisfit columns fields number =
    (length fields ≡ length columns)
    × (front : List Value) × (rest : List (Option Value))
    × (values_in columns fields ≡ map Some front ++ None ∷ rest)
    × (number ≡ length front + 1)

-- why the record with this number isn't a row
abbrev pub IsNoRow : List Column → List (List ℕ) → ℕ → CopyFault → Type 0
IsNoRow columns fields number (fault.Field r c) = (r ≡ number) × IsFirstMisfit columns fields c
IsNoRow columns fields number (fault.Width r) = (r ≡ number) × ¬ (length fields ≡ length columns)
IsNoRow columns fields number (fault.Duplicate r) = ⊥
IsNoRow columns fields number fault.NoMemory = ⊥
