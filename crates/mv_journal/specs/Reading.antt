-- Defines the event on a line, if the line is one.
use Rattle.std.specs.Prelude.{◌^◌, ◌==◌, ◌&&◌, ℕ, Bool, if◌then◌else◌, List, [], ◌∷◌, Option, Some, None, length, nat_lt}
use Rattle.std.specs.Option.{option_and_then}
use Rattle.std.specs.Str.{all_ascii_digits}
use Rattle.std.specs.Str.Parse.{digits_value}
use Rattle.mv_journal.specs.declared.event.Event.{Event}
use Rattle.mv_journal.specs.declared.event.Event.TheVariants.{B, S, A, M, C, X, R, G}

-- decimal digits, at least one, whose number fits in 32 bits
abbrev pub is_number : List ℕ → Bool
is_number digits = all_ascii_digits digits && (nat_lt 0 (length digits) && nat_lt (digits_value 10 digits) (2 ^ 32))

abbrev pub number_in : List ℕ → Option ℕ
number_in digits = if is_number digits then Some (digits_value 10 digits) else None

-- the event with a letter, and the number of its call
abbrev pub named : ℕ → ℕ → Option Event
named letter call =
    if letter == 66 then Some (B call)
    else (if letter == 83 then Some (S call)
    else (if letter == 65 then Some (A call)
    else (if letter == 77 then Some (M call)
    else (if letter == 67 then Some (C call)
    else (if letter == 88 then Some (X call)
    else (if letter == 82 then Some (R call) else None))))))

abbrev pub event_in : List ℕ → Option Event
event_in [] = None
event_in (letter ∷ []) = if letter == 71 then Some G else None
event_in (letter ∷ space ∷ digits) = if space == 32 then option_and_then (named letter) (number_in digits) else None
