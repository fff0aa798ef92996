-- Last names, as in TPC-C 5.11, 4.3.2.3: a syllable for each of three decimal digits.
use Rattle.std.specs.Prelude.{ℕ, ◌/◌, ◌%◌, ◌==◌, List, ◌++◌, codes, if◌then◌else◌}

unfoldable pub syllable : ℕ → List ℕ
syllable digit =
    if digit == 0 then codes "BAR"
    else (if digit == 1 then codes "OUGHT"
    else (if digit == 2 then codes "ABLE"
    else (if digit == 3 then codes "PRI"
    else (if digit == 4 then codes "PRES"
    else (if digit == 5 then codes "ESE"
    else (if digit == 6 then codes "ANTI"
    else (if digit == 7 then codes "CALLY"
    else (if digit == 8 then codes "ATION" else codes "EING"))))))))

-- the name of a number below 1000
unfoldable pub last_name : ℕ → List ℕ
last_name number = syllable (number / 100) ++ (syllable (number / 10 % 10) ++ syllable (number % 10))
