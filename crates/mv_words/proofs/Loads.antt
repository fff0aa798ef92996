-- The load of a command that words say is in its range.
use Rattle.std.proofs.Common.{◌≡◌, ◌≤◌, ℕ, Bool, true, false, List, [], ◌∷◌, Option, Some, None, length, refl, subst, arith}
use Rattle.std.specs.Prelude.{if◌then◌else◌, is_some, codes, bytes_eq, nat_lt, ◌||◌, IfSome, IfOk, Result, Ok, Err}
use Rattle.std.specs.Option.{option_and_then, unwrap_or}
use Rattle.std.specs.List.{before_first, after_first}
use Rattle.std.proofs.lemmas.Bool.{ltb-false}
use Rattle.mv_journal.specs.Reading.{number_in}
use Rattle.mv_tpccgen.specs.Loads.{IsLoad}
use Rattle.mv_words.specs.declared.command.Command.{Command}
use Rattle.mv_words.specs.declared.command.Command.TheVariants.{Run, Replay, Serial, Graph, Audit, Why}
use Rattle.mv_words.specs.declared.command.WordsFault.{WordsFault}
use Rattle.mv_words.specs.declared.reading.Given.{Given}
use Rattle.mv_words.specs.Words.{within, number, nothing, once, given, is_equals, is_joined, with_script, given_by, gives_load, is_nothing, load_of, options_of, run_with, replay_with, tpcc_with, audit_with, why_with, rounds_of, command_with, command_of, NamesCommand, HasLoad}

-- What holds of a value, whichever way it came

choose : {A : Type 0} (P : A → Type 0) (b : Bool) (x y : Option A) → IfSome x P → IfSome y P → IfSome (if b then x else y) P
choose P true x y p q = p
choose P false x y p q = q

follow : {A B : Type 0} (P : A → Type 0) (Q : B → Type 0) (f : A → Option B) (o : Option A) → IfSome o P → ((x : A) → P x → IfSome (f x) Q) → IfSome (option_and_then f o) Q
follow P Q f None p to = tt
follow P Q f (Some x) p to = to x p

default : (P : ℕ → Type 0) (o : Option ℕ) (d : ℕ) → IfSome o P → P d → P (unwrap_or o d)
default P None d p q = q
default P (Some n) d p q = p

-- Numbers

abbrev IsWithin : ℕ → ℕ → ℕ → Type 0
IsWithin least most n = (least ≤ n) × (n ≤ most)

within_by : (least most n : ℕ) (less more : Bool) → nat_lt n least ≡ less → nat_lt most n ≡ more → IfSome (if less || more then None else Some n) (IsWithin least most)
within_by least most n true more e f = tt
within_by least most n false true e f = tt
within_by least most n false false e f = (ltb-false n least e, ltb-false most n f)

number_is : (least most : ℕ) (digits : List ℕ) → IfSome (number least most digits) (IsWithin least most)
number_is least most digits =
    choose (IsWithin least most) (nat_lt 10 (length digits)) None (option_and_then (within least most) (number_in digits)) tt (read (number_in digits))
  where
    read : (o : Option ℕ) → IfSome (option_and_then (within least most) o) (IsWithin least most)
    read None = tt
    read (Some n) = within_by least most n (nat_lt n least) (nat_lt most n) refl refl

-- Options

-- the options of a load are in their ranges
abbrev IsFit : Given → Type 0
IsFit g = IfSome g.warehouses (IsWithin 1 16) × IfSome g.calls (IsWithin 0 40000)

once_fits : (already : Option ℕ) (with' : ℕ → Given) (value : Option ℕ) (least most : ℕ) → IfSome value (IsWithin least most) → ((n : ℕ) → IsWithin least most n → IsFit (with' n)) → IfSome (once already with' value) IsFit
once_fits (Some m) with' value least most is fits = tt
once_fits None with' None least most is fits = tt
once_fits None with' (Some n) least most is fits = fits n is

given_fits : (g : Given) (name value : List ℕ) → IsFit g → IfSome (given g name value) IsFit
given_fits g name value fit =
    choose IsFit (bytes_eq name (codes "--threads")) _ _ (once_fits g.threads _ (number 1 64 value) 1 64 (number_is 1 64 value) (λ n is. fit))
    (choose IsFit (bytes_eq name (codes "--rounds")) _ _ (once_fits g.rounds _ (number 0 100 value) 0 100 (number_is 0 100 value) (λ n is. fit))
    (choose IsFit (bytes_eq name (codes "--horizon")) _ _ (once_fits g.horizon _ (number 1 4294967295 value) 1 4294967295 (number_is 1 4294967295 value) (λ n is. fit))
    (choose IsFit (bytes_eq name (codes "--warehouses")) _ _ (once_fits g.warehouses _ (number 1 16 value) 1 16 (number_is 1 16 value) (λ n is. (is, fit.1)))
    (choose IsFit (bytes_eq name (codes "--calls")) _ _ (once_fits g.calls _ (number 0 40000 value) 0 40000 (number_is 0 40000 value) (λ n is. (fit.0, is)))
    (choose IsFit (bytes_eq name (codes "--seed")) _ _ (once_fits g.seed _ (number 0 4294967295 value) 0 4294967295 (number_is 0 4294967295 value) (λ n is. fit)) tt)))))

script_fits : (g : Given) → IsFit g → IfSome (with_script g) IsFit
script_fits g fit = choose IsFit g.script None (Some (record g { script = true })) tt fit

given_by_fits : (g : Given) (words : List (List ℕ)) → IsFit g → IfSome (given_by g words) IsFit
given_by_fits g [] fit = fit
given_by_fits g (word ∷ []) fit =
    choose IsFit (is_joined word) _ _ (follow IsFit IsFit (λ h. given_by h []) (given g (before_first is_equals word) (after_first is_equals word)) (given_fits g (before_first is_equals word) (after_first is_equals word) fit) (λ h k. k))
    (choose IsFit (bytes_eq word (codes "--script")) _ _ (follow IsFit IsFit (λ h. given_by h []) (with_script g) (script_fits g fit) (λ h k. k)) tt)
given_by_fits g (word ∷ next ∷ more) fit =
    choose IsFit (is_joined word) _ _
    (follow IsFit IsFit (λ h. given_by h (next ∷ more)) (given g (before_first is_equals word) (after_first is_equals word)) (given_fits g (before_first is_equals word) (after_first is_equals word) fit) (λ h k. given_by_fits h (next ∷ more) k))
    (choose IsFit (bytes_eq word (codes "--script")) _ _ (follow IsFit IsFit (λ h. given_by h (next ∷ more)) (with_script g) (script_fits g fit) (λ h k. given_by_fits h (next ∷ more) k))
    (follow IsFit IsFit (λ h. given_by h more) (given g word next) (given_fits g word next fit) (λ h k. given_by_fits h more k)))

-- Commands

load_is : (g : Given) → IsFit g → IsLoad (load_of g)
load_is g fit =
    let warehouses = default (IsWithin 1 16) g.warehouses 1 fit.0 (omega arith, omega arith) in
    let calls = default (IsWithin 0 40000) g.calls 1000 fit.1 (omega arith, omega arith) in
    record { some = warehouses.0; few = warehouses.1; calls = calls.1 }

command_fits : (name : List ℕ) (g : Given) → IsFit g → IfSome (command_with name g) HasLoad
command_fits name g fit =
    choose HasLoad (bytes_eq name (codes "run")) (run_with g) _ (choose HasLoad (gives_load g) None (Some (Run (unwrap_or g.threads 1) (options_of g))) tt tt)
    (choose HasLoad (bytes_eq name (codes "replay")) (replay_with g) _ (choose HasLoad (gives_load g || is_some g.threads) None (Some (Replay (options_of g))) tt tt)
    (choose HasLoad (bytes_eq name (codes "tpcc")) (Some (tpcc_with g)) _ (load_is g fit)
    (choose HasLoad (bytes_eq name (codes "audit")) (audit_with g) _ (choose HasLoad (gives_load g || (is_some g.threads || is_some g.horizon)) None (Some (Audit (rounds_of g))) tt tt)
    (choose HasLoad (bytes_eq name (codes "why")) (why_with g) _ (choose HasLoad (gives_load g || is_some g.threads) None (Some (Why (options_of g))) tt tt)
    (choose HasLoad (bytes_eq name (codes "serial")) _ _ (choose HasLoad (is_nothing g) (Some Serial) None tt tt)
    (choose HasLoad (bytes_eq name (codes "graph")) _ None (choose HasLoad (is_nothing g) (Some Graph) None tt tt) tt))))))

words_fit : (words : List (List ℕ)) → IfSome (command_of words) HasLoad
words_fit [] = tt
words_fit (name ∷ words) = follow IsFit HasLoad (command_with name) (given_by nothing words) (given_by_fits nothing words (tt, tt)) (λ g fit. command_fits name g fit)

-- a command that is read has a load in its range
pub load_read : (words : List (List ℕ)) (r : Result Command WordsFault) → NamesCommand (command_of words) r → IfOk r HasLoad
load_read words (Ok command) said = subst (λ (o : Option Command). IfSome o HasLoad) said (words_fit words)
load_read words (Err fault) said = tt
