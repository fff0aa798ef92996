-- The script that a command takes of its input is one, or there is one refusal.
use Rattle.std.proofs.Common.{◌≡◌, ◌⊎◌, inl, inr, ◌<◌, ◌≤◌, ℕ, cond, List, length, Result, Ok, Err, refl, sym, ap, subst, ◌∙◌, arith, lt-ltb}
use Rattle.std.proofs.lemmas.Bool.{cases_lt}
use Rattle.std.specs.Prelude.{MatchResult}
use Rattle.mv_catalog.specs.declared.resolved.Program.{Program}
use Rattle.mv_accept.specs.declared.refusal.ScriptRefusal.TheVariants.{TooLong}
use Rattle.mv_accept.specs.Accepting.{most_bytes, Accepts, Refuses}
use Rattle.mv_accept.proofs.Sizes.{accepted_are_few, too_many_are_told, too_many_are_refused}
use Rattle.mv_words.specs.declared.command.Command.{Command}
use Rattle.mv_words.specs.declared.command.Command.TheVariants.{Run, Replay, Serial, Graph, Tpcc, Audit, Why}
use Rattle.mv_top.specs.declared.refusal.Refusal.{Refusal}
use Rattle.mv_top.specs.declared.refusal.Refusal.TheVariants.{Script}
use Rattle.mv_top.specs.Parts.{parts_of, script_by}
use Rattle.mv_top.specs.Inputs.{script_in}
use Rattle.mv_top.specs.Answers.{AcceptsScript, IsRefusedBy, by_input, by_script, by_program}

-- One script, or one refusal

pub one_script : (command : Command) (bytes script other : List ℕ) → script_in command bytes ≡ Ok script → script_in command bytes ≡ Ok other → script ≡ other
one_script command bytes script other is was = let same = sym is ∙ was in cc

pub not_refused : (command : Command) (bytes script : List ℕ) (r : Refusal) → script_in command bytes ≡ Ok script → script_in command bytes ≡ Err r → ⊥
not_refused command bytes script r is none = let bad = sym is ∙ none in cc

abbrev Is : Program → Result (List ℕ) Refusal → Type 0
Is p taken = MatchResult taken (λ script. Accepts script p) (λ refusal. ⊥)

pub accepted_script : (command : Command) (bytes script : List ℕ) (p : Program) → script_in command bytes ≡ Ok script → AcceptsScript command bytes p → Accepts script p
accepted_script command bytes script p is h = subst (Is p) is h

pub accepts_script : (command : Command) (bytes script : List ℕ) (p : Program) → script_in command bytes ≡ Ok script → Accepts script p → AcceptsScript command bytes p
accepts_script command bytes script p is h = subst (Is p) (sym is) h

pub none_accepted : (command : Command) (bytes : List ℕ) (r : Refusal) (p : Program) → script_in command bytes ≡ Err r → AcceptsScript command bytes p → ⊥
none_accepted command bytes r p none h = subst (Is p) none h

-- an input of which no script is taken is refused for this alone
pub input_is_told : (command : Command) (bytes : List ℕ) (r q : Refusal) → script_in command bytes ≡ Err r → IsRefusedBy command bytes q → r ≡ q
input_is_told command bytes r q none (by_input s other) = let same = sym none ∙ other in cc
input_is_told command bytes r q none (by_script script s is cause) = absurd (not_refused command bytes script r is none)
input_is_told command bytes r q none (by_program p s accepted why) = absurd (none_accepted command bytes r p none accepted)

-- each command but `audit` takes all bytes
pub takes_all : (command : Command) (bytes : List ℕ) → ((rounds : ℕ) → command ≡ Audit rounds → ⊥) → script_in command bytes ≡ Ok bytes
takes_all (Run threads options) bytes other = refl
takes_all (Replay options) bytes other = refl
takes_all Serial bytes other = refl
takes_all Graph bytes other = refl
takes_all (Tpcc load script threads options) bytes other = refl
takes_all (Audit rounds) bytes other = absurd (other rounds refl)
takes_all (Why options) bytes other = refl

-- Too many bytes

-- they are all taken as a script, or refused as too many
too_many : (command : Command) (bytes : List ℕ) → most_bytes < length bytes → (script_in command bytes ≡ Ok bytes) ⊎ (script_in command bytes ≡ Err (Script TooLong))
too_many (Run threads options) bytes more = inl refl
too_many (Replay options) bytes more = inl refl
too_many Serial bytes more = inl refl
too_many Graph bytes more = inl refl
too_many (Tpcc load script threads options) bytes more = inl refl
too_many (Why options) bytes more = inl refl
too_many (Audit rounds) bytes more = inr (ap (λ b. cond b (Err (Script TooLong)) (script_by (parts_of bytes))) (lt-ltb most_bytes (length bytes) more))

not_accepted : (command : Command) (bytes : List ℕ) (p : Program) → most_bytes < length bytes → AcceptsScript command bytes p → ⊥
not_accepted command bytes p more h =
    elim (too_many command bytes more) [
      | inl is ↦ let few : length bytes ≤ most_bytes = accepted_are_few bytes p (accepted_script command bytes bytes p is h) in omega (arith, few, more)
      | inr none ↦ none_accepted command bytes (Script TooLong) p none h
    ]

-- the bytes of an accepted script aren't too many
pub accepted_is_few : (command : Command) (bytes : List ℕ) (p : Program) → AcceptsScript command bytes p → length bytes ≤ most_bytes
accepted_is_few command bytes p h = elim (cases_lt most_bytes (length bytes)) [ inl more ↦ absurd (not_accepted command bytes p more h) | inr few ↦ few ]

pub too_many_refused : (command : Command) (bytes : List ℕ) → most_bytes < length bytes → IsRefusedBy command bytes (Script TooLong)
too_many_refused command bytes more =
    elim (too_many command bytes more) [
      | inl is ↦ by_script bytes TooLong is (too_many_are_refused bytes more)
      | inr none ↦ by_input (Script TooLong) none
    ]

told_of_all : (command : Command) (bytes : List ℕ) (r : Refusal) → most_bytes < length bytes → script_in command bytes ≡ Ok bytes → IsRefusedBy command bytes r → r ≡ Script TooLong
told_of_all command bytes r more is (by_input q none) = absurd (not_refused command bytes bytes q is none)
told_of_all command bytes r more is (by_script script q was cause) =
    ap (λ x. Script x) (too_many_are_told bytes q more (subst (λ (xs : List ℕ). Refuses xs q) (one_script command bytes script bytes was is) cause))
told_of_all command bytes r more is (by_program p q accepted why) = absurd (not_accepted command bytes p more accepted)

pub too_many_told : (command : Command) (bytes : List ℕ) (r : Refusal) → most_bytes < length bytes → IsRefusedBy command bytes r → r ≡ Script TooLong
too_many_told command bytes r more cause =
    elim (too_many command bytes more) [
      | inl is ↦ told_of_all command bytes r more is cause
      | inr none ↦ sym (input_is_told command bytes (Script TooLong) r none cause)
    ]
