-- What is said of bytes that aren't too many, and of others.
use Rattle.std.proofs.Common.{◌≡◌, inl, inr, ◌<◌, ◌≤◌, ℕ, List, length, refl, arith}
use Rattle.mv_catalog.specs.declared.resolved.Program.{Program}
use Rattle.mv_accept.specs.declared.refusal.ScriptRefusal.{ScriptRefusal}
use Rattle.mv_accept.specs.declared.refusal.ScriptRefusal.TheVariants as why
use Rattle.mv_accept.specs.Accepting.{most_bytes, HasNoTokens, too_long, bad_byte, bad_token, SpellsNothing, StandsForNothing, LoadsNothing, Refuses, Accepts}

-- accepted bytes aren't too many
pub accepted_are_few : (bytes : List ℕ) (program : Program) → Accepts bytes program → length bytes ≤ most_bytes
accepted_are_few bytes program a = a.0.1.1.1.0

no_tokens : (bytes : List ℕ) (refusal : ScriptRefusal) → most_bytes < length bytes → HasNoTokens bytes refusal → refusal ≡ why.TooLong
no_tokens bytes _ more (too_long h) = refl
no_tokens bytes _ more (bad_byte at few h) = absurd (omega arith)
no_tokens bytes _ more (bad_token at few h) = absurd (omega arith)

no_script : (bytes : List ℕ) (refusal : ScriptRefusal) → most_bytes < length bytes → SpellsNothing bytes refusal → refusal ≡ why.TooLong
no_script bytes refusal more (inl h) = no_tokens bytes refusal more h
no_script bytes refusal more (inr h) = absurd (let few : length bytes ≤ most_bytes = h.1.0 in omega arith)

no_meaning : (bytes : List ℕ) (refusal : ScriptRefusal) → most_bytes < length bytes → StandsForNothing bytes refusal → refusal ≡ why.TooLong
no_meaning bytes refusal more (inl h) = no_script bytes refusal more h
no_meaning bytes refusal more (inr h) = absurd (let few : length bytes ≤ most_bytes = h.1.1.0 in omega arith)

no_program : (bytes : List ℕ) (refusal : ScriptRefusal) → most_bytes < length bytes → LoadsNothing bytes refusal → refusal ≡ why.TooLong
no_program bytes refusal more (inl h) = no_meaning bytes refusal more h
no_program bytes refusal more (inr h) = absurd (let few : length bytes ≤ most_bytes = h.1.1.1.0 in omega arith)

-- too many bytes are refused for this alone
pub too_many_are_told : (bytes : List ℕ) (refusal : ScriptRefusal) → most_bytes < length bytes → Refuses bytes refusal → refusal ≡ why.TooLong
too_many_are_told bytes refusal more (inl h) = no_program bytes refusal more h
too_many_are_told bytes refusal more (inr h) = absurd (let few : length bytes ≤ most_bytes = h.1.1.1.1.0 in omega arith)

pub too_many_are_refused : (bytes : List ℕ) → most_bytes < length bytes → Refuses bytes why.TooLong
too_many_are_refused bytes more = inl (inl (inl (inl (too_long more))))
