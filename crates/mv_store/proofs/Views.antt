-- What a view of a store answers.
use Rattle.std.proofs.Common.{◌≡◌, ◌<◌, ◌≤◌, ◌^◌, ℕ, inl, inr, sym, ap, subst, ◌∙◌, arith, rules}
use Rattle.std.specs.Prelude.{nat_lt, Result, Err}
use Rattle.std.proofs.lemmas.Bool.{cases_lt}
use Rattle.mv_values.specs.Counts.{greatest_count, one_more, Rose}
use Rattle.mv_view.specs.declared.view.Refused.{Refused}
use Rattle.mv_view.specs.declared.view.Refused.TheVariants.{NoMemory, Stale}
use Rattle.mv_view.specs.Viewing.{Sight, answered, MayAnswer}

risen : (n : ℕ) → n < 2 ^ 64 → Rose n (one_more n)
risen n h = elim (cases_lt n greatest_count) [
  | inl lt ↦ inl (omega (arith, lt))
  | inr le ↦ inr (omega (arith, le, h))
]

pub may_answer : {A : Type 0} (refused : Refused) (n low : ℕ) (before counted after : Sight) → (n < low → ◌≡◌ {A = Result A Refused} (Err refused) (Err (Stale n low))) → (low ≤ n → refused ≡ NoMemory)
    → before.may_be_stale ≡ nat_lt n low → before.start ≡ n → counted.stale_answers ≡ before.stale_answers → counted.stale_answers < 2 ^ 64 → after ≡ answered {A = A} (Err refused) counted → MayAnswer {A = A} before after (Err refused)
may_answer NoMemory n low before counted after stale fresh may start same small is = tt
may_answer {A = A} (Stale start' low') n low before counted after stale fresh may start same small is = elim (cases_lt n low) [
  | inl lt ↦
      let told : ◌≡◌ {A = Result A Refused} (Err (Stale start' low')) (Err (Stale n low)) = stale lt in
      let starts : start' ≡ n = cc in
      let lows : low' ≡ low = cc in
      record {
        may_be = search (rules, may, lt);
        own_start = starts ∙ sym start;
        too_late = omega (arith, starts, lows, lt);
        rose = subst (Rose before.stale_answers) (sym (ap (λ s. s.stale_answers) is ∙ ap one_more same)) (risen before.stale_answers (subst (λ m. m < 2 ^ 64) same small));
      }
  | inr le ↦ let no : Stale start' low' ≡ NoMemory = fresh le in absurd (not_memory no)
]
  where
    not_memory : Stale start' low' ≡ NoMemory → ⊥
    not_memory e = cc
