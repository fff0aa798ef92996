-- What a view was asked for, one call after another.
use Rattle.std.proofs.Common.{◌≡◌, ℕ, ◌+◌, ◌≤◌, Result, Ok, Err, ap, subst, ◌∙◌, arith}
use Rattle.mv_view.specs.declared.view.Refused.{Refused}
use Rattle.mv_view.specs.declared.view.Refused.TheVariants.{NoMemory, Stale}
use Rattle.mv_view.specs.Viewing.{Sight, answered, IsStale, MayAnswer}
use Rattle.mv_changes.specs.Drafting.{HasAsked}

stale_then : {B : Type 0} (a b c : Sight) (r : Result B Refused) → b ≡ record a { row_calls = b.row_calls } → MayAnswer b c r → MayAnswer a c r
stale_then a b c (Ok x) e h = tt
stale_then a b c (Err NoMemory) e h = tt
stale_then a b c (Err (Stale start low)) e h =
    let s : IsStale (record a { row_calls = b.row_calls }) c start low = subst (λ v. IsStale v c start low) e h in
    record { may_be = s.may_be; own_start = s.own_start; too_late = s.too_late; rose = s.rose }

pub asked_then : {A B : Type 0} (n m k : ℕ) (a b c : Sight) (x : A) (r : Result B Refused) → HasAsked n a b (Ok x) → HasAsked m b c r → n + m ≤ k → HasAsked k a c r
asked_then n m k a b c x r h g le = record {
  sight = g.sight ∙ ap (λ s. answered r (record s { row_calls = c.row_calls })) h.sight;
  few = omega (arith, h.few, g.few, le);
  stale = stale_then a b c r h.sight g.stale;
}

pub asked_err : {A B : Type 0} (n : ℕ) (a b : Sight) (e : Refused) → HasAsked {A = A} n a b (Err e) → HasAsked {A = B} n a b (Err e)
asked_err n a b NoMemory h = record { sight = h.sight; few = h.few; stale = tt }
asked_err n a b (Stale start low) h = record { sight = h.sight; few = h.few; stale = h.stale }

pub asked_same : {A : Type 0} (n : ℕ) (a b : Sight) (x : A) → HasAsked n a b (Ok x) → b.database ≡ a.database
asked_same n a b x h = ap (λ (s : Sight). s.database) h.sight
