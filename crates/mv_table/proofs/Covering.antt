-- What a test finds in the rows of a span.
use Rattle.std.proofs.Common.{◌≡◌, Bool, true, false, cond, List, [], ◌∷◌, All, refl, ap}
use Rattle.std.specs.List.{filter}
use Rattle.std.proofs.lemmas.List.Elements.{All-tail, All-head}
use Rattle.mv_values.specs.declared.rows.Keyed.{Keyed}
use Rattle.mv_values.specs.declared.pred.Test.{Test}
use Rattle.mv_table.specs.declared.span.Span.{Span}
use Rattle.mv_table.specs.Spans.{CoversAdmitted, FindsAll, is_within}

-- of two filters one keeps all that the other keeps
pub filter_within : (p q : Keyed → Bool) (rows : List Keyed) → All (λ item. p item ≡ true → q item ≡ true) rows → filter p (filter q rows) ≡ filter p rows
filter_within p q [] h = refl
filter_within p q (item ∷ rows) h = by (q item) refl (p item) refl (filter_within p q rows (All-tail (λ x. p x ≡ true → q x ≡ true) item rows h))
  where
    by : (b : Bool) → q item ≡ b → (c : Bool) → p item ≡ c → filter p (filter q rows) ≡ filter p rows → filter p (cond b (item ∷ filter q rows) (filter q rows)) ≡ cond c (item ∷ filter p rows) (filter p rows)
    by true e true f rest = rw f (ap (λ l. item ∷ l) rest)
    by true e false f rest = rw f rest
    by false e true f rest = let no : q item ≡ true = All-head (λ x. p x ≡ true → q x ≡ true) item rows h f in cc
    by false e false f rest = rest

pub covered : (tests : List Test) (span : Span) (rows : List Keyed) → CoversAdmitted tests span → FindsAll tests rows (filter (λ item. is_within span item.key) rows)
covered tests span rows covers p h = filter_within p (λ item. is_within span item.key) rows (λ k d lt so. covers _ (h k d lt so))
