-- The bars of calls.
use Rattle.std.proofs.Common.{◌≡◌, ◌<◌, ◌+◌, ℕ, zero, suc, List, [], ◌∷◌, ◌++◌, length, map, set, take, get_or, refl, sym, ap, ◌∙◌}
use Rattle.std.proofs.lemmas.List.{take_more}
use Rattle.mv_trace.specs.declared.bars.Bar.{Bar}
use Rattle.mv_trace.specs.declared.calls.Call.{Call}

abbrev pub bars_in : List Call → List Bar
bars_in = map (λ call. call.bar)

-- there are as many bars as calls
pub bars_length : (calls : List Call) → length (bars_in calls) ≡ length calls
bars_length [] = refl
bars_length (x ∷ xs) = ap suc (bars_length xs)

-- a call that changes but for its bar
pub kept_bars : (calls : List Call) (at : ℕ) (old new : Call) → old ≡ get_or calls at old → new.bar ≡ old.bar → bars_in (set calls at new) ≡ bars_in calls
kept_bars [] at old new is same = refl
kept_bars (x ∷ xs) zero old new is same = ap (λ b. b ∷ bars_in xs) (same ∙ ap (λ call. call.bar) is)
kept_bars (x ∷ xs) (suc n) old new is same = ap (λ bs. x.bar ∷ bs) (kept_bars xs n old new is same)

bars_append : (xs : List Call) (call : Call) → bars_in (xs ++ call ∷ []) ≡ bars_in xs ++ call.bar ∷ []
bars_append [] call = refl
bars_append (x ∷ xs) call = ap (λ bs. x.bar ∷ bs) (bars_append xs call)

-- a call more, with the next bar
pub more_bars : (bars : List Bar) (i : ℕ) (before after : List Call) (call : Call) (other : Bar) → after ≡ before ++ call ∷ [] → i < length bars → call.bar ≡ get_or bars i other → bars_in before ≡ take i bars
    → bars_in after ≡ take (i + 1) bars
more_bars bars i before after call other pushed within is had =
    ap bars_in pushed ∙ (bars_append before call ∙ (ap (λ bs. bs ++ call.bar ∷ []) had ∙ (ap (λ b. take i bars ++ b ∷ []) is ∙ sym (take_more bars i other within))))
