-- The patches of calls, by place.
use Rattle.std.proofs.Common.{◌≡◌, ◌∷◌, ◌++◌, ◌+◌, ◌<◌, ◌≤◌, ℕ, suc, Bool, false, inl, inr, List, [], length, get_or, Some, None, refl, ap, sym, ◌∙◌, arith, rules}
use Rattle.std.specs.Prelude.{if◌then◌else◌, ◌==◌, slice_set, nat_lt}
use Rattle.std.specs.List.{position, position_or_len}
use Rattle.std.proofs.lemmas.Bool.{cases_Bool}
use Rattle.std.proofs.lemmas.List.Recursion.{is_position_or_len}
use Rattle.std.proofs.lemmas.Option.{cond_some}
use Rattle.mv_values.specs.declared.patch.Patch.{Patch}
use Rattle.mv_values.proofs.Deciding.{none_where}
use Rattle.mv_chain.specs.declared.pending.Pending.{Pending}
use Rattle.mv_chain.specs.Versions.{own_of, without, joined, with_own}

abbrev Is : ℕ → Pending → Bool
Is call p = p.call == call

abbrev spot : ℕ → List Pending → ℕ
spot call [] = 0
spot call (p ∷ ps) = if p.call == call then 0 else 1 + spot call ps

spot_is : (call : ℕ) (ps : List Pending) → spot call ps ≡ position_or_len (Is call) ps
spot_is call ps = is_position_or_len (spot call) (Is call) refl (λ p ps. refl) ps

-- no patch is the call's
pub IsAbsent : ℕ → List Pending → Type 0
IsAbsent call ps = length ps ≤ spot call ps

-- the first patch of the call is at the place
pub IsSpot : ℕ → List Pending → ℕ → Type 0
IsSpot call ps at = (at ≡ spot call ps) × (at < length ps)

pub absent : (call : ℕ) (ps : List Pending) → position (Is call) ps ≡ None → IsAbsent call ps
unfolding IsAbsent
absent call ps h =
    let f : nat_lt (position_or_len (Is call) ps) (length ps) ≡ false = none_where _ (position_or_len (Is call) ps) h in
    let over : length ps ≤ position_or_len (Is call) ps = search (rules, f) in
    omega (arith, over, spot_is call ps)

pub at_spot : (call at : ℕ) (ps : List Pending) → position (Is call) ps ≡ Some at → IsSpot call ps at
unfolding IsSpot
at_spot call at ps h =
    let w = cond_some (nat_lt (position_or_len (Is call) ps) (length ps)) (position_or_len (Is call) ps) at h in
    let within : position_or_len (Is call) ps < length ps = search (rules, w.0) in
    (omega (arith, w.1, spot_is call ps), omega (arith, within, w.1))

one_on : (n : ℕ) → 1 + n ≡ suc n
one_on n = omega arith

pub none_there : (call : ℕ) (ps : List Pending) → IsAbsent call ps → own_of call ps ≡ None
unfolding IsAbsent
none_there call [] h = refl
none_there call (p ∷ ps) h = elim (cases_Bool (p.call == call)) [
  | inl t ↦ let over : length (p ∷ ps) ≤ 0 = rw t at h in absurd (omega arith)
  | inr f ↦ rw f (let over : length (p ∷ ps) ≤ 1 + spot call ps = rw f at h in none_there call ps (omega arith))
]

pub added : (call : ℕ) (patch : Patch) (ps : List Pending) → IsAbsent call ps → with_own call patch ps ≡ ps ++ record { call = call; patch = patch } ∷ []
unfolding IsAbsent
added call patch [] h = refl
added call patch (p ∷ ps) h = elim (cases_Bool (p.call == call)) [
  | inl t ↦ let over : length (p ∷ ps) ≤ 0 = rw t at h in absurd (omega arith)
  | inr f ↦ rw f (let over : length (p ∷ ps) ≤ 1 + spot call ps = rw f at h in ap (λ l. p ∷ l) (added call patch ps (omega arith)))
]

pub there : (call : ℕ) (ps : List Pending) (at : ℕ) (d : Pending) → IsSpot call ps at → own_of call ps ≡ Some (get_or ps at d).patch
unfolding IsSpot
there call ps at d h = rw (h.0) (by ps (omega (arith, h.0, h.1)))
  where
    by : (ps : List Pending) → spot call ps < length ps → own_of call ps ≡ Some (get_or ps (spot call ps) d).patch
    by [] within = absurd (omega arith)
    by (p ∷ ps) within = elim (cases_Bool (p.call == call)) [
      | inl t ↦ rw t refl
      | inr f ↦ rw (f, one_on (spot call ps)) (by ps (let w : 1 + spot call ps < length (p ∷ ps) = rw f at within in omega (arith, w)))
    ]

pub joined_in : (call : ℕ) (patch : Patch) (ps : List Pending) (at : ℕ) (d : Pending) → IsSpot call ps at → with_own call patch ps ≡ slice_set ps at (record (get_or ps at d) { patch = joined (get_or ps at d).patch patch })
unfolding IsSpot
joined_in call patch ps at d h = rw (h.0) (by ps (omega (arith, h.0, h.1)))
  where
    by : (ps : List Pending) → spot call ps < length ps → with_own call patch ps ≡ slice_set ps (spot call ps) (record (get_or ps (spot call ps) d) { patch = joined (get_or ps (spot call ps) d).patch patch })
    by [] within = absurd (omega arith)
    by (p ∷ ps) within = elim (cases_Bool (p.call == call)) [
      | inl t ↦ rw t refl
      | inr f ↦ rw (f, one_on (spot call ps)) (ap (λ l. p ∷ l) (by ps (let w : 1 + spot call ps < length (p ∷ ps) = rw f at within in omega (arith, w))))
    ]

pub taken_out : (call : ℕ) (q : Patch) (ps : List Pending) (at : ℕ) (d : Pending) → IsSpot call ps at → without call (slice_set ps at (record (get_or ps at d) { patch = q })) ≡ without call ps
unfolding IsSpot
taken_out call q ps at d h = rw (h.0) (by ps (omega (arith, h.0, h.1)))
  where
    by : (ps : List Pending) → spot call ps < length ps → without call (slice_set ps (spot call ps) (record (get_or ps (spot call ps) d) { patch = q })) ≡ without call ps
    by [] within = absurd (omega arith)
    by (p ∷ ps) within = elim (cases_Bool (p.call == call)) [
      | inl t ↦ rw (t, t) refl
      | inr f ↦ rw (f, one_on (spot call ps), f) (ap (λ l. p ∷ l) (by ps (let w : 1 + spot call ps < length (p ∷ ps) = rw f at within in omega (arith, w))))
    ]

pub shorter : (call : ℕ) (ps : List Pending) → length (without call ps) ≤ length ps
shorter call [] = omega arith
shorter call (p ∷ ps) = elim (cases_Bool (p.call == call)) [
  | inl t ↦ rw t (omega (arith, shorter call ps))
  | inr f ↦ rw f (omega (arith, shorter call ps))
]

pub fewer : (call : ℕ) (ps : List Pending) (at : ℕ) → IsSpot call ps at → length (without call ps) + 1 ≤ length ps
unfolding IsSpot
fewer call ps at h = by ps (omega (arith, h.0, h.1))
  where
    by : (ps : List Pending) → spot call ps < length ps → length (without call ps) + 1 ≤ length ps
    by [] within = absurd (omega arith)
    by (p ∷ ps) within = elim (cases_Bool (p.call == call)) [
      | inl t ↦ rw t (omega (arith, shorter call ps))
      | inr f ↦ rw f (let w : 1 + spot call ps < length (p ∷ ps) = rw f at within in let more : length (without call ps) + 1 ≤ length ps = by ps (omega (arith, w)) in omega (arith, more))
    ]

pub put_in : (call : ℕ) (patch : Patch) (ps : List Pending) (at : ℕ) (r : Pending) (new : Patch) → IsSpot call ps at → r ≡ get_or ps at r → new ≡ joined r.patch patch
    → slice_set ps at (record { call = r.call; patch = new }) ≡ with_own call patch ps
put_in call patch ps at r new h is new_is =
    ap (λ q. slice_set ps at (record { call = r.call; patch = q })) new_is
    ∙ ap (λ q. slice_set ps at (record q { patch = joined q.patch patch })) is
    ∙ sym (joined_in call patch ps at r h)

pub out_of : (call : ℕ) (q : Patch) (ps : List Pending) (at : ℕ) (r : Pending) → IsSpot call ps at → r ≡ get_or ps at r
    → without call (slice_set ps at (record { call = r.call; patch = q })) ≡ without call ps
out_of call q ps at r h is = ap (λ p. without call (slice_set ps at (record p { patch = q }))) is ∙ taken_out call q ps at r h

pub own_is : (call : ℕ) (ps : List Pending) (at : ℕ) (r : Pending) → IsSpot call ps at → r ≡ get_or ps at r → own_of call ps ≡ Some r.patch
own_is call ps at r h is = there call ps at r h ∙ ap (λ p. Some p.patch) (sym is)
