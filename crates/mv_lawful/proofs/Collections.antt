-- Collections change low alone.
use Rattle.std.proofs.Common.{◌≡◌, ℕ, List, [], ◌∷◌, ◌++◌, refl, ap, ◌∙◌, length}
use Rattle.std.specs.Prelude.{slice_get}
use Rattle.mv_journal.specs.declared.event.Event.{Event}
use Rattle.mv_journal.specs.declared.event.Event.TheVariants.{B, S, A, M, C, X, R, G}
use Rattle.mv_journal.specs.declared.outcome.Mark.TheVariants.{Plain, Exclusive, Moved}
use Rattle.mv_lawful.specs.Batch.{Batch}
use Rattle.mv_lawful.specs.Lawful.{Live, Schedule, beginning, begin, again, finish, change_live, after, reach}
use Rattle.mv_lawful.specs.Outcomes.{outcome_at, without_collections}
use Rattle.mv_lawful.specs.Laws.{CollectionsAreUnseen}

-- the same commits, the same calls and the same answered ones
abbrev pub IsAlike : Schedule → Schedule → Type 0
IsAlike s t = (s.order ≡ t.order) × (s.calls ≡ t.calls) × (s.answered ≡ t.answered)

changed_alike : (ls ms : List Live) (c : ℕ) (f : Live → Live) → ls ≡ ms → change_live (slice_get ls c) f ls c ≡ change_live (slice_get ms c) f ms c
changed_alike ls ms c f h = ap (λ (xs : List Live). change_live (slice_get xs c) f xs c) h

-- a round that begins after as many commits
again_alike : (order other : List ℕ) (ls ms : List Live) (c : ℕ) (f : ℕ → Live → Live) → order ≡ other → ls ≡ ms
    → change_live (slice_get ls c) (f (length order)) ls c ≡ change_live (slice_get ms c) (f (length other)) ms c
again_alike order other ls ms c f h k = ap (λ (xs : List ℕ). change_live (slice_get ls c) (f (length xs)) ls c) h ∙ changed_alike ls ms c (f (length other)) k

begun_alike : (order other : List ℕ) (ls ms : List Live) → order ≡ other → ls ≡ ms → ls ++ begin (length order) ∷ [] ≡ ms ++ begin (length other) ∷ []
begun_alike order other ls ms h k = ap (λ (xs : List ℕ). ls ++ begin (length xs) ∷ []) h ∙ ap (λ (xs : List Live). xs ++ begin (length other) ∷ []) k

more : (order other : List ℕ) (c : ℕ) → order ≡ other → order ++ c ∷ [] ≡ other ++ c ∷ []
more order other c h = ap (λ (xs : List ℕ). xs ++ c ∷ []) h

-- without collections the events lead to the same commits and calls
pub collections_unseen : (w : Batch) (s t : Schedule) (es : List Event) → IsAlike s t → IsAlike (reach w s es) (reach w t (without_collections es))
collections_unseen w s t [] h = h
collections_unseen w s t (B c ∷ es) h = collections_unseen w (after w s (B c)) (after w t (B c)) es (h.0, begun_alike s.order t.order s.calls t.calls h.0 h.1, h.2)
collections_unseen w s t (S c ∷ es) h = collections_unseen w (after w s (S c)) (after w t (S c)) es (h.0, changed_alike s.calls t.calls c _ h.1, h.2)
collections_unseen w s t (A c ∷ es) h = collections_unseen w (after w s (A c)) (after w t (A c)) es (h.0, again_alike s.order t.order s.calls t.calls c (λ n. again n Plain) h.0 h.1, h.2)
collections_unseen w s t (M c ∷ es) h = collections_unseen w (after w s (M c)) (after w t (M c)) es (h.0, again_alike s.order t.order s.calls t.calls c (λ n. again n Moved) h.0 h.1, h.2)
collections_unseen w s t (C c ∷ es) h = collections_unseen w (after w s (C c)) (after w t (C c)) es (more s.order t.order c h.0, changed_alike s.calls t.calls c finish h.1, h.2)
collections_unseen w s t (X c ∷ es) h =
    collections_unseen w (after w s (X c)) (after w t (X c)) es (more s.order t.order c h.0, again_alike s.order t.order s.calls t.calls c (λ n l. finish (again n Exclusive l)) h.0 h.1, h.2)
collections_unseen w s t (R c ∷ es) h = collections_unseen w (after w s (R c)) (after w t (R c)) es (h.0, changed_alike s.calls t.calls c finish h.1, more s.answered t.answered c h.2)
collections_unseen w s t (G ∷ es) h = collections_unseen w (after w s G) t es h

outcome_alike : (w : Batch) (s t : Schedule) (es : List Event) → IsAlike s t → outcome_at w s es ≡ outcome_at w t es
outcome_alike w s t es h =
    ap (λ (xs : List ℕ). outcome_at w (record { order = xs; calls = s.calls; low = 0; answered = s.answered }) es) h.0
    ∙ (ap (λ (xs : List Live). outcome_at w (record { order = t.order; calls = xs; low = 0; answered = s.answered }) es) h.1
    ∙ ap (λ (xs : List ℕ). outcome_at w (record { order = t.order; calls = t.calls; low = 0; answered = xs }) es) h.2)

pub collections_are_unseen : CollectionsAreUnseen
collections_are_unseen w es = outcome_alike w (reach w beginning es) (reach w beginning (without_collections es)) es (collections_unseen w beginning beginning es (refl, refl, refl))
