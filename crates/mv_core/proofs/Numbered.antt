-- Which rounds of live calls have their numbers, after an event or none.
use Rattle.std.proofs.Common.{◌≡◌, ◌⊎◌, inl, inr, ℕ, true, false, Option, Some, None, length, refl, sym, ap, subst, ◌+◌, ◌∙◌, rules}
use Rattle.std.specs.Prelude.{slice_get}
use Rattle.std.proofs.lemmas.Bool.{eq-eqb, true≢false}
use Rattle.mv_journal.specs.declared.event.Event.{Event}
use Rattle.mv_journal.specs.declared.event.Event.TheVariants.{B, S, A, M, C, X, R, G}
use Rattle.mv_journal.specs.declared.outcome.Mark.TheVariants.{Plain, Exclusive, Moved}
use Rattle.mv_lawful.specs.Batch.{Batch}
use Rattle.mv_lawful.specs.Lawful.{Live, Schedule, beginning, begin, again, finish, change_live, used, after}
use Rattle.mv_lawful.specs.Rounds.{is_round}
use Rattle.mv_lawful.proofs.Turns.{none_at}
use Rattle.mv_core.specs.Calls.{IsLive}
use Rattle.mv_core.specs.Books.{Booked, batch_in, Made, IsSame, IsSettled, BeginsRound, HaveNumbers}
use Rattle.mv_lawful.proofs.Lists.{get_last, get_set}

-- before any event
pub numbers_begin : (b : Booked) → b.schedule ≡ beginning → HaveNumbers b
numbers_begin b schedule c none l live = absurd (none_at c l (subst (λ (x : Schedule). slice_get x.calls c ≡ Some l) schedule live.at))

pub numbers_same : (old new : Booked) → IsSame old new → HaveNumbers old → HaveNumbers new
numbers_same old new same has c none l live = has c (λ was. none (same.settled c was)) l (subst (λ (s : Schedule). IsLive s c l) same.schedule live)

-- A live call after an event

-- it is in its first round, or the event began its round, or it has used as many rounds as before
abbrev Was : Event → Schedule → ℕ → Live → Type 0
Was e s c l = (used l ≡ 0) ⊎ (BeginsRound e c ⊎ ((m : Live) × IsLive s c m × (used m ≡ used l)))

was_changed : (e : Event) (s : Schedule) (f : Live → Live) (d c : ℕ) (l : Live) → ((x : Live) → slice_get s.calls d ≡ Some x → (f x).done ≡ false → Was e s d (f x))
    → slice_get (change_live (slice_get s.calls d) f s.calls d) c ≡ Some l → l.done ≡ false → Was e s c l
was_changed e s f d c l keeps at live = by (slice_get s.calls d) refl at where
  by : (o : Option Live) → slice_get s.calls d ≡ o → slice_get (change_live o f s.calls d) c ≡ Some l → Was e s c l
  by None is at = inr (inr (l, record { at = at; live = live }, refl))
  by (Some x) is at = set (get_set s.calls d c (f x) l at) where
    set : ((c ≡ d) × (f x ≡ l)) ⊎ ((c ≡ d → ⊥) × (slice_get s.calls c ≡ Some l)) → Was e s c l
    set (inl h) = subst (λ n. Was e s n l) (sym h.0) (subst (Was e s d) h.1 (keeps x is (ap (λ (y : Live). y.done) h.1 ∙ live)))
    set (inr h) = inr (inr (l, record { at = h.1; live = live }, refl))

was : (w : Batch) (s : Schedule) (e : Event) (c : ℕ) (l : Live) → IsLive (after w s e) c l → Was e s c l
was w s (B d) c l live = by (get_last s.calls (begin (length s.order)) c l live.at) where
  by : (slice_get s.calls c ≡ Some l) ⊎ ((c ≡ length s.calls) × (begin (length s.order) ≡ l)) → Was (B d) s c l
  by (inl at) = inr (inr (l, record { at = at; live = live.live }, refl))
  by (inr new) = inl (ap used (sym new.1))
was w s (S d) c l live = was_changed (S d) s (λ x. record x { steps = x.steps + 1 }) d c l (λ x at going. inr (inr (x, record { at = at; live = going }, refl))) live.at live.live
was w s (A d) c l live = was_changed (A d) s (again (length s.order) Plain) d c l (λ x at going. inr (inl (inl refl))) live.at live.live
was w s (M d) c l live = was_changed (M d) s (again (length s.order) Moved) d c l (λ x at going. inr (inl (inr refl))) live.at live.live
was w s (C d) c l live = was_changed (C d) s finish d c l (λ x at going. absurd (true≢false going)) live.at live.live
was w s (X d) c l live = was_changed (X d) s (λ x. finish (again (length s.order) Exclusive x)) d c l (λ x at going. absurd (true≢false going)) live.at live.live
was w s (R d) c l live = was_changed (R d) s finish d c l (λ x at going. absurd (true≢false going)) live.at live.live
was w s G c l live = inr (inr (l, record { at = live.at; live = live.live }, refl))

-- All live calls after an event

numbers_made : (e : Event) (old new : Booked) → Made e old new → ((c : ℕ) → BeginsRound e c → IsSettled new c) → HaveNumbers old → HaveNumbers new
numbers_made e old new made own has c none l live = by (was (batch_in old) old.schedule e c l (subst (λ (s : Schedule). IsLive s c l) made.schedule live)) where
  by : Was e old.schedule c l → used l ≡ 0
  by (inl first) = first
  by (inr (inl begun)) = absurd (none (own c begun))
  by (inr (inr h)) = sym h.2 ∙ has c (λ settled. none (made.settled c (h.0, h.1) (λ begun. none (own c begun)) settled)) h.0 h.1

no_round : (e : Event) (c : ℕ) → is_round c e ≡ false → BeginsRound e c → ⊥
no_round e c none (inl is) = true≢false (sym (eq-eqb c c refl) ∙ (sym (ap (is_round c) is) ∙ none))
no_round e c none (inr is) = true≢false (sym (eq-eqb c c refl) ∙ (sym (ap (is_round c) is) ∙ none))

-- an event that is no repair and no move
pub numbers_other : (e : Event) (old new : Booked) → Made e old new → ((c : ℕ) → is_round c e ≡ false) → HaveNumbers old → HaveNumbers new
numbers_other e old new made none = numbers_made e old new made (λ c begun. absurd (no_round e c (none c) begun))

-- a repair whose round has got its number
pub numbers_again : (c : ℕ) (old new : Booked) → Made (A c) old new → IsSettled new c → HaveNumbers old → HaveNumbers new
numbers_again c old new made settled = numbers_made (A c) old new made by where
  by : (d : ℕ) → BeginsRound (A c) d → IsSettled new d
  by d (inl is) = let one : c ≡ d = search (rules, is) in subst (IsSettled new) one settled
  by d (inr is) = absurd (search (rules, is))

-- a move whose round has got its number
pub numbers_moved : (c : ℕ) (old new : Booked) → Made (M c) old new → IsSettled new c → HaveNumbers old → HaveNumbers new
numbers_moved c old new made settled = numbers_made (M c) old new made by where
  by : (d : ℕ) → BeginsRound (M c) d → IsSettled new d
  by d (inl is) = absurd (search (rules, is))
  by d (inr is) = let one : c ≡ d = search (rules, is) in subst (IsSettled new) one settled
