-- The rounds that live calls have used, after an event.
use Rattle.std.proofs.Common.{◌≡◌, ◌⊎◌, inl, inr, ℕ, ◌<◌, ◌≤◌, ◌+◌, Bool, true, false, not, List, [], ◌∷◌, Option, Some, None, length, refl, sym, ap, subst, ◌∙◌, arith, rules, length-append}
use Rattle.std.specs.Prelude.{slice_get}
use Rattle.std.proofs.lemmas.Bool.{ltb-true, eq-eqb, true≢false}
use Rattle.mv_journal.specs.declared.event.Event.{Event}
use Rattle.mv_journal.specs.declared.event.Event.TheVariants.{B, S, A, M, C, X, R, G}
use Rattle.mv_journal.specs.declared.outcome.Mark.{Mark}
use Rattle.mv_journal.specs.declared.outcome.Mark.TheVariants.{Plain, Exclusive, Moved}
use Rattle.mv_lawful.specs.declared.fault.EventFault.TheVariants.{Kind, Stale, Idle, Rounds}
use Rattle.mv_lawful.specs.Batch.{Batch}
use Rattle.mv_lawful.specs.Lawful.{Live, Schedule, begin, again, finish, change_live, used, is_stale, is_hit, has_round, unless, refusal, after}
use Rattle.mv_lawful.specs.Rounds.{is_round}
use Rattle.mv_core.specs.Calls.{IsLive}
use Rattle.mv_lawful.proofs.Lists.{get_last, get_set}
use Rattle.mv_core.proofs.Journals.{live_at}
use Rattle.mv_gate.specs.Gates.{UseRounds}

-- no other live call has used more
abbrev OthersUse : ℕ → ℕ → List Live → Type 0
OthersUse rounds c ls = (d : ℕ) (l : Live) → (d ≡ c → ⊥) → slice_get ls d ≡ Some l → l.done ≡ false → used l ≤ rounds

others_of : (rounds c : ℕ) (s : Schedule) → UseRounds rounds s → OthersUse rounds c s.calls
others_of rounds c s all d l apart at live = all d l (record { at = at; live = live })

-- one call was changed
others_changed : (rounds c : ℕ) (f : Live → Live) (ls : List Live) → OthersUse rounds c ls → OthersUse rounds c (change_live (slice_get ls c) f ls c)
others_changed rounds c f ls all d l apart at live = by (slice_get ls c) at where
  by : (o : Option Live) → slice_get (change_live o f ls c) d ≡ Some l → used l ≤ rounds
  by None at = all d l apart at live
  by (Some x) at = set (get_set ls c d (f x) l at) where
    set : ((d ≡ c) × (f x ≡ l)) ⊎ ((d ≡ c → ⊥) × (slice_get ls d ≡ Some l)) → used l ≤ rounds
    set (inl h) = absurd (apart h.0)
    set (inr h) = all d l h.0 h.1 live

-- one call was changed, and if it is live, it hasn't used more
all_changed : (rounds c : ℕ) (f : Live → Live) (ls : List Live) → OthersUse rounds c ls → ((x : Live) → slice_get ls c ≡ Some x → (f x).done ≡ false → used (f x) ≤ rounds)
    → (d : ℕ) (l : Live) → slice_get (change_live (slice_get ls c) f ls c) d ≡ Some l → l.done ≡ false → used l ≤ rounds
all_changed rounds c f ls all keeps d l at live = by (slice_get ls c) refl at where
  by : (o : Option Live) → slice_get ls c ≡ o → slice_get (change_live o f ls c) d ≡ Some l → used l ≤ rounds
  by None is at =
      all d l (λ e. let both : None ≡ Some l = sym is ∙ (ap (slice_get ls) (sym e) ∙ at) in search (rules, both)) at live
  by (Some x) is at = set (get_set ls c d (f x) l at) where
    set : ((d ≡ c) × (f x ≡ l)) ⊎ ((d ≡ c → ⊥) × (slice_get ls d ≡ Some l)) → used l ≤ rounds
    set (inl h) = subst (λ (y : Live). used y ≤ rounds) h.1 (keeps x is (ap (λ (y : Live). y.done) h.1 ∙ live))
    set (inr h) = all d l h.0 h.1 live

-- an event that is no repair and no move
pub use_other : (w : Batch) (rounds : ℕ) (s : Schedule) (e : Event) → ((c : ℕ) → is_round c e ≡ false) → UseRounds rounds s → UseRounds rounds (after w s e)
use_other w rounds s (B c) none h = λ d l live. by d l live.live (get_last s.calls (begin (length s.order)) d l live.at) where
  by : (d : ℕ) (l : Live) → l.done ≡ false → (slice_get s.calls d ≡ Some l) ⊎ ((d ≡ length s.calls) × (begin (length s.order) ≡ l)) → used l ≤ rounds
  by d l live (inl there) = h d l (record { at = there; live = live })
  by d l live (inr new) = subst (λ (x : Live). used x ≤ rounds) new.1 (omega arith)
use_other w rounds s (S c) none h = λ d l live.
    all_changed rounds c (λ x. record x { steps = x.steps + 1 }) s.calls (others_of rounds c s h) (λ x at going. h c x (record { at = at; live = going })) d l live.at live.live
use_other w rounds s (A c) none h = absurd (true≢false (sym (eq-eqb c c refl) ∙ none c))
use_other w rounds s (M c) none h = absurd (true≢false (sym (eq-eqb c c refl) ∙ none c))
use_other w rounds s (C c) none h = λ d l live. all_changed rounds c finish s.calls (others_of rounds c s h) (λ x at going. absurd (true≢false going)) d l live.at live.live
use_other w rounds s (X c) none h = λ d l live.
    all_changed rounds c (λ x. finish (again (length s.order) Exclusive x)) s.calls (others_of rounds c s h) (λ x at going. absurd (true≢false going)) d l live.at live.live
use_other w rounds s (R c) none h = λ d l live. all_changed rounds c finish s.calls (others_of rounds c s h) (λ x at going. absurd (true≢false going)) d l live.at live.live
use_other w rounds s G none h = λ d l live. h d l (record { at = live.at; live = live.live })

-- a call that has used fewer takes one more
use_again : (rounds c n : ℕ) (m : Mark) (s : Schedule) → UseRounds rounds s → ((x : Live) → IsLive s c x → used x < rounds)
    → (d : ℕ) (l : Live) → slice_get (change_live (slice_get s.calls c) (again n m) s.calls c) d ≡ Some l → l.done ≡ false → used l ≤ rounds
use_again rounds c n m s all less d l at live =
    all_changed rounds c (again n m) s.calls (others_of rounds c s all)
    (λ x is going.
    let few = less x (record { at = is; live = going }) in
    let long = length-append x.round_starts (record { start = n; mark = m } ∷ []) in
    omega (arith, few, long)) d l at live

-- a call that may be repaired has a round left
repair_left : (w : Batch) (s : Schedule) (c : ℕ) (l : Live) → IsLive s c l → refusal w s (A c) ≡ None → has_round w l ≡ true
repair_left w s c l live free =
    by (live_at s c (λ x. unless (not (w.read_only c)) Kind (unless (not (is_stale s x)) Stale (unless (is_hit w s c x) Idle (unless (has_round w x) Rounds None)))) free) where
      parts : (writes stale hit left : Bool) → unless writes Kind (unless (not stale) Stale (unless hit Idle (unless left Rounds None))) ≡ None → left ≡ true
      parts true false true true e = refl
      parts true false true false e = absurd (search (rules, e))
      parts true false false left e = absurd (search (rules, e))
      parts true true hit left e = absurd (search (rules, e))
      parts false stale hit left e = absurd (search (rules, e))

      by : (x : Live) × IsLive s c x × (unless (not (w.read_only c)) Kind (unless (not (is_stale s x)) Stale (unless (is_hit w s c x) Idle (unless (has_round w x) Rounds None))) ≡ None) → has_round w l ≡ true
      by h =
          let both : Some h.0 ≡ Some l = sym h.1.at ∙ live.at in
          let one : h.0 ≡ l = search (rules, both) in
          ap (has_round w) (sym one) ∙ parts (not (w.read_only c)) (is_stale s h.0) (is_hit w s c h.0) (has_round w h.0) h.2

pub use_repair : (w : Batch) (s : Schedule) (c : ℕ) → UseRounds w.options.rounds s → refusal w s (A c) ≡ None → UseRounds w.options.rounds (after w s (A c))
use_repair w s c all free d l live =
    use_again w.options.rounds c (length s.order) Plain s all (λ x is. ltb-true (used x) w.options.rounds (repair_left w s c x is free)) d l live.at live.live

pub use_move : (w : Batch) (s : Schedule) (c : ℕ) → UseRounds w.options.rounds s → ((x : Live) → IsLive s c x → has_round w x ≡ true) → UseRounds w.options.rounds (after w s (M c))
use_move w s c all left d l live = use_again w.options.rounds c (length s.order) Moved s all (λ x is. ltb-true (used x) w.options.rounds (left x is)) d l live.at live.live

-- a move and the commit of that call
pub use_move_and_commit : (w v : Batch) (rounds : ℕ) (s : Schedule) (c : ℕ) → UseRounds rounds s → UseRounds rounds (after v (after w s (M c)) (C c))
use_move_and_commit w v rounds s c all d l live =
    all_changed rounds c finish (after w s (M c)).calls (others_changed rounds c (again (length s.order) Moved) s.calls (others_of rounds c s all)) (λ x at going. absurd (true≢false going)) d l live.at live.live

-- a move and the answer of that call
pub use_move_and_answer : (w v : Batch) (rounds : ℕ) (s : Schedule) (c : ℕ) → UseRounds rounds s → UseRounds rounds (after v (after w s (M c)) (R c))
use_move_and_answer w v rounds s c all d l live =
    all_changed rounds c finish (after w s (M c)).calls (others_changed rounds c (again (length s.order) Moved) s.calls (others_of rounds c s all)) (λ x at going. absurd (true≢false going)) d l live.at live.live
