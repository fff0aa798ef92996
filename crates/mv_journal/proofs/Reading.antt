-- The event that a line is read as is the one that it is, and no other.
use Rattle.std.proofs.Common.{inl, inr, ◌≡◌, ◌∷◌, ◌++◌, ◌+◌, ℕ, List, [], length, Option, Some, None, refl, ap, sym, ◌∙◌, subst, arith, ◌<◌, ◌≤◌, append_assoc, append-nil, length-append}
use Rattle.std.specs.Str.Lines.{lines}
use Rattle.std.specs.Prelude.{if◌then◌else◌, ◌==◌, ◌↔◌}
use Rattle.std.specs.Option.{option_and_then}
use Rattle.std.proofs.lemmas.Bool.{cases_Bool, eqb-true}
use Rattle.mv_journal.specs.declared.event.Event.{Event}
use Rattle.mv_journal.specs.declared.event.Event.TheVariants.{B, S, A, M, C, X, R, G}
use Rattle.mv_journal.specs.Lines.{IsNumber, IsEventLine, AreEventLines, IsFirstBad}
use Rattle.mv_journal.specs.Reading.{number_in, named, event_in}
use Rattle.mv_journal.proofs.Numbers.{number_is, number_found}

pub found : (line : List ℕ) (e : Event) → IsEventLine line e → event_in line ≡ Some e
found line (B n) h = rw (h.1, number_found h.0 n h.2) refl
found line (S n) h = rw (h.1, number_found h.0 n h.2) refl
found line (A n) h = rw (h.1, number_found h.0 n h.2) refl
found line (M n) h = rw (h.1, number_found h.0 n h.2) refl
found line (C n) h = rw (h.1, number_found h.0 n h.2) refl
found line (X n) h = rw (h.1, number_found h.0 n h.2) refl
found line (R n) h = rw (h.1, number_found h.0 n h.2) refl
found line G h = rw h refl

chosen : (Goal : Type 0) (l c : ℕ) (made e : Event) (rest : Option Event) → (if l == c then Some made else rest) ≡ Some e → (l ≡ c → made ≡ e → Goal) → (rest ≡ Some e → Goal) → Goal
chosen Goal l c made e rest h f g = elim (cases_Bool (l == c)) [
  | inl t ↦ let k : Some made ≡ Some e = rw t at h in f (eqb-true l c t) cc
  | inr n ↦ g (rw n at h)
]

no_more : (Goal : Type 0) (e : Event) → None ≡ Some e → Goal
no_more Goal e h = cc

behind : (l c : ℕ) (ds : List ℕ) → l ≡ c → l ∷ 32 ∷ ds ≡ c ∷ 32 ∷ ds
behind l c ds at = ap (λ x. x ∷ 32 ∷ ds) at

by_letter : (l n : ℕ) (ds : List ℕ) (e : Event) → IsNumber ds n → named l n ≡ Some e → IsEventLine (l ∷ 32 ∷ ds) e
by_letter l n ds e is h =
    chosen (IsEventLine (l ∷ 32 ∷ ds) e) l 66 (B n) e _ h (λ at same. subst (λ x. IsEventLine (l ∷ 32 ∷ ds) x) same (ds, behind l 66 ds at, is)) (λ h.
    chosen (IsEventLine (l ∷ 32 ∷ ds) e) l 83 (S n) e _ h (λ at same. subst (λ x. IsEventLine (l ∷ 32 ∷ ds) x) same (ds, behind l 83 ds at, is)) (λ h.
    chosen (IsEventLine (l ∷ 32 ∷ ds) e) l 65 (A n) e _ h (λ at same. subst (λ x. IsEventLine (l ∷ 32 ∷ ds) x) same (ds, behind l 65 ds at, is)) (λ h.
    chosen (IsEventLine (l ∷ 32 ∷ ds) e) l 77 (M n) e _ h (λ at same. subst (λ x. IsEventLine (l ∷ 32 ∷ ds) x) same (ds, behind l 77 ds at, is)) (λ h.
    chosen (IsEventLine (l ∷ 32 ∷ ds) e) l 67 (C n) e _ h (λ at same. subst (λ x. IsEventLine (l ∷ 32 ∷ ds) x) same (ds, behind l 67 ds at, is)) (λ h.
    chosen (IsEventLine (l ∷ 32 ∷ ds) e) l 88 (X n) e _ h (λ at same. subst (λ x. IsEventLine (l ∷ 32 ∷ ds) x) same (ds, behind l 88 ds at, is)) (λ h.
    chosen (IsEventLine (l ∷ 32 ∷ ds) e) l 82 (R n) e _ h (λ at same. subst (λ x. IsEventLine (l ∷ 32 ∷ ds) x) same (ds, behind l 82 ds at, is)) (no_more (IsEventLine (l ∷ 32 ∷ ds) e) e)))))))

named_is : (l : ℕ) (ds : List ℕ) (e : Event) (m : Option ℕ) → number_in ds ≡ m → option_and_then (named l) m ≡ Some e → IsEventLine (l ∷ 32 ∷ ds) e
named_is l ds e None m h = cc
named_is l ds e (Some n) m h = by_letter l n ds e (number_is ds n m) h

pub is : (line : List ℕ) (e : Event) → event_in line ≡ Some e → IsEventLine line e
is [] e h = cc
is (l ∷ []) e h = chosen (IsEventLine (l ∷ []) e) l 71 G e None h (λ at same. subst (λ x. IsEventLine (l ∷ []) x) same (ap (λ x. x ∷ []) at)) (no_more _ e)
is (l ∷ s ∷ ds) e h = elim (cases_Bool (s == 32)) [
  | inl t ↦ rw (eqb-true s 32 t) (named_is l ds e (number_in ds) refl (rw t at h))
  | inr n ↦ no_more _ e (rw n at h)
]

pub is_found : (line : List ℕ) (r : Option Event) → r ≡ event_in line → (e : Event) → (r ≡ Some e) ↔ IsEventLine line e
is_found line r h e = (λ some. is line e (sym h ∙ some), λ line_is. h ∙ found line e line_is)

-- Lists of lines

pub same_events : (all : List (List ℕ)) (events others : List Event) → AreEventLines all events → AreEventLines all others → events ≡ others
same_events [] [] [] h g = refl
same_events [] [] (f ∷ fs) h g = absurd g
same_events [] (e ∷ es) fs h g = absurd h
same_events (l ∷ ls) [] fs h g = absurd h
same_events (l ∷ ls) (e ∷ es) [] h g = absurd g
same_events (l ∷ ls) (e ∷ es) (f ∷ fs) h g =
    let one : Some e ≡ Some f = sym (found l e h.0) ∙ found l f g.0 in
    let more : es ≡ fs = same_events ls es fs h.1 g.1 in
    cc

pub as_many : (all : List (List ℕ)) (events : List Event) → AreEventLines all events → length all ≡ length events
as_many [] [] h = refl
as_many [] (e ∷ es) h = absurd h
as_many (l ∷ ls) [] h = absurd h
as_many (l ∷ ls) (e ∷ es) h = omega (arith, as_many ls es h.1)

pub one_more : (all : List (List ℕ)) (events : List Event) (l : List ℕ) (e : Event) → AreEventLines all events → IsEventLine l e → AreEventLines (all ++ l ∷ []) (events ++ e ∷ [])
one_more [] [] l e h is = (is, tt)
one_more [] (f ∷ fs) l e h is = absurd h
one_more (k ∷ ks) [] l e h is = absurd h
one_more (k ∷ ks) (f ∷ fs) l e h is = (h.0, one_more ks fs l e h.1 is)

-- lines of which one is no event are no events
split : (front rest : List (List ℕ)) (l : List ℕ) (events : List Event) → AreEventLines (front ++ l ∷ rest) events → ((e : Event) → IsEventLine l e → ⊥) → ⊥
split [] rest l [] h never = h
split [] rest l (e ∷ es) h never = never e h.0
split (k ∷ ks) rest l [] h never = h
split (k ∷ ks) rest l (e ∷ es) h never = split ks rest l es h.1 never

pub not_both : (all : List (List ℕ)) (events : List Event) (n : ℕ) → AreEventLines all events → IsFirstBad all n → ⊥
not_both all events n h bad = split bad.front bad.rest bad.line events (subst (λ ls. AreEventLines ls events) bad.are h) bad.bad

-- the first line that is no event has one number
one_first : (front more rest others : List (List ℕ)) (l k : List ℕ) (events further : List Event) → front ++ l ∷ rest ≡ more ++ k ∷ others → AreEventLines front events → AreEventLines more further → ((e : Event) → IsEventLine l e → ⊥) → ((e : Event) → IsEventLine k e → ⊥) → length front ≡ length more
one_first [] [] rest others l k events further same h g never nor = refl
one_first [] (m ∷ ms) rest others l k events [] same h g never nor = absurd g
one_first [] (m ∷ ms) rest others l k events (e ∷ es) same h g never nor = let at : l ≡ m = cc in absurd (never e (rw at g.0))
one_first (f ∷ fs) [] rest others l k [] further same h g never nor = absurd h
one_first (f ∷ fs) [] rest others l k (e ∷ es) further same h g never nor = let at : k ≡ f = cc in absurd (nor e (rw at h.0))
one_first (f ∷ fs) (m ∷ ms) rest others l k [] further same h g never nor = absurd h
one_first (f ∷ fs) (m ∷ ms) rest others l k (e ∷ es) [] same h g never nor = absurd g
one_first (f ∷ fs) (m ∷ ms) rest others l k (e ∷ es) (d ∷ ds) same h g never nor =
    let tails : fs ++ l ∷ rest ≡ ms ++ k ∷ others = cc in
    omega (arith, one_first fs ms rest others l k es ds tails h.1 g.1 never nor)

pub same_number : (all : List (List ℕ)) (m n : ℕ) → IsFirstBad all m → IsFirstBad all n → m ≡ n
same_number all m n h g = omega (arith, h.counted, g.counted, one_first h.front g.front h.rest g.rest h.line g.line h.events g.events (sym h.are ∙ g.are) h.before g.before h.bad g.bad)

-- the first lines of all are these events, and the others are still to be read
pub record HasRead (all : List (List ℕ)) (most : ℕ) (left : List ℕ) (events : List Event) : Type 0 where
  pub front : List (List ℕ)
  pub are : all ≡ front ++ lines left
  pub before : AreEventLines front events
  pub few : length events + length left ≤ most

pub further : (all : List (List ℕ)) (most : ℕ) (left after line : List ℕ) (events : List Event) (e : Event) → HasRead all most left events → lines left ≡ line ∷ lines after → length after < length left → IsEventLine line e → HasRead all most after (events ++ e ∷ [])
further all most left after line events e h parts shorter is = record {
  front = h.front ++ line ∷ [];
  are = h.are ∙ ap (λ ls. h.front ++ ls) parts ∙ sym (append_assoc h.front (line ∷ []) (lines after));
  before = one_more h.front events line e h.before is;
  few = let longer : length (events ++ e ∷ []) ≡ length events + 1 = omega (arith, length-append events (e ∷ [])) in omega (arith, h.few, longer, shorter);
}

pub stopped : (all : List (List ℕ)) (most : ℕ) (left after line : List ℕ) (events : List Event) (n : ℕ) → HasRead all most left events → lines left ≡ line ∷ lines after → ((e : Event) → IsEventLine line e → ⊥) → n ≡ length events + 1 → IsFirstBad all n
stopped all most left after line events n h parts none count = record {
  front = h.front;
  events = events;
  line = line;
  rest = lines after;
  are = h.are ∙ ap (λ ls. h.front ++ ls) parts;
  before = h.before;
  bad = none;
  counted = omega (arith, count, as_many h.front events h.before);
}

pub done : (all : List (List ℕ)) (most : ℕ) (left : List ℕ) (events : List Event) → HasRead all most left events → length left ≡ 0 → AreEventLines all events
done all most [] events h over = subst (λ ls. AreEventLines ls events) (sym (h.are ∙ append-nil h.front)) h.before
done all most (b ∷ bs) events h over = absurd (omega arith)
