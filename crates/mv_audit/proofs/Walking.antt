-- Journals, event by event.
use Rattle.std.proofs.Common.{◌≡◌, ℕ, zero, suc, ◌+◌, ◌<◌, ◌≤◌, Bool, true, false, not, List, [], ◌∷◌, Option, Some, None, length, drop, get_or, refl, sym, ap, ◌∙◌, arith, rules}
use Rattle.std.specs.Prelude.{nat_lt, slice_get, if◌then◌else◌}
use Rattle.std.proofs.lemmas.Option.{get_or_from_slice_get}
use Rattle.std.specs.Option.{option_map, is_some}
use Rattle.std.proofs.lemmas.List.{drop_more, drop_all}
use Rattle.mv_journal.specs.declared.event.Event.{Event}
use Rattle.mv_lawful.specs.declared.fault.EventFault.{EventFault}
use Rattle.mv_lawful.specs.declared.fault.Wrong.TheVariants.{Refused, Open}
use Rattle.mv_lawful.specs.Batch.{Batch}
use Rattle.mv_lawful.specs.Lawful.{Schedule, refusal, after, reach, open_call, or_refused, wrong_from}

pub none_of : {A : Type 0} (o : Option A) → not (is_some o) ≡ true → o ≡ None
none_of None h = refl
none_of (Some x) h = absurd (search (rules, h))

pub some_of : {A : Type 0} (o : Option A) → not (is_some o) ≡ false → (x : A) × (o ≡ Some x)
some_of None h = absurd (search (rules, h))
some_of (Some x) h = (x, refl)

-- the next event of a journal
pub next_event : (es : List Event) (i : ℕ) (e : Event) → i < length es → e ≡ get_or es i e → drop i es ≡ e ∷ drop (i + 1) es
next_event es i e lt is = drop_more es i e lt ∙ ap (λ x. x ∷ drop (i + 1) es) (sym is)

pub is_refused : (w : Batch) (s : Schedule) (es : List Event) (i : ℕ) (e : Event) → i < length es → e ≡ get_or es i e → not (is_some (refusal w s e)) ≡ false → (f : EventFault) × (wrong_from w (i + 1) s (drop i es) ≡ Some (Refused (i + 1) f))
is_refused w s es i e lt is h =
    let f = some_of (refusal w s e) h in
    (f.0, ap (wrong_from w (i + 1) s) (next_event es i e lt is) ∙ ap (λ o. or_refused (i + 1) o (wrong_from w (i + 1 + 1) (after w s e) (drop (i + 1) es))) f.1)

pub goes_on : (w : Batch) (s : Schedule) (es : List Event) (i : ℕ) (e : Event) → i < length es → e ≡ get_or es i e → refusal w s e ≡ None → wrong_from w (i + 1) s (drop i es) ≡ wrong_from w (i + 1 + 1) (after w s e) (drop (i + 1) es)
goes_on w s es i e lt is h =
    ap (wrong_from w (i + 1) s) (next_event es i e lt is) ∙ ap (λ o. or_refused (i + 1) o (wrong_from w (i + 1 + 1) (after w s e) (drop (i + 1) es))) h

pub reaches_on : (w : Batch) (s : Schedule) (es : List Event) (i : ℕ) (e : Event) → i < length es → e ≡ get_or es i e → reach w s (drop i es) ≡ reach w (after w s e) (drop (i + 1) es)
reaches_on w s es i e lt is = ap (reach w s) (next_event es i e lt is)

-- the end of a journal
pub all_read : (w : Batch) (s : Schedule) (es : List Event) (i n : ℕ) → length es ≤ i → wrong_from w n s (drop i es) ≡ option_map Open (open_call w s)
all_read w s es i n le = ap (wrong_from w n s) (drop_all i es le)

pub all_reached : (w : Batch) (s : Schedule) (es : List Event) (i : ℕ) → length es ≤ i → reach w s (drop i es) ≡ s
all_reached w s es i le = ap (reach w s) (drop_all i es le)

pub left_open : (w : Batch) (s : Schedule) → is_some (open_call w s) ≡ true → (c : ℕ) × (option_map Open (open_call w s) ≡ Some (Open c))
left_open w s h = by (open_call w s) refl h where
  by : (o : Option ℕ) → open_call w s ≡ o → is_some o ≡ true → (c : ℕ) × (option_map Open (open_call w s) ≡ Some (Open c))
  by None is k = absurd (search (rules, k))
  by (Some c) is k = (c, ap (option_map Open) is)

pub shut_of : (w : Batch) (s : Schedule) → is_some (open_call w s) ≡ false → open_call w s ≡ None
shut_of w s h = by (open_call w s) h where
  by : (o : Option ℕ) → is_some o ≡ false → o ≡ None
  by None k = refl
  by (Some c) k = absurd (search (rules, k))

pub open_is : (n count : ℕ) (b : Bool) → b ≡ nat_lt n count → b ≡ is_some (if nat_lt n count then Some n else None)
open_is n count b is = is ∙ by (nat_lt n count) where
  by : (x : Bool) → x ≡ is_some (if x then Some n else None)
  by true = refl
  by false = refl

-- The item at a place

pub get_at : {X : Type 0} (xs : List X) (i : ℕ) (d : X) → i < length xs → slice_get xs i ≡ Some (get_or xs i d)
get_at [] i d l = absurd (omega (arith, l))
get_at (x ∷ xs) zero d l = refl
get_at (x ∷ xs) (suc i) d l = get_at xs i d (omega (arith, l))

pub got_is : {X : Type 0} (xs : List X) (i : ℕ) (x : X) → slice_get xs i ≡ Some x → x ≡ get_or xs i x
got_is xs i x is = sym (get_or_from_slice_get xs i x x is)
