-- What an event does to bars.
use Rattle.std.proofs.Common.{◌≡◌, ◌⊎◌, ◌+◌, ◌<◌, ◌≤◌, ℕ, zero, suc, Bool, true, false, List, [], ◌∷◌, ◌++◌, length, set, take, get_or, Option, Some, refl, sym, ap, subst, ◌∙◌, inl, inr, cond, eq-eqb, arith, length-append, length-set}
use Rattle.std.specs.Prelude.{slice_get, count_by, IsTrue, not, ◌==◌}
use Rattle.std.specs.List.{list_all}
use Rattle.std.proofs.lemmas.Bool.{and_parts}
use Rattle.std.proofs.lemmas.List.{take_all, take_more}
use Rattle.std.proofs.lemmas.List.Sums.{sum_by-append}
use Rattle.mv_journal.specs.declared.event.Event.{Event}
use Rattle.mv_journal.specs.declared.event.Event.TheVariants.{B}
use Rattle.mv_trace.specs.declared.bars.Bar.{Bar}
use Rattle.mv_trace.specs.Bars.{is_begin, begins, ends, IsAt, AreBars, IsOpenBar, AreOpen, has_ended}

-- Lists

same_Some : {X : Type 0} (x y : X) → ◌≡◌ {A = Option X} (Some x) (Some y) → x ≡ y
same_Some x y h = cc

front_get : {X : Type 0} (xs ys : List X) (i : ℕ) (x : X) → slice_get xs i ≡ Some x → slice_get (xs ++ ys) i ≡ Some x
front_get [] ys i x h = cc h
front_get (z ∷ xs) ys zero x h = h
front_get (z ∷ xs) ys (suc i) x h = front_get xs ys i x h

last_get : {X : Type 0} (xs : List X) (x : X) → slice_get (xs ++ x ∷ []) (length xs) ≡ Some x
last_get [] x = refl
last_get (z ∷ xs) x = last_get xs x

snoc_get : {X : Type 0} (xs : List X) (x y : X) (i : ℕ) → slice_get (xs ++ x ∷ []) i ≡ Some y → (slice_get xs i ≡ Some y) ⊎ ((i ≡ length xs) × (y ≡ x))
snoc_get [] x y zero h = inr (refl, sym (same_Some x y h))
snoc_get [] x y (suc i) h = cc h
snoc_get (z ∷ xs) x y zero h = inl h
snoc_get (z ∷ xs) x y (suc i) h = elim (snoc_get xs x y i h) [ inl g ↦ inl g | inr g ↦ inr (ap suc g.0, g.1) ]

set_get : {X : Type 0} (xs : List X) (at : ℕ) (x y : X) (i : ℕ) → slice_get (set xs at x) i ≡ Some y → (slice_get xs i ≡ Some y) ⊎ ((i ≡ at) × (y ≡ x))
set_get [] at x y i h = cc h
set_get (z ∷ xs) zero x y zero h = inr (refl, sym (same_Some x y h))
set_get (z ∷ xs) zero x y (suc i) h = inl h
set_get (z ∷ xs) (suc at) x y zero h = inl h
set_get (z ∷ xs) (suc at) x y (suc i) h = elim (set_get xs at x y i h) [ inl g ↦ inl g | inr g ↦ inr (ap suc g.0, g.1) ]

all_get : {X : Type 0} (p : X → Bool) (xs : List X) (i : ℕ) (x : X) → list_all p xs ≡ true → slice_get xs i ≡ Some x → p x ≡ true
all_get p [] i x h g = cc g
all_get p (z ∷ xs) zero x h g = subst (λ w. p w ≡ true) (same_Some z x g) (and_parts (p z) (list_all p xs) h).0
all_get p (z ∷ xs) (suc i) x h g = all_get p xs i x (and_parts (p z) (list_all p xs) h).1 g

-- Bars

at_later : (events : List Event) (event : Event) (place : ℕ) (test : Event → Bool) → IsAt events place test → IsAt (events ++ event ∷ []) place test
at_later events event place test h = (h.0, front_get events (event ∷ []) place h.0 h.1, h.2)

at_last : (events : List Event) (event : Event) (place : ℕ) (test : Event → Bool) → place ≡ length events → IsTrue (test event) → IsAt (events ++ event ∷ []) place test
at_last events event place test e h = (event, ap (slice_get (events ++ event ∷ [])) e ∙ last_get events event, h)

later : (events : List Event) (event : Event) (call : ℕ) (bar : Bar) → IsOpenBar events call bar → IsOpenBar (events ++ event ∷ []) call bar
later events event call bar h = record {
  from = at_later events event bar.from (begins call) h.from;
  to = elim h.to [ inl same ↦ inl same | inr at ↦ inr (at_later events event bar.to (ends call) at) ];
}

counted : (events : List Event) (event : Event) → is_begin event ≡ false → count_by is_begin (events ++ event ∷ []) ≡ count_by is_begin events
counted events event begins_none = omega (arith, sum_by-append (λ x. cond (is_begin x) 1 0) events (event ∷ []), one event begins_none)
  where
    one : (event : Event) → is_begin event ≡ false → count_by is_begin (event ∷ []) ≡ 0
    one event begins_none = rw begins_none refl

-- an event that begins no call, and the bars as they were
pub stays : (events : List Event) (event : Event) (bars : List Bar) → is_begin event ≡ false → AreOpen events bars → AreOpen (events ++ event ∷ []) bars
stays events event bars begins_none h = record {
  are = λ call bar g. later events event call bar (h.are call bar g);
  each = h.each ∙ sym (counted events event begins_none);
}

-- an event that begins a call
pub begun : (events : List Event) (bars : List Bar) (call : ℕ) (bar : Bar) → call ≡ length bars → bar.from ≡ length events → bar.to ≡ length events
    → AreOpen events bars → AreOpen (events ++ B call ∷ []) (bars ++ bar ∷ [])
begun events bars call bar next from to h = record {
  are = λ c b g. elim (snoc_get bars bar b c g) [
    | inl there ↦ later events (B call) c b (h.are c b there)
    | inr new ↦ subst (λ b. IsOpenBar (events ++ B call ∷ []) c b) (sym new.1) (record {
      from = at_last events (B call) bar.from (begins c) from (eq-eqb call c (next ∙ sym new.0));
      to = inl (from ∙ sym to);
    })
  ];
  each = omega (arith, h.each, length-append bars (bar ∷ []), sum_by-append (λ x. cond (is_begin x) 1 0) events (B call ∷ []));
}

replaced : (events : List Event) (event : Event) (bars : List Bar) (call : ℕ) (bar : Bar) → is_begin event ≡ false → IsOpenBar (events ++ event ∷ []) call bar
    → AreOpen events bars → AreOpen (events ++ event ∷ []) (set bars call bar)
replaced events event bars call bar begins_none is h = record {
  are = λ c b g. elim (set_get bars call bar b c g) [
    | inl there ↦ later events event c b (h.are c b there)
    | inr new ↦ subst (λ c. IsOpenBar (events ++ event ∷ []) c b) (sym new.0) (subst (λ b. IsOpenBar (events ++ event ∷ []) call b) (sym new.1) is)
  ];
  each = length-set bars call bar ∙ (h.each ∙ sym (counted events event begins_none));
}

-- an event that leaves both ends of a bar
pub kept : (events : List Event) (event : Event) (bars : List Bar) (call : ℕ) (old bar : Bar) → is_begin event ≡ false → slice_get bars call ≡ Some old
    → bar.from ≡ old.from → bar.to ≡ old.to → AreOpen events bars → AreOpen (events ++ event ∷ []) (set bars call bar)
kept events event bars call old bar begins_none there from to h =
    let was = later events event call old (h.are call old there) in
    replaced events event bars call bar begins_none (record {
      from = subst (λ place. IsAt (events ++ event ∷ []) place (begins call)) (sym from) was.from;
      to = elim was.to [
        | inl same ↦ inl (from ∙ (same ∙ sym to))
        | inr at ↦ inr (subst (λ place. IsAt (events ++ event ∷ []) place (ends call)) (sym to) at)
      ];
    }) h

-- a number is the same as itself
pub same : (call : ℕ) → (call == call) ≡ true
same call = eq-eqb call call refl

-- an event with which a call ends
pub ended : (events : List Event) (event : Event) (bars : List Bar) (call : ℕ) (old bar : Bar) → is_begin event ≡ false → slice_get bars call ≡ Some old
    → bar.from ≡ old.from → bar.to ≡ length events → IsTrue (ends call event) → AreOpen events bars → AreOpen (events ++ event ∷ []) (set bars call bar)
ended events event bars call old bar begins_none there from to is h =
    let was = later events event call old (h.are call old there) in
    replaced events event bars call bar begins_none (record {
      from = subst (λ place. IsAt (events ++ event ∷ []) place (begins call)) (sym from) was.from;
      to = inr (at_last events event bar.to (ends call) to is);
    }) h

-- bars of calls that have ended
pub closed : (events : List Event) (bars : List Bar) → list_all has_ended bars ≡ true → AreOpen events bars → AreBars events bars
closed events bars all h call bar there =
    let open_bar = h.are call bar there in
    let has : has_ended bar ≡ true = all_get has_ended bars call bar all there in
    record {
      from = open_bar.from;
      to = elim open_bar.to [
        | inl same ↦ absurd (differs bar.from bar.to same has)
        | inr at ↦ at
      ];
    }
  where
    differs : (a b : ℕ) → a ≡ b → not (a == b) ≡ true → ⊥
    differs a b same has =
        let is : (a == b) ≡ true = eq-eqb a b same in
        let begins_none : false ≡ true = sym (ap not is) ∙ has in
        cc begins_none

-- before any event
pub opened : (bars : List Bar) → bars ≡ [] → AreOpen [] bars
opened bars e = subst (AreOpen []) (sym e) (record {
  are = λ call bar there. cc there;
  each = refl;
})

-- the bars past one event more
pub next_event : (events : List Event) (i : ℕ) (other : Event) (bars : List Bar) → i < length events → AreOpen (take i events ++ get_or events i other ∷ []) bars → AreOpen (take (i + 1) events) bars
next_event events i other bars within h = subst (λ seen. AreOpen seen bars) (sym (take_more events i other within)) h

-- the events after all of them were seen
pub seen_all : (events : List Event) (i : ℕ) (bars : List Bar) → length events ≤ i → AreOpen (take i events) bars → AreOpen events bars
seen_all events i bars all h = subst (λ seen. AreOpen seen bars) (take_all i events all) h
