-- The lines of events are read as these events.
use Rattle.std.proofs.Common.{◌≡◌, ℕ, Bool, true, false, List, [], ◌∷◌, Option, Some, None, All, map, refl, ap, subst, ◌∙◌, if◌then◌else◌}
use Rattle.std.specs.Option.{option_and_then}
use Rattle.std.proofs.lemmas.List.Elements.{All-head, All-tail}
use Rattle.std.proofs.lemmas.Option.{same_Some}
use Rattle.mv_journal.specs.declared.event.Event.{Event}
use Rattle.mv_journal.specs.declared.event.Event.TheVariants.{B, S, A, M, C, X, R, G}
use Rattle.mv_journal.specs.Events.{event_text, IsInRange}
use Rattle.mv_journal.specs.Reading.{event_in}
use Rattle.mv_journal.proofs.Lines.{written_is}
use Rattle.mv_journal.proofs.Reading.{found}
use Rattle.mv_lawful.specs.Outcomes.{has_line, shown}
use Rattle.mv_audit.specs.Verdicts.{shown_event, leading, events_of}

abbrev only_shown : Event → Option Event
only_shown event = if has_line event then Some event else None

-- one event more
lead : (e : Event) (es : List Event) → has_line e ≡ true → IsInRange e → events_of (map event_text es) ≡ es → events_of (event_text e ∷ map event_text es) ≡ e ∷ es
lead e es has small go =
    ap (λ o. leading (option_and_then only_shown o ∷ map shown_event (map event_text es))) (found (event_text e) e (written_is e small))
    ∙ (ap (λ (t : Bool). leading ((if t then Some e else None) ∷ map shown_event (map event_text es))) has ∙ ap (λ (l : List Event). e ∷ l) go)

pub events_back : (es : List Event) → All IsInRange es → events_of (map event_text (shown es)) ≡ shown es
events_back [] h = refl
events_back (B c ∷ es) h = lead (B c) (shown es) refl (All-head IsInRange (B c) es h) (events_back es (All-tail IsInRange (B c) es h))
events_back (S c ∷ es) h = events_back es (All-tail IsInRange (S c) es h)
events_back (A c ∷ es) h = lead (A c) (shown es) refl (All-head IsInRange (A c) es h) (events_back es (All-tail IsInRange (A c) es h))
events_back (M c ∷ es) h = lead (M c) (shown es) refl (All-head IsInRange (M c) es h) (events_back es (All-tail IsInRange (M c) es h))
events_back (C c ∷ es) h = lead (C c) (shown es) refl (All-head IsInRange (C c) es h) (events_back es (All-tail IsInRange (C c) es h))
events_back (X c ∷ es) h = lead (X c) (shown es) refl (All-head IsInRange (X c) es h) (events_back es (All-tail IsInRange (X c) es h))
events_back (R c ∷ es) h = lead (R c) (shown es) refl (All-head IsInRange (R c) es h) (events_back es (All-tail IsInRange (R c) es h))
events_back (G ∷ es) h = events_back es (All-tail IsInRange G es h)

-- Only events with a line are read

kept : (o : Option Event) (e : Event) → option_and_then only_shown o ≡ Some e → has_line e ≡ true
kept None e h = cc
kept (Some d) e h = by (has_line d) refl h
  where
    by : (t : Bool) → has_line d ≡ t → (if t then Some d else None) ≡ Some e → has_line e ≡ true
    by true is k = subst (λ (x : Event). has_line x ≡ true) (same_Some d e k) is
    by false is k = cc

pub all_shown : (lines : List (List ℕ)) → shown (events_of lines) ≡ events_of lines
all_shown [] = refl
all_shown (line ∷ lines) = by (shown_event line) refl (all_shown lines)
  where
    by : (o : Option Event) → shown_event line ≡ o → shown (events_of lines) ≡ events_of lines → shown (leading (o ∷ map shown_event lines)) ≡ leading (o ∷ map shown_event lines)
    by None is go = refl
    by (Some e) is go = ap (λ (t : Bool). if t then e ∷ shown (events_of lines) else shown (events_of lines)) (kept (event_in line) e is) ∙ ap (λ (l : List Event). e ∷ l) go
