-- The lines of bytes.
use Rattle.std.proofs.Common.{◌≡◌, ◌∷◌, ◌++◌, ◌+◌, ◌-◌, ◌<◌, ◌≤◌, rules, ℕ, Bool, false, List, [], length, take, drop, Some, None, refl, ap, sym, ◌∙◌, subst, arith, get_or, append_assoc, append-nil}
use Rattle.std.specs.Prelude.{◌==◌, nat_lt}
use Rattle.std.specs.List.{slice_split, position, position_or_len, before_first, after_first, All}
use Rattle.std.specs.Str.Lines.{lines, lines_of_parts, strip_carriage_return}
use Rattle.std.specs.Prelude.{decimal, ◌^◌}
use Rattle.std.specs.Int.{IsInRange as IsBetween}
use Rattle.std.specs.Str.Parse.{AllDigits}
use Rattle.std.proofs.lemmas.Fmt.{decimal_is_IsNumeral}
use Rattle.std.proofs.lemmas.Str.Parse.{digit_from_value}
use Rattle.mv_journal.specs.declared.event.Event.{Event}
use Rattle.mv_journal.specs.declared.event.Event.TheVariants.{B, S, A, M, C, X, R, G}
use Rattle.mv_journal.specs.Events.{event_text, events_text, IsInRange}
use Rattle.mv_journal.specs.Lines.{IsNumber, IsEventLine, AreEventLines}
use Rattle.std.proofs.lemmas.Bool.{ne_eqb}
use Rattle.std.proofs.lemmas.List.Elements.{All-from_get_or, All-get_or, All-nil, All-cons, All-head, All-tail}
use Rattle.std.proofs.lemmas.List.{take_more}
use Rattle.std.proofs.lemmas.List.Sums.{fails_before_first}
use Rattle.std.proofs.lemmas.List.Splits.{slice_split_first, slice_split_none, slice_split_at, length-slice_split}
use Rattle.std.proofs.lemmas.Option.{cond_some}
use Rattle.mv_values.proofs.Deciding.{none_where}

abbrev IsEnd : ℕ → Bool
IsEnd b = b == 10

parts_more : (line : List ℕ) (parts : List (List ℕ)) → 0 < length parts → lines_of_parts (line ∷ parts) ≡ strip_carriage_return line ∷ lines_of_parts parts
parts_more line [] h = absurd (omega arith)
parts_more line (p ∷ ps) h = refl

some_parts : (bs : List ℕ) → 0 < length (slice_split IsEnd bs)
some_parts bs = omega (arith, length-slice_split IsEnd bs)

-- the first line is what stands before the first LF
pub more_lines : (bs : List ℕ) (at : ℕ) → position IsEnd bs ≡ Some at → lines bs ≡ strip_carriage_return (take at bs) ∷ lines (drop (at + 1) bs)
more_lines bs at h =
    let w = cond_some (nat_lt (position_or_len IsEnd bs) (length bs)) (position_or_len IsEnd bs) at h in
    let within : position_or_len IsEnd bs < length bs = search (rules, w.0) in
    ap lines_of_parts (slice_split_first IsEnd bs 0 within)
    ∙ parts_more (before_first IsEnd bs) (slice_split IsEnd (after_first IsEnd bs)) (some_parts (after_first IsEnd bs))
    ∙ rw (w.1) refl

-- bytes without an LF are one line
pub one_line : (bs : List ℕ) → 0 < length bs → position IsEnd bs ≡ None → lines bs ≡ bs ∷ []
one_line bs some h =
    let over : length bs ≤ position_or_len IsEnd bs = search (rules, none_where (nat_lt (position_or_len IsEnd bs) (length bs)) (position_or_len IsEnd bs) h) in
    let all : All (λ b. IsEnd b ≡ false) bs = All-from_get_or (λ b. IsEnd b ≡ false) bs 0 (λ i within. fails_before_first IsEnd bs i 0 (omega arith)) in
    ap lines_of_parts (slice_split_none IsEnd bs all) ∙ by bs some
  where
    by : (bs : List ℕ) → 0 < length bs → lines_of_parts (bs ∷ []) ≡ bs ∷ []
    by [] h = absurd (omega arith)
    by (b ∷ bs) h = rw (ne_eqb (length (b ∷ bs)) 0 (λ e. omega arith)) refl

-- Bytes that can stand in the line of an event

abbrev pub IsClean : List ℕ → Type 0
IsClean bs = All (λ b. 32 ≤ b) bs

clean_stays : (line : List ℕ) → IsClean line → strip_carriage_return line ≡ line
clean_stays [] clean = refl
clean_stays (b ∷ bs) clean =
    let last : 32 ≤ get_or (b ∷ bs) (length (b ∷ bs) - 1) 0 = All-get_or (λ b. 32 ≤ b) (b ∷ bs) (length (b ∷ bs) - 1) 0 (omega arith) clean in
    let other : (get_or (b ∷ bs) (length (b ∷ bs) - 1) 0 == 13) ≡ false = ne_eqb (get_or (b ∷ bs) (length (b ∷ bs) - 1) 0) 13 (λ e. omega arith) in
    rw other refl

-- a clean line and an LF before further bytes
pub line_before : (line rest : List ℕ) → IsClean line → lines (line ++ 10 ∷ rest) ≡ line ∷ lines rest
line_before line rest clean =
    let all : All (λ b. IsEnd b ≡ false) line = All-from_get_or (λ b. IsEnd b ≡ false) line 0 (λ i within. let big : 32 ≤ get_or line i 0 = All-get_or (λ b. 32 ≤ b) line i 0 within clean in ne_eqb (get_or line i 0) 10 (λ e. omega arith)) in
    ap lines_of_parts (slice_split_at IsEnd line 10 rest all refl)
    ∙ parts_more line (slice_split IsEnd rest) (some_parts rest)
    ∙ ap (λ l. l ∷ lines rest) (clean_stays line clean)

digits_clean : (ds : List ℕ) → AllDigits 10 ds → IsClean ds
digits_clean [] h = All-nil (λ b. 32 ≤ b)
digits_clean (d ∷ ds) h = let digit : IsBetween 48 57 d = digit_from_value d h.0 in All-cons (λ b. 32 ≤ b) d ds (omega arith) (digits_clean ds h.1)

named_clean : (letter call : ℕ) → 32 ≤ letter → call < 2 ^ 32 → IsClean (letter ∷ 32 ∷ decimal call)
named_clean letter call big small = All-cons (λ b. 32 ≤ b) letter (32 ∷ decimal call) big (All-cons (λ b. 32 ≤ b) 32 (decimal call) (omega arith) (digits_clean (decimal call) (decimal_is_IsNumeral call (omega arith)).0.1))

event_clean : (event : Event) → IsInRange event → IsClean (event_text event)
event_clean (B call) small = named_clean 66 call (omega arith) small
event_clean (S call) small = named_clean 83 call (omega arith) small
event_clean (A call) small = named_clean 65 call (omega arith) small
event_clean (M call) small = named_clean 77 call (omega arith) small
event_clean (C call) small = named_clean 67 call (omega arith) small
event_clean (X call) small = named_clean 88 call (omega arith) small
event_clean (R call) small = named_clean 82 call (omega arith) small
event_clean G small = All-cons (λ b. 32 ≤ b) 71 [] (omega arith) (All-nil (λ b. 32 ≤ b))

is_number : (call : ℕ) → call < 2 ^ 32 → IsNumber (decimal call) call
is_number call small = let d = decimal_is_IsNumeral call (omega arith) in (d.0, d.1, small)

pub written_is : (event : Event) → IsInRange event → IsEventLine (event_text event) event
written_is (B call) small = (decimal call, refl, is_number call small)
written_is (S call) small = (decimal call, refl, is_number call small)
written_is (A call) small = (decimal call, refl, is_number call small)
written_is (M call) small = (decimal call, refl, is_number call small)
written_is (C call) small = (decimal call, refl, is_number call small)
written_is (X call) small = (decimal call, refl, is_number call small)
written_is (R call) small = (decimal call, refl, is_number call small)
written_is G small = refl

-- what is written reads back
pub back : (events : List Event) → All IsInRange events → AreEventLines (lines (events_text events)) events
back [] small = tt
back (e ∷ es) small =
    let parts : lines (events_text (e ∷ es)) ≡ event_text e ∷ lines (events_text es) =
    ap lines (append_assoc (event_text e) (10 ∷ []) (events_text es)) ∙ line_before (event_text e) (events_text es) (event_clean e (All-head IsInRange e es small)) in
    subst (λ ls. AreEventLines ls (e ∷ es)) (sym parts) (written_is e (All-head IsInRange e es small), back es (All-tail IsInRange e es small))

one_text : (event : Event) → events_text (event ∷ []) ≡ event_text event ++ 10 ∷ []
one_text event = append-nil (event_text event ++ 10 ∷ [])

texts_join : (events others : List Event) → events_text (events ++ others) ≡ events_text events ++ events_text others
texts_join [] others = refl
texts_join (e ∷ es) others = ap (λ bs. (event_text e ++ 10 ∷ []) ++ bs) (texts_join es others) ∙ sym (append_assoc (event_text e ++ 10 ∷ []) (events_text es) (events_text others))

-- one event more is written
pub written_on : (events : List Event) (i : ℕ) (d : Event) (before text with_event after : List ℕ) → i < length events
    → text ≡ before ++ events_text (take i events) → with_event ≡ text ++ event_text (get_or events i d) → after ≡ with_event ++ 10 ∷ []
    → after ≡ before ++ events_text (take (i + 1) events)
written_on events i d before text with_event after within h g k =
    let event = get_or events i d in
    let one : after ≡ (text ++ event_text event) ++ 10 ∷ [] = rw (k, g) refl in
    one
    ∙ append_assoc text (event_text event) (10 ∷ [])
    ∙ rw (h, append_assoc before (events_text (take i events)) (event_text event ++ 10 ∷ [])) refl
    ∙ ap (λ bs. before ++ bs) (ap (λ bs. events_text (take i events) ++ bs) (sym (one_text event)) ∙ sym (texts_join (take i events) (event ∷ [])) ∙ ap events_text (sym (take_more events i d within)))
