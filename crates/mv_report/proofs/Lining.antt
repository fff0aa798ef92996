-- The lines of the journal in a text are those of the events that it shows.
use Rattle.std.proofs.Common.{◌≡◌, ℕ, Bool, true, false, not, if◌then◌else◌, List, [], ◌∷◌, ◌++◌, Some, None, map, drop, refl, sym, ap, ◌∙◌, append_assoc, append-nil}
use Rattle.std.specs.Prelude.{◌==◌, ◌&&◌, ◌||◌, codes}
use Rattle.std.proofs.lemmas.Bool.{eqb-true}
use Rattle.std.proofs.lemmas.Option.{same_Some}
use Rattle.mv_values.specs.declared.rows.Keyed.{Keyed}
use Rattle.mv_values.specs.declared.schema.TableInfo.{TableInfo}
use Rattle.mv_values.specs.Texts.{line}
use Rattle.mv_journal.specs.declared.event.Event.{Event}
use Rattle.mv_journal.specs.declared.event.Event.TheVariants.{B, S, A, M, C, X, R, G}
use Rattle.mv_journal.specs.Events.{event_text}
use Rattle.mv_lawful.specs.Outcomes.{shown}
use Rattle.mv_report.specs.Text.{journal_text, tables_text, text_of}
use Rattle.mv_report.specs.JournalLines.{is_word, begins_with, lines_from, lines_in, after_journal, ends_journal, before_tables, TextHasJournal}
use Rattle.mv_report.proofs.Finding.{ArePlain, passes, found, found_journal, plain_pass, decimal_plain}

-- Lines before the journal

abbrev Skips : List ℕ → Type 0
Skips bs =
    (after_journal (lines_in bs) ≡ after_journal (lines_in (found true false bs)))
    × ((q : Bool) (b : ℕ) (front : List ℕ) → (b == 106) ≡ false → after_journal (lines_from q (b ∷ front) bs) ≡ after_journal (lines_in (found false q bs)))

-- an LF is no quote
unquoted : (c : ℕ) (q : Bool) → (c == 10) ≡ true → (if c == 39 then not q else q) ≡ q
unquoted c q is = ap (λ x. if x == 39 then not q else q) (eqb-true c 10 is)

start_more : (c : ℕ) (bs : List ℕ) → Skips bs → after_journal (lines_in (c ∷ bs)) ≡ after_journal (lines_in (found true false (c ∷ bs)))
start_more c bs go = by (c == 106) refl
  where
    by_end : (c == 106) ≡ false → (t : Bool) → (c == 10) ≡ t
        → after_journal (if t && true then [] ∷ lines_in bs else lines_from (if c == 39 then true else false) (c ∷ []) bs) ≡ after_journal (lines_in (found (t && true) (if c == 39 then true else false) bs))
    by_end e true is = go.0 ∙ ap (λ r. after_journal (lines_in (found true r bs))) (sym (unquoted c false is))
    by_end e false is = go.1 (if c == 39 then true else false) c [] e

    by : (t : Bool) → (c == 106) ≡ t → after_journal (lines_in (c ∷ bs)) ≡ after_journal (lines_in (if t then c ∷ bs else found ((c == 10) && true) (if c == 39 then true else false) bs))
    by true e = refl
    by false e = by_end e (c == 10) refl

within_more : (q : Bool) (b : ℕ) (front : List ℕ) (c : ℕ) (bs : List ℕ) → (b == 106) ≡ false → Skips bs → after_journal (lines_from q (b ∷ front) (c ∷ bs)) ≡ after_journal (lines_in (found false q (c ∷ bs)))
within_more q b front c bs other go = by q (c == 10) refl
  where
    more : (r : Bool) → after_journal (lines_from (if c == 39 then not r else r) (b ∷ (front ++ c ∷ [])) bs) ≡ after_journal (lines_in (found false (if c == 39 then not r else r) bs))
    more r = go.1 (if c == 39 then not r else r) b (front ++ c ∷ []) other

    by : (r s : Bool) → (c == 10) ≡ s
        → after_journal (if s && not r then (b ∷ front) ∷ lines_in bs else lines_from (if c == 39 then not r else r) (b ∷ (front ++ c ∷ [])) bs) ≡ after_journal (lines_in (found (s && not r) (if c == 39 then not r else r) bs))
    by true true is = more true
    by true false is = more true
    by false true is =
        ap (λ t. if t && is_word front (codes "ournal") then lines_in bs else after_journal (lines_in bs)) other
        ∙ (go.0 ∙ ap (λ r. after_journal (lines_in (found true r bs))) (sym (unquoted c false is)))
    by false false is = more false

-- no line before the first that begins with `j` is `journal`
skips : (bs : List ℕ) → Skips bs
skips [] = (refl, λ q b front other. refl)
skips (c ∷ bs) = (start_more c bs (skips bs), λ q b front other. within_more q b front c bs other (skips bs))

-- Whole lines

whole : (bs rest front : List ℕ) (q : Bool) → passes q bs ≡ Some false → lines_from q front (bs ++ 10 ∷ rest) ≡ (front ++ bs) ∷ lines_in rest
whole [] rest front q h =
    ap (λ r. if not r then front ∷ lines_in rest else lines_from r (front ++ 10 ∷ []) rest) (same_Some q false h) ∙ ap (λ l. l ∷ lines_in rest) (sym (append-nil front))
whole (b ∷ bs) rest front q h = by ((b == 10) && not q) h (whole bs rest (front ++ b ∷ []) (if b == 39 then not q else q))
  where
    by : (t : Bool) → (if t then None else passes (if b == 39 then not q else q) bs) ≡ Some false
        → (passes (if b == 39 then not q else q) bs ≡ Some false → lines_from (if b == 39 then not q else q) (front ++ b ∷ []) (bs ++ 10 ∷ rest) ≡ ((front ++ b ∷ []) ++ bs) ∷ lines_in rest)
        → (if t then front ∷ lines_in (bs ++ 10 ∷ rest) else lines_from (if b == 39 then not q else q) (front ++ b ∷ []) (bs ++ 10 ∷ rest)) ≡ (front ++ b ∷ bs) ∷ lines_in rest
    by true k go = cc
    by false k go = go k ∙ ap (λ l. l ∷ lines_in rest) (append_assoc front (b ∷ []) bs)

-- The lines of events

line_more : (l rest : List ℕ) → ArePlain l → ends_journal l ≡ false → before_tables (lines_in (line l ++ rest)) ≡ l ∷ before_tables (lines_in rest)
line_more l rest plain other =
    ap (λ bs. before_tables (lines_in bs)) (append_assoc l (10 ∷ []) rest)
    ∙ (ap before_tables (whole l rest [] false (plain_pass l false plain)) ∙ ap (λ t. if t then [] else l ∷ before_tables (lines_in rest)) other)

event_more : (l rest : List ℕ) (es : List Event) → ArePlain l → ends_journal l ≡ false → before_tables (lines_in (journal_text es ++ rest)) ≡ map event_text (shown es) ++ before_tables (lines_in rest)
    → before_tables (lines_in ((line l ++ journal_text es) ++ rest)) ≡ l ∷ (map event_text (shown es) ++ before_tables (lines_in rest))
event_more l rest es plain other go =
    ap (λ bs. before_tables (lines_in bs)) (append_assoc (line l) (journal_text es) rest) ∙ (line_more l (journal_text es ++ rest) plain other ∙ ap (λ ls. l ∷ ls) go)

events_lines : (es : List Event) (rest : List ℕ) → before_tables (lines_in (journal_text es ++ rest)) ≡ map event_text (shown es) ++ before_tables (lines_in rest)
events_lines [] rest = refl
events_lines (B c ∷ es) rest = event_more (event_text (B c)) rest es ((refl, refl, refl), ((refl, refl, refl), decimal_plain c)) refl (events_lines es rest)
events_lines (S c ∷ es) rest = events_lines es rest
events_lines (A c ∷ es) rest = event_more (event_text (A c)) rest es ((refl, refl, refl), ((refl, refl, refl), decimal_plain c)) refl (events_lines es rest)
events_lines (M c ∷ es) rest = event_more (event_text (M c)) rest es ((refl, refl, refl), ((refl, refl, refl), decimal_plain c)) refl (events_lines es rest)
events_lines (C c ∷ es) rest = event_more (event_text (C c)) rest es ((refl, refl, refl), ((refl, refl, refl), decimal_plain c)) refl (events_lines es rest)
events_lines (X c ∷ es) rest = event_more (event_text (X c)) rest es ((refl, refl, refl), ((refl, refl, refl), decimal_plain c)) refl (events_lines es rest)
events_lines (R c ∷ es) rest = event_more (event_text (R c)) rest es ((refl, refl, refl), ((refl, refl, refl), decimal_plain c)) refl (events_lines es rest)
events_lines (G ∷ es) rest = events_lines es rest

-- What comes after them

begins_more : (l word bs : List ℕ) → begins_with l word ≡ true → begins_with (l ++ bs) word ≡ true
begins_more l [] bs h = refl
begins_more [] (b ∷ word) bs h = cc
begins_more (a ∷ l) (b ∷ word) bs h = by (a == b) h (begins_more l word bs)
  where
    by : (t : Bool) → (t && begins_with l word) ≡ true → (begins_with l word ≡ true → begins_with (l ++ bs) word ≡ true) → (t && begins_with (l ++ bs) word) ≡ true
    by true k go = go k
    by false k go = cc

-- a line that begins with `table` is the last that is looked at
ended : (bs front : List ℕ) (q : Bool) → begins_with front (codes "table") ≡ true → before_tables (lines_from q front bs) ≡ []
ended [] front q h = refl
ended (b ∷ bs) front q h = by ((b == 10) && not q) (ended bs (front ++ b ∷ []) (if b == 39 then not q else q) (begins_more front (codes "table") (b ∷ []) h))
  where
    by : (t : Bool) → before_tables (lines_from (if b == 39 then not q else q) (front ++ b ∷ []) bs) ≡ []
        → before_tables (if t then front ∷ lines_in bs else lines_from (if b == 39 then not q else q) (front ++ b ∷ []) bs) ≡ []
    by true go = ap (λ s. if s || is_word front (codes "end") then [] else front ∷ before_tables (lines_in bs)) h
    by false go = go

table_ends : (bs : List ℕ) → before_tables (lines_in (codes "table" ++ bs)) ≡ []
table_ends bs = ended bs (codes "table") false refl

tail_ends : (tables : List TableInfo) (database : List (List Keyed)) → before_tables (lines_in (tables_text tables database ++ line (codes "end"))) ≡ []
tail_ends [] database = refl
tail_ends (t ∷ ts) [] = refl
tail_ends (t ∷ ts) (rows ∷ later) = table_ends (drop 5 (tables_text (t ∷ ts) (rows ∷ later) ++ line (codes "end")))

pub text_has_journal : TextHasJournal
text_has_journal tables o plain =
    let tail : List ℕ = tables_text tables o.tables ++ line (codes "end") in
    ap before_tables ((skips (text_of tables o)).0 ∙ ap (λ bs. after_journal (lines_in bs)) (found_journal tables o plain.lines))
    ∙ (events_lines o.journal tail ∙ (ap (λ ls. map event_text (shown o.journal) ++ ls) (tail_ends tables o.tables) ∙ append-nil (map event_text (shown o.journal))))
