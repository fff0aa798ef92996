-- The place in the text of a run where the line `journal` begins: the first line that begins with `j`. A quoted text may hold
-- anything, so quotes are counted.
use Rattle.std.proofs.Common.{◌≡◌, ℕ, ℤ, zero, suc, ◌+◌, Bool, true, false, not, List, [], ◌∷◌, ◌++◌, Option, Some, None, refl, sym, ap, subst, ◌∙◌, arith, append_assoc, if◌then◌else◌}
use Rattle.std.specs.Prelude.{pos, negsuc, ◌&&◌, ◌==◌, ◌/◌, ◌%◌, nat_lt, codes, decimal, All}
use Rattle.std.specs.List.{flat_map, join_by, enumerate_from}
use Rattle.std.specs.Fmt.{digits, digits_onto, digit_glyph, signed_decimal}
use Rattle.std.proofs.lemmas.Bool.Decides.{eqb_tells, nat_tests}
use Rattle.std.proofs.lemmas.List.Elements.{All-head, All-tail, All-weaker}
use Rattle.std.proofs.lemmas.Bool.{both_ways}
use Rattle.mv_values.specs.declared.value.Value.{Value}
use Rattle.mv_values.specs.declared.value.Value.TheVariants.{Int, Text}
use Rattle.mv_values.specs.declared.calls.End.{End}
use Rattle.mv_values.specs.declared.calls.End.TheVariants.{Own, Duplicate, Overflow, ZeroDivisor, TooLong, MissingParent, HasChildren}
use Rattle.mv_values.specs.declared.calls.Reply.{Reply}
use Rattle.mv_values.specs.declared.schema.TableInfo.{TableInfo}
use Rattle.mv_values.specs.Texts.{line, doubled}
use Rattle.mv_journal.specs.declared.outcome.Mark.{Mark}
use Rattle.mv_journal.specs.declared.outcome.Mark.TheVariants.{Plain, Exclusive, Moved}
use Rattle.mv_journal.specs.declared.outcome.Round.{Round}
use Rattle.mv_journal.specs.declared.outcome.HistoryLine.{HistoryLine}
use Rattle.mv_journal.specs.declared.outcome.Outcome.{Outcome}
use Rattle.mv_eval.specs.Line.{printed, printed_after, line_of}
use Rattle.mv_lawful.specs.Rounds.{last_start}
use Rattle.mv_report.specs.Text.{in_quotes, reason_text, answer_text, reply_text, replies_text, mark_text, count_text, starts_text, counts_text, rounds_text, place_text, line_text, history_text, journal_text, tables_text, text_of}
use Rattle.mv_report.specs.Shown.{IsPrinted}

-- Reading

-- within quotes or not, after bytes; none where an LF stands outside quotes
abbrev pub passes : Bool → List ℕ → Option Bool
passes q [] = Some q
passes q (b ∷ bs) = if (b == 10) && not q then None else passes (if b == 39 then not q else q) bs

-- what begins with the first line that begins with `j`; at the start of a line or not, within quotes or not
abbrev pub found : Bool → Bool → List ℕ → List ℕ
found start q [] = []
found start q (b ∷ bs) = if start && (b == 106) then b ∷ bs else found ((b == 10) && not q) (if b == 39 then not q else q) bs

-- bytes within a line
pub within : (bs rest : List ℕ) (q r : Bool) → passes q bs ≡ Some r → found false q (bs ++ rest) ≡ found false r rest
within [] rest q r h = let same : q ≡ r = cc in ap (λ s. found false s rest) same
within (b ∷ bs) rest q r h = by (within bs rest (if b == 39 then not q else q) r) ((b == 10) && not q) refl h
  where
    by : (passes (if b == 39 then not q else q) bs ≡ Some r → found false (if b == 39 then not q else q) (bs ++ rest) ≡ found false r rest) → (t : Bool) → ((b == 10) && not q) ≡ t → (if t then None else passes (if b == 39 then not q else q) bs) ≡ Some r
        → found ((b == 10) && not q) (if b == 39 then not q else q) (bs ++ rest) ≡ found false r rest
    by go true e k = cc
    by go false e k = ap (λ s. found s (if b == 39 then not q else q) (bs ++ rest)) e ∙ go k

abbrev pub Starts : List ℕ → Type 0
Starts [] = Unit {0}
Starts (b ∷ bs) = (b == 106) ≡ false

-- a line that doesn't begin so, with what comes before its LF
pub record IsOther (bs : List ℕ) : Type 0 where
  pub starts : Starts bs
  pub passes : passes false bs ≡ Some false

-- such a line is passed over
pub over : (bs rest : List ℕ) → IsOther bs → found true false ((bs ++ 10 ∷ []) ++ rest) ≡ found true false rest
over bs rest h = ap (found true false) (append_assoc bs (10 ∷ []) rest) ∙ from bs h.starts h.passes
  where
    from : (bs : List ℕ) → Starts bs → passes false bs ≡ Some false → found true false (bs ++ 10 ∷ rest) ≡ found true false rest
    from [] s p = refl
    from (b ∷ bs) s p = ap (λ t. if t then b ∷ (bs ++ 10 ∷ rest) else found ((b == 10) && true) (if b == 39 then true else false) (bs ++ 10 ∷ rest)) s ∙ within (b ∷ bs) (10 ∷ rest) false false p

pub passes_both : (xs ys : List ℕ) (q r : Bool) → passes q xs ≡ Some r → passes q (xs ++ ys) ≡ passes r ys
passes_both [] ys q r h = let same : q ≡ r = cc in ap (λ s. passes s ys) same
passes_both (x ∷ xs) ys q r h = by (passes_both xs ys (if x == 39 then not q else q) r) ((x == 10) && not q) h
  where
    by : (passes (if x == 39 then not q else q) xs ≡ Some r → passes (if x == 39 then not q else q) (xs ++ ys) ≡ passes r ys) → (t : Bool) → (if t then None else passes (if x == 39 then not q else q) xs) ≡ Some r → (if t then None else passes (if x == 39 then not q else q) (xs ++ ys)) ≡ passes r ys
    by go true k = cc
    by go false k = go k

-- Plain bytes

-- neither an LF nor a quote nor `j`
abbrev pub IsPlainByte : ℕ → Type 0
IsPlainByte b = ((b == 10) ≡ false) × ((b == 39) ≡ false) × ((b == 106) ≡ false)

abbrev pub ArePlain : List ℕ → Type 0
ArePlain [] = Unit {0}
ArePlain (b ∷ bs) = IsPlainByte b × ArePlain bs

pub plain_pass : (bs : List ℕ) (q : Bool) → ArePlain bs → passes q bs ≡ Some q
plain_pass [] q h = refl
plain_pass (b ∷ bs) q h =
    ap (λ t. if t && not q then None else passes (if b == 39 then not q else q) bs) h.0.0
    ∙ (ap (λ t. passes (if t then not q else q) bs) h.0.1 ∙ plain_pass bs q h.1)

pub plain_both : (xs ys : List ℕ) → ArePlain xs → ArePlain ys → ArePlain (xs ++ ys)
plain_both [] ys h k = k
plain_both (x ∷ xs) ys h k = (h.0, plain_both xs ys h.1 k)

-- of given bytes it is seen at once
abbrev is_plain : List ℕ → Bool
is_plain [] = true
is_plain (b ∷ bs) = not (b == 10) && (not (b == 39) && (not (b == 106) && is_plain bs))

by_bytes : (bs : List ℕ) → is_plain bs ≡ true → ArePlain bs
by_bytes [] h = tt
by_bytes (b ∷ bs) h = by (by_bytes bs) (b == 10) (b == 39) (b == 106) refl refl refl h
  where
    by : (is_plain bs ≡ true → ArePlain bs) → (s t u : Bool) → (b == 10) ≡ s → (b == 39) ≡ t → (b == 106) ≡ u → (not s && (not t && (not u && is_plain bs))) ≡ true → IsPlainByte b × ArePlain bs
    by go false false false p q r e = ((p, q, r), go e)
    by go false false true p q r e = cc
    by go false true u p q r e = cc
    by go true t u p q r e = cc

digit_plain : (d : ℕ) → IsPlainByte (digit_glyph false (d % 10))
digit_plain d = by (nat_lt (d % 10) 10) refl
  where
    small : nat_lt (d % 10) 10 ≡ true
    small = grind (arith, nat_tests)

    by : (t : Bool) → nat_lt (d % 10) 10 ≡ t → IsPlainByte (if t then 48 + d % 10 else 87 + d % 10)
    by true e = (grind (arith, eqb_tells), grind (arith, eqb_tells, small), grind (arith, eqb_tells, small))
    by false e = absurd (both_ways (nat_lt (d % 10) 10) e small)

onto_plain : (k n : ℕ) (acc : List ℕ) → ArePlain acc → ArePlain (digits_onto k 10 false n acc)
onto_plain zero n acc h = h
onto_plain (suc k) n acc h = by (n / 10 == 0) (onto_plain k (n / 10) (digit_glyph false (n % 10) ∷ acc) (digit_plain n, h))
  where
    by : (t : Bool) → ArePlain (digits_onto k 10 false (n / 10) (digit_glyph false (n % 10) ∷ acc))
        → ArePlain (if t then digit_glyph false (n % 10) ∷ acc else digits_onto k 10 false (n / 10) (digit_glyph false (n % 10) ∷ acc))
    by true r = (digit_plain n, h)
    by false r = r

pub decimal_plain : (n : ℕ) → ArePlain (decimal n)
unfolding digits
decimal_plain n = onto_plain 64 n [] tt

-- Values

signed_plain : (z : ℤ) → ArePlain (signed_decimal z)
signed_plain (pos n) = decimal_plain n
signed_plain (negsuc n) = ((refl, refl, refl), decimal_plain (suc n))

-- within quotes, with each quote doubled
doubled_pass : (bs : List ℕ) → passes true (doubled bs) ≡ Some true
doubled_pass [] = refl
doubled_pass (b ∷ bs) = by (doubled_pass bs) (b == 39) refl
  where
    by : passes true (doubled bs) ≡ Some true → (t : Bool) → (b == 39) ≡ t → passes true (if t then 39 ∷ 39 ∷ doubled bs else b ∷ doubled bs) ≡ Some true
    by go true e = go
    by go false e = outside (b == 10) ∙ (ap (λ t. passes (if t then false else true) (doubled bs)) e ∙ go)
      where
        outside : (t : Bool) → (if t && false then None else passes (if b == 39 then false else true) (doubled bs)) ≡ passes (if b == 39 then false else true) (doubled bs)
        outside true = refl
        outside false = refl

printed_pass : (v : Value) → passes false (printed v) ≡ Some false
printed_pass (Int z) = plain_pass (signed_decimal z) false (signed_plain z)
printed_pass (Text t) = passes_both (doubled t) (39 ∷ []) true true (doubled_pass t)

after_pass : (vs : List Value) → passes false (printed_after vs) ≡ Some false
after_pass [] = refl
after_pass (v ∷ vs) = passes_both (printed v) (printed_after vs) false false (printed_pass v) ∙ after_pass vs

plain_starts : (bs rest : List ℕ) → ArePlain bs → Starts rest → Starts (bs ++ rest)
plain_starts [] rest h k = k
plain_starts (b ∷ bs) rest h k = h.0.2

after_starts : (vs : List Value) → Starts (printed_after vs)
after_starts [] = tt
after_starts (v ∷ vs) = refl

printed_other : (vs : List Value) → IsOther (line_of vs)
printed_other [] = record { starts = tt; passes = refl }
printed_other (v ∷ vs) = record {
  starts = first v;
  passes = passes_both (printed v) (printed_after vs) false false (printed_pass v) ∙ after_pass vs;
}
  where
    first : (v : Value) → Starts (printed v ++ printed_after vs)
    first (Int z) = plain_starts (signed_decimal z) (printed_after vs) (signed_plain z) (after_starts vs)
    first (Text t) = refl

-- The parts before the journal

-- each item's text is passed over, from the start of a line to the start of another
abbrev IsOver : List ℕ → Type 0
IsOver text = (rest : List ℕ) → found true false (text ++ rest) ≡ found true false rest

over_both : (xs ys : List ℕ) → IsOver xs → IsOver ys → IsOver (xs ++ ys)
over_both xs ys h k rest = ap (found true false) (append_assoc xs ys rest) ∙ (h (ys ++ rest) ∙ k rest)

over_each : {X : Type 0} (f : X → List ℕ) (xs : List X) → All (λ x. IsOver (f x)) xs → IsOver (flat_map f xs)
over_each f [] h rest = refl
over_each f (x ∷ xs) h rest = over_both (f x) (flat_map f xs) (All-head (λ x. IsOver (f x)) x xs h) (over_each f xs (All-tail (λ x. IsOver (f x)) x xs h)) rest

lines_over : (lines : List (List ℕ)) → All IsPrinted lines → IsOver (flat_map line lines)
lines_over lines h = over_each line lines (All-weaker IsPrinted (λ l. IsOver (line l)) (λ l is rest. over l rest (subst IsOther (sym is.1) (printed_other is.0))) lines h)

quotes_pass : (bs : List ℕ) → passes true (flat_map in_quotes bs) ≡ Some true
quotes_pass [] = refl
quotes_pass (b ∷ bs) = by (quotes_pass bs) (b == 39) refl
  where
    by : passes true (flat_map in_quotes bs) ≡ Some true → (t : Bool) → (b == 39) ≡ t → passes true ((if t then codes "''" else b ∷ []) ++ flat_map in_quotes bs) ≡ Some true
    by go true e = go
    by go false e = outside (b == 10) ∙ (ap (λ t. passes (if t then false else true) (flat_map in_quotes bs)) e ∙ go)
      where
        outside : (t : Bool) → (if t && false then None else passes (if b == 39 then false else true) (flat_map in_quotes bs)) ≡ passes (if b == 39 then false else true) (flat_map in_quotes bs)
        outside true = refl
        outside false = refl

reason_pass : (end : End) → passes false (reason_text end) ≡ Some false
reason_pass (Own text) = passes_both (flat_map in_quotes text) (codes "'") true true (quotes_pass text)
reason_pass Duplicate = refl
reason_pass Overflow = refl
reason_pass ZeroDivisor = refl
reason_pass TooLong = refl
reason_pass MissingParent = refl
reason_pass HasChildren = refl

-- the first line of a reply
abbrev head : ℕ → List ℕ
head call = codes "reply " ++ decimal call

head_over : (call : ℕ) (bs : List ℕ) → passes false bs ≡ Some false → IsOver (head call ++ line bs)
head_over call bs h rest =
    ap (λ l. found true false (l ++ rest)) (sym (append_assoc (head call) bs (10 ∷ [])))
    ∙ over (head call ++ bs) rest (record { starts = refl; passes = passes_both (head call) bs false false (plain_pass (decimal call) false (decimal_plain call)) ∙ h })

reply_over : (call : ℕ) (lines : List (List ℕ)) (end : Option End) → All IsPrinted lines → IsOver (head call ++ answer_text lines end)
reply_over call lines None h rest =
    ap (λ l. found true false (l ++ rest)) (sym (append_assoc (head call) (line (codes " done")) (flat_map line lines)))
    ∙ over_both (head call ++ line (codes " done")) (flat_map line lines) (head_over call (codes " done") refl) (lines_over lines h) rest
reply_over call lines (Some end) h rest = head_over call (codes " rolled back " ++ reason_text end) (reason_pass end) rest

pub replies_over : (n : ℕ) (replies : List Reply) → All (λ (reply : Reply). All IsPrinted reply.lines) replies → IsOver (flat_map (λ (numbered : ℕ × Reply). reply_text numbered.0 numbered.1) (enumerate_from n replies))
replies_over n [] h rest = refl
replies_over n (r ∷ rs) h rest =
    over_both (reply_text n r) (flat_map (λ (numbered : ℕ × Reply). reply_text numbered.0 numbered.1) (enumerate_from (n + 1) rs))
    (reply_over n r.lines r.end (All-head (λ (reply : Reply). All IsPrinted reply.lines) r rs h)) (replies_over (n + 1) rs (All-tail (λ (reply : Reply). All IsPrinted reply.lines) r rs h)) rest

each_plain : {X : Type 0} (f : X → List ℕ) (xs : List X) → ((x : X) → ArePlain (f x)) → ArePlain (flat_map f xs)
each_plain f [] h = tt
each_plain f (x ∷ xs) h = plain_both (f x) (flat_map f xs) (h x) (each_plain f xs h)

joined_plain : {X : Type 0} (f : X → List ℕ) (sep : List ℕ) (xs : List X) → ((x : X) → ArePlain (f x)) → ArePlain sep → ArePlain (join_by f sep xs)
joined_plain f sep [] h k = tt
joined_plain f sep (x ∷ xs) h k = plain_both (f x) (flat_map (λ y. sep ++ f y) xs) (h x) (each_plain (λ y. sep ++ f y) xs (λ y. plain_both sep (f y) k (h y)))

mark_plain : (mark : Mark) → ArePlain (mark_text mark)
mark_plain Plain = tt
mark_plain Exclusive = ((refl, refl, refl), tt)
mark_plain Moved = ((refl, refl, refl), tt)

count_plain : (count : Option ℕ) (mark : Mark) → ArePlain (count_text count mark)
count_plain None mark = ((refl, refl, refl), tt)
count_plain (Some n) mark = plain_both (decimal n) (mark_text mark) (decimal_plain n) (mark_plain mark)

rounds_plain : (rounds : List Round) → ArePlain (rounds_text rounds)
rounds_plain rounds =
    plain_both ((codes " starts " ++ starts_text rounds) ++ codes " runs ") (counts_text rounds)
    (plain_both (codes " starts " ++ starts_text rounds) (codes " runs ")
    (plain_both (codes " starts ") (starts_text rounds) (by_bytes (codes " starts ") refl) (joined_plain (λ (round : Round). decimal round.start) (codes ",") rounds (λ round. decimal_plain round.start) (by_bytes (codes ",") refl)))
    (by_bytes (codes " runs ") refl))
    (joined_plain (λ (round : Round). count_text round.count round.mark) (codes "+") rounds (λ round. count_plain round.count round.mark) (by_bytes (codes "+") refl))

line_plain : (bs rest : List ℕ) → ArePlain bs → found true false (line bs ++ rest) ≡ found true false rest
line_plain bs rest h = over bs rest (record { starts = starts bs h; passes = plain_pass bs false h })
  where
    starts : (bs : List ℕ) → ArePlain bs → Starts bs
    starts [] h = tt
    starts (b ∷ bs) h = h.0.2

place_plain : (commit : Option ℕ) (rounds : List Round) → ArePlain (place_text commit rounds)
place_plain (Some number) rounds = decimal_plain number
place_plain None rounds = plain_both (codes "r") (decimal (last_start rounds)) (by_bytes (codes "r") refl) (decimal_plain (last_start rounds))

line_over : (l : HistoryLine) → IsOver (line_text l)
line_over l rest =
    line_plain (((place_text l.commit l.rounds ++ codes " ") ++ decimal l.call) ++ rounds_text l.rounds) rest
    (plain_both ((place_text l.commit l.rounds ++ codes " ") ++ decimal l.call) (rounds_text l.rounds)
    (plain_both (place_text l.commit l.rounds ++ codes " ") (decimal l.call) (plain_both (place_text l.commit l.rounds) (codes " ") (place_plain l.commit l.rounds) (by_bytes (codes " ") refl)) (decimal_plain l.call))
    (rounds_plain l.rounds))

history_over : (history : List HistoryLine) → IsOver (history_text history)
history_over [] rest = refl
history_over (l ∷ ls) rest = over_both (line_text l) (history_text ls) (line_over l) (history_over ls) rest

-- what comes after the journal's line
abbrev pub rest_of : List TableInfo → Outcome → List ℕ
rest_of tables outcome = journal_text outcome.journal ++ (tables_text tables outcome.tables ++ line (codes "end"))

pub found_journal : (tables : List TableInfo) (outcome : Outcome) → All (λ (reply : Reply). All IsPrinted reply.lines) outcome.replies → found true false (text_of tables outcome) ≡ codes "journal" ++ 10 ∷ rest_of tables outcome
found_journal tables outcome h =
    let replies : List ℕ = replies_text outcome.replies in
    let before : List ℕ = (replies ++ line (codes "history")) ++ history_text outcome.history in
    let end : List ℕ = tables_text tables outcome.tables ++ line (codes "end") in
    ap (found true false) (append_assoc ((before ++ line (codes "journal")) ++ journal_text outcome.journal) (tables_text tables outcome.tables) (line (codes "end"))
    ∙ (append_assoc (before ++ line (codes "journal")) (journal_text outcome.journal) end ∙ append_assoc before (line (codes "journal")) (rest_of tables outcome)))
    ∙ over_both (replies ++ line (codes "history")) (history_text outcome.history)
    (over_both replies (line (codes "history")) (replies_over 0 outcome.replies h) (λ rest. refl)) (history_over outcome.history) (line (codes "journal") ++ rest_of tables outcome)
