-- The text of events fixes them.
use Rattle.std.proofs.Common.{◌≡◌, ◌⊎◌, inl, inr, ◌<◌, ◌≤◌, ℕ, Bool, true, false, cond, if◌then◌else◌, List, [], ◌∷◌, ◌++◌, drop, refl, sym, ap, ◌∙◌, arith, append_assoc}
use Rattle.std.specs.Prelude.{◌==◌, ◌^◌, codes, decimal, All}
use Rattle.std.proofs.lemmas.Bool.Decides.{eqb_tells}
use Rattle.std.proofs.lemmas.Fmt.{decimal_injective}
use Rattle.std.proofs.lemmas.List.Elements.{All-head, All-tail}
use Rattle.mv_values.specs.declared.rows.Keyed.{Keyed}
use Rattle.mv_values.specs.declared.schema.TableInfo.{TableInfo}
use Rattle.mv_values.specs.Texts.{line}
use Rattle.mv_journal.specs.declared.event.Event.{Event}
use Rattle.mv_journal.specs.declared.event.Event.TheVariants.{B, S, A, M, C, X, R, G}
use Rattle.mv_journal.specs.Events.{IsInRange}
use Rattle.mv_report.specs.Text.{event_line, journal_text, tables_text}
use Rattle.mv_lawful.specs.Outcomes.{has_line, shown}
use Rattle.mv_report.specs.Shown.{TextFixesEvents}
use Rattle.mv_report.proofs.Finding.{ArePlain, decimal_plain, found, found_journal, rest_of}

-- Numbers

-- plain bytes up to an LF
plain_first : (xs ys rest more : List ℕ) → ArePlain xs → ArePlain ys → xs ++ 10 ∷ rest ≡ ys ++ 10 ∷ more → (xs ≡ ys) × (rest ≡ more)
plain_first [] [] rest more h k e = let same : rest ≡ more = cc in (refl, same)
plain_first [] (y ∷ ys) rest more h k e = let at : 10 ≡ y = cc in absurd (clash y at k.0.0)
  where
    clash : (y : ℕ) → 10 ≡ y → (y == 10) ≡ false → ⊥
    clash y at e = let self : false ≡ (10 == 10) = sym e ∙ ap (λ z. z == 10) (sym at) in cc
plain_first (x ∷ xs) [] rest more h k e = let at : x ≡ 10 = cc in absurd (clash x at h.0.0)
  where
    clash : (x : ℕ) → x ≡ 10 → (x == 10) ≡ false → ⊥
    clash x at e = let self : false ≡ (10 == 10) = sym e ∙ ap (λ z. z == 10) at in cc
plain_first (x ∷ xs) (y ∷ ys) rest more h k e =
    let first : x ≡ y = cc in
    let later : xs ++ 10 ∷ rest ≡ ys ++ 10 ∷ more = cc in
    let both = plain_first xs ys rest more h.1 k.1 later in
    (ap (λ z. z ∷ xs) first ∙ ap (λ l. y ∷ l) both.0, both.1)

numbers_first : (m n : ℕ) (rest more : List ℕ) → m < 2 ^ 32 → n < 2 ^ 32 → (decimal m ++ 10 ∷ []) ++ rest ≡ (decimal n ++ 10 ∷ []) ++ more → (m ≡ n) × (rest ≡ more)
numbers_first m n rest more p q e =
    let both = plain_first (decimal m) (decimal n) rest more (decimal_plain m) (decimal_plain n) (sym (append_assoc (decimal m) (10 ∷ []) rest) ∙ (e ∙ append_assoc (decimal n) (10 ∷ []) more)) in
    (decimal_injective m n (omega (arith, p)) (omega (arith, q)) both.0, both.1)

-- What comes after the events

-- it begins with `t` or with `e`
abbrev IsTail : List ℕ → Type 0
IsTail [] = ⊥
IsTail (b ∷ bs) = ((b == 116) ≡ true) ⊎ ((b == 101) ≡ true)

tail_is : (tables : List TableInfo) (database : List (List Keyed)) → IsTail (tables_text tables database ++ line (codes "end"))
tail_is [] database = inr refl
tail_is (t ∷ ts) [] = inr refl
tail_is (t ∷ ts) (rows ∷ later) = inl refl

-- Events

-- the letter of an event, and its call
abbrev letter : Event → ℕ
letter (B call) = 66
letter (S call) = 83
letter (A call) = 65
letter (M call) = 77
letter (C call) = 67
letter (X call) = 88
letter (R call) = 82
letter G = 71

abbrev call_of : Event → ℕ
call_of (B call) = call
call_of (S call) = call
call_of (A call) = call
call_of (M call) = call
call_of (C call) = call
call_of (X call) = call
call_of (R call) = call
call_of G = 0

abbrev event_of : ℕ → ℕ → Event
event_of letter call = if letter == 66 then B call else (if letter == 65 then A call else (if letter == 77 then M call else (if letter == 67 then C call else (if letter == 82 then R call else X call))))

-- an event that has a line, with what is known of it
pub record IsShown (e : Event) : Type 0 where
  pub is : e ≡ event_of (letter e) (call_of e)
  pub line : event_line e ≡ letter e ∷ 32 ∷ (decimal (call_of e) ++ 10 ∷ [])
  pub small : call_of e < 2 ^ 32
  pub low : letter e < 100

shown_is : (e : Event) → has_line e ≡ true → IsInRange e → IsShown e
shown_is (B call) h k = record { is = refl; line = refl; small = k; low = omega arith }
shown_is (A call) h k = record { is = refl; line = refl; small = k; low = omega arith }
shown_is (M call) h k = record { is = refl; line = refl; small = k; low = omega arith }
shown_is (C call) h k = record { is = refl; line = refl; small = k; low = omega arith }
shown_is (X call) h k = record { is = refl; line = refl; small = k; low = omega arith }
shown_is (R call) h k = record { is = refl; line = refl; small = k; low = omega arith }
shown_is (S call) h k = cc
shown_is G h k = cc

abbrev first : List ℕ → ℕ
first [] = 0
first (b ∷ bs) = b

-- the first of such events, and the text after it
first_event : (e f : Event) (rest more : List ℕ) → IsShown e → IsShown f → event_line e ++ rest ≡ event_line f ++ more → (e ≡ f) × (rest ≡ more)
first_event e f rest more h k same =
    let bytes : letter e ∷ 32 ∷ ((decimal (call_of e) ++ 10 ∷ []) ++ rest) ≡ letter f ∷ 32 ∷ ((decimal (call_of f) ++ 10 ∷ []) ++ more) = sym (ap (λ l. l ++ rest) h.line) ∙ (same ∙ ap (λ l. l ++ more) k.line) in
    let both = numbers_first (call_of e) (call_of f) rest more h.small k.small (ap (drop 2) bytes) in
    (h.is ∙ (ap (λ l. event_of l (call_of e)) (ap first bytes) ∙ (ap (event_of (letter f)) both.0 ∙ sym k.is)), both.1)

abbrev AllShown : List Event → Type 0
AllShown [] = Unit {0}
AllShown (e ∷ es) = IsShown e × AllShown es

-- what comes after the events begins with a higher byte than an event
high : (t : List ℕ) → IsTail t → 100 ≤ first t
high [] h = absurd h
high (b ∷ bs) (inl e) = grind (arith, eqb_tells)
high (b ∷ bs) (inr e) = grind (arith, eqb_tells)

no_event : (e : Event) (t rest : List ℕ) → IsTail t → IsShown e → t ≡ event_line e ++ rest → ⊥
no_event e t rest h k same =
    let at : first t ≡ letter e = ap first (same ∙ ap (λ l. l ++ rest) k.line) in
    let le : 100 ≤ first t = high t h in
    omega (arith, at, le, k.low)

all_fixed : (es fs : List Event) (t u : List ℕ) → AllShown es → AllShown fs → IsTail t → IsTail u → journal_text es ++ t ≡ journal_text fs ++ u → es ≡ fs
all_fixed [] [] t u h k p q e = refl
all_fixed [] (f ∷ fs) t u h k p q e = absurd (no_event f t (journal_text fs ++ u) p k.0 (e ∙ append_assoc (event_line f) (journal_text fs) u))
all_fixed (e ∷ es) [] t u h k p q same = absurd (no_event e u (journal_text es ++ t) q h.0 (sym same ∙ append_assoc (event_line e) (journal_text es) t))
all_fixed (e ∷ es) (f ∷ fs) t u h k p q same =
    let both = first_event e f (journal_text es ++ t) (journal_text fs ++ u) h.0 k.0 (sym (append_assoc (event_line e) (journal_text es) t) ∙ (same ∙ append_assoc (event_line f) (journal_text fs) u)) in
    ap (λ x. x ∷ es) both.0 ∙ ap (λ l. f ∷ l) (all_fixed es fs t u h.1 k.1 p q both.1)

-- the others have no text
no_line : (e : Event) → has_line e ≡ false → event_line e ≡ []
no_line (S call) h = refl
no_line G h = refl
no_line (B call) h = cc
no_line (A call) h = cc
no_line (M call) h = cc
no_line (C call) h = cc
no_line (X call) h = cc
no_line (R call) h = cc

shown_text : (es : List Event) → journal_text es ≡ journal_text (shown es)
shown_text [] = refl
shown_text (e ∷ es) = by (shown_text es) (has_line e) refl
  where
    by : journal_text es ≡ journal_text (shown es) → (b : Bool) → has_line e ≡ b → event_line e ++ journal_text es ≡ journal_text (cond b (e ∷ shown es) (shown es))
    by rest true is = ap (λ l. event_line e ++ l) rest
    by rest false is = ap (λ l. l ++ journal_text es) (no_line e is) ∙ rest

all_shown : (es : List Event) → All IsInRange es → AllShown (shown es)
all_shown [] h = tt
all_shown (e ∷ es) h = by (all_shown es (All-tail IsInRange e es h)) (has_line e) refl
  where
    by : AllShown (shown es) → (b : Bool) → has_line e ≡ b → AllShown (cond b (e ∷ shown es) (shown es))
    by rest true is = (shown_is e is (All-head IsInRange e es h), rest)
    by rest false is = rest

-- The law

pub text_fixes : TextFixesEvents
text_fixes tables others a b p q same =
    let found_both : codes "journal" ++ 10 ∷ rest_of tables a ≡ codes "journal" ++ 10 ∷ rest_of others b =
    sym (found_journal tables a p.lines) ∙ (ap (found true false) same ∙ found_journal others b q.lines) in
    let t : List ℕ = tables_text tables a.tables ++ line (codes "end") in
    let u : List ℕ = tables_text others b.tables ++ line (codes "end") in
    all_fixed (shown a.journal) (shown b.journal) t u (all_shown a.journal p.calls) (all_shown b.journal q.calls) (tail_is tables a.tables) (tail_is others b.tables)
    (ap (λ l. l ++ t) (sym (shown_text a.journal)) ∙ (ap (drop 8) found_both ∙ ap (λ l. l ++ u) (shown_text b.journal)))
