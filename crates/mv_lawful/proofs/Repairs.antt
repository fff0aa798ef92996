-- Repairs of a call in a lawful journal are few.
use Rattle.std.proofs.Common.{◌≡◌, ◌≤◌, ◌<◌, ℕ, zero, suc, ◌+◌, ◌-◌, Bool, true, false, not, List, [], ◌∷◌, ◌++◌, Option, Some, None, length, slice_set, refl, sym, ap, subst, arith, length-append}
use Rattle.std.specs.Prelude.{◌==◌, nat_lt, slice_get}
use Rattle.std.specs.List.{filter}
use Rattle.std.proofs.lemmas.Bool.Decides.{eqb_tells}
use Rattle.std.proofs.lemmas.Option.{same_Some}
use Rattle.mv_journal.specs.declared.event.Event.{Event}
use Rattle.mv_journal.specs.declared.event.Event.TheVariants.{B, S, A, M, C, X, R, G}
use Rattle.mv_journal.specs.declared.outcome.Mark.{Mark}
use Rattle.mv_journal.specs.declared.outcome.Mark.TheVariants.{Plain, Exclusive, Moved}
use Rattle.mv_lawful.specs.declared.fault.EventFault.{EventFault}
use Rattle.mv_lawful.specs.declared.fault.EventFault.TheVariants.{Order, Kind, Stale, Idle, Rounds}
use Rattle.mv_lawful.specs.declared.fault.Wrong.{Wrong}
use Rattle.mv_lawful.specs.Batch.{Batch}
use Rattle.mv_lawful.specs.Lawful.{Live, Schedule, beginning, change_live, begin, again, finish, is_stale, is_hit, has_round, unless, of_live, refusal, after, or_refused, wrong_from, Lawful}
use Rattle.mv_lawful.specs.Rounds.{is_repair}
use Rattle.mv_lawful.proofs.Lists.{set_there}

-- Journals without a fault

pub first_allowed : (n : ℕ) (o : Option EventFault) (later : Option Wrong) → or_refused n o later ≡ None → (o ≡ None) × (later ≡ None)
first_allowed n None later h = (refl, h)
first_allowed n (Some f) later h = cc

-- what is left to a call: all rounds before it begins
abbrev left : ℕ → Option Live → ℕ
left rounds None = rounds
left rounds (Some l) = (rounds + 1) - length l.round_starts

left_begun : (ls : List Live) (n c rounds : ℕ) → left rounds (slice_get (ls ++ begin n ∷ []) c) ≤ left rounds (slice_get ls c)
left_begun [] n zero rounds = omega arith
left_begun [] n (suc c) rounds = omega arith
left_begun (m ∷ ls) n zero rounds = omega arith
left_begun (m ∷ ls) n (suc c) rounds = left_begun ls n c rounds

-- a change of a call that adds rounds, or none
abbrev Grows : (Live → Live) → Type 0
Grows f = (l : Live) → length l.round_starts ≤ length (f l).round_starts

left_set : (ls : List Live) (d c rounds : ℕ) (l m : Live) → slice_get ls d ≡ Some l → length l.round_starts ≤ length m.round_starts → left rounds (slice_get (slice_set ls d m) c) ≤ left rounds (slice_get ls c)
left_set [] d c rounds l m is h = omega arith
left_set (x ∷ ls) zero zero rounds l m is h = let same : x ≡ l = same_Some x l is in let n = ap (λ (y : Live). length y.round_starts) same in omega (arith, h, n)
left_set (x ∷ ls) zero (suc c) rounds l m is h = omega arith
left_set (x ∷ ls) (suc d) zero rounds l m is h = omega arith
left_set (x ∷ ls) (suc d) (suc c) rounds l m is h = left_set ls d c rounds l m is h

left_changed : (ls : List Live) (d c rounds : ℕ) (f : Live → Live) → Grows f → left rounds (slice_get (change_live (slice_get ls d) f ls d) c) ≤ left rounds (slice_get ls c)
left_changed ls d c rounds f h = by (slice_get ls d) refl
  where
    by : (o : Option Live) → slice_get ls d ≡ o → left rounds (slice_get (change_live o f ls d) c) ≤ left rounds (slice_get ls c)
    by None e = omega arith
    by (Some l) e = left_set ls d c rounds l (f l) e (h l)

pub more_round_starts : (n : ℕ) (mark : Mark) (l : Live) → length (again n mark l).round_starts ≡ length l.round_starts + 1
more_round_starts n mark l = length-append l.round_starts (record { start = n; mark = mark } ∷ [])

again_grows : (n : ℕ) (mark : Mark) → Grows (again n mark)
again_grows n mark l = let e = more_round_starts n mark l in omega (arith, e)

-- a repair that is allowed takes one of the rounds that are left
one_taken : (w : Batch) (s : Schedule) (c : ℕ) → refusal w s (A c) ≡ None → left w.options.rounds (slice_get (after w s (A c)).calls c) + 1 ≤ left w.options.rounds (slice_get s.calls c)
one_taken w s c h = by (slice_get s.calls c) refl h
  where
    allowed : (a k b d e : Bool) → unless a Order (unless k Kind (unless b Stale (unless d Idle (unless e Rounds None)))) ≡ None → e ≡ true
    allowed true true true true true h = refl
    allowed true true true true false h = cc
    allowed true true true false e h = cc
    allowed true true false d e h = cc
    allowed true false b d e h = cc
    allowed false k b d e h = cc

    less : (l : Live) → nat_lt (length l.round_starts - 1) w.options.rounds ≡ true → length l.round_starts - 1 < w.options.rounds
    less l h = grind (arith, h)

    by : (o : Option Live) → slice_get s.calls c ≡ o → of_live o (λ l. unless (not (w.read_only c)) Kind (unless (not (is_stale s l)) Stale (unless (is_hit w s c l) Idle (unless (has_round w l) Rounds None)))) ≡ None
        → left w.options.rounds (slice_get (change_live o (again (length s.order) Plain) s.calls c) c) + 1 ≤ left w.options.rounds o
    by None e g = cc
    by (Some l) e g =
        let room = less l (allowed (not l.done) (not (w.read_only c)) (not (is_stale s l)) (is_hit w s c l) (has_round w l) g) in
        let more = more_round_starts (length s.order) Plain l in
        let it = set_there s.calls c (again (length s.order) Plain l) l e in
        subst (λ o. left w.options.rounds o + 1 ≤ (w.options.rounds + 1) - length l.round_starts) (sym it) (omega (arith, room, more))

no_more : (w : Batch) (s : Schedule) (e : Event) (c : ℕ) → left w.options.rounds (slice_get (after w s e).calls c) ≤ left w.options.rounds (slice_get s.calls c)
no_more w s (B d) c = left_begun s.calls (length s.order) c w.options.rounds
no_more w s (S d) c = left_changed s.calls d c w.options.rounds (λ l. record l { steps = l.steps + 1 }) (λ l. omega arith)
no_more w s (A d) c = left_changed s.calls d c w.options.rounds (again (length s.order) Plain) (again_grows (length s.order) Plain)
no_more w s (M d) c = left_changed s.calls d c w.options.rounds (again (length s.order) Moved) (again_grows (length s.order) Moved)
no_more w s (C d) c = left_changed s.calls d c w.options.rounds finish (λ l. omega arith)
no_more w s (X d) c =
    left_changed s.calls d c w.options.rounds (λ l. finish (again (length s.order) Exclusive l)) (again_grows (length s.order) Exclusive)
no_more w s (R d) c = left_changed s.calls d c w.options.rounds finish (λ l. omega arith)
no_more w s G c = omega arith

repairs_from : (w : Batch) (n : ℕ) (s : Schedule) (es : List Event) (c : ℕ) → wrong_from w n s es ≡ None → length (filter (is_repair c) es) ≤ left w.options.rounds (slice_get s.calls c)
repairs_from w n s [] c h = omega arith
repairs_from w n s (e ∷ es) c h =
    let parts = first_allowed n (refusal w s e) (wrong_from w (n + 1) (after w s e) es) h in
    let rest = repairs_from w (n + 1) (after w s e) es c parts.1 in
    by e parts.0 rest (no_more w s e c)
  where
    same : (d : ℕ) → (d == c) ≡ true → d ≡ c
    same d h = grind (arith, eqb_tells)

    other : (e : Event) → is_repair c e ≡ false → length (filter (is_repair c) es) ≤ left w.options.rounds (slice_get (after w s e).calls c)
        → left w.options.rounds (slice_get (after w s e).calls c) ≤ left w.options.rounds (slice_get s.calls c) → length (filter (is_repair c) (e ∷ es)) ≤ left w.options.rounds (slice_get s.calls c)
    other e h rest less = rw h (omega (arith, rest, less))

    repair : (d : ℕ) (b : Bool) → is_repair c (A d) ≡ b → refusal w s (A d) ≡ None → length (filter (is_repair c) es) ≤ left w.options.rounds (slice_get (after w s (A d)).calls c)
        → left w.options.rounds (slice_get (after w s (A d)).calls c) ≤ left w.options.rounds (slice_get s.calls c) → length (filter (is_repair c) (A d ∷ es)) ≤ left w.options.rounds (slice_get s.calls c)
    repair d false h free rest less = rw h (omega (arith, rest, less))
    repair d true h free rest less =
        let is = same d h in
        let taken = one_taken w s c (subst (λ x. refusal w s (A x) ≡ None) is free) in
        let here = subst (λ x. length (filter (is_repair c) es) ≤ left w.options.rounds (slice_get (after w s (A x)).calls c)) is rest in
        rw h (omega (arith, taken, here))

    by : (e : Event) → refusal w s e ≡ None → length (filter (is_repair c) es) ≤ left w.options.rounds (slice_get (after w s e).calls c)
        → left w.options.rounds (slice_get (after w s e).calls c) ≤ left w.options.rounds (slice_get s.calls c) → length (filter (is_repair c) (e ∷ es)) ≤ left w.options.rounds (slice_get s.calls c)
    by (A d) free rest less = repair d (is_repair c (A d)) refl free rest less
    by (B d) free rest less = other (B d) refl rest less
    by (S d) free rest less = other (S d) refl rest less
    by (M d) free rest less = other (M d) refl rest less
    by (C d) free rest less = other (C d) refl rest less
    by (X d) free rest less = other (X d) refl rest less
    by (R d) free rest less = other (R d) refl rest less
    by G free rest less = other G refl rest less

pub repairs_are_few : (w : Batch) (es : List Event) → Lawful w es → (c : ℕ) → length (filter (is_repair c) es) ≤ w.options.rounds
repairs_are_few w es h c = repairs_from w 1 beginning es c h
