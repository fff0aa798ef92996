-- The records of a block, one after another.
use Rattle.std.proofs.Common.{if◌then◌else◌, ◌≡◌, ◌++◌, ◌∷◌, ◌<◌, ◌≤◌, ◌+◌, ◌-◌, ◌==◌, ◌&&◌, ℕ, suc, Bool, true, false, List, [], length, Some, None, refl, sym, ap, subst, ◌∙◌, arith, append-nil}
use Rattle.csv.specs.Machine.{Read, after_end, ends_at_end, ends_with, field_after, fields_after, in_field, is_byte, is_end, next_record, start_field, start_record, step}
use Rattle.csv.specs.Reading.{Reached, is_bom, records, records_from, records_next, strip_bom}
use Rattle.csv.specs.declared.parser.Action.TheVariants as act
use Rattle.csv.specs.declared.parser.Config.{Config}
use Rattle.csv.specs.declared.parser.State.{State}
use Rattle.csv.specs.declared.parser.State.TheVariants as st
use Rattle.csv.specs.declared.parser.Terminator.{Terminator}
use Rattle.csv.specs.declared.parser.Terminator.TheVariants as term

-- a step that ends a record leaves a state in which the end of the text would end nothing
abbrev EndsBetween : State × act.the_data → Type 0
EndsBetween to = is_end to.1 ≡ true → ends_at_end to.0 ≡ false

either : (b : Bool) (p q : State × act.the_data) → EndsBetween p → EndsBetween q → EndsBetween (if b then p else q)
either true p q h g = h
either false p q h g = g

ended : (t : Terminator) (c : ℕ) → ends_at_end (after_end t c) ≡ false
ended term.CRLF c = by (c == 13)
  where
    by : (b : Bool) → ends_at_end (if b then st.AfterCr else st.StartRecord) ≡ false
    by true = refl
    by false = refl
ended (term.Any t) c = refl

from_field : (cfg : Config) (c : ℕ) → EndsBetween (in_field cfg c)
from_field cfg c = either (c == cfg.delimiter) _ _ (λ e. cc e) (either (ends_with cfg.terminator c) _ _ (λ e. ended cfg.terminator c) (λ e. cc e))

from_start : (cfg : Config) (c : ℕ) → EndsBetween (start_field cfg c)
from_start cfg c = either (cfg.quoting && (c == cfg.quote)) _ _ (λ e. cc e) (from_field cfg c)

from_record : (cfg : Config) (c : ℕ) → EndsBetween (start_record cfg c)
from_record cfg c = either (ends_with cfg.terminator c) _ _ (λ e. cc e) (either (is_byte cfg.comment c) _ _ (λ e. cc e) (from_start cfg c))

stops_between : (cfg : Config) (s : State) (c : ℕ) → EndsBetween (step cfg s c)
stops_between cfg st.StartRecord c = from_record cfg c
stops_between cfg st.StartField c = from_start cfg c
stops_between cfg st.InField c = from_field cfg c
stops_between cfg st.InQuoted c = either (cfg.quoting && (c == cfg.quote)) _ _ (λ e. cc e) (either (cfg.quoting && is_byte cfg.escape c) _ _ (λ e. cc e) (λ e. cc e))
stops_between cfg st.InEscape c = λ e. cc e
stops_between cfg st.AfterQuote c = either (cfg.quoting && cfg.double_quote && (c == cfg.quote)) _ _ (λ e. cc e) (from_field cfg c)
stops_between cfg st.InComment c = either (c == 10) _ _ (λ e. cc e) (λ e. cc e)
stops_between cfg st.AfterCr c = either (c == 10) _ _ (λ e. cc e) (from_record cfg c)

-- what a read leaves
at_end : (b : Bool) (r p : Read) → (if b then Some r else None) ≡ Some p → r ≡ p
at_end true r p h = cc h
at_end false r p h = cc h

leaves : (cfg : Config) (s : State) (fields : List (List ℕ)) (field xs : List ℕ) (p : Read) → next_record cfg s fields field xs ≡ Some p
    → (length p.2 ≤ length xs) × (ends_at_end p.1 ≡ false)
unfolding next_record
leaves cfg s fields field [] p h =
    let e = at_end (ends_at_end s) (fields ++ field ∷ [], st.StartRecord, []) p h in
    subst (λ (q : Read). (length q.2 ≤ 0) × (ends_at_end q.1 ≡ false)) e (omega arith, refl)
leaves cfg s fields field (c ∷ rest) p h = by (is_end (step cfg s c).1) refl h (leaves cfg (step cfg s c).0 (fields_after (step cfg s c).1 fields field) (field_after (step cfg s c).1 c field) rest p)
  where
    by : (b : Bool) → is_end (step cfg s c).1 ≡ b
        → (if is_end (step cfg s c).1 then Some (fields_after (step cfg s c).1 fields field, (step cfg s c).0, rest) else next_record cfg (step cfg s c).0 (fields_after (step cfg s c).1 fields field) (field_after (step cfg s c).1 c field) rest) ≡ Some p
        → (next_record cfg (step cfg s c).0 (fields_after (step cfg s c).1 fields field) (field_after (step cfg s c).1 c field) rest ≡ Some p → (length p.2 ≤ length rest) × (ends_at_end p.1 ≡ false))
        → (length p.2 ≤ length (c ∷ rest)) × (ends_at_end p.1 ≡ false)
    by true e q more =
        let is : (fields_after (step cfg s c).1 fields field, (step cfg s c).0, rest) ≡ p = cc (rw e at q) in
        subst (λ (r : Read). (length r.2 ≤ length (c ∷ rest)) × (ends_at_end r.1 ≡ false)) is (omega arith, stops_between cfg s c e)
    by false e q more =
        let k = more (rw e at q) in
        (omega (arith, k.0), k.1)

-- a record takes at least one byte
pub takes : (cfg : Config) (s : State) (xs : List ℕ) (p : Read) → ends_at_end s ≡ false → next_record cfg s [] [] xs ≡ Some p → (length p.2 < length xs) × (ends_at_end p.1 ≡ false)
unfolding next_record
takes cfg s [] p between h = absurd (cc (rw between at h))
takes cfg s (c ∷ rest) p between h = by (is_end (step cfg s c).1) refl h
  where
    by : (b : Bool) → is_end (step cfg s c).1 ≡ b
        → (if is_end (step cfg s c).1 then Some (fields_after (step cfg s c).1 [] [], (step cfg s c).0, rest) else next_record cfg (step cfg s c).0 (fields_after (step cfg s c).1 [] []) (field_after (step cfg s c).1 c []) rest) ≡ Some p
        → (length p.2 < length (c ∷ rest)) × (ends_at_end p.1 ≡ false)
    by true e q =
        let is : (fields_after (step cfg s c).1 [] [], (step cfg s c).0, rest) ≡ p = cc (rw e at q) in
        subst (λ (r : Read). (length r.2 < length (c ∷ rest)) × (ends_at_end r.1 ≡ false)) is (omega arith, stops_between cfg s c e)
    by false e q =
        let k = leaves cfg (step cfg s c).0 (fields_after (step cfg s c).1 [] []) (field_after (step cfg s c).1 c []) rest p (rw e at q) in
        (omega (arith, k.0), k.1)

-- there are no more records than bytes
pub reached_size : (cfg : Config) (s s2 : State) (xs ys : List ℕ) (rs : List (List (List ℕ))) → ends_at_end s ≡ false → Reached cfg s xs rs s2 ys
    → (length rs + length ys ≤ length xs) × (ends_at_end s2 ≡ false)
unfolding Reached
reached_size cfg s s2 xs ys [] between h = (omega (arith, ap length h.1), subst (λ (t : State). ends_at_end t ≡ false) h.0 between)
reached_size cfg s s2 xs ys (r ∷ rs) between h =
    let one = takes cfg s xs h.0 between h.1 in
    let more = reached_size cfg h.0.1 s2 h.0.2 ys rs one.1 h.3 in
    (omega (arith, one.0, more.0), more.1)

-- the records of a text are those that were reached, and those of what is left
reached_records : (cfg : Config) (s s2 : State) (xs ys : List ℕ) (rs : List (List (List ℕ))) (n : ℕ) → Reached cfg s xs rs s2 ys
    → records_from cfg (length rs + n) s xs ≡ rs ++ records_from cfg n s2 ys
unfolding Reached records_from
reached_records cfg s s2 xs ys [] n h =
    let none : length {A = List (List ℕ)} [] + n ≡ n = omega arith in
    ap (λ k. records_from cfg k s xs) none ∙ rw (h.0, h.1) refl
reached_records cfg s s2 xs ys (r ∷ rs) n h =
    let one : length (r ∷ rs) + n ≡ suc (length rs + n) = omega arith in
    ap (λ k. records_from cfg k s xs) one ∙ (ap (records_next (records_from cfg (length rs + n))) h.1 ∙ (ap (λ l. h.0.0 ∷ l) (reached_records cfg h.0.1 s2 h.0.2 ys rs n h.3) ∙ ap (λ f. f ∷ rs ++ records_from cfg n s2 ys) (sym h.2)))

pub records_are : (cfg : Config) (s2 : State) (xs ys : List ℕ) (rs : List (List (List ℕ))) → Reached cfg st.StartRecord xs rs s2 ys
    → (n : ℕ) × (records cfg xs ≡ rs ++ records_from cfg (suc n) s2 ys)
records_are cfg s2 xs ys rs h =
    let size = (reached_size cfg st.StartRecord s2 xs ys rs refl h).0 in
    let n = length xs - length rs in
    let turns : length xs + 1 ≡ length rs + suc n = omega (arith, size) in
    (n, ap (λ k. records_from cfg k st.StartRecord xs) turns ∙ reached_records cfg st.StartRecord s2 xs ys rs (suc n) h)

none_left : (cfg : Config) (n : ℕ) (s : State) (ys : List ℕ) → next_record cfg s [] [] ys ≡ None → records_from cfg (suc n) s ys ≡ []
unfolding records_from
none_left cfg n s ys h = ap (records_next (records_from cfg n)) h

-- where no record is left, those that were reached are all
pub all_records : (cfg : Config) (s2 : State) (xs ys : List ℕ) (rs : List (List (List ℕ))) → Reached cfg st.StartRecord xs rs s2 ys → next_record cfg s2 [] [] ys ≡ None → records cfg xs ≡ rs
all_records cfg s2 xs ys rs h none =
    let k = records_are cfg s2 xs ys rs h in
    k.1 ∙ (ap (λ l. rs ++ l) (none_left cfg k.0 s2 ys none) ∙ append-nil rs)

-- a byte order mark makes a text no longer
pub strip_size : (xs : List ℕ) → length (strip_bom xs) ≤ length xs
unfolding strip_bom
strip_size [] = omega arith
strip_size (a ∷ []) = omega arith
strip_size (a ∷ b ∷ []) = omega arith
strip_size (a ∷ b ∷ c ∷ rest) = by (is_bom a b c)
  where
    by : (m : Bool) → length (if m then rest else a ∷ b ∷ c ∷ rest) ≤ length (a ∷ b ∷ c ∷ rest)
    by true = omega arith
    by false = omega arith
