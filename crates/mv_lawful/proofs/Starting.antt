-- Answered calls by their starts, and places one after another, as code finds them.
use Rattle.std.proofs.Common.{◌≡◌, ◌<◌, inl, inr, ℕ, zero, suc, ◌+◌, List, [], ◌∷◌, ◌++◌, Option, Some, None, map, length, take, drop, slice_set, refl, sym, ap, subst, ◌∙◌, arith, append_assoc, append-nil, get_or, cond, add-one}
use Rattle.std.specs.Prelude.{◌==◌, slice_get}
use Rattle.std.specs.List.{filter}
use Rattle.std.specs.Option.{option_map}
use Rattle.std.proofs.lemmas.Bool.{eq-eqb, ne_eqb, cases_lt}
use Rattle.std.proofs.lemmas.List.{length-map, map-append, take_more, drop_more, drop_all}
use Rattle.std.proofs.lemmas.List.Elements.{filter-append}
use Rattle.std.proofs.lemmas.Option.{same_Some, slice_get-map}
use Rattle.mv_values.specs.Counts.{first_numbers}
use Rattle.mv_lawful.specs.Lawful.{Live, Schedule, begin}
use Rattle.mv_lawful.specs.Places.{Place, start_by, start_in, answered_at, answer_place, places_from, places, places_by}
use Rattle.mv_lawful.proofs.Placing.{commit_place, places_by_starts}
use Rattle.mv_lawful.proofs.Serializing.{number_at}
use Rattle.mv_lawful.proofs.Turns.{length_numbers}

-- Lists by number

set_front : {A : Type 0} (xs : List A) (y v : A) (s : ℕ) → s < length xs → slice_set (xs ++ y ∷ []) s v ≡ slice_set xs s v ++ y ∷ []
set_front [] y v s lt = absurd (omega (arith, lt))
set_front (x ∷ xs) y v zero lt = refl
set_front (x ∷ xs) y v (suc s) lt = ap (λ l. x ∷ l) (set_front xs y v s (omega (arith, lt)))

set_end : {A : Type 0} (xs : List A) (y v : A) (s : ℕ) → length xs ≡ s → slice_set (xs ++ y ∷ []) s v ≡ xs ++ v ∷ []
set_end [] y v zero is = refl
set_end [] y v (suc s) is = absurd (omega (arith, is))
set_end (x ∷ xs) y v zero is = absurd (omega (arith, is))
set_end (x ∷ xs) y v (suc s) is = ap (λ l. x ∷ l) (set_end xs y v s (omega (arith, is)))

set_twice : {A : Type 0} (xs : List A) (s : ℕ) (a b : A) → slice_set (slice_set xs s a) s b ≡ slice_set xs s b
set_twice [] s a b = refl
set_twice (x ∷ xs) zero a b = refl
set_twice (x ∷ xs) (suc s) a b = ap (λ l. x ∷ l) (set_twice xs s a b)

abbrev by_number : (ℕ → List ℕ) → ℕ → List (List ℕ)
by_number g n = map g (first_numbers n)

abbrev pub no_calls : List ℕ
no_calls = []

number_more : (g : ℕ → List ℕ) (n : ℕ) → by_number g (suc n) ≡ by_number g n ++ g n ∷ []
number_more g n = map-append g (first_numbers n) (n ∷ [])

count_numbers : (g : ℕ → List ℕ) (n : ℕ) → length (by_number g n) ≡ n
count_numbers g n = length-map (first_numbers n) g ∙ length_numbers n

same_numbers : (g h : ℕ → List ℕ) (n : ℕ) → ((k : ℕ) → k < n → h k ≡ g k) → by_number g n ≡ by_number h n
same_numbers g h zero same = refl
same_numbers g h (suc n) same =
    number_more g n
    ∙ (ap (λ l. l ++ g n ∷ []) (same_numbers g h n (λ k lt. same k (omega (arith, lt))))
    ∙ (ap (λ x. by_number h n ++ x ∷ []) (sym (same n (omega arith))) ∙ sym (number_more h n)))

-- one of them is set
set_number : (g h : ℕ → List ℕ) (n s : ℕ) → s < n → ((k : ℕ) → (k ≡ s → ⊥) → h k ≡ g k) → slice_set (by_number g n) s (h s) ≡ by_number h n
set_number g h zero s lt same = absurd (omega (arith, lt))
set_number g h (suc n) s lt same =
    let long = count_numbers g n in
    ap (λ l. slice_set l s (h s)) (number_more g n)
    ∙ elim (cases_lt s n) [
      | inl less ↦ set_front (by_number g n) (g n) (h s) s (omega (arith, long, less))
          ∙ (ap (λ l. l ++ g n ∷ []) (set_number g h n s less same)
          ∙ (ap (λ x. by_number h n ++ x ∷ []) (sym (same n (λ e. omega (arith, e, less)))) ∙ sym (number_more h n)))
      | inr past ↦ (let is : s ≡ n = omega (arith, past, lt) in
          set_end (by_number g n) (g n) (h s) s (omega (arith, long, is))
          ∙ (ap (λ l. l ++ h s ∷ []) (same_numbers g h n (λ k less. same k (λ e. omega (arith, e, is, less))))
          ∙ (ap (λ k. by_number h n ++ h k ∷ []) is ∙ sym (number_more h n))))
    ]

number_is : (g : ℕ → List ℕ) (n s : ℕ) → s < n → slice_get (by_number g n) s ≡ Some (g s)
number_is g n s lt = slice_get-map g (first_numbers n) s ∙ ap (option_map g) (number_at n s lt)

-- one empty list more
pub empty_more : (n : ℕ) → map (λ (k : ℕ). no_calls) (first_numbers n) ++ [] ∷ [] ≡ map (λ (k : ℕ). no_calls) (first_numbers (n + 1))
empty_more n = sym (number_more (λ k. []) n) ∙ ap (by_number (λ k. [])) (sym (add-one n))

-- Answered calls by start

pub begun_start : (starts : List ℕ) (c n : ℕ) → slice_get starts c ≡ Some n → start_in (map begin starts) c ≡ n
begun_start starts c n is = ap start_by (slice_get-map begin starts c ∙ ap (option_map begin) is)

-- the starts of calls are those of their list
pub starts_same : (ls : List Live) (starts : List ℕ) → starts ≡ map (λ (l : Live). l.start) ls → (c : ℕ) → start_in (map begin starts) c ≡ start_in ls c
starts_same ls starts are c = ap (λ ns. start_in (map begin ns) c) are ∙ by (slice_get ls c) refl
  where
    there : slice_get (map begin (map (λ (l : Live). l.start) ls)) c ≡ option_map begin (option_map (λ (l : Live). l.start) (slice_get ls c))
    there = slice_get-map begin (map (λ (l : Live). l.start) ls) c ∙ ap (option_map begin) (slice_get-map (λ (l : Live). l.start) ls c)

    by : (o : Option Live) → slice_get ls c ≡ o → start_in (map begin (map (λ (l : Live). l.start) ls)) c ≡ start_in ls c
    by None e = ap start_by (there ∙ ap (λ o. option_map begin (option_map (λ (l : Live). l.start) o)) e) ∙ sym (ap start_by e)
    by (Some l) e = ap start_by (there ∙ ap (λ o. option_map begin (option_map (λ (l : Live). l.start) o)) e) ∙ sym (ap start_by e)

-- so these are the places of a journal whose calls have these starts
pub places_told : (s : Schedule) (order starts answered : List ℕ) → order ≡ s.order → starts ≡ map (λ (l : Live). l.start) s.calls → answered ≡ s.answered → places_by order starts answered ≡ places s
places_told s order starts answered ordered started replied = places_by_starts (record { order = order; calls = map begin starts; low = 0; answered = answered }) s ordered replied (starts_same s.calls starts started)

-- those of these calls that start there
abbrev pub calls_of_start : List ℕ → List ℕ → ℕ → List ℕ
calls_of_start starts cs n = filter (λ c. start_in (map begin starts) c == n) cs

abbrev pub by_starts : List ℕ → List ℕ → ℕ → List (List ℕ)
by_starts starts cs count = map (calls_of_start starts cs) (first_numbers count)

pub starts_at : (starts cs : List ℕ) (count n : ℕ) → n < count → slice_get (by_starts starts cs count) n ≡ Some (calls_of_start starts cs n)
starts_at starts cs count n lt = number_is (calls_of_start starts cs) count n lt

pub starts_long : (starts cs : List ℕ) (count : ℕ) → length (by_starts starts cs count) ≡ count
starts_long starts cs count = count_numbers (calls_of_start starts cs) count

one_more : (starts cs : List ℕ) (c n : ℕ) → calls_of_start starts (cs ++ c ∷ []) n ≡ calls_of_start starts cs n ++ cond (start_in (map begin starts) c == n) (c ∷ []) []
one_more starts cs c n = filter-append (λ d. start_in (map begin starts) d == n) cs (c ∷ [])

-- one call more
pub start_added : (starts cs : List ℕ) (count c n : ℕ) → start_in (map begin starts) c ≡ n → n < count → slice_set (by_starts starts cs count) n (calls_of_start starts cs n ++ c ∷ []) ≡ by_starts starts (cs ++ c ∷ []) count
start_added starts cs count c n is lt =
    ap (slice_set (by_starts starts cs count) n) (sym here) ∙ set_number (calls_of_start starts cs) (calls_of_start starts (cs ++ c ∷ [])) count n lt others
  where
    here : calls_of_start starts (cs ++ c ∷ []) n ≡ calls_of_start starts cs n ++ c ∷ []
    here = one_more starts cs c n ∙ ap (λ b. calls_of_start starts cs n ++ cond b (c ∷ []) []) (eq-eqb (start_in (map begin starts) c) n is)

    others : (k : ℕ) → (k ≡ n → ⊥) → calls_of_start starts (cs ++ c ∷ []) k ≡ calls_of_start starts cs k
    others k ne =
        one_more starts cs c k
        ∙ (ap (λ b. calls_of_start starts cs k ++ cond b (c ∷ []) []) (ne_eqb (start_in (map begin starts) c) k (λ e. ne (omega (arith, e, is)))) ∙ append-nil (calls_of_start starts cs k))

-- as code does it: the list is taken out, and put in again with the call
pub start_put : (starts answered : List ℕ) (count i c n : ℕ) (lists : List (List ℕ)) (list other : List ℕ) → lists ≡ by_starts starts (take i answered) count → i < length answered → c ≡ get_or answered i 0
    → slice_get starts c ≡ Some n → n < count → slice_get lists n ≡ Some list → slice_set (slice_set lists n other) n (list ++ c ∷ []) ≡ by_starts starts (take (i + 1) answered) count
start_put starts answered count i c n lists list other are lt is start less there =
    set_twice lists n other (list ++ c ∷ [])
    ∙ (ap (λ l. slice_set l n (list ++ c ∷ [])) are
    ∙ (ap (λ l. slice_set (by_starts starts (take i answered) count) n (l ++ c ∷ [])) own
    ∙ (start_added starts (take i answered) count c n (begun_start starts c n start) less
    ∙ ap (λ l. by_starts starts l count) (ap (λ x. take i answered ++ x ∷ []) is ∙ sym (take_more answered i 0 lt)))))
  where
    own : list ≡ calls_of_start starts (take i answered) n
    own = same_Some list (calls_of_start starts (take i answered) n) (sym there ∙ (ap (λ l. slice_get l n) are ∙ starts_at starts (take i answered) count n less))

-- Places one after another

pub place_more : (s : Schedule) (ps all : List Place) (cs : List ℕ) (i c : ℕ) → i < length cs → c ≡ get_or cs i 0 → ps ++ places_from s i (drop i cs) ≡ all
    → ((ps ++ map answer_place (answered_at s i)) ++ commit_place (i + 1) c ∷ []) ++ places_from s (i + 1) (drop (i + 1) cs) ≡ all
place_more s ps all cs i c lt is h =
    append_assoc (ps ++ map answer_place (answered_at s i)) (commit_place (i + 1) c ∷ []) (places_from s (i + 1) (drop (i + 1) cs))
    ∙ (append_assoc ps (map answer_place (answered_at s i)) (commit_place (i + 1) c ∷ places_from s (i + 1) (drop (i + 1) cs))
    ∙ (ap (λ ds. ps ++ places_from s i ds) (ap (λ d. d ∷ drop (i + 1) cs) is ∙ sym (drop_more cs i 0 lt)) ∙ h))

pub place_last : (s : Schedule) (ps all : List Place) (cs : List ℕ) (i : ℕ) → length cs ≡ i → ps ++ places_from s i (drop i cs) ≡ all → ps ++ map answer_place (answered_at s i) ≡ all
place_last s ps all cs i is h = ap (λ ds. ps ++ places_from s i ds) (sym (drop_all i cs (omega (arith, is)))) ∙ h

pub answer_more : (cs : List ℕ) (ps all : List Place) (i c : ℕ) → i < length cs → c ≡ get_or cs i c → ps ++ map answer_place (drop i cs) ≡ all → (ps ++ answer_place c ∷ []) ++ map answer_place (drop (i + 1) cs) ≡ all
answer_more cs ps all i c lt is h =
    append_assoc ps (answer_place c ∷ []) (map answer_place (drop (i + 1) cs))
    ∙ (ap (λ ds. ps ++ map answer_place ds) (sym (drop_more cs i c lt ∙ ap (λ y. y ∷ drop (i + 1) cs) (sym is))) ∙ h)
