-- Where the calls of a journal stand, and what stands before them.
use Rattle.std.proofs.Common.{◌≡◌, ◌≤◌, ◌<◌, ℕ, zero, suc, ◌+◌, Bool, true, false, cond, List, [], ◌∷◌, ◌++◌, Option, Some, None, map, length, take, refl, sym, ap, subst, ◌∙◌, arith, length-append, append-nil}
use Rattle.std.specs.Prelude.{◌==◌, ◌||◌, nat_lt, slice_get, slice_index_or, All, Contains}
use Rattle.std.specs.List.{filter}
use Rattle.std.specs.Option.{is_some, option_map}
use Rattle.std.proofs.lemmas.Bool.{eqb-true, both_ways, eq-eqb, ne_eqb}
use Rattle.std.proofs.lemmas.List.{take_all, map-append}
use Rattle.std.proofs.lemmas.List.Elements.{filter-append}
use Rattle.std.proofs.lemmas.Option.{same_Some, slice_get-map, slice_get-get_or, slice_get_within}
use Rattle.mv_values.specs.Tables.{Tables}
use Rattle.mv_journal.specs.declared.event.Event.{Event}
use Rattle.mv_lawful.specs.Batch.{Batch, tables_after, ReadersKeepTables}
use Rattle.mv_lawful.specs.Lawful.{Live, Schedule, beginning, schedule_of, Lawful}
use Rattle.mv_lawful.specs.Places.{Place, start_by, start_in, answered_at, answer_place, places_from, places, calls_at, standing}
use Rattle.mv_lawful.specs.Laws.{first_start, IsSerial}
use Rattle.mv_lawful.proofs.Serial.{stands, stands_at, Once, first_by, or_true, OrderlyAt, Ended, ended_from, all_done, at_beginning}

-- Places

-- places are made of the order and of the calls that were answered at each start
pub places_same : (s t : Schedule) → ((n : ℕ) → answered_at s n ≡ answered_at t n) → (n : ℕ) (cs : List ℕ) → places_from s n cs ≡ places_from t n cs
places_same s t same n [] = ap (map answer_place) (same n)
places_same s t same n (c ∷ cs) =
    ap (λ ds. map answer_place ds ++ record { commit = Some (n + 1); call = c } ∷ places_from s (n + 1) cs) (same n)
    ∙ ap (λ (ps : List Place). map answer_place (answered_at t n) ++ record { commit = Some (n + 1); call = c } ∷ ps) (places_same s t same (n + 1) cs)

filter_same : (f g : ℕ → Bool) → ((c : ℕ) → f c ≡ g c) → (cs : List ℕ) → filter f cs ≡ filter g cs
filter_same f g same [] = refl
filter_same f g same (c ∷ cs) = ap (λ b. cond b (c ∷ filter f cs) (filter f cs)) (same c) ∙ ap (λ ds. cond (g c) (c ∷ ds) ds) (filter_same f g same cs)

-- so of the starts of the calls
pub places_by_starts : (s t : Schedule) → s.order ≡ t.order → s.answered ≡ t.answered → ((c : ℕ) → start_in s.calls c ≡ start_in t.calls c) → places s ≡ places t
places_by_starts s t order answered starts = ap (places_from s 0) order ∙ places_same s t at 0 t.order
  where
    at : (n : ℕ) → answered_at s n ≡ answered_at t n
    at n = ap (filter (λ c. start_in s.calls c == n)) answered ∙ filter_same (λ c. start_in s.calls c == n) (λ c. start_in t.calls c == n) (λ c. ap (λ m. m == n) (starts c)) t.answered

-- How often a number is in a list

abbrev pub count : ℕ → List ℕ → ℕ
count c cs = length (filter (λ d. d == c) cs)

pub none_of : (c : ℕ) (cs : List ℕ) → stands c cs ≡ false → count c cs ≡ 0
none_of c [] h = refl
none_of c (d ∷ cs) h = by (d == c) h (none_of c cs)
  where
    by : (b : Bool) → (b || stands c cs) ≡ false → (stands c cs ≡ false → count c cs ≡ 0) → length (cond b (d ∷ filter (λ x. x == c) cs) (filter (λ x. x == c) cs)) ≡ 0
    by true k go = cc
    by false k go = go k

pub one_of : (c : ℕ) (cs : List ℕ) → Once cs → stands c cs ≡ true → count c cs ≡ 1
one_of c [] o h = cc
one_of c (d ∷ cs) o h = by (d == c) refl h (one_of c cs o.1)
  where
    by : (b : Bool) → (d == c) ≡ b → (b || stands c cs) ≡ true → (stands c cs ≡ true → count c cs ≡ 1) → length (cond b (d ∷ filter (λ x. x == c) cs) (filter (λ x. x == c) cs)) ≡ 1
    by true e k go = ap suc (none_of c cs (subst (λ x. stands x cs ≡ false) (eqb-true d c e) o.0))
    by false e k go = go k

count_append : (c : ℕ) (cs ds : List ℕ) → count c (cs ++ ds) ≡ count c cs + count c ds
count_append c cs ds = ap length (filter-append (λ d. d == c) cs ds) ∙ length-append (filter (λ d. d == c) cs) (filter (λ d. d == c) ds)

-- among those that pass a test
count_filter : (p : ℕ → Bool) (c : ℕ) (cs : List ℕ) → count c (filter p cs) ≡ cond (p c) (count c cs) 0
count_filter p c [] = by (p c)
  where
    by : (b : Bool) → ◌≡◌ {A = ℕ} 0 (cond b 0 0)
    by true = refl
    by false = refl
count_filter p c (d ∷ cs) = by (p d) (d == c) refl refl (count_filter p c cs)
  where
    kept : List ℕ
    kept = filter p cs

    own : List ℕ
    own = filter (λ x. x == c) cs

    by : (b e : Bool) → p d ≡ b → (d == c) ≡ e → count c (filter p cs) ≡ cond (p c) (count c cs) 0
        → count c (cond b (d ∷ filter p cs) (filter p cs)) ≡ cond (p c) (length (cond e (d ∷ filter (λ x. x == c) cs) (filter (λ x. x == c) cs))) 0
    by true true pd e h =
        let pc : p c ≡ true = subst (λ x. p x ≡ true) (eqb-true d c e) pd in
        ap (λ b. length (cond b (d ∷ filter (λ x. x == c) (filter p cs)) (filter (λ x. x == c) (filter p cs)))) e
        ∙ (ap suc (h ∙ ap (λ b. cond b (count c cs) 0) pc) ∙ sym (ap (λ b. cond b (suc (count c cs)) 0) pc))
    by false true pd e h =
        let pc : p c ≡ false = subst (λ x. p x ≡ false) (eqb-true d c e) pd in
        h ∙ (ap (λ b. cond b (count c cs) 0) pc ∙ sym (ap (λ b. cond b (suc (count c cs)) 0) pc))
    by true false pd e h = ap (λ b. length (cond b (d ∷ filter (λ x. x == c) (filter p cs)) (filter (λ x. x == c) (filter p cs)))) e ∙ h
    by false false pd e h = h

-- Counted places

answered_count : (s : Schedule) (n c : ℕ) → count c (answered_at s n) ≡ cond (start_in s.calls c == n) (count c s.answered) 0
answered_count s n c = count_filter (λ d. start_in s.calls d == n) c s.answered

pub plain : (cs : List ℕ) → calls_at (map answer_place cs) ≡ cs
plain [] = refl
plain (c ∷ cs) = ap (λ ds. c ∷ ds) (plain cs)

abbrev pub commit_place : ℕ → ℕ → Place
commit_place number c = record { commit = Some number; call = c }

pub calls_more : (s : Schedule) (n c : ℕ) (cs : List ℕ) → calls_at (places_from s n (c ∷ cs)) ≡ answered_at s n ++ c ∷ calls_at (places_from s (n + 1) cs)
calls_more s n c cs =
    map-append (λ (p : Place). p.call) (map answer_place (answered_at s n)) (commit_place (n + 1) c ∷ places_from s (n + 1) cs)
    ∙ ap (λ ds. ds ++ c ∷ calls_at (places_from s (n + 1) cs)) (plain (answered_at s n))

count_more : (s : Schedule) (n c d : ℕ) (cs : List ℕ) → count c (calls_at (places_from s n (d ∷ cs))) ≡ count c (answered_at s n) + (count c (d ∷ []) + count c (calls_at (places_from s (n + 1) cs)))
count_more s n c d cs =
    ap (count c) (calls_more s n d cs)
    ∙ (count_append c (answered_at s n) (d ∷ calls_at (places_from s (n + 1) cs))
    ∙ ap (λ k. count c (answered_at s n) + k) (count_append c (d ∷ []) (calls_at (places_from s (n + 1) cs))))

-- a call that started before stands nowhere as an answered one
none_later : (s : Schedule) (n : ℕ) (cs : List ℕ) (c : ℕ) → start_in s.calls c < n → count c (calls_at (places_from s n cs)) ≡ count c cs
none_later s n [] c less =
    ap (count c) (plain (answered_at s n)) ∙ (answered_count s n c ∙ ap (λ b. cond b (count c s.answered) 0) (ne_eqb (start_in s.calls c) n (λ e. omega (arith, e, less))))
none_later s n (d ∷ cs) c less =
    let here : count c (answered_at s n) ≡ 0 = answered_count s n c ∙ ap (λ b. cond b (count c s.answered) 0) (ne_eqb (start_in s.calls c) n (λ e. omega (arith, e, less))) in
    let rest : count c (calls_at (places_from s (n + 1) cs)) ≡ count c cs = none_later s (n + 1) cs c (omega (arith, less)) in
    let all = count_more s n c d cs in
    let goal = count_append c (d ∷ []) cs in
    omega (arith, here, rest, all, goal)

-- each other one stands once for each time that it was answered
counted : (s : Schedule) (n : ℕ) (cs : List ℕ) (c : ℕ) → n ≤ start_in s.calls c → start_in s.calls c ≤ n + length cs → count c (calls_at (places_from s n cs)) ≡ count c cs + count c s.answered
counted s n [] c least most =
    let here : count c (calls_at (places_from s n [])) ≡ count c s.answered =
    ap (count c) (plain (answered_at s n)) ∙ (answered_count s n c ∙ ap (λ b. cond b (count c s.answered) 0) (eq-eqb (start_in s.calls c) n (omega (arith, least, most)))) in
    omega (arith, here)
counted s n (d ∷ cs) c least most = by (λ more. counted s (n + 1) cs c more (omega (arith, most))) (start_in s.calls c == n) refl
  where
    all : count c (calls_at (places_from s n (d ∷ cs))) ≡ count c (answered_at s n) + (count c (d ∷ []) + count c (calls_at (places_from s (n + 1) cs)))
    all = count_more s n c d cs

    goal : count c (d ∷ cs) ≡ count c (d ∷ []) + count c cs
    goal = count_append c (d ∷ []) cs

    by : (n + 1 ≤ start_in s.calls c → count c (calls_at (places_from s (n + 1) cs)) ≡ count c cs + count c s.answered)
        → (b : Bool) → (start_in s.calls c == n) ≡ b → count c (calls_at (places_from s n (d ∷ cs))) ≡ count c (d ∷ cs) + count c s.answered
    by go true e =
        let here : count c (answered_at s n) ≡ count c s.answered = answered_count s n c ∙ ap (λ b. cond b (count c s.answered) 0) e in
        let start : start_in s.calls c ≡ n = eqb-true (start_in s.calls c) n e in
        let rest : count c (calls_at (places_from s (n + 1) cs)) ≡ count c cs = none_later s (n + 1) cs c (omega (arith, start)) in
        let one = all in
        let two = goal in
        omega (arith, here, rest, one, two)
    by go false e =
        let here : count c (answered_at s n) ≡ 0 = answered_count s n c ∙ ap (λ b. cond b (count c s.answered) 0) e in
        let other : start_in s.calls c ≡ n → ⊥ = λ same. both_ways (start_in s.calls c == n) e (eq-eqb (start_in s.calls c) n same) in
        let rest : count c (calls_at (places_from s (n + 1) cs)) ≡ count c cs + count c s.answered = go (later other) in
        let one = all in
        let two = goal in
        omega (arith, here, rest, one, two)
      where
        later : (start_in s.calls c ≡ n → ⊥) → n + 1 ≤ start_in s.calls c
        later ne = by' (nat_lt n (start_in s.calls c)) refl
          where
            less : nat_lt n (start_in s.calls c) ≡ true → n + 1 ≤ start_in s.calls c
            less h = grind (arith, h)

            equal : nat_lt n (start_in s.calls c) ≡ false → start_in s.calls c ≡ n
            equal h = grind (arith, h, least)

            by' : (b : Bool) → nat_lt n (start_in s.calls c) ≡ b → n + 1 ≤ start_in s.calls c
            by' true h = less h
            by' false h = absurd (ne (equal h))

-- What stands at a place

abbrev pub is_commit : Place → Bool
is_commit p = is_some p.commit

-- the number of commits before a place
abbrev pub commits_to_place : ℕ → List Place → ℕ
commits_to_place k ps = length (filter is_commit (take k ps))

-- with so many commits before it, a commit is the next of these, and an answered call has its start there
abbrev pub StandsBy : Schedule → ℕ → List ℕ → ℕ → Option ℕ → ℕ → Type 0
StandsBy s n cs j (Some number) c = (number ≡ n + j + 1) × (slice_get cs j ≡ Some c)
StandsBy s n cs j None c = (stands c s.answered ≡ true) × (start_in s.calls c ≡ n + j)

abbrev pub Stands : Schedule → ℕ → List ℕ → ℕ → Place → Type 0
Stands s n cs j p = StandsBy s n cs j p.commit p.call

-- these calls were answered at a start
abbrev AreAt : Schedule → ℕ → List ℕ → Type 0
AreAt s n [] = Unit {0}
AreAt s n (c ∷ cs) = ((stands c s.answered ≡ true) × (start_in s.calls c ≡ n)) × AreAt s n cs

are_at : (s : Schedule) (n : ℕ) (cs : List ℕ) → ((c : ℕ) → stands c cs ≡ true → stands c s.answered ≡ true) → AreAt s n (filter (λ c. start_in s.calls c == n) cs)
are_at s n [] h = tt
are_at s n (c ∷ cs) h = by (start_in s.calls c == n) refl (are_at s n cs (λ d k. h d (or_true (c == d) (stands d cs) k)))
  where
    by : (b : Bool) → (start_in s.calls c == n) ≡ b → AreAt s n (filter (λ d. start_in s.calls d == n) cs)
        → AreAt s n (cond b (c ∷ filter (λ d. start_in s.calls d == n) cs) (filter (λ d. start_in s.calls d == n) cs))
    by true e k = ((h c (ap (λ b. b || stands c cs) (eq-eqb c c refl)), eqb-true (start_in s.calls c) n e), k)
    by false e k = k

answered_are : (s : Schedule) (n : ℕ) → AreAt s n (answered_at s n)
answered_are s n = are_at s n s.answered (λ c h. h)

behind_answers : (s : Schedule) (n : ℕ) (cs ds : List ℕ) (rest : List Place) → AreAt s n ds → ((k : ℕ) (p : Place) → slice_get rest k ≡ Some p → Stands s n cs (commits_to_place k rest) p)
    → (k : ℕ) (p : Place) → slice_get (map answer_place ds ++ rest) k ≡ Some p → Stands s n cs (commits_to_place k (map answer_place ds ++ rest)) p
behind_answers s n cs [] rest at h k p is = h k p is
behind_answers s n cs (d ∷ ds) rest at h zero p is = subst (Stands s n cs 0) (same_Some (answer_place d) p is) (at.0.0, (let e = at.0.1 in omega (arith, e)))
behind_answers s n cs (d ∷ ds) rest at h (suc k) p is = behind_answers s n cs ds rest at.1 h k p is

further : (s : Schedule) (n c : ℕ) (cs : List ℕ) (j : ℕ) (o : Option ℕ) (d : ℕ) → StandsBy s (n + 1) cs j o d → StandsBy s n (c ∷ cs) (suc j) o d
further s n c cs j (Some number) d h = ((let e = h.0 in omega (arith, e)), h.1)
further s n c cs j None d h = (h.0, (let e = h.1 in omega (arith, e)))

pub place_at : (s : Schedule) (n : ℕ) (cs : List ℕ) (k : ℕ) (p : Place) → slice_get (places_from s n cs) k ≡ Some p → Stands s n cs (commits_to_place k (places_from s n cs)) p
place_at s n [] =
    subst (λ (ps : List Place). (k : ℕ) (p : Place) → slice_get ps k ≡ Some p → Stands s n [] (commits_to_place k ps) p) (append-nil (map answer_place (answered_at s n)))
    (behind_answers s n [] (answered_at s n) [] (answered_are s n) (λ k p is. cc))
place_at s n (c ∷ cs) = behind_answers s n (c ∷ cs) (answered_at s n) (commit_place (n + 1) c ∷ places_from s (n + 1) cs) (answered_are s n) (next (λ k p is. place_at s (n + 1) cs k p is))
  where
    next : ((k : ℕ) (p : Place) → slice_get (places_from s (n + 1) cs) k ≡ Some p → Stands s (n + 1) cs (commits_to_place k (places_from s (n + 1) cs)) p)
        → (k : ℕ) (p : Place) → slice_get (commit_place (n + 1) c ∷ places_from s (n + 1) cs) k ≡ Some p → Stands s n (c ∷ cs) (commits_to_place k (commit_place (n + 1) c ∷ places_from s (n + 1) cs)) p
    next go zero p is = subst (Stands s n (c ∷ cs) 0) (same_Some (commit_place (n + 1) c) p is) (omega arith, refl)
    next go (suc k) p is = further s n c cs (commits_to_place k (places_from s (n + 1) cs)) p.commit p.call (go k p is)

-- Commits among places

no_commits_in : (ds : List ℕ) (rest : List Place) → filter is_commit (map answer_place ds ++ rest) ≡ filter is_commit rest
no_commits_in [] rest = refl
no_commits_in (d ∷ ds) rest = no_commits_in ds rest

pub commits_are : (s : Schedule) (n : ℕ) (cs : List ℕ) → calls_at (filter is_commit (places_from s n cs)) ≡ cs
commits_are s n [] = ap (λ (ps : List Place). calls_at (filter is_commit ps)) (sym (append-nil (map answer_place (answered_at s n)))) ∙ ap calls_at (no_commits_in (answered_at s n) [])
commits_are s n (c ∷ cs) =
    ap calls_at (no_commits_in (answered_at s n) (commit_place (n + 1) c ∷ places_from s (n + 1) cs)) ∙ ap (λ ds. c ∷ ds) (commits_are s (n + 1) cs)

-- Tables

abbrev ReaderBy : Batch → Option ℕ → ℕ → Type 0
ReaderBy w (Some number) c = Unit {0}
ReaderBy w None c = w.read_only c ≡ true

-- the answered calls are read only
abbrev Readers : Batch → List Place → Type 0
Readers w [] = Unit {0}
Readers w (p ∷ ps) = ReaderBy w p.commit p.call × Readers w ps

readers_in : (w : Batch) (s : Schedule) (n : ℕ) (ds : List ℕ) (rest : List Place) → ((c : ℕ) → stands c s.answered ≡ true → w.read_only c ≡ true) → AreAt s n ds → Readers w rest → Readers w (map answer_place ds ++ rest)
readers_in w s n [] rest reads at h = h
readers_in w s n (d ∷ ds) rest reads at h = (reads d at.0.0, readers_in w s n ds rest reads at.1 h)

pub readers : (w : Batch) (s : Schedule) (n : ℕ) (cs : List ℕ) → ((c : ℕ) → stands c s.answered ≡ true → w.read_only c ≡ true) → Readers w (places_from s n cs)
readers w s n [] reads = subst (Readers w) (append-nil (map answer_place (answered_at s n))) (readers_in w s n (answered_at s n) [] reads (answered_are s n) tt)
readers w s n (c ∷ cs) reads = readers_in w s n (answered_at s n) (commit_place (n + 1) c ∷ places_from s (n + 1) cs) reads (answered_are s n) (tt, readers w s (n + 1) cs reads)

-- the tables before a place are those after the commits before it
pub tables_standing : (w : Batch) → ReadersKeepTables w → (ps : List Place) → Readers w ps → (db : Tables) (k : ℕ)
    → tables_after w db (take k (calls_at ps)) ≡ tables_after w db (take (commits_to_place k ps) (calls_at (filter is_commit ps)))
tables_standing w keeps [] r db zero = refl
tables_standing w keeps [] r db (suc k) = refl
tables_standing w keeps (p ∷ ps) r db zero = refl
tables_standing w keeps (p ∷ ps) r db (suc k) = by (λ d. tables_standing w keeps ps r.1 d k) p.commit r.0
  where
    by : ((d : Tables) → tables_after w d (take k (calls_at ps)) ≡ tables_after w d (take (commits_to_place k ps) (calls_at (filter is_commit ps))))
        → (o : Option ℕ) → ReaderBy w o p.call
        → tables_after w (w.run p.call db).tables (take k (calls_at ps))
        ≡ tables_after w db (take (length (cond (is_some o) (p ∷ filter is_commit (take k ps)) (filter is_commit (take k ps)))) (calls_at (cond (is_some o) (p ∷ filter is_commit ps) (filter is_commit ps))))
    by go (Some number) reads = go (w.run p.call db).tables
    by go None reads = ap (λ (t : Tables). tables_after w t (take k (calls_at ps))) (keeps p.call db reads) ∙ go db

pub all_commits : (ps : List Place) → commits_to_place (length ps) ps ≡ length (filter is_commit ps)
all_commits ps = ap (λ (qs : List Place). length (filter is_commit qs)) (take_all (length ps) ps (omega arith))

-- Each call once

-- the place of a standing call
pub record IsPlaceOf (ps : List Place) (k c : ℕ) : Type 0 where
  pub place : Place
  pub is : slice_get ps k ≡ Some place
  pub call : place.call ≡ c

pub place_of : (ps : List Place) (k c : ℕ) → slice_get (calls_at ps) k ≡ Some c → IsPlaceOf ps k c
place_of ps k c is = by (slice_get ps k) refl (sym (slice_get-map (λ (p : Place). p.call) ps k) ∙ is)
  where
    by : (o : Option Place) → slice_get ps k ≡ o → option_map (λ (p : Place). p.call) o ≡ Some c → IsPlaceOf ps k c
    by None e h = cc
    by (Some p) e h = record { place = p; is = e; call = same_Some p.call c h }

-- a call in its place has committed or was answered
pub ended_at : (s : Schedule) (n : ℕ) (cs : List ℕ) (j : ℕ) (o : Option ℕ) (c : ℕ) → StandsBy s n cs j o c → (stands c s.answered || stands c cs) ≡ true
ended_at s n cs j (Some number) c h = or_true (stands c s.answered) (stands c cs) (stands_at cs j c h.1)
ended_at s n cs j None c h = ap (λ b. b || stands c cs) h.0

pub standing_below : (w : Batch) (s : Schedule) (k c : ℕ) → OrderlyAt w s → slice_get (standing s) k ≡ Some c → c < w.count
standing_below w s k c o is =
    let it = place_of (places s) k c is in
    below (subst (λ x. (stands x s.answered || stands x s.order) ≡ true) it.call (ended_at s 0 s.order (commits_to_place k (places s)) it.place.commit it.place.call (place_at s 0 s.order k it.place it.is)))
  where
    below : (stands c s.answered || stands c s.order) ≡ true → c < w.count
    below there = by (nat_lt c w.count) refl
      where
        less : nat_lt c w.count ≡ true → c < w.count
        less e = grind (arith, e)

        past : nat_lt c w.count ≡ false → length s.calls ≤ c
        past e = let n = o.count in grind (arith, e, n)

        by : (b : Bool) → nat_lt c w.count ≡ b → c < w.count
        by true e = less e
        by false e = absurd (both_ways (stands c s.answered || stands c s.order) (o.within c (past e)) there)

pub start_at : (ls : List Live) (c : ℕ) (l : Live) → slice_get ls c ≡ Some l → start_in ls c ≡ l.start
start_at ls c l is = ap start_by is

-- a call that is done stands once
pub stands_once : (w : Batch) (s : Schedule) (c : ℕ) (l : Live) → OrderlyAt w s → slice_get s.calls c ≡ Some l → l.done ≡ true → count c (standing s) ≡ 1
stands_once w s c l o is done = by (stands c s.order) refl (sym (o.done c l is) ∙ done)
  where
    all : count c (standing s) ≡ count c s.order + count c s.answered
    all = let past = (o.starts c l is).past in let start = start_at s.calls c l is in counted s 0 s.order c (omega arith) (omega (arith, past, start))

    by : (b : Bool) → stands c s.order ≡ b → (stands c s.answered || b) ≡ true → count c (standing s) ≡ 1
    by true e h =
        let one = one_of c s.order o.once e in
        let none = none_of c s.answered (o.apart c e) in
        let sum = all in
        omega (arith, one, none, sum)
    by false e h =
        let none = none_of c s.order e in
        let one = one_of c s.answered o.replied (only (stands c s.answered) h) in
        let sum = all in
        omega (arith, one, none, sum)
      where
        only : (a : Bool) → (a || false) ≡ true → a ≡ true
        only true k = refl
        only false k = cc

pub serial_of : (w : Batch) (s : Schedule) → Ended w s → IsSerial w s
serial_of w s h = record {
  calls = λ k d within. standing_below w s k (slice_index_or (standing s) k d) o (slice_get-get_or (standing s) k d within);
  once = λ c less. (let it = all_done w s h.closed c less in stands_once w s c it.0 o it.1 it.2);
  after_begin = λ k c l at got. first_by k l.round_starts (o.after_begin k c l at got);
  answered = λ c l there got. (let t = o.starts c l got in (first_by l.start l.round_starts t.by, t.past));
}
  where
    o : OrderlyAt w s
    o = h.orderly

pub lawful_is_serial : (w : Batch) (es : List Event) → Lawful w es → IsSerial w (schedule_of w es)
lawful_is_serial w es h = serial_of w (schedule_of w es) (ended_from w 1 beginning es h (at_beginning w))
