-- The journal of one worker has the call order.
use Rattle.std.proofs.Common.{◌≡◌, ◌≤◌, ◌<◌, ℕ, zero, suc, ◌+◌, Bool, true, false, cond, List, [], ◌∷◌, ◌++◌, map, length, refl, sym, ap, subst, ◌∙◌, arith, append-nil, append_assoc, length-append}
use Rattle.std.specs.Prelude.{◌==◌}
use Rattle.std.specs.List.{filter}
use Rattle.std.proofs.lemmas.Bool.{eq-eqb, ne_eqb}
use Rattle.std.proofs.lemmas.List.Elements.{filter-append}
use Rattle.mv_values.specs.Counts.{first_numbers}
use Rattle.mv_lawful.specs.Batch.{Batch}
use Rattle.mv_lawful.specs.Lawful.{Live, Schedule, beginning, begin, finish, open_call}
use Rattle.mv_lawful.specs.declared.fault.Wrong.TheVariants.{Open}
use Rattle.mv_lawful.specs.Places.{start_by, start_in, answered_at, answer_place, places_from, calls_at, standing}
use Rattle.mv_lawful.specs.Outcomes.{in_turn}
use Rattle.mv_lawful.specs.Laws.{IsInTurn}
use Rattle.std.specs.Option.{option_map}
use Rattle.mv_lawful.proofs.Placing.{plain, calls_more}
use Rattle.mv_lawful.proofs.Lists.{get_below, get_end}
use Rattle.mv_lawful.proofs.Turns.{more_commits, more_answers, commits_of, answers_of, done_calls, length_calls, turned, turns_reach, turns_free, turns_late, no_rounds, only_open, closed}

-- Answered calls

-- these calls are among the first n, and each has a start of at most this number
abbrev Before : List Live → ℕ → ℕ → List ℕ → Type 0
Before ls n most [] = Unit {0}
Before ls n most (c ∷ cs) = ((c < n) × (start_in ls c ≤ most)) × Before ls n most cs

-- a call more leaves the starts of the others as they are
front_start : (ls : List Live) (x : Live) (c : ℕ) → c < length ls → start_in (ls ++ x ∷ []) c ≡ start_in ls c
front_start ls x c less = ap start_by (get_below ls x c less)

last_start_is : (ls : List Live) (x : Live) (n : ℕ) → length ls ≡ n → start_in (ls ++ x ∷ []) n ≡ x.start
last_start_is ls x n is = ap start_by (get_end ls x n (sym is))

front_answered : (ls : List Live) (x : Live) (n most k : ℕ) (cs : List ℕ) → length ls ≡ n → Before ls n most cs → filter (λ c. start_in (ls ++ x ∷ []) c == k) cs ≡ filter (λ c. start_in ls c == k) cs
front_answered ls x n most k [] is h = refl
front_answered ls x n most k (c ∷ cs) is h =
    ap (λ m. cond (m == k) (c ∷ filter (λ d. start_in (ls ++ x ∷ []) d == k) cs) (filter (λ d. start_in (ls ++ x ∷ []) d == k) cs)) (front_start ls x c (let less = h.0.0 in omega (arith, is, less)))
    ∙ ap (λ ds. cond (start_in ls c == k) (c ∷ ds) ds) (front_answered ls x n most k cs is h.1)

none_past : (ls : List Live) (n most k : ℕ) (cs : List ℕ) → most < k → Before ls n most cs → filter (λ c. start_in ls c == k) cs ≡ []
none_past ls n most k [] less h = refl
none_past ls n most k (c ∷ cs) less h =
    ap (λ b. cond b (c ∷ filter (λ d. start_in ls d == k) cs) (filter (λ d. start_in ls d == k) cs)) (ne_eqb (start_in ls c) k (λ e. let start = h.0.1 in omega (arith, e, start, less)))
    ∙ none_past ls n most k cs less h.1

-- One call more

-- a commit stands behind all others
commit_stands : (s t : Schedule) (m n : ℕ) (cs : List ℕ) → ((k : ℕ) → answered_at t k ≡ answered_at s k) → answered_at t (m + length cs + 1) ≡ []
    → calls_at (places_from t m (cs ++ n ∷ [])) ≡ calls_at (places_from s m cs) ++ n ∷ []
commit_stands s t m n [] same none =
    calls_more t m n []
    ∙ (ap (λ ds. ds ++ n ∷ calls_at (map answer_place (answered_at t (m + 1)))) (same m)
    ∙ (ap (λ ds. answered_at s m ++ n ∷ ds) (plain (answered_at t (m + 1)) ∙ (ap (answered_at t) (omega arith) ∙ none)) ∙ ap (λ ds. ds ++ n ∷ []) (sym (plain (answered_at s m)))))
commit_stands s t m n (c ∷ cs) same none =
    calls_more t m c (cs ++ n ∷ [])
    ∙ (ap (λ ds. ds ++ c ∷ calls_at (places_from t (m + 1) (cs ++ n ∷ []))) (same m)
    ∙ (ap (λ ds. answered_at s m ++ c ∷ ds) (commit_stands s t (m + 1) n cs same (ap (answered_at t) (omega arith) ∙ none))
    ∙ (sym (append_assoc (answered_at s m) (c ∷ calls_at (places_from s (m + 1) cs)) (n ∷ [])) ∙ ap (λ ds. ds ++ n ∷ []) (sym (calls_more s m c cs)))))

-- so does a call that is answered after all commits
answer_stands : (s t : Schedule) (m n : ℕ) (cs : List ℕ) → ((k : ℕ) → k < m + length cs → answered_at t k ≡ answered_at s k) → answered_at t (m + length cs) ≡ answered_at s (m + length cs) ++ n ∷ []
    → calls_at (places_from t m cs) ≡ calls_at (places_from s m cs) ++ n ∷ []
answer_stands s t m n [] same last =
    let here : m + length {A = ℕ} [] ≡ m = omega arith in
    plain (answered_at t m)
    ∙ (subst (λ k. answered_at t k ≡ answered_at s k ++ n ∷ []) here last ∙ ap (λ ds. ds ++ n ∷ []) (sym (plain (answered_at s m))))
answer_stands s t m n (c ∷ cs) same last =
    calls_more t m c cs
    ∙ (ap (λ ds. ds ++ c ∷ calls_at (places_from t (m + 1) cs)) (same m (omega arith))
    ∙ (ap (λ ds. answered_at s m ++ c ∷ ds) (answer_stands s t (m + 1) n cs (λ k less. same k (omega (arith, less))) (let next : m + length (c ∷ cs) ≡ m + 1 + length cs = omega arith in subst (λ k. answered_at t k ≡ answered_at s k ++ n ∷ []) next last))
    ∙ (sym (append_assoc (answered_at s m) (c ∷ calls_at (places_from s (m + 1) cs)) (n ∷ [])) ∙ ap (λ ds. ds ++ n ∷ []) (sym (calls_more s m c cs)))))

-- All turns

before_more : (ls : List Live) (x : Live) (n most : ℕ) (cs : List ℕ) → length ls ≡ n → Before ls n most cs → Before (ls ++ x ∷ []) (suc n) most cs
before_more ls x n most [] is h = tt
before_more ls x n most (c ∷ cs) is h =
    let less = h.0.0 in
    let start = h.0.1 in
    let same = front_start ls x c (omega (arith, is, less)) in
    ((omega (arith, less), omega (arith, start, same)), before_more ls x n most cs is h.1)

before_later : (ls : List Live) (n most later : ℕ) (cs : List ℕ) → most ≤ later → Before ls n most cs → Before ls n later cs
before_later ls n most later [] le h = tt
before_later ls n most later (c ∷ cs) le h = ((h.0.0, (let start = h.0.1 in omega (arith, start, le))), before_later ls n most later cs le h.1)

before_end : (ls : List Live) (n most c : ℕ) (cs : List ℕ) → c < n → start_in ls c ≤ most → Before ls n most cs → Before ls n most (cs ++ c ∷ [])
before_end ls n most c [] less start h = ((less, start), tt)
before_end ls n most c (d ∷ cs) less start h = (h.0, before_end ls n most c cs less start h.1)

-- by kind: whether the next call is read only
abbrev Next : Batch → ℕ → Bool → Schedule
Next w n true = record { order = commits_of w n; calls = done_calls w (suc n); low = 0; answered = answers_of w n ++ n ∷ [] }
Next w n false = record { order = commits_of w n ++ n ∷ []; calls = done_calls w (suc n); low = 0; answered = answers_of w n }

abbrev next_by : Batch → ℕ → Bool → Schedule
next_by w n b = record { order = more_commits b n (commits_of w n); calls = done_calls w (suc n); low = 0; answered = more_answers b n (answers_of w n) }

next_is : (w : Batch) (n : ℕ) (b : Bool) → w.read_only n ≡ b → turned w (suc n) ≡ Next w n b
next_is w n true reads = ap (next_by w n) reads
next_is w n false reads = ap (next_by w n) reads

abbrev AllBefore : Batch → ℕ → Type 0
AllBefore w n = Before (done_calls w n) n (length (commits_of w n)) (answers_of w n)

all_before : (w : Batch) (n : ℕ) → AllBefore w n
all_before w zero = tt
all_before w (suc n) = by (before_more (done_calls w n) (finish (begin (length (commits_of w n)))) n (length (commits_of w n)) (answers_of w n) (length_calls w n) (all_before w n)) (w.read_only n) refl
  where
    own : start_in (done_calls w (suc n)) n ≡ length (commits_of w n)
    own = last_start_is (done_calls w n) (finish (begin (length (commits_of w n)))) n (length_calls w n)

    kind : Before (done_calls w (suc n)) (suc n) (length (commits_of w n)) (answers_of w n) → (b : Bool) → Before (Next w n b).calls (suc n) (length (Next w n b).order) (Next w n b).answered
    kind grown true = before_end (done_calls w (suc n)) (suc n) (length (commits_of w n)) n (answers_of w n) (omega arith) (let o = own in omega (arith, o)) grown
    kind grown false = before_later (done_calls w (suc n)) (suc n) (length (commits_of w n)) (length (commits_of w n ++ n ∷ [])) (answers_of w n) (let l = length-append (commits_of w n) (n ∷ []) in omega (arith, l)) grown

    by : Before (done_calls w (suc n)) (suc n) (length (commits_of w n)) (answers_of w n) → (b : Bool) → w.read_only n ≡ b → AllBefore w (suc n)
    by grown b reads = subst (λ (t : Schedule). Before t.calls (suc n) (length t.order) t.answered) (sym (next_is w n b reads)) (kind grown b)

stands_more : (w : Batch) (n : ℕ) (b : Bool) → standing (Next w n b) ≡ standing (turned w n) ++ n ∷ []
stands_more w n true = answer_stands (turned w n) (Next w n true) 0 n (commits_of w n) same last
  where
    ls : List Live
    ls = done_calls w n

    x : Live
    x = finish (begin (length (commits_of w n)))

    front : (k : ℕ) → filter (λ c. start_in (done_calls w (suc n)) c == k) (answers_of w n) ≡ answered_at (turned w n) k
    front k = front_answered (done_calls w n) (finish (begin (length (commits_of w n)))) n (length (commits_of w n)) k (answers_of w n) (length_calls w n) (all_before w n)

    own : start_in (done_calls w (suc n)) n ≡ length (commits_of w n)
    own = last_start_is (done_calls w n) (finish (begin (length (commits_of w n)))) n (length_calls w n)

    parts : (k : ℕ) → answered_at (Next w n true) k ≡ answered_at (turned w n) k ++ filter (λ c. start_in (done_calls w (suc n)) c == k) (n ∷ [])
    parts k = filter-append (λ c. start_in (done_calls w (suc n)) c == k) (answers_of w n) (n ∷ []) ∙ ap (λ ds. ds ++ filter (λ c. start_in (done_calls w (suc n)) c == k) (n ∷ [])) (front k)

    same : (k : ℕ) → k < 0 + length (commits_of w n) → answered_at (Next w n true) k ≡ answered_at (turned w n) k
    same k less =
        parts k
        ∙ (ap (λ b. answered_at (turned w n) k ++ cond b (n ∷ []) []) (ne_eqb (start_in (done_calls w (suc n)) n) k (λ e. let o = own in omega (arith, e, o, less))) ∙ append-nil (answered_at (turned w n) k))

    last : answered_at (Next w n true) (0 + length (commits_of w n)) ≡ answered_at (turned w n) (0 + length (commits_of w n)) ++ n ∷ []
    last =
        parts (0 + length (commits_of w n))
        ∙ ap (λ b. answered_at (turned w n) (0 + length (commits_of w n)) ++ cond b (n ∷ []) []) (eq-eqb (start_in (done_calls w (suc n)) n) (0 + length (commits_of w n)) (let o = own in omega (arith, o)))
stands_more w n false = commit_stands (turned w n) (Next w n false) 0 n (commits_of w n) front (front (0 + length (commits_of w n) + 1) ∙ past)
  where
    front : (k : ℕ) → answered_at (Next w n false) k ≡ answered_at (turned w n) k
    front k = front_answered (done_calls w n) (finish (begin (length (commits_of w n)))) n (length (commits_of w n)) k (answers_of w n) (length_calls w n) (all_before w n)

    past : answered_at (turned w n) (0 + length (commits_of w n) + 1) ≡ []
    past = none_past (done_calls w n) n (length (commits_of w n)) (0 + length (commits_of w n) + 1) (answers_of w n) (omega arith) (all_before w n)

pub stands_in_turn : (w : Batch) (n : ℕ) → standing (turned w n) ≡ first_numbers n
stands_in_turn w zero = refl
stands_in_turn w (suc n) = ap standing (next_is w n (w.read_only n) refl) ∙ (stands_more w n (w.read_only n) ∙ ap (λ cs. cs ++ n ∷ []) (stands_in_turn w n))

pub in_turn_is_lawful : (w : Batch) → IsInTurn w (in_turn w.read_only w.count)
in_turn_is_lawful w = record {
  lawful = only_open w 1 beginning (in_turn w.read_only w.count) (turns_free w w.count (omega arith)) ∙ (ap (λ s. option_map Open (open_call w s)) (turns_reach w w.count) ∙ closed w w.count refl);
  bounded = record { few = λ c. (let e = ap length (no_rounds w.read_only c w.count) in omega (arith, e)); late = turns_late w w.count };
  order = ap standing (turns_reach w w.count) ∙ stands_in_turn w w.count;
}
