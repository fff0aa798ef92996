-- The first hit, a commit more at a time.
use Rattle.std.proofs.Common.{◌≡◌, ℕ, suc, ◌+◌, ◌-◌, ◌<◌, ◌≤◌, Bool, true, false, List, [], ◌∷◌, ◌++◌, Option, Some, None, length, take, drop, if◌then◌else◌, refl, sym, ap, subst, ◌∙◌, arith, length-append}
use Rattle.std.specs.Prelude.{IfSome, min, slice_index_or}
use Rattle.std.proofs.lemmas.List.{length-take, take-take, drop_more, take_more, map_more, length-map}
use Rattle.mv_record.specs.Runs.{writes_in}
use Rattle.mv_undo.specs.Owned.{Owned}
use Rattle.mv_record.specs.declared.record.Record.{Record}
use Rattle.mv_history.specs.declared.change.Change.{Change}
use Rattle.mv_history.specs.declared.change.Hit.{Hit}
use Rattle.mv_history.specs.Hits.{any_hits, first_commit, or_later, first_hit}
use Rattle.mv_changes.specs.declared.recent.Committed.{Committed}
use Rattle.mv_undo.specs.Owning.{HasWritesOf}
use Rattle.mv_changes.specs.Commits.{changes_in, AreNumbered}
use Rattle.mv_changes.specs.Hitting.{first_record, records_before}
use Rattle.mv_changes.proofs.Numbering.{numbered_at}

abbrev Commits : Type 0
Commits = List (List Change)

abbrev hit_at : ℕ → ℕ → Hit
hit_at number commit = record { number = number; commit = commit }

-- Where the first record is

some_same : (a b : ℕ) → ◌≡◌ {A = Option ℕ} (Some a) (Some b) → a ≡ b
some_same a b h = cc

hit_same : (a b : Hit) → ◌≡◌ {A = Option Hit} (Some a) (Some b) → a.number ≡ b.number
hit_same a b h = let same : a ≡ b = cc in ap (λ (h : Hit). h.number) same

pub before_end : (cs : List Change) (before rs : List Record) (k : ℕ) → first_record cs before rs ≡ Some k → k < length before + length rs
before_end cs before [] k h = cc
before_end cs before (r ∷ rs) k h = by (before_end cs (before ++ r ∷ []) rs k) (any_hits cs before r) h
  where
    by : (first_record cs (before ++ r ∷ []) rs ≡ Some k → k < length (before ++ r ∷ []) + length rs) → (b : Bool)
        → (if b then Some (length before) else first_record cs (before ++ r ∷ []) rs) ≡ Some k → k < length before + length (r ∷ rs)
    by more true e = let same : length before ≡ k = some_same (length before) k e in omega (arith, same)
    by more false e = omega (arith, more e, length-append before (r ∷ []))

hit_after : (n : ℕ) (css : Commits) (before rs : List Record) (h : Hit) → first_hit n css before rs ≡ Some h → length before ≤ h.number
hit_after n css before [] h e = cc
hit_after n css before (r ∷ rs) h e = by (hit_after n css (before ++ r ∷ []) rs h) (first_commit n css before r) e
  where
    by : (first_hit n css (before ++ r ∷ []) rs ≡ Some h → length (before ++ r ∷ []) ≤ h.number) → (o : Option ℕ)
        → or_later (length before) o (first_hit n css (before ++ r ∷ []) rs) ≡ Some h → length before ≤ h.number
    by more (Some k) e = let same : length before ≡ h.number = hit_same (hit_at (length before) k) h e in omega (arith, same)
    by more None e = omega (arith, more e, length-append before (r ∷ []))

-- A commit more

commit_more : (n : ℕ) (css : Commits) (cs : List Change) (before : List Record) (r : Record) → first_commit n css before r ≡ None
    → first_commit n (css ++ cs ∷ []) before r ≡ (if any_hits cs before r then Some (n + length css) else None)
commit_more n [] cs before r h = ap (λ m. if any_hits cs before r then Some m else None) (omega arith)
commit_more n (ds ∷ css) cs before r h = by (commit_more (n + 1) css cs before r) (any_hits ds before r) h
  where
    by : (first_commit (n + 1) css before r ≡ None → first_commit (n + 1) (css ++ cs ∷ []) before r ≡ (if any_hits cs before r then Some (n + 1 + length css) else None))
        → (b : Bool) → (if b then Some n else first_commit (n + 1) css before r) ≡ None
        → (if b then Some n else first_commit (n + 1) (css ++ cs ∷ []) before r) ≡ (if any_hits cs before r then Some (n + length (ds ∷ css)) else None)
    by more true e = cc
    by more false e = more e ∙ ap (λ m. if any_hits cs before r then Some m else None) (omega arith)

commit_stays : (n : ℕ) (css : Commits) (cs : List Change) (before : List Record) (r : Record) (k : ℕ) → first_commit n css before r ≡ Some k → first_commit n (css ++ cs ∷ []) before r ≡ Some k
commit_stays n [] cs before r k h = cc
commit_stays n (ds ∷ css) cs before r k h = by (commit_stays (n + 1) css cs before r k) (any_hits ds before r) h
  where
    by : (first_commit (n + 1) css before r ≡ Some k → first_commit (n + 1) (css ++ cs ∷ []) before r ≡ Some k) → (b : Bool)
        → (if b then Some n else first_commit (n + 1) css before r) ≡ Some k → (if b then Some n else first_commit (n + 1) (css ++ cs ∷ []) before r) ≡ Some k
    by more true e = e
    by more false e = more e

-- the records before the one that is hit, of those after a front
abbrev pub rest_before : ℕ → Option Hit → List Record → List Record
rest_before front None rs = rs
rest_before front (Some h) rs = take (h.number - front) rs

-- an earlier record counts, else what was found stays
abbrev pub earlier_hit : Option ℕ → ℕ → Option Hit → Option Hit
earlier_hit (Some number) commit was = Some (record { number = number; commit = commit })
earlier_hit None commit was = was

-- what the first commits hit of the records after r
abbrev found : ℕ → Commits → List Record → Record → List Record → Option Hit
found n css before r rs = first_hit n css (before ++ r ∷ []) rs

-- the claim, of the records after a front
abbrev IsMore : ℕ → Commits → List Change → List Record → List Record → Type 0
IsMore n css cs before rs =
    first_hit n (css ++ cs ∷ []) before rs ≡ earlier_hit (first_record cs before (rest_before (length before) (first_hit n css before rs) rs)) (n + length css) (first_hit n css before rs)

first_now : (n : ℕ) (cs : List Change) (before rs : List Record) (k : ℕ)
    → earlier_hit (first_record cs before (take (length before - length before) rs)) n (Some (hit_at (length before) k)) ≡ Some (hit_at (length before) k)
first_now n cs before rs k = let none : length before - length before ≡ 0 = omega arith in rw none refl

front_first : (cs : List Change) (before : List Record) (r : Record) (rest : List Record) → any_hits cs before r ≡ true → first_record cs before (r ∷ rest) ≡ Some (length before)
front_first cs before r rest e = rw e refl

front_later : (cs : List Change) (before : List Record) (r : Record) (rest : List Record) → any_hits cs before r ≡ false → first_record cs before (r ∷ rest) ≡ first_record cs (before ++ r ∷ []) rest
front_later cs before r rest e = rw e refl

-- what is left begins with this record, where it isn't hit yet
begins : (n : ℕ) (css : Commits) (before : List Record) (r : Record) (rs : List Record) (x : Option Hit) → found n css before r rs ≡ x
    → rest_before (length before) x (r ∷ rs) ≡ r ∷ rest_before (length (before ++ r ∷ [])) x rs
begins n css before r rs None e = refl
begins n css before r rs (Some h) e =
    let far : length (before ++ r ∷ []) ≤ h.number = hit_after n css (before ++ r ∷ []) rs h e in
    let long : length (before ++ r ∷ []) ≡ length before + 1 = length-append before (r ∷ []) in
    let step : h.number - length before ≡ suc (h.number - length (before ++ r ∷ [])) = omega (arith, far, long) in
    ap (λ m. take m (r ∷ rs)) step

-- where no earlier commit hits the record
unhit_yet : (n : ℕ) (css : Commits) (cs : List Change) (before : List Record) (r : Record) (rs : List Record) → IsMore n css cs (before ++ r ∷ []) rs → (b : Bool) → any_hits cs before r ≡ b
    → or_later (length before) (if b then Some (n + length css) else None) (first_hit n (css ++ cs ∷ []) (before ++ r ∷ []) rs)
    ≡ earlier_hit (first_record cs before (r ∷ rest_before (length (before ++ r ∷ [])) (found n css before r rs) rs)) (n + length css) (found n css before r rs)
unhit_yet n css cs before r rs more true e =
    ap (λ o. earlier_hit o (n + length css) (found n css before r rs)) (sym (front_first cs before r (rest_before (length (before ++ r ∷ [])) (found n css before r rs) rs) e))
unhit_yet n css cs before r rs more false e =
    more ∙ ap (λ o. earlier_hit o (n + length css) (found n css before r rs)) (sym (front_later cs before r (rest_before (length (before ++ r ∷ [])) (found n css before r rs) rs) e))

hit_step : (n : ℕ) (css : Commits) (cs : List Change) (before : List Record) (r : Record) (rs : List Record) → IsMore n css cs (before ++ r ∷ []) rs → (o : Option ℕ) → first_commit n css before r ≡ o
    → or_later (length before) (first_commit n (css ++ cs ∷ []) before r) (first_hit n (css ++ cs ∷ []) (before ++ r ∷ []) rs)
    ≡ earlier_hit (first_record cs before (rest_before (length before) (or_later (length before) o (found n css before r rs)) (r ∷ rs))) (n + length css) (or_later (length before) o (found n css before r rs))
hit_step n css cs before r rs more (Some k) e =
    ap (λ o. or_later (length before) o (first_hit n (css ++ cs ∷ []) (before ++ r ∷ []) rs)) (commit_stays n css cs before r k e) ∙ sym (first_now (n + length css) cs before (r ∷ rs) k)
hit_step n css cs before r rs more None e =
    ap (λ o. or_later (length before) o (first_hit n (css ++ cs ∷ []) (before ++ r ∷ []) rs)) (commit_more n css cs before r e)
    ∙ (unhit_yet n css cs before r rs more (any_hits cs before r) refl
    ∙ ap (λ l. earlier_hit (first_record cs before l) (n + length css) (found n css before r rs)) (sym (begins n css before r rs (found n css before r rs) refl)))

hit_more : (n : ℕ) (css : Commits) (cs : List Change) (before rs : List Record) → IsMore n css cs before rs
hit_more n css cs before [] = refl
hit_more n css cs before (r ∷ rs) = hit_step n css cs before r rs (hit_more n css cs (before ++ r ∷ []) rs) (first_commit n css before r) refl

rest_whole : (x : Option Hit) (rs : List Record) → rest_before 0 x rs ≡ records_before x rs
rest_whole None rs = refl
rest_whole (Some h) rs = ap (λ m. take m rs) (omega arith)

pub commit_added : (n : ℕ) (css : Commits) (cs : List Change) (rs : List Record) → first_hit n (css ++ cs ∷ []) [] rs ≡ earlier_hit (first_record cs [] (records_before (first_hit n css [] rs) rs)) (n + length css) (first_hit n css [] rs)
commit_added n css cs rs = hit_more n css cs [] rs ∙ ap (λ l. earlier_hit (first_record cs [] l) (n + length css) (first_hit n css [] rs)) (rest_whole (first_hit n css [] rs) rs)

-- By the code's steps

-- the writes before each record of a front
pub front_writes : (undo : List Owned) (rs : List Record) (x : Option Hit) → HasWritesOf undo rs → HasWritesOf undo (records_before x rs)
front_writes undo rs None h = h
front_writes undo rs (Some hit) h = λ number low.
    let short : length (take hit.number rs) ≡ min hit.number (length rs) = length-take hit.number rs in
    h number (omega (arith, low, short)) ∙ ap writes_in (sym (take-take number hit.number rs (omega (arith, low, short))))

-- a record more is tried
pub record_tried : (cs : List Change) (rs : List Record) (n : ℕ) (r : Record) (b : Bool) → n < length rs → r ≡ slice_index_or rs n r → b ≡ any_hits cs (take n rs) r
    → first_record cs (take n rs) (drop n rs) ≡ (if b then Some n else first_record cs (take (n + 1) rs) (drop (n + 1) rs))
record_tried cs rs n r b lt at hits =
    ap (first_record cs (take n rs)) (drop_more rs n r lt ∙ ap (λ x. x ∷ drop (n + 1) rs) (sym at))
    ∙ (ap (λ x. if x then Some (length (take n rs)) else first_record cs (take n rs ++ r ∷ []) (drop (n + 1) rs)) (sym hits)
    ∙ (ap (λ m. if b then Some m else first_record cs (take n rs ++ r ∷ []) (drop (n + 1) rs)) long
    ∙ ap (λ l. if b then Some n else first_record cs l (drop (n + 1) rs)) (sym (take_more rs n r lt ∙ ap (λ x. take n rs ++ x ∷ []) (sym at)))))
  where
    long : length (take n rs) ≡ n
    long = omega (arith, length-take n rs, lt)

-- a commit more is tried
pub commit_tried : (n : ℕ) (since : List Committed) (i : ℕ) (c : Committed) (rs : List Record) (was : Option Hit) → i < length since → c ≡ slice_index_or since i c → AreNumbered n since
    → was ≡ first_hit n (changes_in (take i since)) [] rs
    → first_hit n (changes_in (take (i + 1) since)) [] rs ≡ earlier_hit (first_record c.changes [] (records_before was rs)) c.commit was
commit_tried n since i c rs was lt at numbers is =
    ap (λ l. first_hit n l [] rs) (map_more (λ (c : Committed). c.changes) since i c lt ∙ ap (λ (x : Committed). changes_in (take i since) ++ x.changes ∷ []) (sym at))
    ∙ (commit_added n (changes_in (take i since)) c.changes rs
    ∙ (ap (λ m. earlier_hit (first_record c.changes [] (records_before (first_hit n (changes_in (take i since)) [] rs) rs)) m (first_hit n (changes_in (take i since)) [] rs)) number
    ∙ ap (λ x. earlier_hit (first_record c.changes [] (records_before x rs)) c.commit x) (sym is)))
  where
    long : length (changes_in (take i since)) ≡ i
    long = length-map (take i since) (λ (c : Committed). c.changes) ∙ omega (arith, length-take i since, lt)

    number : n + length (changes_in (take i since)) ≡ c.commit
    number = omega (arith, long, numbered_at n since i c numbers lt, ap (λ (x : Committed). x.commit) at)

pub found_within : (cs : List Change) (rs : List Record) (o : Option ℕ) → o ≡ first_record cs [] rs → IfSome o (λ number. number < length rs)
found_within cs rs None h = tt
found_within cs rs (Some k) h = omega (arith, before_end cs [] rs k (sym h))

pub within_front : (x : Option Hit) (rs : List Record) (number : ℕ) → number < length (records_before x rs) → number < length rs
within_front None rs number h = h
within_front (Some hit) rs number h = omega (arith, h, length-take hit.number rs)

pub none_yet : (n : ℕ) (before rs : List Record) → ◌≡◌ {A = Option Hit} None (first_hit n [] before rs)
none_yet n before [] = refl
none_yet n before (r ∷ rs) = none_yet n (before ++ r ∷ []) rs

pub earlier_within : (o : Option ℕ) (commit : ℕ) (was new : Option Hit) (rs : List Record) → new ≡ earlier_hit o commit was → IfSome o (λ number. number < length (records_before was rs)) → IfSome was (λ h. h.number < length rs)
    → IfSome new (λ h. h.number < length rs)
earlier_within None commit was new rs is one all = subst (λ x. IfSome x (λ h. h.number < length rs)) (sym is) all
earlier_within (Some number) commit was new rs is one all = subst (λ x. IfSome x (λ h. h.number < length rs)) (sym is) (within_front was rs number one)
