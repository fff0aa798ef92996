-- What versions are, by the newest row and what takes commits back.
use Rattle.std.proofs.Common.{◌≡◌, ◌∷◌, ◌++◌, ◌<◌, ◌≤◌, ℕ, zero, suc, true, false, inl, inr, List, [], length, take, drop, get_or, Option, Some, None, refl, ap, sym, ◌∙◌, arith, rules, ◌-◌, length-drop, le_trans}
use Rattle.std.specs.Prelude.{nat_le, nat_lt, All, ◌↔◌}
use Rattle.std.specs.List.{filter}
use Rattle.std.specs.List.Sorted.{IsPartitionPoint, IsPartitionedBy}
use Rattle.std.proofs.lemmas.Bool.{cases_Bool}
use Rattle.std.proofs.lemmas.List.Elements.{All-head, All-tail, All-nil, All-cons}
use Rattle.mv_values.specs.declared.value.Value.{Value}
use Rattle.mv_values.specs.declared.patch.Patch.{Patch}
use Rattle.mv_chain.specs.declared.undo.Undo.{Undo}
use Rattle.mv_values.specs.Patching.{patched}
use Rattle.mv_chain.specs.declared.pending.Pending.{Pending}
use Rattle.std.proofs.lemmas.List.{take_at, drop_all}
use Rattle.mv_chain.specs.Versions.{Versions, Commit, row_after, row_at, newest_of, newest, own_of, without, stamped_by, stamped, collected}
use Rattle.mv_chain.specs.Undoing.{undone, before, commits_of, later, AllLater, Rises}

pub row_is : (n : ℕ) (us : List Undo) (now : Option (List Value)) → row_after n (before us now) (commits_of us now) ≡ before (later n us) now
row_is n [] now = refl
row_is n (u ∷ us) now = elim (cases_Bool (nat_le u.commit n)) [
  | inl t ↦ rw t (row_is n us now)
  | inr f ↦ rw f refl
]

pub newest_is : (us : List Undo) (now : Option (List Value)) → newest_of (before us now) (commits_of us now) ≡ now
newest_is [] now = refl
newest_is (u ∷ us) now = newest_is us now

pub length_commits : (us : List Undo) (now : Option (List Value)) → length us ≡ length (commits_of us now)
length_commits [] now = refl
length_commits (u ∷ us) now = ap suc (length_commits us now)

pub before_push : (us : List Undo) (u : Undo) (now : Option (List Value)) → before (us ++ u ∷ []) now ≡ before us (undone u.patch now)
before_push [] u now = refl
before_push (v ∷ vs) u now = ap (undone v.patch) (before_push vs u now)

pub commits_push : (us : List Undo) (u : Undo) (now : Option (List Value)) → commits_of (us ++ u ∷ []) now ≡ commits_of us (undone u.patch now) ++ record { number = u.commit; row = now } ∷ []
commits_push [] u now = refl
commits_push (v ∷ vs) u now = ap2 (λ row cs. record { number = v.commit; row = row } ∷ cs) (before_push vs u now) (commits_push vs u now)
  where
    ap2 : (f : Option (List Value) → List Commit → List Commit) {a b : Option (List Value)} {c d : List Commit} → a ≡ b → c ≡ d → f a c ≡ f b d
    ap2 f p q = cc

-- Numbers

all_later : (m n : ℕ) (us : List Undo) → m ≤ n → AllLater n us → AllLater m us
all_later m n [] h later = tt
all_later m n (u ∷ us) h later = (omega (arith, later.0), all_later m n us h later.1)

later_at : (n : ℕ) (us : List Undo) (k : ℕ) (d : Undo) → AllLater n us → k < length us → n < (get_or us k d).commit
later_at n [] k d h within = absurd (omega arith)
later_at n (u ∷ us) zero d h within = h.0
later_at n (u ∷ us) (suc k) d h within = later_at n us k d h.1 (omega arith)

rises_at : (us : List Undo) (i j : ℕ) (d : Undo) → Rises us → i ≤ j → j < length us → (get_or us i d).commit ≤ (get_or us j d).commit
rises_at [] i j d h le within = absurd (omega arith)
rises_at (u ∷ us) zero zero d h le within = omega arith
rises_at (u ∷ us) zero (suc j) d h le within = let lt : u.commit < (get_or us j d).commit = later_at u.commit us j d h.0 (omega arith) in omega (arith, lt)
rises_at (u ∷ us) (suc i) zero d h le within = absurd (omega arith)
rises_at (u ∷ us) (suc i) (suc j) d h le within = rises_at us i j d h.1 (omega arith) (omega arith)

pub parted : (n : ℕ) (us : List Undo) → Rises us → IsPartitionedBy (λ u. nat_le u.commit n) us
parted n us h i j d le within t =
    let up : (get_or us i d).commit ≤ (get_or us j d).commit = rises_at us i j d h le within in
    let small : (get_or us j d).commit ≤ n = search (rules, t) in
    let answer : (get_or us i d).commit ≤ n = omega (arith, up, small) in
    search (rules, answer)

pub later_is : (n : ℕ) (us : List Undo) (k : ℕ) → k ≤ length us → IsPartitionPoint (λ u. nat_le u.commit n ≡ true) (λ u. nat_le u.commit n ≡ false) us k → drop k us ≡ later n us
later_is n [] zero h at = refl
later_is n [] (suc k) h at = refl
later_is n (u ∷ us) zero h at = let first : nat_le u.commit n ≡ false = at.1 0 u (omega arith) (omega arith) in rw first refl
later_is n (u ∷ us) (suc k) h at =
    let first : nat_le u.commit n ≡ true = at.0 0 u (omega arith) (omega arith) in
    rw first (later_is n us k (omega arith) (λ i d low high. at.0 (suc i) d (omega arith) (omega arith), λ i d low high. at.1 (suc i) d (omega arith) (omega arith)))

none_gone : (low : ℕ) (us : List Undo) (now : Option (List Value)) → AllLater low us → filter (λ c. nat_lt low c.number) (commits_of us now) ≡ commits_of us now
none_gone low [] now h = refl
none_gone low (u ∷ us) now h = let t : nat_lt low u.commit ≡ true = search (rules, h.0) in rw t (ap (λ cs. record { number = u.commit; row = before us now } ∷ cs) (none_gone low us now h.1))

pub left_over : (low : ℕ) (us : List Undo) (now : Option (List Value)) → Rises us → filter (λ c. nat_lt low c.number) (commits_of us now) ≡ commits_of (later low us) now
left_over low [] now h = refl
left_over low (u ∷ us) now h = elim (cases_Bool (nat_le u.commit low)) [
  | inl t ↦ let gone : nat_lt low u.commit ≡ false = search (rules, t) in rw (t, gone) (left_over low us now h.1)
  | inr f ↦ let above : low < u.commit = search (rules, f) in rw f (none_gone low (u ∷ us) now (above, all_later low u.commit us (omega arith) h.0))
]

pub rises_later : (low : ℕ) (us : List Undo) → Rises us → Rises (later low us)
rises_later low [] h = tt
rises_later low (u ∷ us) h = elim (cases_Bool (nat_le u.commit low)) [
  | inl t ↦ rw t (rises_later low us h.1)
  | inr f ↦ rw f h
]

pub reads_stay : (low n : ℕ) (us : List Undo) → low ≤ n → later n (later low us) ≡ later n us
reads_stay low n [] h = refl
reads_stay low n (u ∷ us) h = elim (cases_Bool (nat_le u.commit low)) [
  | inl t ↦ let small : u.commit ≤ low = search (rules, t) in let gone : nat_le u.commit n ≡ true = search (rules, le_trans small h) in rw (t, gone) (reads_stay low n us h)
  | inr f ↦ rw f refl
]

-- a commit more

all_below : (n : ℕ) (us : List Undo) (now : Option (List Value)) → All (λ c. c.number < n) (commits_of us now) → (k : ℕ) (d : Undo) → k < length us → (get_or us k d).commit < n
all_below n [] now h k d within = absurd (omega arith)
all_below n (u ∷ us) now h zero d within = All-head (λ c. c.number < n) (record { number = u.commit; row = before us now }) (commits_of us now) h
all_below n (u ∷ us) now h (suc k) d within = all_below n us now (All-tail (λ c. c.number < n) (record { number = u.commit; row = before us now }) (commits_of us now) h) k d (omega arith)

later_push : (m : ℕ) (us : List Undo) (u : Undo) → AllLater m us → m < u.commit → AllLater m (us ++ u ∷ [])
later_push m [] u h lt = (lt, tt)
later_push m (v ∷ vs) u h lt = (h.0, later_push m vs u h.1 lt)

pub rises_push : (us : List Undo) (u : Undo) (now : Option (List Value)) → Rises us → All (λ c. c.number < u.commit) (commits_of us now) → Rises (us ++ u ∷ [])
rises_push [] u now h next = (tt, tt)
rises_push (v ∷ vs) u now h next = (
  later_push v.commit vs u h.0 (All-head (λ c. c.number < u.commit) (record { number = v.commit; row = before vs now }) (commits_of vs now) next),
  rises_push vs u now h.1 (All-tail (λ c. c.number < u.commit) (record { number = v.commit; row = before vs now }) (commits_of vs now) next),
)

-- What is shown of the newest row, what takes commits back, and the patches of calls

abbrev pub shown : List Undo → Option (List Value) → List Pending → Versions
shown us now own = record { base = before us now; commits = commits_of us now; own = own }

same : (a b : Option (List Value)) (c d : List Commit) (e f : List Pending) → a ≡ b → c ≡ d → e ≡ f → ◌≡◌ {A = Versions} (record { base = a; commits = c; own = e }) (record { base = b; commits = d; own = f })
same a b c d e f p q r = cc

pub stamp_stays : (call n : ℕ) (v : Versions) → own_of call v.own ≡ None → v ≡ stamped call n v
stamp_stays call n v h = sym (ap (λ own. stamped_by own call n v) h)

pub stamp_is : (call n : ℕ) (us : List Undo) (now next : Option (List Value)) (own left : List Pending) (patch : Patch) (u : Undo)
    → own_of call own ≡ Some patch → next ≡ patched patch now → undone u.patch next ≡ now → u.commit ≡ n → left ≡ without call own
    → shown (us ++ u ∷ []) next left ≡ stamped call n (shown us now own)
stamp_is call n us now next own left patch u h next_is back number left_is =
    same _ _ _ _ _ _
    (before_push us u next ∙ ap (before us) back)
    (commits_push us u next ∙ ap (λ row. commits_of us row ++ record { number = u.commit; row = next } ∷ []) back ∙ ap (λ c. commits_of us now ++ c ∷ []) last)
    left_is
    ∙ sym (ap (λ o. stamped_by o call n (shown us now own)) h)
  where
    last : ◌≡◌ {A = Commit} (record { number = u.commit; row = next }) (record { number = n; row = patched patch (newest (shown us now own)) })
    last = let row : next ≡ patched patch (newest (shown us now own)) = next_is ∙ ap (patched patch) (sym (newest_is us now)) in cc

pub collect_is : (low : ℕ) (us : List Undo) (now : Option (List Value)) (own : List Pending) → Rises us → shown (later low us) now own ≡ collected low (shown us now own)
collect_is low us now own rises = same _ _ _ _ _ _ (sym (row_is low us now)) (sym (left_over low us now rises)) refl

pub reads_are : (low n : ℕ) (us : List Undo) (now : Option (List Value)) (own : List Pending) → low ≤ n → row_at (shown (later low us) now own) n ≡ row_at (shown us now own) n
reads_are low n us now own h = row_is n (later low us) now ∙ ap (λ l. before l now) (reads_stay low n us h) ∙ sym (row_is n us now)

pub fewer_later : (low : ℕ) (us : List Undo) → length (later low us) ≤ length us
fewer_later low [] = omega arith
fewer_later low (u ∷ us) = elim (cases_Bool (nat_le u.commit low)) [
  | inl t ↦ rw t (let more : length (later low us) ≤ length us = fewer_later low us in omega (arith, more))
  | inr f ↦ rw f (omega arith)
]

pub left_is : (us turned cut : List Undo) (gone left low : ℕ) → gone ≤ length us → drop gone us ≡ later low us → turned ≡ drop gone us ++ take gone us → left ≡ length us - gone → cut ≡ take left turned → cut ≡ later low us
left_is us turned cut gone left low within later_is turned_is left_are cut_is =
    cut_is ∙ ap (take left) turned_is ∙ take_at (drop gone us) (take gone us) left (omega (arith, length-drop gone us, left_are)) ∙ later_is

-- with another row before no commits
pub based : (us : List Undo) (now next : Option (List Value)) (own : List Pending) → commits_of us now ≡ [] → shown us next own ≡ record (shown us now own) { base = next }
based [] now next own h = refl
based (u ∷ us) now next own h = cc

-- Whether a number is above all of them

below_all : (n : ℕ) (us : List Undo) (now : Option (List Value)) → ((k : ℕ) (d : Undo) → k < length us → (get_or us k d).commit < n) → All (λ c. c.number < n) (commits_of us now)
below_all n [] now h = All-nil (λ c. c.number < n)
below_all n (u ∷ us) now h = All-cons (λ c. c.number < n) (record { number = u.commit; row = before us now }) (commits_of us now) (h 0 u (omega arith)) (below_all n us now (λ k d within. h (suc k) d (omega arith)))

-- the last number is below n exactly where all are
pub next_is : (n : ℕ) (us : List Undo) (now : Option (List Value)) (d : Undo) → Rises us → 0 < length us → ((get_or us (length us - 1) d).commit < n) ↔ All (λ c. c.number < n) (commits_of us now)
next_is n us now d rises some = (
  (λ last. below_all n us now (λ k e within.
      let up : (get_or us k e).commit ≤ (get_or us (length us - 1) e).commit = rises_at us k (length us - 1) e rises (omega arith) (omega arith) in
      let same : get_or us (length us - 1) e ≡ get_or us (length us - 1) d = get_or_same us (length us - 1) e d (omega arith) in
      omega (arith, up, last, ap (λ u. u.commit) same))),
  (λ all. all_below n us now all (length us - 1) d (omega arith)),
)
  where
    get_or_same : (xs : List Undo) (i : ℕ) (a b : Undo) → i < length xs → get_or xs i a ≡ get_or xs i b
    get_or_same [] i a b h = absurd (omega arith)
    get_or_same (x ∷ xs) zero a b h = refl
    get_or_same (x ∷ xs) (suc i) a b h = get_or_same xs i a b (omega arith)

pub none_next : (n : ℕ) (us : List Undo) (now : Option (List Value)) → length us ≡ 0 → All (λ c. c.number < n) (commits_of us now)
none_next n [] now h = All-nil (λ c. c.number < n)
none_next n (u ∷ us) now h = absurd (omega arith)

-- where no commit is later, the newest row is read
pub newest_at : (n : ℕ) (us : List Undo) (now : Option (List Value)) (own : List Pending) (first : ℕ) → first ≡ length us → drop first us ≡ later n us → now ≡ row_at (shown us now own) n
newest_at n us now own first whole later_is =
    let none : later n us ≡ [] = sym later_is ∙ drop_all first us (omega (arith, whole)) in
    ap (λ l. before l now) (sym none) ∙ sym (row_is n us now)
