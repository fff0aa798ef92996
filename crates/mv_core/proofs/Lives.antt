-- The numbers of live calls.
use Rattle.std.proofs.Common.{◌≡◌, ◌⊎◌, inl, inr, ℕ, zero, suc, ◌+◌, ◌<◌, ◌≤◌, Bool, true, false, cond, List, [], ◌∷◌, ◌++◌, Some, map, length, min, get_or, slice_set, if◌then◌else◌, refl, sym, ap, subst, ◌∙◌, arith, zero-add, rules}
use Rattle.std.specs.Prelude.{slice_get, All, slice_index_or, ◌||◌}
use Rattle.std.specs.List.{list_any}
use Rattle.std.specs.Option.{option_map}
use Rattle.std.specs.Ordering.{is_eq, nat_cmp, match_ordering}
use Rattle.std.specs.declared.cmp.Ordering.{Ordering}
use Rattle.std.specs.declared.cmp.Ordering.TheVariants.{Less, Equal, Greater}
use Rattle.std.specs.Cmp.{nat_cmp_is}
use Rattle.std.specs.FinMap.{nat_cmp-IsAntisymmetric}
use Rattle.std.specs.BTreeSet.{insert_key}
use Rattle.std.proofs.lemmas.Option.{slice_get-map, slice_get_read}
use Rattle.mv_lawful.proofs.Lows.{oldest_most}
use Rattle.mv_lawful.specs.Lawful.{Live, begin, oldest}
use Rattle.mv_core.specs.declared.progress.Progress.{Progress}
use Rattle.mv_core.specs.Calls.{live_of}
use Rattle.mv_lawful.proofs.Lists.{get_last, get_set}
use Rattle.mv_core.specs.Lives.{live_from, live_numbers, without, start_by, start_in, least_start}

above : (c d : ℕ) → d < c → nat_cmp c d ≡ Greater
above c d lt = sym (nat_cmp_is c d Greater lt)

-- a key that comes after all
pub insert_last : (cs : List ℕ) (c : ℕ) → All (λ d. d < c) cs → insert_key nat_cmp cs c ≡ cs ++ c ∷ []
insert_last [] c all = refl
insert_last (d ∷ cs) c all =
    ap (λ o. match_ordering o (c ∷ d ∷ cs) (d ∷ cs) (d ∷ insert_key nat_cmp cs c)) (above c d (all 0 0 (omega arith)))
    ∙ ap (λ ds. d ∷ ds) (insert_last cs c (λ k e lt. all (suc k) e (omega (arith, lt))))

begin_more : (n c : ℕ) (ls : List Live) → live_from c (ls ++ begin n ∷ []) ≡ live_from c ls ++ (c + length ls) ∷ []
begin_more n c [] = ap (λ d. d ∷ []) (omega arith)
begin_more n c (l ∷ ls) = by l.done (begin_more n (c + 1) ls) where
  next : c + 1 + length ls ≡ c + suc (length ls)
  next = omega arith

  by : (b : Bool) → live_from (c + 1) (ls ++ begin n ∷ []) ≡ live_from (c + 1) ls ++ (c + 1 + length ls) ∷ []
      → (if b then live_from (c + 1) (ls ++ begin n ∷ []) else c ∷ live_from (c + 1) (ls ++ begin n ∷ [])) ≡ (if b then live_from (c + 1) ls else c ∷ live_from (c + 1) ls) ++ (c + suc (length ls)) ∷ []
  by true h = h ∙ ap (λ d. live_from (c + 1) ls ++ d ∷ []) next
  by false h = ap (λ ds. c ∷ ds) (h ∙ ap (λ d. live_from (c + 1) ls ++ d ∷ []) next)

-- a call more
pub live_begun : (n c : ℕ) (ls : List Live) → c ≡ length ls → live_numbers (ls ++ begin n ∷ []) ≡ live_numbers ls ++ c ∷ []
live_begun n c ls is = begin_more n 0 ls ∙ ap (λ d. live_numbers ls ++ d ∷ []) (omega (arith, is))

-- they are numbers of calls
all_below : (c n : ℕ) (ls : List Live) → n ≡ c + length ls → (k : ℕ) (d : ℕ) → slice_get (live_from c ls) k ≡ Some d → d < n
all_below c n [] is k d at = absurd (search (rules, at))
all_below c n (l ∷ ls) is k d at = by l.done k at (λ j there. all_below (c + 1) n ls (omega (arith, is)) j d there) where
  by : (b : Bool) (k : ℕ) → slice_get (if b then live_from (c + 1) ls else c ∷ live_from (c + 1) ls) k ≡ Some d → ((j : ℕ) → slice_get (live_from (c + 1) ls) j ≡ Some d → d < n) → d < n
  by true k at rest = rest k at
  by false zero at rest = let same : c ≡ d = search (rules, at) in omega (arith, same, is)
  by false (suc k) at rest = rest k at

pub live_below : (ls : List Live) → All (λ d. d < length ls) (live_numbers ls)
live_below ls k d lt = all_below 0 (length ls) ls (omega arith) k (slice_index_or (live_numbers ls) k d) (got (live_numbers ls) k d lt) where
  got : (xs : List ℕ) (k d : ℕ) → k < length xs → slice_get xs k ≡ Some (slice_index_or xs k d)
  got [] k d lt = absurd (omega (arith, lt))
  got (x ∷ xs) zero d lt = refl
  got (x ∷ xs) (suc k) d lt = got xs k d (omega (arith, lt))

-- one call changes
pub live_kept : (c k : ℕ) (l m : Live) (ls : List Live) → slice_get ls k ≡ Some l → m.done ≡ l.done → live_from c (slice_set ls k m) ≡ live_from c ls
live_kept c k l m [] at same = refl
live_kept c zero l m (x ∷ ls) at same = let one : x ≡ l = search (rules, at) in ap (λ b. if b then live_from (c + 1) ls else c ∷ live_from (c + 1) ls) (same ∙ sym (ap (λ (y : Live). y.done) one))
live_kept c (suc k) l m (x ∷ ls) at same = ap (λ ds. if x.done then ds else c ∷ ds) (live_kept (c + 1) k l m ls at same)

itself : (c : ℕ) → is_eq (nat_cmp c c) ≡ true
itself c = ap is_eq (sym (nat_cmp_is c c Equal refl))

apart : (c d : ℕ) → d < c → is_eq (nat_cmp c d) ≡ false
apart c d lt = ap is_eq (above c d lt)

-- one call commits
gone : (c k n : ℕ) (l m : Live) (ls : List Live) → n ≡ c + k → slice_get ls k ≡ Some l → l.done ≡ false → m.done ≡ true → live_from c (slice_set ls k m) ≡ without n (live_from c ls)
gone c k n l m [] is at live ended = absurd (search (rules, at))
gone c zero n l m (x ∷ ls) is at live ended =
    let one : x ≡ l = search (rules, at) in
    let here : n ≡ c = omega (arith, is) in
    ap (λ b. if b then live_from (c + 1) ls else c ∷ live_from (c + 1) ls) ended
    ∙ (sym (ap (λ b. cond b (live_from (c + 1) ls) (c ∷ without n (live_from (c + 1) ls))) (subst (λ e. is_eq (nat_cmp e c) ≡ true) (sym here) (itself c)))
    ∙ sym (ap (λ b. without n (if b then live_from (c + 1) ls else c ∷ live_from (c + 1) ls)) (ap (λ (y : Live). y.done) one ∙ live)))
gone c (suc k) n l m (x ∷ ls) is at live ended = by x.done (gone (c + 1) k n l m ls (omega (arith, is)) at live ended) where
  by : (b : Bool) → live_from (c + 1) (slice_set ls k m) ≡ without n (live_from (c + 1) ls)
      → (if b then live_from (c + 1) (slice_set ls k m) else c ∷ live_from (c + 1) (slice_set ls k m)) ≡ without n (if b then live_from (c + 1) ls else c ∷ live_from (c + 1) ls)
  by true h = h
  by false h = ap (λ ds. c ∷ ds) h ∙ sym (ap (λ b. cond b (live_from (c + 1) ls) (c ∷ without n (live_from (c + 1) ls))) (apart n c (omega (arith, is))))

-- no number but this one
pub without_only : (c : ℕ) → without c (c ∷ []) ≡ []
without_only c = ap (λ b. cond b [] (c ∷ [])) (itself c)

is_number : (c d : ℕ) (rest : Bool) → (is_eq (nat_cmp c d) || rest) ≡ true → rest ≡ false → c ≡ d
is_number c d false h none = nat_cmp-IsAntisymmetric c d (equal (nat_cmp c d) h) where
  equal : (o : Ordering) → (is_eq o || false) ≡ true → o ≡ Equal
  equal Equal e = refl
  equal Less e = absurd (search (rules, e))
  equal Greater e = absurd (search (rules, e))
is_number c d true h none = absurd (search (rules, none))

pub only_from : (c : ℕ) (cs : List ℕ) → length cs ≡ 1 → list_any (λ d. is_eq (nat_cmp c d)) cs ≡ true → cs ≡ c ∷ []
only_from c [] one h = absurd (omega (arith, one))
only_from c (d ∷ []) one h = ap (λ e. e ∷ []) (sym (is_number c d false h refl))
only_from c (d ∷ e ∷ cs) one h = absurd (omega (arith, one))

pub only_has : (c : ℕ) (cs : List ℕ) → cs ≡ c ∷ [] → (length cs ≡ 1) × (list_any (λ d. is_eq (nat_cmp c d)) cs ≡ true)
only_has c cs is = (ap length is, ap (list_any (λ d. is_eq (nat_cmp c d))) is ∙ ap (λ b. b || false) (itself c))

pub live_gone : (k : ℕ) (l m : Live) (ls : List Live) → slice_get ls k ≡ Some l → l.done ≡ false → m.done ≡ true → live_numbers (slice_set ls k m) ≡ without k (live_numbers ls)
live_gone k l m ls at live ended = gone 0 k k l m ls (omega arith) at live ended

-- The oldest start

pub oldest_is : (n : ℕ) (ls : List Live) → oldest n ls ≡ least_start n ls (live_numbers ls)
oldest_is n ls = by 0 ls (λ k l at. subst (λ j. slice_get ls j ≡ Some l) (sym (zero-add k)) at) where
  by : (c : ℕ) (ms : List Live) → ((k : ℕ) (l : Live) → slice_get ms k ≡ Some l → slice_get ls (c + k) ≡ Some l) → oldest n ms ≡ least_start n ls (live_from c ms)
  by c [] at = refl
  by c (m ∷ ms) at = on m.done (by (c + 1) ms (λ k l is. subst (λ j. slice_get ls j ≡ Some l) (shift k) (at (suc k) l is))) where
    shift : (k : ℕ) → c + suc k ≡ c + 1 + k
    shift k = omega arith

    here : c + 0 ≡ c
    here = omega arith

    start : start_in ls c ≡ m.start
    start = ap start_by (subst (λ j. slice_get ls j ≡ Some m) here (at 0 m refl))

    on : (b : Bool) → oldest n ms ≡ least_start n ls (live_from (c + 1) ms)
        → (if b then oldest n ms else min m.start (oldest n ms)) ≡ least_start n ls (if b then live_from (c + 1) ms else c ∷ live_from (c + 1) ms)
    on true h = h
    on false h = ap (λ s. min s (oldest n ms)) (sym start) ∙ ap (min (start_in ls c)) h

pub least_past : (n : ℕ) (ls : List Live) (cs : List ℕ) → least_start n ls cs ≤ n
least_past n ls [] = omega arith
least_past n ls (c ∷ cs) = let le = least_past n ls cs in omega (arith, le)

-- no live call started before it
pub oldest_below : (n c : ℕ) (l : Live) (ls : List Live) → slice_get ls c ≡ Some l → l.done ≡ false → oldest n ls ≤ l.start
oldest_below n c l [] at live = absurd (search (rules, at))
oldest_below n zero l (m ∷ ls) at live = by m.done (ap (λ (x : Live). x.done) one ∙ live) where
  one : m ≡ l
  one = search (rules, at)

  by : (b : Bool) → b ≡ false → (if b then oldest n ls else min m.start (oldest n ls)) ≤ l.start
  by true e = absurd (search (rules, e))
  by false e = let same : m.start ≡ l.start = ap (λ (x : Live). x.start) one in omega (arith, same)
oldest_below n (suc c) l (m ∷ ls) at live = by m.done (oldest_below n c l ls at live) where
  by : (b : Bool) → oldest n ls ≤ l.start → (if b then oldest n ls else min m.start (oldest n ls)) ≤ l.start
  by true h = h
  by false h = omega (arith, h)

-- it is the greatest such number up to n
oldest_above : (b n : ℕ) (ls : List Live) → b ≤ n → ((c : ℕ) (l : Live) → slice_get ls c ≡ Some l → l.done ≡ false → b ≤ l.start) → b ≤ oldest n ls
oldest_above b n [] le all = le
oldest_above b n (m ∷ ls) le all = by m.done refl (oldest_above b n ls le (λ c l at live. all (suc c) l at live)) where
  by : (d : Bool) → m.done ≡ d → b ≤ oldest n ls → b ≤ (if d then oldest n ls else min m.start (oldest n ls))
  by true e h = h
  by false e h = let first = all 0 m refl e in omega (arith, first, h)

-- it doesn't fall when a call begins
pub oldest_begun : (n : ℕ) (ls : List Live) → oldest n ls ≤ oldest n (ls ++ begin n ∷ [])
oldest_begun n ls = oldest_above (oldest n ls) n (ls ++ begin n ∷ []) (oldest_most n ls) (λ c l at live. by c l live (get_last ls (begin n) c l at)) where
  by : (c : ℕ) (l : Live) → l.done ≡ false → (slice_get ls c ≡ Some l) ⊎ ((c ≡ length ls) × (begin n ≡ l)) → oldest n ls ≤ l.start
  by c l live (inl at) = oldest_below n c l ls at live
  by c l live (inr h) = let start : n ≡ l.start = ap (λ (x : Live). x.start) h.1 in let le = oldest_most n ls in omega (arith, start, le)

-- nor when a live call starts anew or commits
pub oldest_set : (n m c : ℕ) (l k : Live) (ls : List Live) → n ≤ m → slice_get ls c ≡ Some l → l.done ≡ false → (k.done ≡ false → l.start ≤ k.start) → oldest n ls ≤ oldest m (slice_set ls c k)
oldest_set n m c l k ls up at live rises =
    oldest_above (oldest n ls) m (slice_set ls c k) (let le = oldest_most n ls in omega (arith, le, up)) (λ d x there going. by d x going (get_set ls c d k x there)) where
      by : (d : ℕ) (x : Live) → x.done ≡ false → ((d ≡ c) × (k ≡ x)) ⊎ ((d ≡ c → ⊥) × (slice_get ls d ≡ Some x)) → oldest n ls ≤ x.start
      by d x going (inl h) =
          let start : k.start ≡ x.start = ap (λ (y : Live). y.start) h.1 in
          let le = oldest_below n c l ls at live in
          let more = rises (ap (λ (y : Live). y.done) h.1 ∙ going) in
          omega (arith, start, le, more)
      by d x going (inr h) = oldest_below n d x ls h.1 going

pub least_first : (n : ℕ) (ls : List Live) (cs : List ℕ) → min n (least_start n ls cs) ≡ least_start n ls cs
least_first n ls cs = let le = least_past n ls cs in omega (arith, le)

-- one call more was looked at
pub least_more : (low n : ℕ) (ps : List Progress) (cs rest : List ℕ) (x : ℕ) (p : Progress) → cs ≡ x ∷ rest → x < length ps → p ≡ get_or ps x p
    → min (min low p.start) (least_start n (map live_of ps) rest) ≡ min low (least_start n (map live_of ps) cs)
least_more low n ps cs rest x p is within read =
    ap (λ s. min (min low s) (least_start n (map live_of ps) rest)) (sym start)
    ∙ (shift (start_in (map live_of ps) x) (least_start n (map live_of ps) rest) ∙ ap (λ ds. min low (least_start n (map live_of ps) ds)) (sym is)) where
      start : start_in (map live_of ps) x ≡ p.start
      start = ap start_by (slice_get-map live_of ps x ∙ ap (option_map live_of) (slice_get_read ps (length ps) x p refl within read))

      shift : (s r : ℕ) → min (min low s) r ≡ min low (min s r)
      shift s r = omega arith

pub all_tail : (n x : ℕ) (cs rest : List ℕ) → cs ≡ x ∷ rest → All (λ c. c < n) cs → All (λ c. c < n) rest
all_tail n x cs rest is all k d lt = subst (All (λ c. c < n)) is all (suc k) d (omega (arith, lt))

pub all_head : (n x : ℕ) (cs rest : List ℕ) → cs ≡ x ∷ rest → All (λ c. c < n) cs → x < n
all_head n x cs rest is all = subst (All (λ c. c < n)) is all 0 0 (omega arith)
