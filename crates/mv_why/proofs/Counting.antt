-- The records that aren't kept, their reasons, and how many they are.
use Rattle.std.proofs.Common.{◌≡◌, ℕ, zero, suc, ◌+◌, Bool, true, false, List, [], ◌∷◌, ◌++◌, Option, Some, None, map, length, take, if◌then◌else◌, refl, sym, ap, subst, ◌∙◌, arith, append_assoc, append-nil, length-append}
use Rattle.std.specs.Prelude.{slice_get, option_map, option_and_then, option_to_list, is_none}
use Rattle.std.specs.List.{flat_map}
use Rattle.std.proofs.lemmas.Grind.{flat_map-append}
use Rattle.std.proofs.lemmas.List.{length-map}
use Rattle.mv_record.specs.declared.record.Record.{Record}
use Rattle.mv_record.specs.Paths.{PathsRise}
use Rattle.mv_recorded.specs.Own.{Each}
use Rattle.mv_recorded.proofs.Held.{get_last}
use Rattle.mv_recorded.proofs.Rising.{recorded_rises}
use Rattle.mv_history.specs.declared.change.Change.{Change}
use Rattle.mv_history.specs.Kept.{Path, Placed, with_paths, among, kept_paths}
use Rattle.mv_soundness.proofs.Keeping.{Climbs, climbs_of}
use Rattle.mv_changes.specs.declared.recent.Committed.{Committed}
use Rattle.mv_why.specs.declared.cause.Cause.{Cause}
use Rattle.mv_why.specs.declared.cause.Reason.{Reason}
use Rattle.mv_why.specs.Causes.{why, changes_since, other_numbers, cause_of, causes_of}
use Rattle.mv_why.specs.Laws.{AreFullRuns, CausesAreThese, OnlyTheseAreCauses, AsManyAsExecuted}
use Rattle.mv_why.proofs.Fixed.{all_kept, fixed, one_more}
use Rattle.mv_soundness.proofs.Placing.{many_placed}
use Rattle.mv_why.proofs.Ruling.{points}

-- Lists

pub record Split (xs : List Placed) (n : ℕ) (b : Placed) : Type 0 where
  pub more : List Placed
  pub are : xs ≡ take n xs ++ b ∷ more
  pub long : length (take n xs) ≡ n

pub split_at : (xs : List Placed) (n : ℕ) (b : Placed) → slice_get xs n ≡ Some b → Split xs n b
split_at [] n b h = cc
split_at (x ∷ xs) zero b h = let same : x ≡ b = cc in record { more = xs; are = ap (λ z. z ∷ xs) same; long = refl }
split_at (x ∷ xs) (suc n) b h = let it : Split xs n b = split_at xs n b h in record { more = it.more; are = ap (λ l. x ∷ l) it.are; long = ap suc it.long }

front_taken : (xs ys : List Placed) → take (length xs) (xs ++ ys) ≡ xs
front_taken [] ys = refl
front_taken (x ∷ xs) ys = ap (λ l. x ∷ l) (front_taken xs ys)

numbers_join : (k : List Path) (n : ℕ) (xs ys : List Placed) → other_numbers k n (xs ++ ys) ≡ other_numbers k n xs ++ other_numbers k (n + length xs) ys
numbers_join k n [] ys = ap (λ m. other_numbers k m ys) (let e : n ≡ n + 0 = omega arith in e)
numbers_join k n (x ∷ xs) ys = by (among k x.path) (numbers_join k (n + 1) xs ys ∙ ap (λ m. other_numbers k (n + 1) xs ++ other_numbers k m ys) (let e : (n + 1) + length xs ≡ n + suc (length xs) = omega arith in e))
  where
    by : (b : Bool) → other_numbers k (n + 1) (xs ++ ys) ≡ other_numbers k (n + 1) xs ++ other_numbers k (n + suc (length xs)) ys
        → (if b then other_numbers k (n + 1) (xs ++ ys) else n ∷ other_numbers k (n + 1) (xs ++ ys)) ≡ (if b then other_numbers k (n + 1) xs else n ∷ other_numbers k (n + 1) xs) ++ other_numbers k (n + suc (length xs)) ys
    by true rest = rest
    by false rest = ap (λ l. n ∷ l) rest

-- Reasons by numbers

-- the reason of the record with this number
abbrev pub why_at : List Path → List Committed → List Placed → List Placed → ℕ → Option Reason
why_at k since os ns n = option_and_then (why k since os (take n ns)) (slice_get ns n)

abbrev pub told : List Path → List Committed → List Placed → List Placed → ℕ → List Cause
told k since os ns n = option_to_list (option_map (cause_of n) (why_at k since os ns n))

pub why_here : (k : List Path) (since : List Committed) (os done : List Placed) (b : Placed) (more : List Placed) → why_at k since os (done ++ b ∷ more) (length done) ≡ why k since os done b
why_here k since os done b more =
    ap (option_and_then (why k since os (take (length done) (done ++ b ∷ more)))) (get_last done b more) ∙ ap (λ l. why k since os l b) (front_taken done (b ∷ more))

-- a record has a reason if and only if it isn't kept
pub kept_here : (since : List Committed) (os done : List Placed) (b : Placed) (more : List Placed) → Climbs os → Climbs (done ++ b ∷ more)
    → among (all_kept (changes_since since) os (done ++ b ∷ more)) b.path ≡ is_none (why (all_kept (changes_since since) os (done ++ b ∷ more)) since os done b)
kept_here since os done b more climbs rises = fixed (changes_since since) os done b more climbs rises ∙ sym (points (all_kept (changes_since since) os (done ++ b ∷ more)) since os done b)

one_number : (k : List Path) (n : ℕ) (b : Placed) (f : ℕ → List Cause) (o : Option Reason) → f n ≡ option_to_list (option_map (cause_of n) o) → among k b.path ≡ is_none o → flat_map f (other_numbers k n (b ∷ [])) ≡ option_to_list (option_map (cause_of n) o)
one_number k n b f None e h = ap (λ x. flat_map f (if x then [] else n ∷ [])) h
one_number k n b f (Some r) e h = ap (λ x. flat_map f (if x then [] else n ∷ [])) h ∙ ap (λ l. l ++ []) e

-- Full runs

module _ (since : List Committed) (os ns : List Placed) (climbs : Climbs os) (rises : Climbs ns) where
  abbrev pub k : List Path
  k = all_kept (changes_since since) os ns

  abbrev pub HasReason : ℕ → Type 0
  HasReason n = (x : Reason) × (why_at k since os ns n ≡ Some x)

  given : (o : Option Reason) → is_none o ≡ false → (x : Reason) × (o ≡ Some x)
  given None h = cc
  given (Some x) h = (x, refl)

  in_at : (n : ℕ) (b : Placed) → slice_get ns n ≡ Some b → Split ns n b → among k b.path ≡ is_none (why_at k since os ns n)
  in_at n b there it =
      ap (λ l. among (all_kept (changes_since since) os l) b.path) it.are
      ∙ (kept_here since os (take n ns) b it.more climbs (subst Climbs it.are rises)
      ∙ (ap (λ l. is_none (why (all_kept (changes_since since) os l) since os (take n ns) b)) (sym it.are)
      ∙ sym (ap (λ o. is_none (option_and_then (why k since os (take n ns)) o)) there)))

  -- the causes of one record more
  pub causes_more : (n : ℕ) (b : Placed) → slice_get ns n ≡ Some b
      → flat_map (told k since os ns) (other_numbers k 0 (take n ns ++ b ∷ [])) ≡ flat_map (told k since os ns) (other_numbers k 0 (take n ns)) ++ option_to_list (option_map (cause_of n) (why_at k since os ns n))
  causes_more n b there =
      let it : Split ns n b = split_at ns n b there in
      let number : 0 + length (take n ns) ≡ n = omega (arith, it.long) in
      ap (flat_map (told k since os ns)) (numbers_join k 0 (take n ns) (b ∷ []))
      ∙ (flat_map-append (told k since os ns) (other_numbers k 0 (take n ns)) (other_numbers k (0 + length (take n ns)) (b ∷ []))
      ∙ (ap (λ m. flat_map (told k since os ns) (other_numbers k 0 (take n ns)) ++ flat_map (told k since os ns) (other_numbers k m (b ∷ []))) number
      ∙ ap (λ l. flat_map (told k since os ns) (other_numbers k 0 (take n ns)) ++ l) (one_number k n b (told k since os ns) (why_at k since os ns n) refl (in_at n b there it))))

  pub has_reasons : (done rest : List Placed) → ns ≡ done ++ rest → Each HasReason (other_numbers k (length done) rest)
  has_reasons done [] is = tt
  has_reasons done (b ∷ more) is =
      by (among k b.path) refl (subst (λ m. Each HasReason (other_numbers k m more)) (length-append done (b ∷ [])) (has_reasons (done ++ b ∷ []) more (is ∙ sym (append_assoc done (b ∷ []) more))))
    where
      here : why_at k since os ns (length done) ≡ why k since os done b
      here = ap (λ l. why_at k since os l (length done)) is ∙ why_here k since os done b more

      in' : among k b.path ≡ is_none (why k since os done b)
      in' =
          ap (λ l. among (all_kept (changes_since since) os l) b.path) is
          ∙ (kept_here since os done b more climbs (subst Climbs is rises) ∙ ap (λ l. is_none (why (all_kept (changes_since since) os l) since os done b)) (sym is))

      by : (x : Bool) → among k b.path ≡ x → Each HasReason (other_numbers k (length done + 1) more) → Each HasReason (if x then other_numbers k (length done + 1) more else length done ∷ other_numbers k (length done + 1) more)
      by true e behind = behind
      by false e behind = let it = given (why k since os done b) (sym in' ∙ e) in ((it.0, here ∙ it.1), behind)

  counted : (done rest : List Placed) → ns ≡ done ++ rest → length (all_kept (changes_since since) os done) + length (other_numbers k 0 done) ≡ length done → length k + length (other_numbers k 0 ns) ≡ length ns
  counted done [] is h = let e : ns ≡ done = is ∙ append-nil done in subst (λ l. length (all_kept (changes_since since) os l) + length (other_numbers k 0 l) ≡ length l) (sym e) h
  counted done (b ∷ more) is h = counted (done ++ b ∷ []) more (is ∙ sym (append_assoc done (b ∷ []) more)) (by (among k b.path) refl)
    where
      kept_more : (x : Bool) → among k b.path ≡ x → all_kept (changes_since since) os (done ++ b ∷ []) ≡ (if x then all_kept (changes_since since) os done ++ b.path ∷ [] else all_kept (changes_since since) os done)
      kept_more x e =
          one_more (changes_since since) os done b more climbs (subst Climbs is rises)
          ∙ ap (λ y. if y then all_kept (changes_since since) os done ++ b.path ∷ [] else all_kept (changes_since since) os done) (ap (λ l. among (all_kept (changes_since since) os l) b.path) (sym is) ∙ e)

      numbers_more : (x : Bool) → among k b.path ≡ x → other_numbers k 0 (done ++ b ∷ []) ≡ other_numbers k 0 done ++ (if x then [] else (0 + length done) ∷ [])
      numbers_more x e = numbers_join k 0 done (b ∷ []) ∙ ap (λ y. other_numbers k 0 done ++ (if y then [] else (0 + length done) ∷ [])) e

      by : (x : Bool) → among k b.path ≡ x → length (all_kept (changes_since since) os (done ++ b ∷ [])) + length (other_numbers k 0 (done ++ b ∷ [])) ≡ length (done ++ b ∷ [])
      by true e =
          let a : length (all_kept (changes_since since) os (done ++ b ∷ [])) ≡ length (all_kept (changes_since since) os done) + 1 = ap length (kept_more true e) ∙ length-append (all_kept (changes_since since) os done) (b.path ∷ []) in
          let c : length (other_numbers k 0 (done ++ b ∷ [])) ≡ length (other_numbers k 0 done) = ap length (numbers_more true e ∙ append-nil (other_numbers k 0 done)) in
          omega (arith, a, c, h, length-append done (b ∷ []))
      by false e =
          let a : length (all_kept (changes_since since) os (done ++ b ∷ [])) ≡ length (all_kept (changes_since since) os done) = ap length (kept_more false e) in
          let c : length (other_numbers k 0 (done ++ b ∷ [])) ≡ length (other_numbers k 0 done) + 1 = ap length (numbers_more false e) ∙ length-append (other_numbers k 0 done) ((0 + length done) ∷ []) in
          omega (arith, a, c, h, length-append done (b ∷ []))

  pub as_many : length k + length (other_numbers k 0 ns) ≡ length ns
  as_many = counted [] ns refl refl

  -- each number has its cause
  numbers_told : (numbers : List ℕ) → Each HasReason numbers → map (λ (c : Cause). c.number) (flat_map (told k since os ns) numbers) ≡ numbers
  numbers_told [] h = refl
  numbers_told (n ∷ numbers) h =
      ap (λ o. map (λ (c : Cause). c.number) (option_to_list (option_map (cause_of n) o) ++ flat_map (told k since os ns) numbers)) h.0.1 ∙ ap (λ l. n ∷ l) (numbers_told numbers h.1)

  reasons_told : (numbers : List ℕ) → Each HasReason numbers → Each (λ (c : Cause). why_at k since os ns c.number ≡ Some c.reason) (flat_map (told k since os ns) numbers)
  reasons_told [] h = tt
  reasons_told (n ∷ numbers) h =
      subst (λ o. Each (λ (c : Cause). why_at k since os ns c.number ≡ Some c.reason) (option_to_list (option_map (cause_of n) o) ++ flat_map (told k since os ns) numbers)) (sym h.0.1)
      (h.0.1, reasons_told numbers h.1)

  pub all_told : map (λ (c : Cause). c.number) (flat_map (told k since os ns) (other_numbers k 0 ns)) ≡ other_numbers k 0 ns
  all_told = numbers_told (other_numbers k 0 ns) (has_reasons [] ns refl)

  pub all_reasons : Each (λ (c : Cause). why_at k since os ns c.number ≡ Some c.reason) (flat_map (told k since os ns) (other_numbers k 0 ns))
  all_reasons = reasons_told (other_numbers k 0 ns) (has_reasons [] ns refl)

  pub only_told : (numbers : List ℕ) (cs : List Cause) → map (λ (c : Cause). c.number) cs ≡ numbers → Each (λ (c : Cause). why_at k since os ns c.number ≡ Some c.reason) cs → cs ≡ flat_map (told k since os ns) numbers
  only_told [] [] h r = refl
  only_told [] (c ∷ cs) h r = cc
  only_told (n ∷ ns') [] h r = cc
  only_told (n ∷ ns') (c ∷ cs) h r =
      let same : c.number ≡ n = cc in
      let rest : map (λ (c : Cause). c.number) cs ≡ ns' = cc in
      ap (λ l. c ∷ l) (only_told ns' cs rest r.1)
      ∙ (ap (λ o. option_to_list (option_map (cause_of c.number) o) ++ flat_map (told k since os ns) ns') (sym r.0)
      ∙ ap (λ m. told k since os ns m ++ flat_map (told k since os ns) ns') same)

-- The laws

pub old_rises : (old fresh : List Record) (changes : List Change) → AreFullRuns old fresh changes → PathsRise old
old_rises old fresh changes f = subst PathsRise (sym f.olds) (recorded_rises f.tables f.procedure f.call f.was)

pub fresh_rises : (old fresh : List Record) (changes : List Change) → AreFullRuns old fresh changes → PathsRise fresh
fresh_rises old fresh changes f = subst PathsRise (sym f.news) (recorded_rises f.tables f.procedure f.call f.now)

pub these : CausesAreThese
these old fresh since f =
    let climbs : Climbs (with_paths old) = climbs_of old (old_rises old fresh (changes_since since) f) in
    let rises : Climbs (with_paths fresh) = climbs_of fresh (fresh_rises old fresh (changes_since since) f) in
    record { numbers = all_told since (with_paths old) (with_paths fresh) climbs rises; reasons = all_reasons since (with_paths old) (with_paths fresh) climbs rises }

pub only_these : OnlyTheseAreCauses
only_these old fresh since f causes are =
    let climbs : Climbs (with_paths old) = climbs_of old (old_rises old fresh (changes_since since) f) in
    let rises : Climbs (with_paths fresh) = climbs_of fresh (fresh_rises old fresh (changes_since since) f) in
    only_told since (with_paths old) (with_paths fresh) climbs rises (other_numbers (kept_paths old fresh (changes_since since)) 0 (with_paths fresh)) causes are.numbers are.reasons

pub executed : AsManyAsExecuted
executed old fresh since f =
    let climbs : Climbs (with_paths old) = climbs_of old (old_rises old fresh (changes_since since) f) in
    let rises : Climbs (with_paths fresh) = climbs_of fresh (fresh_rises old fresh (changes_since since) f) in
    let kept : List Path = kept_paths old fresh (changes_since since) in
    let many : length (causes_of old fresh since) ≡ length (other_numbers kept 0 (with_paths fresh)) =
    sym (length-map (causes_of old fresh since) (λ (c : Cause). c.number)) ∙ ap length (all_told since (with_paths old) (with_paths fresh) climbs rises) in
    let all : length kept + length (other_numbers kept 0 (with_paths fresh)) ≡ length (with_paths fresh) = as_many since (with_paths old) (with_paths fresh) climbs rises in
    omega (arith, many, all, many_placed fresh)
