-- Whether the next record stays, by what the comparison knows.
use Rattle.std.proofs.Common.{◌≡◌, ℕ, zero, suc, ◌+◌, ◌<◌, ◌≤◌, Bool, true, false, not, List, [], ◌∷◌, ◌++◌, Option, Some, None, Result, Ok, Err, map, length, take, drop, get_or, if◌then◌else◌, refl, sym, ap, subst, ◌∙◌, arith, append-nil, add-one}
use Rattle.std.specs.Prelude.{◌&&◌, ◌||◌, slice_get, OnOk}
use Rattle.std.specs.List.{list_any}
use Rattle.std.specs.Option.{option_map, option_and_then}
use Rattle.std.specs.Ordering.{is_lt, is_eq, nat_cmp, ordering_reverse}
use Rattle.std.specs.Cmp.Lexicographic.{slice_cmp}
use Rattle.std.specs.declared.cmp.Ordering.{Ordering}
use Rattle.std.specs.declared.cmp.Ordering.TheVariants.{Less, Equal, Greater}
use Rattle.std.proofs.lemmas.Cmp.{nat_list_cmp_total}
use Rattle.std.proofs.lemmas.List.{drop_all, length-map, map-append}
use Rattle.std.proofs.lemmas.List.Folds.{list_any-append}
use Rattle.std.proofs.lemmas.Option.{slice_get-map, slice_get_within, slice_get_read}
use Rattle.mv_record.specs.declared.record.Read.{Read}
use Rattle.mv_record.specs.declared.record.Record.{Record}
use Rattle.mv_record.specs.Paths.{path, paths, IsEarlierPath}
use Rattle.mv_recorded.specs.Own.{Each}
use Rattle.mv_recorded.proofs.Inverting.{each_map}
use Rattle.mv_history.specs.Hits.{any_hits, touches}
use Rattle.mv_history.specs.Kept.{Path, Placed, is_path, among, at, front, path_at, is_kept, same_path, reads_stay, other_writes, stays_with, stays}
use Rattle.mv_soundness.proofs.Keeping.{Climbs}
use Rattle.mv_soundness.proofs.Placing.{path_is, apart, apart_back}
use Rattle.mv_soundness.proofs.Walking.{climbs_parts, at_past}
use Rattle.mv_audit.specs.declared.paths.Nest.{Nest}
use Rattle.mv_audit.specs.declared.walk.Run.{Run}
use Rattle.mv_audit.specs.declared.walk.Runs.{Runs}
use Rattle.mv_audit.specs.declared.walk.Walk.{Walk}
use Rattle.mv_audit.specs.Comparing.{nest_in, placed_in, changes_in, IsWhole, AreSound, is_before, is_there, flag_of, is_flagged, read_stays, both_stay, reads_by, writes_at, touched_by, stays_by, stays_both, stays_at, ComeBefore, IsAlong, kept_more, other_more}
use Rattle.mv_history.proofs.Zipping.{zip_its, zip_firsts}
use Rattle.mv_audit.proofs.Going.{next_path, next_record, First, next_of, many_flags, after_all, kept_on, renewed_on}

-- Nests

pub nest_got : (nests : List Nest) (k : ℕ) (o : Option Nest) → o ≡ slice_get nests k → option_map nest_in o ≡ slice_get (map nest_in nests) k
nest_got nests k o is = ap (option_map nest_in) is ∙ sym (slice_get-map nest_in nests k)

-- Reads, one after another

pub other_count : (flags : List Bool) (os ns : List Path) (as' bs : List Read) → (length as' ≡ length bs → ⊥) → reads_by flags os ns as' bs ≡ false
other_count flags os ns [] [] h = absurd (h refl)
other_count flags os ns [] (b ∷ bs) h = refl
other_count flags os ns (a ∷ as') [] h = refl
other_count flags os ns (a ∷ as') (b ∷ bs) h =
    ap (λ x. read_stays flags os ns a.definer b.definer && x) (other_count flags os ns as' bs (λ e. h (omega (arith, e)))) ∙ none (read_stays flags os ns a.definer b.definer)
  where
    none : (x : Bool) → (x && false) ≡ false
    none true = refl
    none false = refl

-- whether one more read stays
read_step : (flags : List Bool) (os ns : List Path) (as' bs : List Read) (i : ℕ) → i < length as' → i < length bs
    → reads_by flags os ns (drop i as') (drop i bs) ≡ (both_stay flags os ns (slice_get as' i) (slice_get bs i) && reads_by flags os ns (drop (suc i) as') (drop (suc i) bs))
read_step flags os ns [] bs i la lb = absurd (omega (arith, la))
read_step flags os ns (a ∷ as') [] i la lb = absurd (omega (arith, lb))
read_step flags os ns (a ∷ as') (b ∷ bs) zero la lb = refl
read_step flags os ns (a ∷ as') (b ∷ bs) (suc i) la lb = read_step flags os ns as' bs i (omega (arith, la)) (omega (arith, lb))

pub read_more : (flags : List Bool) (os ns : List Path) (as' bs : List Read) (i : ℕ) (a b : Option Read) (stays : Bool) → i < length as' → i < length bs → a ≡ slice_get as' i → b ≡ slice_get bs i → stays ≡ both_stay flags os ns a b
    → reads_by flags os ns (drop i as') (drop i bs) ≡ (stays && reads_by flags os ns (drop (i + 1) as') (drop (i + 1) bs))
read_more flags os ns as' bs i a b stays la lb is are one =
    read_step flags os ns as' bs i la lb
    ∙ (ap (λ n. both_stay flags os ns (slice_get as' i) (slice_get bs i) && reads_by flags os ns (drop n as') (drop n bs)) (sym (add-one i))
    ∙ (ap (λ x. both_stay flags os ns x (slice_get bs i) && reads_by flags os ns (drop (i + 1) as') (drop (i + 1) bs)) (sym is)
    ∙ (ap (λ x. both_stay flags os ns a x && reads_by flags os ns (drop (i + 1) as') (drop (i + 1) bs)) (sym are) ∙ ap (λ x. x && reads_by flags os ns (drop (i + 1) as') (drop (i + 1) bs)) (sym one))))

pub all_read : (flags : List Bool) (os ns : List Path) (as' bs : List Read) (i : ℕ) → length as' ≤ i → length as' ≡ length bs → reads_by flags os ns (drop i as') (drop i bs) ≡ true
all_read flags os ns as' bs i le h =
    ap (λ xs. reads_by flags os ns xs (drop i bs)) (drop_all i as' le) ∙ ap (reads_by flags os ns []) (drop_all i bs (omega (arith, le, h)))

-- Reads, by the paths that are kept

abbrev flags_in : List Path → List Placed → List Bool
flags_in kept ds = map (λ (r : Placed). among kept r.path) ds

abbrev paths_in : List Placed → List Path
paths_in ds = map (λ (r : Placed). r.path) ds

abbrev its_in : List Placed → List Record
its_in ds = map (λ (r : Placed). r.it) ds

flag_there : (kept : List Path) (done : List Placed) (n : ℕ) → is_flagged (slice_get (flags_in kept done) n) ≡ is_kept kept (option_map (λ (r : Placed). r.path) (slice_get done n))
flag_there kept [] n = refl
flag_there kept (d ∷ ds) zero = refl
flag_there kept (d ∷ ds) (suc n) = flag_there kept ds n

flag_is : (kept : List Path) (done : List Placed) (number : Option ℕ) → flag_of (flags_in kept done) number ≡ is_kept kept (path_at done number)
flag_is kept done None = refl
flag_is kept done (Some n) = flag_there kept done n

path_is_there : (ds : List Placed) (number : Option ℕ) → option_and_then (slice_get (paths_in ds)) number ≡ path_at ds number
path_is_there ds None = refl
path_is_there ds (Some n) = slice_get-map (λ (r : Placed). r.path) ds n

all_three : (x y z : Bool) → ((x && y) && z) ≡ (x && (y && z))
all_three true y z = refl
all_three false y z = refl

reads_are : (kept : List Path) (os done : List Placed) (as' bs : List Read) → reads_by (flags_in kept done) (paths_in os) (paths_in done) as' bs ≡ reads_stay kept os as' done bs
reads_are kept os done [] [] = refl
reads_are kept os done [] (b ∷ bs) = refl
reads_are kept os done (a ∷ as') [] = refl
reads_are kept os done (a ∷ as') (b ∷ bs) =
    ap (λ x. read_stays (flags_in kept done) (paths_in os) (paths_in done) a.definer b.definer && x) (reads_are kept os done as' bs)
    ∙ (ap (λ x. (same_path x (option_and_then (slice_get (paths_in done)) b.definer) && flag_of (flags_in kept done) b.definer) && reads_stay kept os as' done bs) (path_is_there os a.definer)
    ∙ (ap (λ x. (same_path (path_at os a.definer) x && flag_of (flags_in kept done) b.definer) && reads_stay kept os as' done bs) (path_is_there done b.definer)
    ∙ (ap (λ x. (same_path (path_at os a.definer) (path_at done b.definer) && x) && reads_stay kept os as' done bs) (flag_is kept done b.definer)
    ∙ all_three (same_path (path_at os a.definer) (path_at done b.definer)) (is_kept kept (path_at done b.definer)) (reads_stay kept os as' done bs))))

-- The first records

front_of : {A : Type 0} (xs ys : List A) → take (length xs) (xs ++ ys) ≡ xs
front_of [] ys = refl
front_of (x ∷ xs) ys = ap (λ l. x ∷ l) (front_of xs ys)

first_ones : {A : Type 0} (f : Placed → A) (all : List A) (xs ys : List Placed) (n : ℕ) → all ≡ map f (xs ++ ys) → n ≡ length xs → take n all ≡ map f xs
first_ones f all xs ys n is long =
    ap (λ k. take k all) (long ∙ sym (length-map xs f)) ∙ (ap (take (length (map f xs))) (is ∙ map-append f xs ys) ∙ front_of (map f xs) (map f ys))

-- The record with a path

-- a path that isn't before another one and isn't it is after it
after_it : (p q : Path) → is_lt (slice_cmp nat_cmp q p) ≡ false → is_path q p ≡ false → IsEarlierPath p q
after_it p q h k = by (slice_cmp nat_cmp q p) refl h k
  where
    by : (o : Ordering) → slice_cmp nat_cmp q p ≡ o → is_lt o ≡ false → is_eq o ≡ false → IsEarlierPath p q
    by Less e h k = cc
    by Equal e h k = cc
    by Greater e h k = nat_list_cmp_total.antisymm p q ∙ ap ordering_reverse e

not_at : (p : Path) (xs : List Placed) → Each (λ (a : Placed). is_path a.path p ≡ false) xs → at p xs ≡ None
not_at p [] h = refl
not_at p (x ∷ xs) h = ap (λ b. if b then Some x else at p xs) h.0 ∙ not_at p xs h.1

apart_all : (p : Path) (xs : List Placed) → Each (λ (a : Placed). IsEarlierPath a.path p) xs → Each (λ (a : Placed). is_path a.path p ≡ false) xs
apart_all p xs h = each_map (λ (a : Placed). IsEarlierPath a.path p) (λ (a : Placed). is_path a.path p ≡ false) xs (λ a k. apart a.path p k) h

apart_later : (p : Path) (xs : List Placed) → Each (λ (a : Placed). IsEarlierPath p a.path) xs → Each (λ (a : Placed). is_path a.path p ≡ false) xs
apart_later p xs h = each_map (λ (a : Placed). IsEarlierPath p a.path) (λ (a : Placed). is_path a.path p ≡ false) xs (λ a k. apart_back p a.path k) h

-- Whether the next record stays

module _ (runs : Runs) (w : Walk) (n : ℕ) (s : AreSound runs) (u : IsAlong runs w) (b : Placed) (more : List Placed) (are : u.rest ≡ b ∷ more) (long : n ≡ length w.flags) where
  passed_before : Each (λ (a : Placed). IsEarlierPath a.path b.path) u.passed
  passed_before =
      each_map (λ (a : Placed). Each (λ (c : Placed). IsEarlierPath a.path c.path) (b ∷ more)) (λ (a : Placed). IsEarlierPath a.path b.path) u.passed (λ a k. k.0) (subst (ComeBefore u.passed) are u.passed_rest)

  at_end : (ys : List Placed) → placed_in runs.old ≡ u.passed ++ ys → (at b.path (placed_in runs.old) ≡ at b.path ys) × (front b.path (placed_in runs.old) ≡ u.passed ++ front b.path ys)
  at_end ys is =
      let past = at_past b.path u.passed ys (apart_all b.path u.passed passed_before) in
      (ap (at b.path) is ∙ past.0, ap (front b.path) is ∙ past.1)

  number : n ≡ length u.done
  number = long ∙ many_flags u.kept u.done w.flags u.flags

  old_paths : runs.old.paths.now ≡ map (λ (r : Placed). r.path) (placed_in runs.old)
  old_paths = sym (zip_firsts runs.old.paths.now runs.old.records.now s.old_whole)

  old_records : take w.at runs.old.records.now ≡ map (λ (r : Placed). r.it) u.passed
  old_records = first_ones (λ (r : Placed). r.it) runs.old.records.now u.passed u.coming w.at (sym (zip_its runs.old.paths.now runs.old.records.now s.old_whole) ∙ ap its_in u.olds) u.at

  new_paths : take n runs.new.paths.now ≡ map (λ (r : Placed). r.path) u.done
  new_paths = first_ones (λ (r : Placed). r.path) runs.new.paths.now u.done u.rest n (sym (zip_firsts runs.new.paths.now runs.new.records.now s.new_whole) ∙ ap paths_in u.news) number

  touched : (o : Record) → touched_by runs w o ≡ list_any (touches o) (other_writes u.kept u.passed ++ other_writes u.kept u.done)
  touched o =
      ap (λ ws. list_any (touches o) ws || list_any (touches o) (writes_at runs.new.records.now w.new_others)) u.old_others
      ∙ (ap (λ ws. list_any (touches o) (other_writes u.kept u.passed) || list_any (touches o) ws) u.new_others ∙ sym (list_any-append (touches o) (other_writes u.kept u.passed) (other_writes u.kept u.done)))

  -- as the rule says it
  ruled : (o : Placed) → stays_by runs w n b.it o.it ≡ stays_with (changes_in runs) u.kept (placed_in runs.old) u.passed u.done b.it (Some o)
  ruled o =
      ap (λ fs. flag_of fs b.it.parent && (reads_by fs runs.old.paths.now (take n runs.new.paths.now) o.it.reads b.it.reads && (not (any_hits (changes_in runs) (take w.at runs.old.records.now) o.it) && not (touched_by runs w o.it)))) u.flags
      ∙ (ap (λ x. x && (reads_by (flags_in u.kept u.done) runs.old.paths.now (take n runs.new.paths.now) o.it.reads b.it.reads && (not (any_hits (changes_in runs) (take w.at runs.old.records.now) o.it) && not (touched_by runs w o.it)))) (flag_is u.kept u.done b.it.parent)
      ∙ (ap (λ ps. is_kept u.kept (path_at u.done b.it.parent) && (reads_by (flags_in u.kept u.done) runs.old.paths.now ps o.it.reads b.it.reads && (not (any_hits (changes_in runs) (take w.at runs.old.records.now) o.it) && not (touched_by runs w o.it)))) new_paths
      ∙ (ap (λ ps. is_kept u.kept (path_at u.done b.it.parent) && (reads_by (flags_in u.kept u.done) ps (paths_in u.done) o.it.reads b.it.reads && (not (any_hits (changes_in runs) (take w.at runs.old.records.now) o.it) && not (touched_by runs w o.it)))) old_paths
      ∙ (ap (λ x. is_kept u.kept (path_at u.done b.it.parent) && (x && (not (any_hits (changes_in runs) (take w.at runs.old.records.now) o.it) && not (touched_by runs w o.it)))) (reads_are u.kept (placed_in runs.old) u.done o.it.reads b.it.reads)
      ∙ (ap (λ rs. is_kept u.kept (path_at u.done b.it.parent) && (reads_stay u.kept (placed_in runs.old) o.it.reads u.done b.it.reads && (not (any_hits (changes_in runs) rs o.it) && not (touched_by runs w o.it)))) old_records
      ∙ ap (λ x. is_kept u.kept (path_at u.done b.it.parent) && (reads_stay u.kept (placed_in runs.old) o.it.reads u.done b.it.reads && (not (any_hits (changes_in runs) (its_in u.passed) o.it) && not x))) (touched o.it))))))

  next_is : slice_get runs.new.records.now n ≡ Some b.it
  next_is = ap (slice_get runs.new.records.now) number ∙ (next_record runs.new u.done u.rest s.new_whole u.news ∙ ap (λ l. slice_get (its_in l) 0) are)

  -- the old run's next record, if it isn't before this one
  by_coming : (ys : List Placed) → u.coming ≡ ys → is_before (slice_get (paths_in ys) 0) b.path ≡ false
      → (if is_there (slice_get (paths_in ys) 0) b.path then stays_both runs w n (Some b.it) (slice_get (its_in ys) 0) else false) ≡ stays (changes_in runs) u.kept (placed_in runs.old) u.done b
  by_coming [] is h =
      let found = at_end [] (u.olds ∙ ap (λ l. u.passed ++ l) is) in
      sym (ap (stays_with (changes_in runs) u.kept (placed_in runs.old) (front b.path (placed_in runs.old)) u.done b.it) found.0)
  by_coming (o ∷ cs) is h = by (is_path o.path b.path) refl
    where
      olds : placed_in runs.old ≡ u.passed ++ o ∷ cs
      olds = u.olds ∙ ap (λ l. u.passed ++ l) is

      found : (at b.path (placed_in runs.old) ≡ at b.path (o ∷ cs)) × (front b.path (placed_in runs.old) ≡ u.passed ++ front b.path (o ∷ cs))
      found = at_end (o ∷ cs) olds

      by : (x : Bool) → is_path o.path b.path ≡ x → (if is_path o.path b.path then stays_by runs w n b.it o.it else false) ≡ stays (changes_in runs) u.kept (placed_in runs.old) u.done b
      by true e =
          let here : at b.path (placed_in runs.old) ≡ Some o = found.0 ∙ ap (λ x. if x then Some o else at b.path cs) e in
          let before : front b.path (placed_in runs.old) ≡ u.passed =
          found.1 ∙ (ap (λ x. u.passed ++ (if x then [] else o ∷ front b.path cs)) e ∙ append-nil u.passed) in
          ap (λ x. if x then stays_by runs w n b.it o.it else false) e
          ∙ (ruled o
          ∙ (ap (λ fs. stays_with (changes_in runs) u.kept (placed_in runs.old) fs u.done b.it (Some o)) (sym before)
          ∙ ap (stays_with (changes_in runs) u.kept (placed_in runs.old) (front b.path (placed_in runs.old)) u.done b.it) (sym here)))
      by false e =
          let later : IsEarlierPath b.path o.path = after_it b.path o.path h e in
          let climbs : Climbs (u.passed ++ o ∷ cs) = subst Climbs olds s.old_climbs in
          let none : at b.path (placed_in runs.old) ≡ None =
          found.0 ∙ not_at b.path (o ∷ cs) (e, apart_later b.path cs (after_all b.path o.path cs later (climbs_parts u.passed o cs climbs).1)) in
          ap (λ x. if x then stays_by runs w n b.it o.it else false) e
          ∙ sym (ap (stays_with (changes_in runs) u.kept (placed_in runs.old) (front b.path (placed_in runs.old)) u.done b.it) none)

  pub stays_is : is_before (slice_get runs.old.paths.now w.at) b.path ≡ false → stays_at runs w n b.path ≡ stays (changes_in runs) u.kept (placed_in runs.old) u.done b
  stays_is h =
      ap (λ q. if is_there q b.path then stays_both runs w n (slice_get runs.new.records.now n) (slice_get runs.old.records.now w.at) else false) path
      ∙ (ap (λ r. if is_there (slice_get (paths_in u.coming) 0) b.path then stays_both runs w n r (slice_get runs.old.records.now w.at) else false) next_is
      ∙ (ap (λ o. if is_there (slice_get (paths_in u.coming) 0) b.path then stays_both runs w n (Some b.it) o else false) record_is
      ∙ by_coming u.coming refl (ap (λ q. is_before q b.path) (sym path) ∙ h)))
    where
      path : slice_get runs.old.paths.now w.at ≡ slice_get (paths_in u.coming) 0
      path = ap (slice_get runs.old.paths.now) u.at ∙ next_path runs.old u.passed u.coming s.old_whole u.olds

      record_is : slice_get runs.old.records.now w.at ≡ slice_get (its_in u.coming) 0
      record_is = ap (slice_get runs.old.records.now) u.at ∙ next_record runs.old u.passed u.coming s.old_whole u.olds

-- The comparison goes on

there_is : (p : Path) (ys : List Placed) → is_there (slice_get (map (λ (r : Placed). r.path) ys) 0) p ≡ true → First p ys
there_is p [] h = cc
there_is p (o ∷ cs) h = record { b = o; more = cs; are = refl; path = path_is o.path p h }

stays_here : (runs : Runs) (w : Walk) (n : ℕ) (p : Path) → AreSound runs → (u : IsAlong runs w) → (f : First p u.rest) → n ≡ length w.flags → is_before (slice_get runs.old.paths.now w.at) p ≡ false
    → stays (changes_in runs) u.kept (placed_in runs.old) u.done f.b ≡ stays_at runs w n p
stays_here runs w n p s u f long h =
    sym (stays_is runs w n s u f.b f.more f.are long (ap (is_before (slice_get runs.old.paths.now w.at)) f.path ∙ h)) ∙ ap (stays_at runs w n) f.path

pub keep_next : (runs : Runs) (w : Walk) (n : ℕ) (p : Path) → AreSound runs → n ≡ length w.flags → slice_get runs.new.paths.now (length w.flags) ≡ Some p → is_before (slice_get runs.old.paths.now w.at) p ≡ false
    → is_there (slice_get runs.old.paths.now w.at) p ≡ true → stays_at runs w n p ≡ true → IsAlong runs w → IsAlong runs (kept_more w)
keep_next runs w n p s long next stops there stay u =
    let f = next_of runs w p s next u in
    let path : slice_get runs.old.paths.now w.at ≡ slice_get (map (λ (r : Placed). r.path) u.coming) 0 = ap (slice_get runs.old.paths.now) u.at ∙ next_path runs.old u.passed u.coming s.old_whole u.olds in
    kept_on runs w p s u f (there_is p u.coming (ap (λ q. is_there q p) (sym path) ∙ there)) (stays_here runs w n p s u f long stops ∙ stay)

pub renew_next : (runs : Runs) (w : Walk) (n : ℕ) (p : Path) → AreSound runs → n ≡ length w.flags → slice_get runs.new.paths.now (length w.flags) ≡ Some p → is_before (slice_get runs.old.paths.now w.at) p ≡ false
    → stays_at runs w n p ≡ false → IsAlong runs w → IsAlong runs (other_more runs.new.records.now n w)
renew_next runs w n p s long next stops stay u =
    let f = next_of runs w p s next u in
    renewed_on runs w p n s u f long (stays_here runs w n p s u f long stops ∙ stay)

pub none_stays : (runs : Runs) (w : Walk) (n : ℕ) (r : Option Record) → stays_both runs w n r None ≡ false
none_stays runs w n None = refl
none_stays runs w n (Some r) = refl

pub there_within : (ps : List Path) (n : ℕ) (p : Path) → is_there (slice_get ps n) p ≡ true → n < length ps
there_within ps n p h = by (slice_get ps n) refl h
  where
    by : (o : Option Path) → slice_get ps n ≡ o → is_there o p ≡ true → n < length ps
    by None e k = cc
    by (Some q) e k = slice_get_within ps n q e

-- the path of the new run's next record
pub next_there : (r : Run) (flags : List Bool) (n : ℕ) (x p : Path) → IsWhole r → n ≡ length flags → length flags < length r.records.now → x ≡ get_or r.paths.now n x → p ≡ x → slice_get r.paths.now (length flags) ≡ Some p
next_there r flags n x p whole long more is same =
    ap (slice_get r.paths.now) (sym long) ∙ (slice_get_read r.paths.now (length r.paths.now) n x refl (omega (arith, whole, long, more)) is ∙ ap Some (sym same))

-- what is said of a success
pub on_ok_by : {A E : Type 0} (r : Result A E) (P Q : Type 0) → (P → Q) → OnOk r P → OnOk r Q
on_ok_by (Ok x) P Q f h = f h
on_ok_by (Err e) P Q f h = tt
