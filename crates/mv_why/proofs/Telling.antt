-- What the walk tells of the next record.
use Rattle.std.proofs.Common.{◌≡◌, ℕ, zero, suc, Bool, true, false, List, [], ◌∷◌, ◌++◌, Option, Some, None, map, length, take, if◌then◌else◌, refl, sym, ap, subst, ◌∙◌, append-nil}
use Rattle.std.specs.Prelude.{◌&&◌, slice_get, option_map, option_and_then}
use Rattle.std.specs.Option.{option_or}
use Rattle.std.specs.Ordering.{is_lt, is_eq, nat_cmp, ordering_reverse}
use Rattle.std.specs.Cmp.Lexicographic.{slice_cmp}
use Rattle.std.specs.declared.cmp.Ordering.{Ordering}
use Rattle.std.specs.declared.cmp.Ordering.TheVariants.{Less, Equal, Greater}
use Rattle.std.proofs.lemmas.Cmp.{nat_list_cmp_total}
use Rattle.mv_record.specs.declared.record.Read.{Read}
use Rattle.mv_record.specs.declared.record.Record.{Record}
use Rattle.mv_record.specs.Paths.{paths, IsEarlierPath}
use Rattle.mv_recorded.specs.Own.{Each}
use Rattle.mv_recorded.proofs.Inverting.{each_map, each_both}
use Rattle.mv_history.specs.Kept.{Path, Placed, with_paths, is_path, among, at, front, path_at, is_kept, same_path}
use Rattle.mv_soundness.proofs.Keeping.{Climbs, climbs_of}
use Rattle.mv_soundness.proofs.Placing.{path_is, apart, apart_back, its, placed_paths}
use Rattle.mv_soundness.proofs.Walking.{earlier_then, climbs_parts, at_past}
use Rattle.mv_why.specs.declared.cause.Reason.{Reason}
use Rattle.mv_why.specs.declared.cause.Reason.TheVariants.{New, Controller, Reads, Touched}
use Rattle.mv_why.specs.declared.run.Runs.{Runs}
use Rattle.mv_why.specs.declared.walk.Walk.{Walk}
use Rattle.mv_why.specs.Causes.{controller, read_stays, reading, hit, touching, touched, why_with, why}
use Rattle.mv_why.specs.Walking.{is_before, is_there, earlier_of, is_flagged, flag_of, controller_by, read_stays_by, reading_by, first_of, touching_at, touched_by, table_by, record_there, with_by, reason_by, all_before, IsUnder, AreSound}
use Rattle.mv_why.proofs.Going.{next_path, next_record}
use Rattle.mv_why.proofs.Least.{least_of}

-- Flags and paths by numbers

flagged : (kept : List Path) (ds : List Placed) (n : ℕ) → is_flagged (slice_get (map (λ (r : Placed). among kept r.path) ds) n) ≡ is_kept kept (option_map (λ (r : Placed). r.path) (slice_get ds n))
flagged kept [] n = refl
flagged kept (d ∷ ds) zero = refl
flagged kept (d ∷ ds) (suc n) = flagged kept ds n

flag_is : (kept : List Path) (ds : List Placed) (w : List Bool) (n : Option ℕ) → w ≡ map (λ (r : Placed). among kept r.path) ds → flag_of w n ≡ is_kept kept (path_at ds n)
flag_is kept ds w None h = refl
flag_is kept ds w (Some n) h = ap (λ l. is_flagged (slice_get l n)) h ∙ flagged kept ds n

path_got : (ds : List Placed) (n : ℕ) → slice_get (map (λ (r : Placed). r.path) ds) n ≡ option_map (λ (r : Placed). r.path) (slice_get ds n)
path_got [] n = refl
path_got (d ∷ ds) zero = refl
path_got (d ∷ ds) (suc n) = path_got ds n

path_in : (ds : List Placed) (ps : List Path) (n : Option ℕ) → ps ≡ map (λ (r : Placed). r.path) ds → option_and_then (slice_get ps) n ≡ path_at ds n
path_in ds ps None h = refl
path_in ds ps (Some n) h = ap (λ l. slice_get l n) h ∙ path_got ds n

-- Points

controller_is : (kept : List Path) (ds : List Placed) (w : List Bool) (parent : Option ℕ) → w ≡ map (λ (r : Placed). among kept r.path) ds → controller_by w parent ≡ controller kept ds parent
controller_is kept ds w None h = refl
controller_is kept ds w (Some n) h = ap (λ b. if b then None else Some (Controller n)) (flag_is kept ds w (Some n) h)

reading_is : (kept : List Path) (os ds : List Placed) (w : List Bool) (ps qs : List Path) (as' bs : List Read) → w ≡ map (λ (r : Placed). among kept r.path) ds → ps ≡ map (λ (r : Placed). r.path) os → qs ≡ map (λ (r : Placed). r.path) ds
    → reading_by w ps qs as' bs ≡ reading kept os as' ds bs
reading_is kept os ds w ps qs [] [] h k l = refl
reading_is kept os ds w ps qs [] (b ∷ bs) h k l = refl
reading_is kept os ds w ps qs (a ∷ as') [] h k l = refl
reading_is kept os ds w ps qs (a ∷ as') (b ∷ bs) h k l =
    ap (λ x. if x then reading_by w ps qs as' bs else Some (Reads a.definer b.definer)) stays
    ∙ ap (λ r. if read_stays kept os a.definer ds b.definer then r else Some (Reads a.definer b.definer)) (reading_is kept os ds w ps qs as' bs h k l)
  where
    stays : read_stays_by w ps qs a.definer b.definer ≡ read_stays kept os a.definer ds b.definer
    stays =
        ap (λ p. same_path p (option_and_then (slice_get qs) b.definer) && flag_of w b.definer) (path_in os ps a.definer k)
        ∙ (ap (λ p. same_path (path_at os a.definer) p && flag_of w b.definer) (path_in ds qs b.definer l)
        ∙ ap (λ x. same_path (path_at os a.definer) (path_at ds b.definer) && x) (flag_is kept ds w b.definer h))

climbs_front : (xs ys : List Placed) → Climbs (xs ++ ys) → Climbs xs
climbs_front [] ys h = tt
climbs_front (x ∷ xs) ys h = ((each_both (λ (b : Placed). IsEarlierPath x.path b.path) xs ys h.0).0, climbs_front xs ys h.1)

or_assoc : (a b c : Option Reason) → option_or (option_or a b) c ≡ option_or a (option_or b c)
or_assoc None b c = refl
or_assoc (Some x) b c = refl

-- The record of the old run

at_none : (p : Path) (xs : List Placed) → Each (λ (a : Placed). is_path a.path p ≡ false) xs → at p xs ≡ None
at_none p [] h = refl
at_none p (x ∷ xs) h = ap (λ b. if b then Some x else at p xs) h.0 ∙ at_none p xs h.1

-- a path that isn't before another one, nor the same, is after it
after : (q p : Path) → is_lt (slice_cmp nat_cmp q p) ≡ false → is_path q p ≡ false → IsEarlierPath p q
after q p h k = nat_list_cmp_total.antisymm p q ∙ by (slice_cmp nat_cmp q p) h k
  where
    by : (o : Ordering) → is_lt o ≡ false → is_eq o ≡ false → ordering_reverse o ≡ Less
    by Less e f = cc
    by Equal e f = cc
    by Greater e f = refl

module _ (runs : Runs) (w : Walk) (kept : List Path) (sound : AreSound runs) (u : IsUnder kept runs.old.records runs.fresh.records w) (b : Placed) (more : List Placed) (are : u.rest ≡ b ∷ more) (number : ℕ) (long : number ≡ length u.done) (stops : is_before (slice_get runs.old.paths w.at) b.path ≡ false) where
  abbrev pub os : List Placed
  os = with_paths runs.old.records

  abbrev pub before : List Record
  before = its u.passed

  old_climbs : Climbs os
  old_climbs = climbs_of runs.old.records sound.old_rises

  fresh_climbs : Climbs (with_paths runs.fresh.records)
  fresh_climbs = climbs_of runs.fresh.records sound.fresh_rises

  apart_passed : Each (λ (a : Placed). is_path a.path b.path ≡ false) u.passed
  apart_passed =
      each_map (λ (a : Placed). Each (λ (c : Placed). IsEarlierPath a.path c.path) (b ∷ more)) (λ (a : Placed). is_path a.path b.path ≡ false) u.passed (λ a k. apart a.path b.path k.0) (subst (all_before u.passed) are u.below)

  next_old : slice_get runs.old.paths w.at ≡ slice_get (map (λ (p : Placed). p.path) u.coming) 0
  next_old = ap (λ l. slice_get l w.at) sound.old ∙ (ap (slice_get (paths runs.old.records)) u.at ∙ next_path runs.old.records u.passed u.coming u.olds)

  next_it : slice_get runs.old.records w.at ≡ slice_get (its u.coming) 0
  next_it = ap (slice_get runs.old.records) u.at ∙ next_record runs.old.records u.passed u.coming u.olds

  taken : take number runs.fresh.paths ≡ map (λ (r : Placed). r.path) u.done
  taken =
      ap (take number) (sound.fresh ∙ (sym (placed_paths runs.fresh.records) ∙ ap (map (λ (r : Placed). r.path)) u.news))
      ∙ (ap (λ n. take n (map (λ (r : Placed). r.path) (u.done ++ u.rest))) long ∙ front_taken u.done u.rest)
    where
      front_taken : (xs ys : List Placed) → take (length xs) (map (λ (r : Placed). r.path) (xs ++ ys)) ≡ map (λ (r : Placed). r.path) xs
      front_taken [] ys = refl
      front_taken (x ∷ xs) ys = ap (λ l. x.path ∷ l) (front_taken xs ys)

  touched_is : (o : Record) → touched_by runs w o ≡ touched kept u.passed u.done o
  touched_is o =
      ap (λ l. option_map (λ p. Touched p) (earlier_of (first_of (touching_at o.preds runs.old.records l w.old_others)) (first_of (touching_at o.preds runs.fresh.records runs.fresh.paths w.fresh_others)))) sound.old
      ∙ (ap (λ l. option_map (λ p. Touched p) (earlier_of (first_of (touching_at o.preds runs.old.records (paths runs.old.records) w.old_others)) (first_of (touching_at o.preds runs.fresh.records l w.fresh_others)))) sound.fresh
      ∙ (ap (λ l. option_map (λ p. Touched p) (earlier_of (first_of l) (first_of (touching_at o.preds runs.fresh.records (paths runs.fresh.records) w.fresh_others)))) (u.old_others o)
      ∙ (ap (λ l. option_map (λ p. Touched p) (earlier_of (first_of (touching kept o u.passed)) (first_of l))) (u.fresh_others o)
      ∙ ap (option_map (λ p. Touched p)) (sym (least_of kept o u.passed u.done (climbs_front u.passed u.coming (subst Climbs u.olds old_climbs)) (climbs_front u.done u.rest (subst Climbs u.news fresh_climbs)))))))

  with_is : (r : Record) (o : Placed) → with_by runs w number before r (Some o.it) ≡ why_with kept runs.since.now os u.passed u.done r (Some o)
  with_is r o =
      or_assoc (controller_by w.kept r.parent) (reading_by w.kept runs.old.paths (take number runs.fresh.paths) o.it.reads r.reads) (table_by runs w before o.it)
      ∙ (ap (λ c. option_or c (option_or (reading_by w.kept runs.old.paths (take number runs.fresh.paths) o.it.reads r.reads) (table_by runs w before o.it))) (controller_is kept u.done w.kept r.parent u.flags)
      ∙ (ap (λ d. option_or (controller kept u.done r.parent) (option_or d (table_by runs w before o.it)))
      (reading_is kept os u.done w.kept runs.old.paths (take number runs.fresh.paths) o.it.reads r.reads u.flags (sound.old ∙ sym (placed_paths runs.old.records)) taken)
      ∙ ap (λ t. option_or (controller kept u.done r.parent) (option_or (reading kept os o.it.reads u.done r.reads) (option_or (hit runs.since.now before o.it) t))) (touched_is o.it)))

  -- the reason by what the walk knows is that of the record
  pub reason_is : (r : Record) → r ≡ b.it → reason_by runs w number before r b.path ≡ why kept runs.since.now os u.done b
  reason_is r is = ap (λ x. reason_by runs w number before x b.path) is ∙ by u.coming refl
    where
      nothing : (coming : List Placed) → u.coming ≡ coming → is_there (slice_get runs.old.paths w.at) b.path ≡ false → Each (λ (a : Placed). is_path a.path b.path ≡ false) coming → reason_by runs w number before b.it b.path ≡ why kept runs.since.now os u.done b
      nothing coming e none apart' =
          ap (λ x. with_by runs w number before b.it (if x then slice_get runs.old.records w.at else None)) none
          ∙ sym (ap (why_with kept runs.since.now os (front b.path os) u.done b.it) (ap (at b.path) (u.olds ∙ ap (λ l. u.passed ++ l) e) ∙ ((at_past b.path u.passed coming apart_passed).0 ∙ at_none b.path coming apart')))

      by : (coming : List Placed) → u.coming ≡ coming → reason_by runs w number before b.it b.path ≡ why kept runs.since.now os u.done b
      by [] e = nothing [] e (ap (λ x. is_there x b.path) (next_old ∙ ap (λ l. slice_get (map (λ (p : Placed). p.path) l) 0) e)) tt
      by (o ∷ cs) e = on (is_path o.path b.path) refl
        where
          old_path : slice_get runs.old.paths w.at ≡ Some o.path
          old_path = next_old ∙ ap (λ l. slice_get (map (λ (p : Placed). p.path) l) 0) e

          all : os ≡ u.passed ++ o ∷ cs
          all = u.olds ∙ ap (λ l. u.passed ++ l) e

          on : (x : Bool) → is_path o.path b.path ≡ x → reason_by runs w number before b.it b.path ≡ why kept runs.since.now os u.done b
          on false f =
              let later : IsEarlierPath b.path o.path = after o.path b.path (ap (λ y. is_before y b.path) (sym old_path) ∙ stops) f in
              nothing (o ∷ cs) e (ap (λ y. is_there y b.path) old_path ∙ f)
              (f, each_map (λ (c : Placed). IsEarlierPath o.path c.path) (λ (c : Placed). is_path c.path b.path ≡ false) cs (λ c k. apart_back b.path c.path (earlier_then b.path o.path c.path later k)) (climbs_parts u.passed o cs (subst Climbs all old_climbs)).1)
          on true f =
              let past = at_past b.path u.passed (o ∷ cs) apart_passed in
              let found : at b.path os ≡ Some o = ap (at b.path) all ∙ (past.0 ∙ ap (λ y. if y then Some o else at b.path cs) f) in
              let fronts : front b.path os ≡ u.passed = ap (front b.path) all ∙ (past.1 ∙ (ap (λ y. u.passed ++ (if y then [] else o ∷ front b.path cs)) f ∙ append-nil u.passed)) in
              let there : record_there runs w b.path ≡ Some o.it =
              ap (λ y. if is_there y b.path then slice_get runs.old.records w.at else None) old_path
              ∙ (ap (λ y. if y then slice_get runs.old.records w.at else None) f ∙ (next_it ∙ ap (λ l. slice_get (its l) 0) e)) in
              ap (with_by runs w number before b.it) there
              ∙ (with_is b.it o
              ∙ sym (ap (λ l. why_with kept runs.since.now os l u.done b.it (at b.path os)) fronts ∙ ap (why_with kept runs.since.now os u.passed u.done b.it) found))

  -- where there is no reason, the old run's next record has the path
  pub partner : reason_by runs w number before b.it b.path ≡ None → (o : Placed) × (cs : List Placed) × (u.coming ≡ o ∷ cs) × (o.path ≡ b.path)
  partner none = by u.coming refl
    where
      clash : ◌≡◌ {A = Option Reason} (Some New) None → ⊥
      clash e = cc

      by : (coming : List Placed) → u.coming ≡ coming → (o : Placed) × (cs : List Placed) × (u.coming ≡ o ∷ cs) × (o.path ≡ b.path)
      by [] e = absurd (clash (sym (ap (λ x. with_by runs w number before b.it (if is_there x b.path then slice_get runs.old.records w.at else None)) (next_old ∙ ap (λ l. slice_get (map (λ (p : Placed). p.path) l) 0) e)) ∙ none))
      by (o ∷ cs) e = on (is_path o.path b.path) refl
        where
          old_path : slice_get runs.old.paths w.at ≡ Some o.path
          old_path = next_old ∙ ap (λ l. slice_get (map (λ (p : Placed). p.path) l) 0) e

          on : (x : Bool) → is_path o.path b.path ≡ x → (o : Placed) × (cs : List Placed) × (u.coming ≡ o ∷ cs) × (o.path ≡ b.path)
          on true f = (o, cs, e, path_is o.path b.path f)
          on false f =
              absurd (clash (sym (ap (λ y. with_by runs w number before b.it (if is_there y b.path then slice_get runs.old.records w.at else None)) old_path
              ∙ ap (λ y. with_by runs w number before b.it (if y then slice_get runs.old.records w.at else None)) f) ∙ none))
