-- Whether the next record of the old run stays.
use Rattle.std.proofs.Common.{◌≡◌, ◌==◌, ◌↔◌, ℕ, suc, ◌+◌, Bool, true, false, not, List, [], ◌∷◌, ◌++◌, Option, Some, None, map, length, if◌then◌else◌, refl, sym, ap, subst, ◌∙◌, arith, append-nil, length-append}
use Rattle.std.specs.Prelude.{◌&&◌, ◌||◌, slice_get}
use Rattle.std.specs.List.{list_any}
use Rattle.std.specs.Ordering.{is_lt, is_eq, ordering_reverse, nat_cmp}
use Rattle.std.specs.Cmp.Lexicographic.{slice_cmp}
use Rattle.std.specs.declared.cmp.Ordering.{Ordering}
use Rattle.std.specs.declared.cmp.Ordering.TheVariants.{Less, Equal, Greater}
use Rattle.std.proofs.lemmas.Cmp.{nat_list_cmp_total}
use Rattle.std.proofs.lemmas.List.{length-map, map-append}
use Rattle.std.proofs.lemmas.Bool.Decides.{eqb_tells}
use Rattle.std.proofs.lemmas.List.Folds.{list_any-append}
use Rattle.mv_record.specs.declared.record.Read.{Read}
use Rattle.mv_record.specs.declared.record.Record.{Record}
use Rattle.mv_record.specs.declared.record.Spot.{Spot}
use Rattle.mv_record.specs.Paths.{paths, IsEarlierPath}
use Rattle.mv_record.specs.Runs.{IsEarlier, ReadsEarlier, NamesEarlier}
use Rattle.mv_recorded.specs.Own.{Each}
use Rattle.mv_recorded.proofs.Held.{get_last}
use Rattle.mv_exec.specs.Peeked.{Ahead}
use Rattle.mv_history.specs.declared.change.Change.{Change}
use Rattle.mv_history.specs.Hits.{any_hits, touches}
use Rattle.mv_history.specs.Kept.{Path, Placed, with_paths, is_path, at, front, path_at, is_kept, reads_stay, other_writes, is_untouched, stays_with, stays}
use Rattle.mv_soundness.proofs.Keeping.{Climbs}
use Rattle.mv_soundness.proofs.Placing.{path_is, path_self, apart_back, its_all, many_placed}
use Rattle.mv_repair.specs.declared.walk.OldRun.{OldRun}
use Rattle.mv_repair.specs.declared.walk.NewRun.{NewRun}
use Rattle.mv_repair.specs.Walking.{is_before, is_in_place, writes_at, hits_in, is_touched, is_kept_by, reads_by, record_stays, next_stays, stays_at, IsOld, IsNew}
use Rattle.mv_recorded.proofs.Inverting.{each_join, each_map}
use Rattle.mv_soundness.proofs.Walking.{earlier_then, climbs_parts, at_past}
use Rattle.mv_repair.proofs.Lists.{first_dropped, any_of_all}
use Rattle.mv_repair.proofs.Marking.{controller_is, definers_are}
use Rattle.mv_repair.proofs.Passing.{all_apart, coming_paths, next_is, none_comes, old_lower}

-- The old record of a path

at_none : (p : Path) (xs : List Placed) → Each (λ (a : Placed). is_path a.path p ≡ false) xs → at p xs ≡ None
at_none p [] h = refl
at_none p (x ∷ xs) h = ap (λ b. if b then Some x else at p xs) h.0 ∙ at_none p xs h.1

front_past : (p : Path) (xs : List Placed) (o : Placed) (ys : List Placed) → Each (λ (a : Placed). is_path a.path p ≡ false) xs → is_path o.path p ≡ true → (at p (xs ++ o ∷ ys) ≡ Some o) × (front p (xs ++ o ∷ ys) ≡ xs)
front_past p xs o ys h k =
    let past = at_past p xs (o ∷ ys) h in
    (past.0 ∙ ap (λ b. if b then Some o else at p ys) k, past.1 ∙ (ap (λ b. xs ++ (if b then [] else o ∷ front p ys)) k ∙ append-nil xs))

-- a path that isn't before another one, nor the same, is after it
after : (q p : Path) → is_lt (slice_cmp nat_cmp q p) ≡ false → is_path q p ≡ false → IsEarlierPath p q
after q p h k = nat_list_cmp_total.antisymm p q ∙ by (slice_cmp nat_cmp q p) h k
  where
    by : (o : Ordering) → is_lt o ≡ false → is_eq o ≡ false → ordering_reverse o ≡ Less
    by Less e f = cc
    by Equal e f = cc
    by Greater e f = refl

-- equal paths aren't one before the other
pub not_before : (q p : Path) → is_path q p ≡ true → is_before (Some q) p ≡ false
not_before q p h = by (slice_cmp nat_cmp q p) h
  where
    by : (o : Ordering) → is_eq o ≡ true → is_lt o ≡ false
    by Less e = cc
    by Equal e = refl
    by Greater e = refl

-- Places

pub in_own_place : (o : Record) → is_in_place (Some o) o.spot ≡ true
in_own_place o = and_both (o.spot.statement == o.spot.statement) (is_path o.spot.turns o.spot.turns) (grind (arith, eqb_tells)) (path_self o.spot.turns)
  where
    and_both : (x y : Bool) → x ≡ true → y ≡ true → (x && y) ≡ true
    and_both x y e f = cc

-- a test that tells whether two lists of numbers are equal
pub as_path : (a b : Path) (t : Bool) → (t ≡ true) ↔ (a ≡ b) → t ≡ is_path a b
as_path a b true h = sym (subst (λ c. is_path a c ≡ true) (h.0 refl) (path_self a))
as_path a b false h = by (is_path a b) refl
  where
    by : (c : Bool) → is_path a b ≡ c → false ≡ c
    by true e = h.1 (path_is a b e)
    by false e = refl

pub in_place_is : (o : Record) (spot : Spot) → is_in_place (Some o) spot ≡ true → o.spot ≡ spot
in_place_is o spot h = by (o.spot.statement == spot.statement) refl (is_path spot.turns o.spot.turns) refl
  where
    spot_of : (a : ℕ) (b : List ℕ) → Spot
    spot_of a b = record { statement = a; turns = b }

    by : (x : Bool) → (o.spot.statement == spot.statement) ≡ x → (y : Bool) → is_path spot.turns o.spot.turns ≡ y → o.spot ≡ spot
    by true e true f =
        let same : o.spot.statement ≡ spot.statement = grind (arith, eqb_tells) in
        ap (λ n. spot_of n o.spot.turns) same ∙ ap (spot_of spot.statement) (sym (path_is spot.turns o.spot.turns f))
    by true e false f = absurd (clash (ap (λ x. x && is_path spot.turns o.spot.turns) e ∙ f) h)
      where
        clash : is_in_place (Some o) spot ≡ false → is_in_place (Some o) spot ≡ true → ⊥
        clash k l = cc
    by false e y f = absurd (clash (ap (λ x. x && is_path spot.turns o.spot.turns) e) h)
      where
        clash : is_in_place (Some o) spot ≡ false → is_in_place (Some o) spot ≡ true → ⊥
        clash k l = cc

-- Reads of earlier records

reads_behind : (n : ℕ) (xs : List Record) (r : Record) (ys : List Record) → NamesEarlier n (xs ++ r ∷ ys) → IsEarlier (n + length xs) r.parent × ReadsEarlier (n + length xs) r.reads
reads_behind n [] r ys h = subst (λ m. IsEarlier m r.parent × ReadsEarlier m r.reads) (let e : n ≡ n + 0 = omega arith in e) (h.0, h.1)
reads_behind n (x ∷ xs) r ys h =
    subst (λ m. IsEarlier m r.parent × ReadsEarlier m r.reads) (let e : (n + 1) + length xs ≡ n + suc (length xs) = omega arith in e) (reads_behind (n + 1) xs r ys h.2)

pub names_at : (xs : List Record) (r : Record) (ys : List Record) (n : ℕ) → length xs ≡ n → NamesEarlier 0 (xs ++ r ∷ ys) → IsEarlier n r.parent × ReadsEarlier n r.reads
names_at xs r ys n long h = subst (λ m. IsEarlier m r.parent × ReadsEarlier m r.reads) (let e : 0 + length xs ≡ n = omega (arith, long) in e) (reads_behind 0 xs r ys h)

reads_more : (n m : ℕ) (xs : List Read) → (k : ℕ) → n + k ≡ m → ReadsEarlier n xs → ReadsEarlier m xs
reads_more n m [] k e h = tt
reads_more n m (x ∷ xs) k e h = (by x.definer h.0, reads_more n m xs k e h.1)
  where
    by : (d : Option ℕ) → IsEarlier n d → IsEarlier m d
    by None h = tt
    by (Some d) h = omega (arith, e, h)

-- what an old record reads is within the old run
old_reads : (os : List Record) (passed : List Placed) (o : Placed) (cs : List Placed) → with_paths os ≡ passed ++ o ∷ cs → NamesEarlier 0 os → ReadsEarlier (length (with_paths os)) o.it.reads
old_reads os passed o cs is names =
    let all : os ≡ map (λ (p : Placed). p.it) passed ++ o.it ∷ map (λ (p : Placed). p.it) cs = sym (its_all os) ∙ (ap (map (λ (p : Placed). p.it)) is ∙ map-append (λ (p : Placed). p.it) passed (o ∷ cs)) in
    reads_more (length passed) (length (with_paths os)) o.it.reads (suc (length cs)) (let e : length passed + suc (length cs) ≡ length (with_paths os) = sym (ap length is ∙ length-append passed (o ∷ cs)) in e)
    (names_at (map (λ (p : Placed). p.it) passed) o.it (map (λ (p : Placed). p.it) cs) (length passed) (length-map passed (λ (p : Placed). p.it)) (subst (NamesEarlier 0) all names)).1

-- What the walk decides

-- what is known of the next record `r` of the new run, behind the records `ns`, where the old run was passed up to its path
pub record Decides (changes : List Change) (os : List Record) (kept : List Path) (ns : List Record) (b : Placed) (more : List Placed) (ahead : Ahead) (old : OldRun) (new : NewRun) : Type 0 where
  pub climbs : Climbs (with_paths os)
  pub names : NamesEarlier 0 os
  pub parent : b.it.parent ≡ ahead.parent
  pub reads : b.it.reads ≡ ahead.reads
  pub early : IsEarlier (length ns) b.it.parent
  pub early_reads : ReadsEarlier (length ns) b.it.reads
  pub beside : IsOld changes os kept (b ∷ more) old
  pub along : IsNew os kept (b ∷ more) ns new
  pub places : (o : Placed) → slice_get os old.at ≡ Some o.it → slice_get (paths os) old.at ≡ Some o.path → is_in_place (Some o.it) ahead.spot ≡ is_path o.path b.path
  pub stops : is_before (slice_get (paths os) old.at) b.path ≡ false

untouched_is : (o : Record) (kept : List Path) (before ns : List Placed) (old : OldRun) (new : NewRun) (os rs : List Record) → writes_at os old.others ≡ other_writes kept before → writes_at rs new.others ≡ other_writes kept ns
    → not (is_touched o os old.others || is_touched o rs new.others) ≡ is_untouched kept before ns o
untouched_is o kept before ns old new os rs h k =
    ap (λ b. not (b || is_touched o rs new.others)) (sym (any_of_all (touches o) os old.others) ∙ ap (list_any (touches o)) h)
    ∙ (ap (λ b. not (list_any (touches o) (other_writes kept before) || b)) (sym (any_of_all (touches o) rs new.others) ∙ ap (list_any (touches o)) k)
    ∙ ap not (sym (list_any-append (touches o) (other_writes kept before) (other_writes kept ns))))

four : (a b c d a' b' c' d' : Bool) → a ≡ a' → b ≡ b' → c ≡ c' → d ≡ d' → (a && (b && (c && d))) ≡ (a' && (b' && (c' && d')))
four a b c d a' b' c' d' h k l m = cc

-- the record of the old run, where it has the path
here_is : (changes : List Change) (os : List Record) (kept : List Path) (ns : List Record) (b : Placed) (more : List Placed) (ahead : Ahead) (old : OldRun) (new : NewRun) → (d : Decides changes os kept ns b more ahead old new)
    → (o : Placed) (cs : List Placed) → d.beside.coming ≡ o ∷ cs → is_path o.path b.path ≡ true
    → record_stays os old new ns ahead o.it (any_hits changes (map (λ (p : Placed). p.it) d.beside.passed) o.it) ≡ stays changes kept (with_paths os) (with_paths ns) b
here_is changes os kept ns b more ahead old new d o cs e same =
    let is : with_paths os ≡ d.beside.passed ++ o ∷ cs = d.beside.split ∙ ap (λ l. d.beside.passed ++ l) e in
    let past = front_past b.path d.beside.passed o cs (all_apart b.path d.beside.passed (old_lower changes os kept b more old d.beside)) same in
    let found : at b.path (with_paths os) ≡ Some o = ap (at b.path) is ∙ past.0 in
    let fronts : front b.path (with_paths os) ≡ d.beside.passed = ap (front b.path) is ∙ past.1 in
    four (is_kept_by new.kept ahead.parent) (reads_by new.kept o.it.reads ahead.reads) (not (any_hits changes (map (λ (p : Placed). p.it) d.beside.passed) o.it)) _
    (is_kept kept (path_at (with_paths ns) b.it.parent)) (reads_stay kept (with_paths os) o.it.reads (with_paths ns) b.it.reads) (not (any_hits changes (map (λ (p : Placed). p.it) d.beside.passed) o.it)) (is_untouched kept d.beside.passed (with_paths ns) o.it)
    (sym (controller_is kept (with_paths os) (with_paths ns) new.kept b.it.parent d.along.marks (subst (λ n. IsEarlier n b.it.parent) (sym (many_placed ns)) d.early) ∙ ap (is_kept_by new.kept) d.parent))
    (sym (definers_are kept (with_paths os) (with_paths ns) new.kept o.it.reads b.it.reads d.climbs d.along.marks (old_reads os d.beside.passed o cs is d.names) (subst (λ n. ReadsEarlier n b.it.reads) (sym (many_placed ns)) d.early_reads)
    ∙ ap (reads_by new.kept o.it.reads) d.reads))
    refl (untouched_is o.it kept d.beside.passed (with_paths ns) old new os ns d.beside.others d.along.others)
    ∙ sym (ap (λ q. stays_with changes kept (with_paths os) (front b.path (with_paths os)) (with_paths ns) b.it q) found
    ∙ ap (λ l. stays_with changes kept (with_paths os) l (with_paths ns) b.it (Some o)) fronts)

none_stays : (changes : List Change) (os : List Record) (kept : List Path) (ns : List Record) (b : Placed) → at b.path (with_paths os) ≡ None → stays changes kept (with_paths os) (with_paths ns) b ≡ false
none_stays changes os kept ns b h = ap (λ q. stays_with changes kept (with_paths os) (front b.path (with_paths os)) (with_paths ns) b.it q) h

-- what the walk decides is what the rule says
pub decided : (changes : List Change) (os : List Record) (kept : List Path) (ns : List Record) (b : Placed) (more : List Placed) (ahead : Ahead) (old : OldRun) (new : NewRun) → Decides changes os kept ns b more ahead old new
    → stays_at os old new ns ahead ≡ stays changes kept (with_paths os) (with_paths ns) b
decided changes os kept ns b more ahead old new d = by d.beside.coming refl
  where
    lows : Each (λ (a : Placed). is_path a.path b.path ≡ false) d.beside.passed
    lows = all_apart b.path d.beside.passed (old_lower changes os kept b more old d.beside)

    by : (l : List Placed) → d.beside.coming ≡ l
        → stays_at os old new ns ahead ≡ stays changes kept (with_paths os) (with_paths ns) b
    by [] e =
        let all : with_paths os ≡ d.beside.passed = d.beside.split ∙ (ap (λ l. d.beside.passed ++ l) e ∙ append-nil d.beside.passed) in
        ap (λ q. is_in_place q ahead.spot && next_stays os old new ns ahead q (slice_get old.hits old.at)) (none_comes changes os kept (b ∷ more) old d.beside e)
        ∙ sym (none_stays changes os kept ns b (ap (at b.path) all ∙ at_none b.path d.beside.passed lows))
    by (o ∷ cs) e = there (is_path o.path b.path) refl
      where
        path : slice_get (paths os) old.at ≡ Some o.path
        path = first_dropped old.at (paths os) o.path (map (λ (p : Placed). p.path) cs) (coming_paths changes os kept (b ∷ more) old d.beside ∙ ap (map (λ (p : Placed). p.path)) e)

        next : slice_get os old.at ≡ Some o.it
        next = next_is changes os kept (b ∷ more) old o cs d.beside e

        is : with_paths os ≡ d.beside.passed ++ o ∷ cs
        is = d.beside.split ∙ ap (λ l. d.beside.passed ++ l) e

        there : (t : Bool) → is_path o.path b.path ≡ t
            → stays_at os old new ns ahead ≡ stays changes kept (with_paths os) (with_paths ns) b
        there true same =
            ap (λ q. is_in_place q ahead.spot && next_stays os old new ns ahead q (slice_get old.hits old.at)) next
            ∙ (ap (λ t. t && next_stays os old new ns ahead (Some o.it) (slice_get old.hits old.at)) (d.places o next path ∙ same)
            ∙ (ap (λ q. next_stays os old new ns ahead (Some o.it) q)
            (first_dropped old.at old.hits (any_hits changes (map (λ (p : Placed). p.it) d.beside.passed) o.it) (hits_in changes (map (λ (p : Placed). p.it) d.beside.passed ++ o.it ∷ []) (map (λ (p : Placed). p.it) cs))
            (d.beside.hits ∙ ap (λ l. hits_in changes (map (λ (p : Placed). p.it) d.beside.passed) (map (λ (p : Placed). p.it) l)) e))
            ∙ here_is changes os kept ns b more ahead old new d o cs e same))
        there false other =
            let later : IsEarlierPath b.path o.path = after o.path b.path (sym (ap (λ q. is_before q b.path) path) ∙ d.stops) other in
            let rest = (climbs_parts d.beside.passed o cs (subst Climbs is d.climbs)).1 in
            let highs : Each (λ (a : Placed). is_path a.path b.path ≡ false) cs =
            each_map (λ (a : Placed). IsEarlierPath o.path a.path) (λ (a : Placed). is_path a.path b.path ≡ false) cs (λ a k. apart_back b.path a.path (earlier_then b.path o.path a.path later k)) rest in
            ap (λ q. is_in_place q ahead.spot && next_stays os old new ns ahead q (slice_get old.hits old.at)) next
            ∙ (ap (λ t. t && next_stays os old new ns ahead (Some o.it) (slice_get old.hits old.at)) (d.places o next path ∙ other)
            ∙ sym (none_stays changes os kept ns b
            (ap (at b.path) is ∙ at_none b.path (d.beside.passed ++ o ∷ cs) (each_join (λ (a : Placed). is_path a.path b.path ≡ false) d.beside.passed (o ∷ cs) lows (other, highs)))))

-- The old record in the place ahead

pub record Found (changes : List Change) (os : List Record) (kept : List Path) (ns : List Record) (b : Placed) (more : List Placed) (ahead : Ahead) (old : OldRun) (new : NewRun) (d : Decides changes os kept ns b more ahead old new) : Type 0 where
  pub o : Placed
  pub cs : List Placed
  pub coming : d.beside.coming ≡ o ∷ cs
  pub path : o.path ≡ b.path
  pub found : at b.path (with_paths os) ≡ Some o
  pub there : slice_get (with_paths os) old.at ≡ Some o
  pub old_record : slice_get os old.at ≡ Some o.it

pub found_old : (changes : List Change) (os : List Record) (kept : List Path) (ns : List Record) (b : Placed) (more : List Placed) (ahead : Ahead) (old : OldRun) (new : NewRun) → (d : Decides changes os kept ns b more ahead old new)
    → is_in_place (slice_get os old.at) ahead.spot ≡ true → Found changes os kept ns b more ahead old new d
found_old changes os kept ns b more ahead old new d there = by d.beside.coming refl
  where
    by : (l : List Placed) → d.beside.coming ≡ l → Found changes os kept ns b more ahead old new d
    by [] e = absurd (clash (ap (λ q. is_in_place q ahead.spot) (none_comes changes os kept (b ∷ more) old d.beside e)) there)
      where
        clash : is_in_place (slice_get os old.at) ahead.spot ≡ false → is_in_place (slice_get os old.at) ahead.spot ≡ true → ⊥
        clash k l = cc
    by (o ∷ cs) e =
        let path : slice_get (paths os) old.at ≡ Some o.path = first_dropped old.at (paths os) o.path (map (λ (p : Placed). p.path) cs) (coming_paths changes os kept (b ∷ more) old d.beside ∙ ap (map (λ (p : Placed). p.path)) e) in
        let next : slice_get os old.at ≡ Some o.it = next_is changes os kept (b ∷ more) old o cs d.beside e in
        let same : is_path o.path b.path ≡ true = sym (d.places o next path) ∙ (sym (ap (λ q. is_in_place q ahead.spot) next) ∙ there) in
        let is : with_paths os ≡ d.beside.passed ++ o ∷ cs = d.beside.split ∙ ap (λ l. d.beside.passed ++ l) e in
        let past = front_past b.path d.beside.passed o cs (all_apart b.path d.beside.passed (old_lower changes os kept b more old d.beside)) same in
        record {
          o = o;
          cs = cs;
          coming = e;
          path = path_is o.path b.path same;
          found = ap (at b.path) is ∙ past.0;
          there = ap (λ l. slice_get l old.at) is ∙ (ap (slice_get (d.beside.passed ++ o ∷ cs)) d.beside.at ∙ get_last d.beside.passed o cs);
          old_record = next;
        }
