-- The paths that are kept: a record of the new run is among them if and only if it stays with all of them.
use Rattle.std.proofs.Common.{◌≡◌, ℕ, zero, suc, Bool, true, false, not, List, [], ◌∷◌, ◌++◌, Option, Some, None, map, if◌then◌else◌, refl, sym, ap, subst, ◌∙◌, append_assoc, append-nil}
use Rattle.std.specs.Prelude.{◌&&◌, ◌||◌}
use Rattle.std.specs.List.{list_any}
use Rattle.mv_values.proofs.Deciding.{or_none}
use Rattle.mv_record.specs.declared.record.Read.{Read}
use Rattle.mv_record.specs.Paths.{IsEarlierPath}
use Rattle.mv_recorded.specs.Own.{Each}
use Rattle.mv_recorded.proofs.Inverting.{each_map}
use Rattle.mv_history.specs.declared.change.Change.{Change}
use Rattle.mv_history.specs.Hits.{any_hits, touches}
use Rattle.mv_history.specs.Kept.{Path, Placed, is_path, among, at, front, path_at, is_kept, same_path, reads_stay, other_writes, is_untouched, stays_with, stays, keep}
use Rattle.mv_soundness.proofs.Keeping.{Climbs, among_more, among_new}
use Rattle.mv_soundness.proofs.Placing.{path_is, apart, apart_back, not_itself}
use Rattle.mv_soundness.proofs.Walking.{earlier_then, climbs_parts}

-- Step by step

keep_join : (cs : List Change) (os : List Placed) (kept : List Path) (ns xs ys : List Placed) → keep cs os kept ns (xs ++ ys) ≡ keep cs os (keep cs os kept ns xs) (ns ++ xs) ys
keep_join cs os kept ns [] ys = ap (λ l. keep cs os kept l ys) (sym (append-nil ns))
keep_join cs os kept ns (x ∷ xs) ys =
    let next : List Path = if stays cs kept os ns x then kept ++ x.path ∷ [] else kept in
    keep_join cs os next (ns ++ x ∷ []) xs ys ∙ ap (λ l. keep cs os (keep cs os next (ns ++ x ∷ []) xs) l ys) (append_assoc ns (x ∷ []) xs)

among_apart : (kept : List Path) (p q : Path) → is_path q p ≡ false → among (kept ++ p ∷ []) q ≡ among kept q
among_apart kept p q h = among_more kept p q ∙ (ap (λ b. among kept q || b) h ∙ or_none (among kept q))

-- a path that none of the rest has
among_later : (cs : List Change) (os : List Placed) (kept : List Path) (ns rest : List Placed) (q : Path) → Each (λ (b : Placed). is_path q b.path ≡ false) rest → among (keep cs os kept ns rest) q ≡ among kept q
among_later cs os kept ns [] q h = refl
among_later cs os kept ns (b ∷ rest) q h = by (stays cs kept os ns b) (among_later cs os (kept ++ b.path ∷ []) (ns ++ b ∷ []) rest q h.1) (among_later cs os kept (ns ++ b ∷ []) rest q h.1)
  where
    by : (s : Bool) → among (keep cs os (kept ++ b.path ∷ []) (ns ++ b ∷ []) rest) q ≡ among (kept ++ b.path ∷ []) q → among (keep cs os kept (ns ++ b ∷ []) rest) q ≡ among kept q
        → among (keep cs os (if s then kept ++ b.path ∷ [] else kept) (ns ++ b ∷ []) rest) q ≡ among kept q
    by true more same = more ∙ among_apart kept b.path q h.0
    by false more same = same

-- all paths that are kept, and those that are kept of the first records
abbrev pub all_kept : List Change → List Placed → List Placed → List Path
all_kept cs os ns = keep cs os [] [] ns

front_kept : (cs : List Change) (os done : List Placed) (b : Placed) (more : List Placed) (q : Path) → is_path q b.path ≡ false → Each (λ (c : Placed). is_path q c.path ≡ false) more
    → among (all_kept cs os (done ++ b ∷ more)) q ≡ among (all_kept cs os done) q
front_kept cs os done b more q h k = ap (λ l. among l q) (keep_join cs os [] [] done (b ∷ more)) ∙ among_later cs os (all_kept cs os done) done (b ∷ more) q (h, k)

here_kept : (cs : List Change) (os done : List Placed) (b : Placed) (more : List Placed) → Each (λ (a : Placed). is_path b.path a.path ≡ false) done → Each (λ (c : Placed). is_path b.path c.path ≡ false) more
    → among (all_kept cs os (done ++ b ∷ more)) b.path ≡ stays cs (all_kept cs os done) os done b
here_kept cs os done b more h k =
    ap (λ l. among l b.path) (keep_join cs os [] [] done (b ∷ more))
    ∙ by (stays cs (all_kept cs os done) os done b)
  where
    by : (s : Bool) → among (keep cs os (if s then all_kept cs os done ++ b.path ∷ [] else all_kept cs os done) (done ++ b ∷ []) more) b.path ≡ s
    by true = among_later cs os (all_kept cs os done ++ b.path ∷ []) (done ++ b ∷ []) more b.path k ∙ among_new (all_kept cs os done) b.path
    by false = among_later cs os (all_kept cs os done) (done ++ b ∷ []) more b.path k ∙ among_later cs os [] [] done b.path h

-- Paths that agree

abbrev Agree : List Path → List Path → List Placed → Type 0
Agree j k xs = Each (λ (a : Placed). among j a.path ≡ among k a.path) xs

kept_at : (j k : List Path) (xs : List Placed) (n : ℕ) → Agree j k xs → is_kept j (path_at xs (Some n)) ≡ is_kept k (path_at xs (Some n))
kept_at j k [] n h = refl
kept_at j k (x ∷ xs) zero h = h.0
kept_at j k (x ∷ xs) (suc n) h = kept_at j k xs n h.1

kept_alike : (j k : List Path) (xs : List Placed) (n : Option ℕ) → Agree j k xs → is_kept j (path_at xs n) ≡ is_kept k (path_at xs n)
kept_alike j k xs None h = refl
kept_alike j k xs (Some n) h = kept_at j k xs n h

reads_alike : (j k : List Path) (os : List Placed) (as' : List Read) (ns : List Placed) (bs : List Read) → Agree j k ns → reads_stay j os as' ns bs ≡ reads_stay k os as' ns bs
reads_alike j k os [] ns [] h = refl
reads_alike j k os [] ns (b ∷ bs) h = refl
reads_alike j k os (a ∷ as') ns [] h = refl
reads_alike j k os (a ∷ as') ns (b ∷ bs) h =
    ap (λ x. same_path (path_at os a.definer) (path_at ns b.definer) && (x && reads_stay j os as' ns bs)) (kept_alike j k ns b.definer h)
    ∙ ap (λ x. same_path (path_at os a.definer) (path_at ns b.definer) && (is_kept k (path_at ns b.definer) && x)) (reads_alike j k os as' ns bs h)

others_alike : (j k : List Path) (xs : List Placed) → Agree j k xs → other_writes j xs ≡ other_writes k xs
others_alike j k [] h = refl
others_alike j k (x ∷ xs) h =
    ap (λ b. (if b then [] else x.it.writes) ++ other_writes j xs) h.0 ∙ ap (λ ws. (if among k x.path then [] else x.it.writes) ++ ws) (others_alike j k xs h.1)

-- the record with a path, and those before it
pub at_split : (p : Path) (xs : List Placed) (o : Placed) → at p xs ≡ Some o → (back : List Placed) × (xs ≡ front p xs ++ o ∷ back) × (o.path ≡ p)
at_split p [] o h = cc
at_split p (x ∷ xs) o h = by (λ k. at_split p xs o k) (is_path x.path p) refl h
  where
    by : (at p xs ≡ Some o → (back : List Placed) × (xs ≡ front p xs ++ o ∷ back) × (o.path ≡ p)) → (b : Bool) → is_path x.path p ≡ b → (if b then Some x else at p xs) ≡ Some o
        → (back : List Placed) × (x ∷ xs ≡ (if b then [] else x ∷ front p xs) ++ o ∷ back) × (o.path ≡ p)
    by go true e k = let same : x ≡ o = cc in (xs, ap (λ z. z ∷ xs) same, sym (ap (λ (z : Placed). z.path) same) ∙ path_is x.path p e)
    by go false e k = let it = go k in (it.0, ap (λ l. x ∷ l) it.1, it.2)

-- the records before it are earlier
earlier_front : (p : Path) (os : List Placed) (o : Placed) → Climbs os → at p os ≡ Some o → Each (λ (a : Placed). IsEarlierPath a.path p) (front p os)
earlier_front p os o climbs h =
    let it = at_split p os o h in
    subst (λ q. Each (λ (a : Placed). IsEarlierPath a.path q) (front p os)) it.2 (climbs_parts (front p os) o it.0 (subst Climbs it.1 climbs)).0

-- All kept paths

module _ (cs : List Change) (os done : List Placed) (b : Placed) (more : List Placed) (climbs : Climbs os) (rises : Climbs (done ++ b ∷ more)) where
  abbrev K : List Path
  K = all_kept cs os (done ++ b ∷ more)

  later : Each (λ (c : Placed). IsEarlierPath b.path c.path) more
  later = (climbs_parts done b more rises).1

  earlier : Each (λ (a : Placed). IsEarlierPath a.path b.path) done
  earlier = (climbs_parts done b more rises).0

  -- an earlier path is kept if it is kept of the first records
  pub early_kept : (q : Path) → IsEarlierPath q b.path → among (all_kept cs os (done ++ b ∷ more)) q ≡ among (all_kept cs os done) q
  early_kept q h =
      front_kept cs os done b more q (apart q b.path h)
      (each_map (λ (c : Placed). IsEarlierPath b.path c.path) (λ (c : Placed). is_path q c.path ≡ false) more (λ c k. apart q c.path (earlier_then q b.path c.path h k)) later)

  agree : (xs : List Placed) → Each (λ (a : Placed). IsEarlierPath a.path b.path) xs → Agree (all_kept cs os (done ++ b ∷ more)) (all_kept cs os done) xs
  agree xs h = each_map (λ (a : Placed). IsEarlierPath a.path b.path) (λ (a : Placed). among (all_kept cs os (done ++ b ∷ more)) a.path ≡ among (all_kept cs os done) a.path) xs (λ a k. early_kept a.path k) h

  stays_alike : (o : Option Placed) → at b.path os ≡ o
      → stays_with cs (all_kept cs os done) os (front b.path os) done b.it o ≡ stays_with cs (all_kept cs os (done ++ b ∷ more)) os (front b.path os) done b.it o
  stays_alike None e = refl
  stays_alike (Some o) e =
      let j : List Path = all_kept cs os (done ++ b ∷ more) in
      let k : List Path = all_kept cs os done in
      let here : Agree j k done = agree done earlier in
      let there : Agree j k (front b.path os) = agree (front b.path os) (earlier_front b.path os o climbs e) in
      let hit : Bool = any_hits cs (map (λ (p : Placed). p.it) (front b.path os)) o.it in
      sym (ap (λ x. x && (reads_stay j os o.it.reads done b.it.reads && (not hit && is_untouched j (front b.path os) done o.it))) (kept_alike j k done b.it.parent here)
      ∙ (ap (λ x. is_kept k (path_at done b.it.parent) && (x && (not hit && is_untouched j (front b.path os) done o.it))) (reads_alike j k os o.it.reads done b.it.reads here)
      ∙ (ap (λ ws. is_kept k (path_at done b.it.parent) && (reads_stay k os o.it.reads done b.it.reads && (not hit && not (list_any (touches o.it) (ws ++ other_writes j done))))) (others_alike j k (front b.path os) there)
      ∙ ap (λ ws. is_kept k (path_at done b.it.parent) && (reads_stay k os o.it.reads done b.it.reads && (not hit && not (list_any (touches o.it) (other_writes k (front b.path os) ++ ws))))) (others_alike j k done here))))

  -- a record is kept if and only if it stays
  pub fixed : among (all_kept cs os (done ++ b ∷ more)) b.path ≡ stays cs (all_kept cs os (done ++ b ∷ more)) os done b
  fixed =
      here_kept cs os done b more
      (each_map (λ (a : Placed). IsEarlierPath a.path b.path) (λ (a : Placed). is_path b.path a.path ≡ false) done (λ a k. apart_back a.path b.path k) earlier)
      (each_map (λ (c : Placed). IsEarlierPath b.path c.path) (λ (c : Placed). is_path b.path c.path ≡ false) more (λ c k. apart b.path c.path k) later)
      ∙ stays_alike (at b.path os) refl

  -- the kept paths of one record more
  pub one_more : all_kept cs os (done ++ b ∷ []) ≡ (if among (all_kept cs os (done ++ b ∷ more)) b.path then all_kept cs os done ++ b.path ∷ [] else all_kept cs os done)
  one_more =
      keep_join cs os [] [] done (b ∷ [])
      ∙ ap (λ s. if s then all_kept cs os done ++ b.path ∷ [] else all_kept cs os done) (stays_alike (at b.path os) refl ∙ sym fixed)

  -- a path before this record's isn't kept, if each kept path of the records before is earlier than it
  pub not_kept : (q : Path) → IsEarlierPath q b.path → Each (λ (d : Placed). among (all_kept cs os (done ++ b ∷ more)) d.path ≡ true → IsEarlierPath d.path q) done
      → among (all_kept cs os (done ++ b ∷ more)) q ≡ false
  not_kept q h k = by (among (all_kept cs os (done ++ b ∷ more)) q) refl
    where
      differs : among K q ≡ true → (d : Placed) → (among K d.path ≡ true → IsEarlierPath d.path q) → is_path q d.path ≡ false
      differs e d f = on (is_path q d.path) refl
        where
          on : (x : Bool) → is_path q d.path ≡ x → is_path q d.path ≡ false
          on false g = g
          on true g =
              let same : q ≡ d.path = path_is q d.path g in
              absurd (not_itself d.path q (sym same) (f (subst (λ z. among K z ≡ true) same e)))

      by : (x : Bool) → among K q ≡ x → among K q ≡ false
      by false e = e
      by true e =
          early_kept q h
          ∙ among_later cs os [] [] done q
          (each_map (λ (d : Placed). among K d.path ≡ true → IsEarlierPath d.path q) (λ (d : Placed). is_path q d.path ≡ false) done (λ d f. differs e d f) k)
