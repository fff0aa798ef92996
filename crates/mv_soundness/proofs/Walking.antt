-- The rule, record by record of the new run, with the old run's records up to the last one that is kept beside it.
use Rattle.std.proofs.Common.{◌≡◌, ◌≤◌, ℕ, suc, ◌+◌, Bool, true, false, List, [], ◌∷◌, ◌++◌, Option, Some, None, map, length, arith, if◌then◌else◌, refl, sym, ap, subst, ◌∙◌, append_assoc, append-nil}
use Rattle.std.specs.Prelude.{◌||◌, slice_get}
use Rattle.std.specs.Option.{option_map}
use Rattle.std.proofs.lemmas.Cmp.{nat_list_cmp_total}
use Rattle.std.proofs.lemmas.Bool.{and_parts}
use Rattle.mv_values.specs.Tables.{Tables}
use Rattle.mv_soundness.proofs.Definers.{front_get}
use Rattle.mv_record.specs.declared.record.Read.{Read}
use Rattle.mv_record.specs.declared.record.Record.{Record}
use Rattle.mv_record.specs.declared.record.Spot.{Spot}
use Rattle.mv_record.specs.Paths.{IsEarlierPath}
use Rattle.mv_record.specs.Runs.{writes_in, IsEarlier, ReadsEarlier, NamesEarlier}
use Rattle.mv_history.specs.declared.change.Change.{Change}
use Rattle.mv_history.specs.Changes.{Covers}
use Rattle.mv_history.specs.Kept.{Path, Placed, with_paths, is_path, among, at, front, is_kept, path_at, same_path, reads_stay, other_writes, stays_with, stays, keep}
use Rattle.mv_recorded.specs.Own.{Each, Stated, Ground, IsOwn, AllOwn}
use Rattle.mv_recorded.specs.Reading.{expressions, read_variables, definer}
use Rattle.mv_recorded.specs.Posts.{IsRecordAt, path_above}
use Rattle.mv_recorded.proofs.Held.{get_front, get_last}
use Rattle.mv_recorded.proofs.Inverting.{each_join, each_both, each_map}
use Rattle.mv_soundness.specs.Laws.{AreAlike}
use Rattle.mv_soundness.proofs.Seeing.{Merged, hits_by}
use Rattle.mv_soundness.proofs.Placing.{its, its_all, own_at, is_at, at_paths, same_statement, path_is, apart, apart_back}
use Rattle.mv_soundness.proofs.Keeping.{Climbs, Sides, Aligned, stay, come, ends, aligned_join, all_gone, aligned_more, among_new, each_get, touch_parts, kept_same, merged_of, distinct, Partner, partner}
use Rattle.mv_soundness.proofs.Lasting.{Lasting, front_lasts, Untouched, untouched, own_same}

-- Lists

its_both : (xs ys : List Placed) → its (xs ++ ys) ≡ its xs ++ its ys
its_both [] ys = refl
its_both (x ∷ xs) ys = ap (λ l. x.it ∷ l) (its_both xs ys)

pub earlier_then : (a b c : Path) → IsEarlierPath a b → IsEarlierPath b c → IsEarlierPath a c
earlier_then a b c h k = nat_list_cmp_total.trans a b c h k

-- in a list whose paths climb: those in front of one are earlier, those behind it later
pub climbs_parts : (xs : List Placed) (o : Placed) (ys : List Placed) → Climbs (xs ++ o ∷ ys) → Each (λ (a : Placed). IsEarlierPath a.path o.path) xs × Each (λ (b : Placed). IsEarlierPath o.path b.path) ys
climbs_parts [] o ys h = (tt, h.0)
climbs_parts (x ∷ xs) o ys h =
    let rest = climbs_parts xs o ys h.1 in
    (((each_both (λ (b : Placed). IsEarlierPath x.path b.path) xs (o ∷ ys) h.0).1.0, rest.0), rest.1)

climbs_over : (xs ys : List Placed) → Climbs (xs ++ ys) → Each (λ (a : Placed). Each (λ (b : Placed). IsEarlierPath a.path b.path) ys) xs
climbs_over [] ys h = tt
climbs_over (x ∷ xs) ys h = ((each_both (λ (b : Placed). IsEarlierPath x.path b.path) xs ys h.0).1, climbs_over xs ys h.1)

-- the record of a path, and those in front
at_split : (p : Path) (xs : List Placed) (o : Placed) → at p xs ≡ Some o → (back : List Placed) × (xs ≡ front p xs ++ o ∷ back) × (o.path ≡ p)
at_split p [] o h = cc
at_split p (x ∷ xs) o h = by (λ k. at_split p xs o k) (is_path x.path p) refl h
  where
    by : (at p xs ≡ Some o → (back : List Placed) × (xs ≡ front p xs ++ o ∷ back) × (o.path ≡ p)) → (b : Bool) → is_path x.path p ≡ b → (if b then Some x else at p xs) ≡ Some o
        → (back : List Placed) × (x ∷ xs ≡ (if b then [] else x ∷ front p xs) ++ o ∷ back) × (o.path ≡ p)
    by go true e k = let same : x ≡ o = cc in (xs, ap (λ z. z ∷ xs) same, sym (ap (λ (z : Placed). z.path) same) ∙ path_is x.path p e)
    by go false e k = let it = go k in (it.0, ap (λ l. x ∷ l) it.1, it.2)

pub at_past : (p : Path) (xs ys : List Placed) → Each (λ (a : Placed). is_path a.path p ≡ false) xs → (at p (xs ++ ys) ≡ at p ys) × (front p (xs ++ ys) ≡ xs ++ front p ys)
at_past p [] ys h = (refl, refl)
at_past p (x ∷ xs) ys h =
    let rest = at_past p xs ys h.1 in
    (ap (λ b. if b then Some x else at p (xs ++ ys)) h.0 ∙ rest.0, ap (λ b. if b then [] else x ∷ front p (xs ++ ys)) h.0 ∙ ap (λ l. x ∷ l) rest.1)

-- each kept path is one of these records'
abbrev InDone : List Path → List Placed → Type 0
InDone kept xs = Each (λ p. (d : ℕ) × (a : Placed) × (slice_get xs d ≡ Some a) × (a.path ≡ p)) kept

done_more : (kept : List Path) (xs more : List Placed) → InDone kept xs → InDone kept (xs ++ more)
done_more [] xs more h = tt
done_more (p ∷ ps) xs more h = ((h.0.0, h.0.1, front_get xs more h.0.0 h.0.1 h.0.2, h.0.3), done_more ps xs more h.1)

done_new : (kept : List Path) (xs : List Placed) (o : Placed) (p : Path) → o.path ≡ p → InDone kept xs → InDone (kept ++ p ∷ []) (xs ++ o ∷ [])
done_new [] xs o p same h = ((length xs, o, get_last xs o [], same), tt)
done_new (q ∷ qs) xs o p same h = ((h.0.0, h.0.1, front_get xs (o ∷ []) h.0.0 h.0.1 h.0.2, h.0.3), done_new qs xs o p same h.1)

-- a path behind all of these records isn't kept
not_kept : (kept : List Path) (xs : List Placed) (p : Path) → InDone kept xs → Each (λ (a : Placed). IsEarlierPath a.path p) xs → among kept p ≡ false
not_kept [] xs p h k = refl
not_kept (q ∷ qs) xs p h k =
    let it = h.0 in
    let lt : IsEarlierPath it.1.path p = each_get (λ (a : Placed). IsEarlierPath a.path p) xs it.0 it.1 k it.2 in
    ap (λ b. b || among qs p) (apart_back q p (subst (λ z. IsEarlierPath z p) it.3 lt)) ∙ not_kept qs xs p h.1 k

-- Names

slots_of : (f : ℕ → Option ℕ) (xs : List ℕ) → map (λ (x : Read). x.slot) (map (λ x. record { slot = x; definer = f x }) xs) ≡ xs
slots_of f [] = refl
slots_of f (x ∷ xs) = ap (λ l. x ∷ l) (slots_of f xs)

-- what the own record of a statement reads
own_reads : {g : Ground} {before : List Record} {r : Record} → (a : IsOwn g before r) → map (λ (x : Read). x.slot) r.reads ≡ read_variables g.params (expressions a.s.it)
own_reads {g} {before} {r} a =
    ap (λ (q : Record). map (λ (x : Read). x.slot) q.reads) a.is ∙ slots_of (definer a.site.loops before) (read_variables g.params (expressions a.s.it))

same_paths : (a b : Option Path) → same_path a b ≡ true → a ≡ b
same_paths None None h = refl
same_paths (Some p) (Some q) h = ap Some (path_is p q h)
same_paths None (Some q) h = cc
same_paths (Some p) None h = cc

same_definers : (kept : List Path) (os : List Placed) (xs : List Read) (ns : List Placed) (ys : List Read) → reads_stay kept os xs ns ys ≡ true
    → map (λ (x : Read). path_at os x.definer) xs ≡ map (λ (y : Read). path_at ns y.definer) ys
same_definers kept os [] ns [] h = refl
same_definers kept os (x ∷ xs) ns (y ∷ ys) h =
    let a = and_parts (same_path (path_at os x.definer) (path_at ns y.definer)) _ h in
    let b = and_parts (is_kept kept (path_at ns y.definer)) _ a.1 in
    ap (λ p. p ∷ map (λ (x : Read). path_at os x.definer) xs) (same_paths (path_at os x.definer) (path_at ns y.definer) a.0)
    ∙ ap (λ l. path_at ns y.definer ∷ l) (same_definers kept os xs ns ys b.1)
same_definers kept os [] ns (y ∷ ys) h = cc
same_definers kept os (x ∷ xs) ns [] h = cc

-- earlier records are among the first ones
early_path : (fn more : List Placed) (n : Option ℕ) → IsEarlier (length fn) n → path_at fn n ≡ path_at (fn ++ more) n
early_path fn more None h = refl
early_path fn more (Some m) h = ap (option_map (λ (r : Placed). r.path)) (sym (get_front fn more m h))

early_paths : (fn more : List Placed) (xs : List Read) → ReadsEarlier (length fn) xs → map (λ (x : Read). path_at fn x.definer) xs ≡ map (λ (x : Read). path_at (fn ++ more) x.definer) xs
early_paths fn more [] h = refl
early_paths fn more (x ∷ xs) h = ap (λ p. p ∷ map (λ (x : Read). path_at fn x.definer) xs) (early_path fn more x.definer h.0) ∙ ap (λ l. path_at (fn ++ more) x.definer ∷ l) (early_paths fn more xs h.1)

reads_behind : (n : ℕ) (xs : List Record) (r : Record) (ys : List Record) → NamesEarlier n (xs ++ r ∷ ys) → ReadsEarlier (n + length xs) r.reads
reads_behind n [] r ys h = subst (λ m. ReadsEarlier m r.reads) (let e : n ≡ n + 0 = omega arith in e) h.1
reads_behind n (x ∷ xs) r ys h = subst (λ m. ReadsEarlier m r.reads) (let e : (n + 1) + length xs ≡ n + suc (length xs) = omega arith in e) (reads_behind (n + 1) xs r ys h.2)

reads_at : (ns xs : List Record) (r : Record) (ys : List Record) → ns ≡ xs ++ r ∷ ys → (n : ℕ) → length xs ≡ n → NamesEarlier 0 ns → ReadsEarlier n r.reads
reads_at ns xs r ys is n long h = subst (λ m. ReadsEarlier m r.reads) (let e : 0 + length xs ≡ n = omega (arith, long) in e) (reads_behind 0 xs r ys (subst (NamesEarlier 0) is h))

its_long : (xs : List Placed) → length (its xs) ≡ length xs
its_long [] = refl
its_long (x ∷ xs) = ap suc (its_long xs)

-- The walk

-- the two whole runs
abbrev pub sides : List Record → List Record → Sides
sides os ns = record { old = with_paths os; new = with_paths ns }

-- what is known of two runs
pub record WalksAlong (g : Ground) (new : Tables) (changes : List Change) (os ns : List Record) : Type 0 where
  pub below : g.params ≤ g.base
  pub lasts : Lasting g.tables g.db [] os
  pub nlasts : Lasting g.tables new [] ns
  pub covers : Covers changes g.db new
  pub old : AllOwn g [] os
  pub own : AllOwn (record g { db = new }) [] ns
  pub places : (i j : ℕ) (o r : Record) (p q : Path) → IsRecordAt os i o p → IsRecordAt ns j r q → p ≡ q → (o.spot ≡ r.spot) × (path_above os o ≡ path_above ns r)
  pub names : NamesEarlier 0 ns
  pub climbs : Climbs (with_paths os)
  pub nclimbs : Climbs (with_paths ns)

-- one record that stays
stays_same : (g : Ground) (new : Tables) (changes : List Change) (os ns : List Record) (kept : List Path) (fo : List Placed) (o : Placed) (bo fn : List Placed) (r : Placed) (bn : List Placed) → WalksAlong g new changes os ns
    → with_paths os ≡ fo ++ o ∷ bo → with_paths ns ≡ fn ++ r ∷ bn → o.path ≡ r.path → Aligned (sides os ns) kept fo fn → stays_with changes kept (with_paths os) fo fn r.it (Some o) ≡ true → AreAlike (with_paths os) (with_paths ns) o.it r.it
stays_same g new changes os ns kept fo o bo fn r bn runs is are same aligned h =
    let k : Ground = record g { db = new } in
    let olds : os ≡ its fo ++ o.it ∷ its bo = sym (its_all os) ∙ (ap its is ∙ its_both fo (o ∷ bo)) in
    let news : ns ≡ its fn ++ r.it ∷ its bn = sym (its_all ns) ∙ (ap its are ∙ its_both fn (r ∷ bn)) in
    let u : Sides = sides os ns in
    let a : IsOwn g (its fo) o.it = own_at g [] (its fo) o.it (its bo) (subst (AllOwn g []) olds runs.old) in
    let b : IsOwn k (its fn) r.it = own_at k [] (its fn) r.it (its bn) (subst (AllOwn k []) news runs.own) in
    let places = runs.places (length fo) (length fn) o.it r.it o.path r.path (is_at os fo o bo is) (is_at ns fn r bn are) same in
    let place : o.it.spot ≡ r.it.spot = places.0 in
    let number : a.n ≡ b.n = sym (ap (λ (q : Record). q.spot.statement) a.is) ∙ (ap (λ (s : Spot). s.statement) place ∙ ap (λ (q : Record). q.spot.statement) b.is) in
    let turns : a.site.turns ≡ b.site.turns = sym (ap (λ (q : Record). q.spot.turns) a.is) ∙ (ap (λ (s : Spot). s.turns) place ∙ ap (λ (q : Record). q.spot.turns) b.is) in
    let s = and_parts (is_kept kept (path_at fn r.it.parent)) _ h in
    let t = and_parts (reads_stay kept (with_paths os) o.it.reads fn r.it.reads) _ s.1 in
    let free : Each (Untouched (its fo) changes (other_writes kept fo ++ other_writes kept fn)) o.it.preds = untouched (its fo) changes (other_writes kept fo ++ other_writes kept fn) o.it t.1 in
    let statement : a.s ≡ b.s = same_statement g.text a.n b.n a.s b.s number a.stands b.stands in
    record {
      effect = own_same g new changes kept fo (o ∷ bo) fn o.it r.it runs.below (front_lasts g.tables g.db os (its fo) (o.it ∷ its bo) olds runs.lasts) (front_lasts g.tables new ns (its fn) (r.it ∷ its bn) news runs.nlasts) runs.covers a b a.s a.n a.site a.st a.stands a.suits a.here a.is statement turns
          (kept_same u kept fo (o ∷ bo) fn (subst Climbs is runs.climbs) aligned) (subst (λ l. reads_stay kept l o.it.reads fn r.it.reads ≡ true) is t.0)
          (each_map (Untouched (its fo) changes (other_writes kept fo ++ other_writes kept fn)) (λ p. Each (λ c. hits_by (writes_in (its fo)) c p ≡ false) changes × Merged p (writes_in (its fo)) (writes_in (its fn))) o.it.preds
          (λ p v. let ws = touch_parts p (other_writes kept fo) (other_writes kept fn) v.1 in (v.0, merged_of p u kept fo fn aligned ws.0 ws.1)) free);
      above = sym (at_paths os o.it.parent) ∙ (places.1 ∙ at_paths ns r.it.parent);
      variables = own_reads a ∙ (ap (λ (s : Stated). read_variables g.params (expressions s.it)) statement ∙ sym (own_reads b));
      definers = same_definers kept (with_paths os) o.it.reads fn r.it.reads t.0
          ∙ (early_paths fn (r ∷ bn) r.it.reads (reads_at ns (its fn) r.it (its bn) news (length fn) (its_long fn) runs.names) ∙ ap (λ l. map (λ (x : Read). path_at l x.definer) r.it.reads) (sym are));
    }

-- where the walk has come to
pub record Stage (u : Sides) (kept : List Path) (done rest fn bn : List Placed) : Type 0 where
  pub split : u.old ≡ done ++ rest
  pub aligned : Aligned u kept done fn
  pub below : Each (λ (a : Placed). Each (λ (b : Placed). IsEarlierPath a.path b.path) bn) done
  pub listed : InDone kept done

below_tail : (r : Placed) (bn xs : List Placed) → Each (λ (a : Placed). Each (λ (b : Placed). IsEarlierPath a.path b.path) (r ∷ bn)) xs → Each (λ (a : Placed). IsEarlierPath a.path r.path) xs × Each (λ (a : Placed). Each (λ (b : Placed). IsEarlierPath a.path b.path) bn) xs
below_tail r bn [] h = (tt, tt)
below_tail r bn (x ∷ xs) h = let rest = below_tail r bn xs h.1 in ((h.0.0, rest.0), (h.0.1, rest.1))

below_all : (p : Path) (bn : List Placed) (xs : List Placed) → Each (λ (a : Placed). IsEarlierPath a.path p) xs → Each (λ (b : Placed). IsEarlierPath p b.path) bn → Each (λ (a : Placed). Each (λ (b : Placed). IsEarlierPath a.path b.path) bn) xs
below_all p bn [] h k = tt
below_all p bn (x ∷ xs) h k = (one bn k, below_all p bn xs h.1 k)
  where
    one : (bs : List Placed) → Each (λ (b : Placed). IsEarlierPath p b.path) bs → Each (λ (b : Placed). IsEarlierPath x.path b.path) bs
    one [] k = tt
    one (b ∷ bs) k = (earlier_then x.path p b.path h.0 k.0, one bs k.1)

each_weak : (P Q : Placed → Type 0) (xs : List Placed) → ((a : Placed) → P a → Q a) → Each P xs → Each Q xs
each_weak P Q [] f h = tt
each_weak P Q (x ∷ xs) f h = (f x h.0, each_weak P Q xs f h.1)

-- the paths of the new run are not those of its earlier ones
goes : (u : Sides) (kept : List Path) (done rest fn : List Placed) (r : Placed) (bn : List Placed) → Stage u kept done rest fn (r ∷ bn) → Stage u kept done rest (fn ++ r ∷ []) bn
goes u kept done rest fn r bn s =
    let parts = below_tail r bn done s.below in
    record {
      split = s.split;
      aligned = subst (λ l. Aligned u kept l (fn ++ r ∷ [])) (append-nil done) (aligned_join u kept done fn [] (r ∷ []) s.aligned (come r [] [] (not_kept kept done r.path s.listed parts.0) ends));
      below = parts.1;
      listed = s.listed;
    }

mid_not : (kept : List Path) (done mid : List Placed) → InDone kept done → Each (λ (a : Placed). Each (λ (b : Placed). IsEarlierPath a.path b.path) mid) done → Each (λ (b : Placed). among kept b.path ≡ false) mid
mid_not kept done [] h k = tt
mid_not kept done (m ∷ mid) h k = let parts = below_tail m mid done k in (not_kept kept done m.path h parts.0, mid_not kept done mid h parts.1)

each_over : (xs ys zs : List Placed) → Each (λ (a : Placed). Each (λ (b : Placed). IsEarlierPath a.path b.path) (ys ++ zs)) xs → Each (λ (a : Placed). Each (λ (b : Placed). IsEarlierPath a.path b.path) ys) xs
each_over [] ys zs h = tt
each_over (x ∷ xs) ys zs h = ((each_both (λ (b : Placed). IsEarlierPath x.path b.path) ys zs h.0).0, each_over xs ys zs h.1)

-- a record that stays
stage_on : (g : Ground) (new : Tables) (changes : List Change) (os ns : List Record) (kept : List Path) (done rest fn : List Placed) (r : Placed) (bn : List Placed) (o : Placed) → WalksAlong g new changes os ns → with_paths ns ≡ fn ++ r ∷ bn
    → Stage (sides os ns) kept done rest fn (r ∷ bn) → at r.path (with_paths os) ≡ Some o → stays_with changes kept (with_paths os) (front r.path (with_paths os)) fn r.it (Some o) ≡ true
    → (d : List Placed) × (b : List Placed) × Stage (sides os ns) (kept ++ r.path ∷ []) d b (fn ++ r ∷ []) bn
stage_on g new changes os ns kept done rest fn r bn o runs are s found h =
    let u : Sides = sides os ns in
    let lower = below_tail r bn done s.below in
    let past = at_past r.path done rest (each_weak (λ (a : Placed). IsEarlierPath a.path r.path) (λ (a : Placed). is_path a.path r.path ≡ false) done (λ a lt. apart a.path r.path lt) lower.0) in
    let split = at_split r.path rest o (sym past.0 ∙ (sym (ap (at r.path) s.split) ∙ found)) in
    let mid : List Placed = front r.path rest in
    let fo : List Placed = done ++ mid in
    let bo : List Placed = split.0 in
    let is : with_paths os ≡ fo ++ o ∷ bo = s.split ∙ (ap (λ l. done ++ l) split.1 ∙ sym (append_assoc done mid (o ∷ bo))) in
    let climbs : Climbs (fo ++ o ∷ bo) = subst Climbs is runs.climbs in
    let nclimbs : Climbs (fn ++ r ∷ bn) = subst Climbs are runs.nclimbs in
    let front_is : front r.path (with_paths os) ≡ fo = ap (front r.path) s.split ∙ past.1 in
    let over = each_over done mid (o ∷ bo) (climbs_over done (mid ++ o ∷ bo) (subst Climbs (append_assoc done mid (o ∷ bo)) climbs)) in
    let aligned : Aligned u kept fo fn = subst (Aligned u kept fo) (append-nil fn) (aligned_join u kept done fn mid [] s.aligned (all_gone u kept mid (mid_not kept done mid s.listed over))) in
    let alike : AreAlike (with_paths os) (with_paths ns) o.it r.it =
    stays_same g new changes os ns kept fo o bo fn r bn runs is are split.2 aligned (subst (λ l. stays_with changes kept (with_paths os) l fn r.it (Some o) ≡ true) front_is h) in
    let before = climbs_parts fo o bo climbs in
    let nbefore = climbs_parts fn r bn nclimbs in
    let lower' : Each (λ (a : Placed). IsEarlierPath a.path r.path) fo = each_weak (λ (a : Placed). IsEarlierPath a.path o.path) (λ (a : Placed). IsEarlierPath a.path r.path) fo (λ a lt. subst (IsEarlierPath a.path) split.2 lt) before.0 in
    let more : Aligned u (kept ++ r.path ∷ []) fo fn = aligned_more u kept r.path fo fn (each_weak (λ (a : Placed). IsEarlierPath a.path r.path) (λ (a : Placed). is_path a.path r.path ≡ false) fo (λ a lt. apart a.path r.path lt) lower')
    (each_weak (λ (a : Placed). IsEarlierPath a.path r.path) (λ (a : Placed). is_path a.path r.path ≡ false) fn (λ a lt. apart a.path r.path lt) nbefore.0) aligned in (
      fo ++ o ∷ [],
      bo,
      record {
        split = is ∙ sym (append_assoc fo (o ∷ []) bo);
        aligned = aligned_join u (kept ++ r.path ∷ []) fo fn (o ∷ []) (r ∷ []) more (stay o r [] [] split.2 (among_new kept r.path) alike ends);
        below = each_join (λ (a : Placed). Each (λ (b : Placed). IsEarlierPath a.path b.path) bn) fo (o ∷ []) (below_all r.path bn fo lower' nbefore.1)
            (each_weak (λ (b : Placed). IsEarlierPath r.path b.path) (λ (b : Placed). IsEarlierPath o.path b.path) bn (λ b lt. subst (λ p. IsEarlierPath p b.path) (sym split.2) lt) nbefore.1, tt);
        listed = done_new kept fo o r.path split.2 (done_more kept done mid s.listed);
      },
    )

-- the walk over some records, behind which others come
pub walked : (g : Ground) (new : Tables) (changes : List Change) (os ns : List Record) (mid bn fn : List Placed) (kept : List Path) (done rest : List Placed) → WalksAlong g new changes os ns → with_paths ns ≡ fn ++ (mid ++ bn)
    → Stage (sides os ns) kept done rest fn (mid ++ bn) → (d : List Placed) × (b : List Placed) × Stage (sides os ns) (keep changes (with_paths os) kept fn mid) d b (fn ++ mid) bn
walked g new changes os ns [] bn fn kept done rest runs are s = (done, rest, subst (λ l. Stage (sides os ns) kept done rest l bn) (sym (append-nil fn)) s)
walked g new changes os ns (r ∷ mid) bn fn kept done rest runs are s =
    by (λ kept done rest s. let it = walked g new changes os ns mid bn (fn ++ r ∷ []) kept done rest runs (are ∙ sym (append_assoc fn (r ∷ []) (mid ++ bn))) s in
    (it.0, it.1, subst (λ l. Stage (sides os ns) (keep changes (with_paths os) kept (fn ++ r ∷ []) mid) it.0 it.1 l bn) (append_assoc fn (r ∷ []) mid) it.2)) (stays changes kept (with_paths os) fn r) refl
  where
    found : (q : Option Placed) → at r.path (with_paths os) ≡ q → stays_with changes kept (with_paths os) (front r.path (with_paths os)) fn r.it q ≡ true
        → (d : List Placed) × (b : List Placed) × Stage (sides os ns) (kept ++ r.path ∷ []) d b (fn ++ r ∷ []) (mid ++ bn)
    found None is h = cc
    found (Some o) is h = stage_on g new changes os ns kept done rest fn r (mid ++ bn) o runs are s is h

    by : ((kept : List Path) (done rest : List Placed) → Stage (sides os ns) kept done rest (fn ++ r ∷ []) (mid ++ bn)
        → (d : List Placed) × (b : List Placed) × Stage (sides os ns) (keep changes (with_paths os) kept (fn ++ r ∷ []) mid) d b (fn ++ r ∷ mid) bn)
        → (t : Bool) → stays changes kept (with_paths os) fn r ≡ t
        → (d : List Placed) × (b : List Placed) × Stage (sides os ns) (keep changes (with_paths os) (if t then kept ++ r.path ∷ [] else kept) (fn ++ r ∷ []) mid) d b (fn ++ r ∷ mid) bn
    by go false is = go kept done rest (goes (sides os ns) kept done rest fn r (mid ++ bn) s)
    by go true is = let on = found (at r.path (with_paths os)) refl is in go (kept ++ r.path ∷ []) on.0 on.1 on.2

-- the next record, where it stays
pub next_stays : (g : Ground) (new : Tables) (changes : List Change) (os ns : List Record) (fn : List Placed) (r : Placed) (bn : List Placed) → WalksAlong g new changes os ns → with_paths ns ≡ fn ++ r ∷ bn
    → (o : Placed) → at r.path (with_paths os) ≡ Some o → stays changes (keep changes (with_paths os) [] [] fn) (with_paths os) fn r ≡ true → AreAlike (with_paths os) (with_paths ns) o.it r.it
next_stays g new changes os ns fn r bn runs are o found h =
    let kept : List Path = keep changes (with_paths os) [] [] fn in
    let walk = walked g new changes os ns fn (r ∷ bn) [] [] [] (with_paths os) runs are (record { split = refl; aligned = ends; below = tt; listed = tt }) in
    let s : Stage (sides os ns) kept walk.0 walk.1 fn (r ∷ bn) = walk.2 in
    let on = stage_on g new changes os ns kept walk.0 walk.1 fn r bn o runs are s found (sym (ap (stays_with changes kept (with_paths os) (front r.path (with_paths os)) fn r.it) found) ∙ h) in
    let t : Stage (sides os ns) (kept ++ r.path ∷ []) on.0 on.1 (fn ++ r ∷ []) bn = on.2 in
    let it : Partner (sides os ns) on.0 r = partner (sides os ns) (kept ++ r.path ∷ []) on.0 (fn ++ r ∷ []) (length fn) r t.aligned (get_last fn r []) (among_new kept r.path) in
    let split = at_split r.path (with_paths os) o found in
    let one : it.a ≡ o = distinct (with_paths os) it.d (length (front r.path (with_paths os))) it.a o runs.climbs (ap (λ l. slice_get l it.d) t.split ∙ front_get on.0 on.1 it.d it.a it.there)
    (ap (λ l. slice_get l (length (front r.path (with_paths os)))) split.1 ∙ get_last (front r.path (with_paths os)) o split.0) (it.same ∙ sym split.2) in
    subst (λ (z : Placed). AreAlike (with_paths os) (with_paths ns) z.it r.it) one it.alike
