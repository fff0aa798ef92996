-- One record more of a repair.
use Rattle.std.proofs.Common.{◌≡◌, ◌<◌, ◌≤◌, inl, inr, ℕ, ◌+◌, Bool, true, false, List, [], ◌∷◌, ◌++◌, Option, Some, None, length, take, if◌then◌else◌, refl, sym, ap, subst, ◌∙◌, arith, append_assoc, append-nil, length-append}
use Rattle.std.specs.Prelude.{◌&&◌, slice_get}
use Rattle.std.specs.Option.{option_map}
use Rattle.std.proofs.lemmas.List.{append_cancel_left, take_all, length_push}
use Rattle.std.proofs.lemmas.Option.{slice_get_within, slice_get-map}
use Rattle.std.proofs.lemmas.Bool.{both_ways}
use Rattle.mv_values.specs.Tables.{Tables}
use Rattle.mv_values.specs.declared.pred.Pred.{Pred}
use Rattle.mv_values.specs.declared.patch.Write.{Write}
use Rattle.mv_record.specs.declared.record.Record.{Record}
use Rattle.mv_record.specs.declared.record.Spot.{Spot}
use Rattle.mv_record.specs.Effects.{record_of, effect_in}
use Rattle.mv_record.specs.Paths.{paths, IsEarlierPath}
use Rattle.mv_record.specs.Runs.{writes_in, IsEarlier, ReadsEarlier, NamesEarlier}
use Rattle.mv_recorded.specs.Own.{Each}
use Rattle.mv_recorded.proofs.Held.{get_last}
use Rattle.mv_recorded.proofs.Naming.{recorded_names}
use Rattle.mv_recorded.proofs.Rising.{recorded_rises}
use Rattle.mv_recorded.specs.Posts.{IsRecordAt, path_above}
use Rattle.mv_recorded.specs.Recorded.{recorded}
use Rattle.mv_recorded.proofs.Posting.{one_path}
use Rattle.mv_view.specs.Viewing.{Sight}
use Rattle.mv_effect.specs.Looking.{AskedFor, different}
use Rattle.mv_graph.specs.declared.graph.Graph.{Graph}
use Rattle.mv_graph.specs.Nodes.{meaning_of}
use Rattle.mv_exec.specs.declared.task.Task.{Task}
use Rattle.mv_exec.specs.Peeked.{Ahead}
use Rattle.mv_exec.specs.Running.{IsTaskOf, IsTaskOn, IsSameCall, IsSameCallOn, HasLeft, Peeks, IsAhead, HasContent, HasRun}
use Rattle.mv_exec.proofs.Adding.{first_same}
use Rattle.mv_effect.proofs.Asked.{asked_both}
use Rattle.mv_exec.proofs.Fronts.{fewer_left}
use Rattle.mv_history.specs.declared.change.Change.{Change}
use Rattle.mv_history.specs.Kept.{Path, Placed, with_paths, next_placed, is_path, among, at, stays, keep, kept_paths, other_writes}
use Rattle.mv_history.proofs.Joining.{placed_front}
use Rattle.mv_soundness.specs.Laws.{AreAlike}
use Rattle.mv_soundness.proofs.Keeping.{Climbs, climbs_of, among_new}
use Rattle.mv_soundness.proofs.Meant.{next_same}
use Rattle.mv_soundness.proofs.Placing.{path_is, path_self, many_placed, placed_more, placed_paths}
use Rattle.mv_repair.specs.declared.walk.OldRun.{OldRun}
use Rattle.mv_repair.specs.declared.walk.NewRun.{NewRun}
use Rattle.mv_repair.specs.Keys.{TableKeys}
use Rattle.mv_repair.specs.Repairing.{queried, HasQueried}
use Rattle.mv_repair.specs.Walking.{path_behind, is_before, is_in_place, writes_of, next_stays, stays_at, left_behind, added, renewed, IsOld, AreMarked, IsNew, IsUnderway, HasPassed, IsComeTo, HasKept, any_write, writes_at, AreKnown, AreKnownIfMany, HasLearnt, HasCaughtUp}
use Rattle.mv_repair.specs.Stepping.{HasStepped, IsOnWay}
use Rattle.mv_repair.proofs.Asking.{keys_within, keys_more, executed_asks, kept_asks, still_queried}
use Rattle.mv_repair.proofs.Deciding.{Decides, Found, decided, found_old, names_at, not_before, in_own_place, in_place_is}
use Rattle.mv_recorded.proofs.Inverting.{each_join, each_map}
use Rattle.mv_soundness.proofs.Walking.{climbs_parts}
use Rattle.mv_repair.proofs.Lists.{writes_before, each_take}
use Rattle.mv_repair.proofs.Marking.{not_among, marks_more, marks_still}
use Rattle.mv_repair.proofs.Passing.{all_apart, behind_first, others_both, others_still, one_other, no_other, noted_writes, noted_below, noted_longer, noted_take, old_kept, old_left, old_met, behind_rest}
use Rattle.mv_repair.proofs.Placing.{path_got}

-- The next record of the full run

-- the record that was added is the next one
one_more : (all xs : List Record) (next r : Record) (ys zs : List Record) → all ≡ (xs ++ next ∷ []) ++ ys → all ≡ xs ++ r ∷ zs → (next ≡ r) × (ys ≡ zs)
one_more all xs next r ys zs h k = first_same next r ys zs (append_cancel_left xs (next ∷ ys) (r ∷ zs) (sym (append_assoc xs (next ∷ []) ys) ∙ (sym h ∙ k)))

pub record Comes (g : Graph) (changes : List Change) (db : Tables) (os : List Record) (task : Task) (old : OldRun) (new : NewRun) (u : IsUnderway g changes db os task old new) (ahead : Ahead) (p : Path) : Type 0 where
  pub r : Record
  pub tail : List Record
  pub more : List Placed
  pub left_is : u.left ≡ r ∷ tail
  pub rest_is : u.rest ≡ next_placed task.log.records r ∷ more
  pub all : (meaning_of g u.call db).records ≡ task.log.records ++ r ∷ tail
  pub placed : with_paths (meaning_of g u.call db).records ≡ with_paths task.log.records ++ next_placed task.log.records r ∷ more
  pub spot : r.spot ≡ ahead.spot
  pub parent : r.parent ≡ ahead.parent
  pub reads : r.reads ≡ ahead.reads
  pub path : (next_placed task.log.records r).path ≡ p
  pub before : Each (λ (a : Placed). IsEarlierPath a.path (next_placed task.log.records r).path) (with_paths task.log.records)
  pub later : Each (λ (c : Placed). IsEarlierPath (next_placed task.log.records r).path c.path) more
  pub early : IsEarlier (length task.log.records) r.parent
  pub early_reads : ReadsEarlier (length task.log.records) r.reads

pub comes : (g : Graph) (changes : List Change) (db : Tables) (os : List Record) (task : Task) (old : OldRun) (new : NewRun) (u : IsUnderway g changes db os task old new) (ahead : Ahead) (p : Path) → IsAhead g task (Some ahead)
    → p ≡ path_behind task.log.records ahead.spot ahead.parent → Comes g changes db os task old new u ahead p
comes g changes db os task old new u ahead p next is = by u.left refl (next u.call db u.left u.is u.runs.new_is.rising u.leaves)
  where
    by : (l : List Record) → u.left ≡ l → Peeks (Some ahead) l → Comes g changes db os task old new u ahead p
    by [] e f = absurd f
    by (r ∷ tail) e f =
        let all : (meaning_of g u.call db).records ≡ task.log.records ++ r ∷ tail = u.leaves ∙ ap (λ l. task.log.records ++ l) e in
        let it = placed_front task.log.records r tail in
        let placed : with_paths (meaning_of g u.call db).records ≡ with_paths task.log.records ++ next_placed task.log.records r ∷ it.0 = ap with_paths all ∙ it.1 in
        let around = climbs_parts (with_paths task.log.records) (next_placed task.log.records r) it.0 (subst Climbs placed (climbs_of (meaning_of g u.call db).records (recorded_rises g.tables g.procedure u.call db))) in
        let names = names_at task.log.records r tail (length task.log.records) refl (subst (NamesEarlier 0) all (recorded_names g.tables g.procedure u.call db)) in
        record {
          r = r;
          tail = tail;
          more = it.0;
          left_is = e;
          rest_is = append_cancel_left (with_paths task.log.records) u.rest (next_placed task.log.records r ∷ it.0) (sym u.split ∙ placed);
          all = all;
          placed = placed;
          spot = f.0;
          parent = f.1;
          reads = f.2;
          path = ap (λ (s : Spot). path_behind task.log.records s r.parent) f.0 ∙ (ap (path_behind task.log.records ahead.spot) f.1 ∙ sym is);
          before = around.0;
          later = around.1;
          early = names.0;
          early_reads = names.1;
        }

-- What is kept after one record more

keep_more : (changes : List Change) (os : List Placed) (ks : List Path) (ns xs : List Placed) (r : Placed) → keep changes os ks ns (xs ++ r ∷ [])
    ≡ (if stays changes (keep changes os ks ns xs) os (ns ++ xs) r then keep changes os ks ns xs ++ r.path ∷ [] else keep changes os ks ns xs)
keep_more changes os ks ns [] r = ap (λ l. if stays changes ks os l r then ks ++ r.path ∷ [] else ks) (sym (append-nil ns))
keep_more changes os ks ns (x ∷ xs) r =
    let k : List Path = if stays changes ks os ns x then ks ++ x.path ∷ [] else ks in
    let all : List Path = keep changes os k (ns ++ x ∷ []) xs in
    keep_more changes os k (ns ++ x ∷ []) xs r ∙ ap (λ l. if stays changes all os l r then all ++ r.path ∷ [] else all) (append_assoc ns (x ∷ []) xs)

kept_is : (changes : List Change) (os ns : List Record) (r : Record) (b : Bool) → stays changes (kept_paths os ns changes) (with_paths os) (with_paths ns) (next_placed ns r) ≡ b
    → kept_paths os (ns ++ r ∷ []) changes ≡ (if b then kept_paths os ns changes ++ (next_placed ns r).path ∷ [] else kept_paths os ns changes)
kept_is changes os ns r b h =
    ap (keep changes (with_paths os) [] []) (placed_more ns r)
    ∙ (keep_more changes (with_paths os) [] [] (with_paths ns) (next_placed ns r)
    ∙ ap (λ b. if b then kept_paths os ns changes ++ (next_placed ns r).path ∷ [] else kept_paths os ns changes) h)

-- The new run with one record more

numbers_more : (m n : ℕ) (ks : List ℕ) → n ≡ m + 1 → Each (λ k. k < m) ks → Each (λ k. k < n) ks
numbers_more m n ks e h = each_map (λ k. k < m) (λ k. k < n) ks (λ k lt. omega (arith, e, lt)) h

new_kept : (os ns : List Record) (r : Record) (kept : List Path) (more : List Placed) (new : NewRun) (number : ℕ) (o : Placed) → IsNew os kept (next_placed ns r ∷ more) ns new
    → Each (λ (a : Placed). IsEarlierPath a.path (next_placed ns r).path) (with_paths ns) → Each (λ (c : Placed). IsEarlierPath (next_placed ns r).path c.path) more
    → slice_get (with_paths os) number ≡ Some o → o.path ≡ (next_placed ns r).path → IsNew os (kept ++ (next_placed ns r).path ∷ []) more (ns ++ r ∷ []) (added (Some number) new)
new_kept os ns r kept more new number o h before later there same =
    let b : Placed = next_placed ns r in
    let others : List Path = kept ++ b.path ∷ [] in
    let apart = all_apart b.path (with_paths ns) before in
    record {
      marks = subst (λ l. AreMarked others (with_paths os) l (new.kept ++ Some number ∷ [])) (sym (placed_more ns r))
          (marks_more others (with_paths os) (with_paths ns) new.kept b (Some number) (marks_still kept b.path (with_paths os) (with_paths ns) new.kept apart h.marks) (among_new kept b.path, (o, there, same)));
      others =
          writes_before ns (r ∷ []) new.others h.numbers
          ∙ (h.others
          ∙ (sym (others_still kept b.path (with_paths ns) apart)
          ∙ (sym (append-nil (other_writes others (with_paths ns)))
          ∙ (ap (λ ws. other_writes others (with_paths ns) ++ ws) (sym (no_other others b (among_new kept b.path)))
          ∙ (sym (others_both others (with_paths ns) (b ∷ [])) ∙ ap (other_writes others) (sym (placed_more ns r)))))));
      numbers = numbers_more (length ns) (length (ns ++ r ∷ [])) new.others (length_push ns r) h.numbers;
      within = h.within;
      known = subst (AreKnown new.keys) (sym (writes_before ns (r ∷ []) (take new.known new.others) (each_take (λ n. n < length ns) new.known new.others h.numbers))) h.known;
      behind = each_join (λ k. Each (λ (c : Placed). IsEarlierPath k c.path) more) kept (b.path ∷ []) (behind_rest b more kept h.behind) (later, tt);
    }

new_executed : (os ns : List Record) (r : Record) (kept : List Path) (more : List Placed) (new : NewRun) → IsNew os kept (next_placed ns r ∷ more) ns new
    → IsNew os kept more (ns ++ r ∷ []) (renewed (length ns) (any_write r.writes) new)
new_executed os ns r kept more new h =
    let b : Placed = next_placed ns r in
    let fresh : among kept b.path ≡ false = not_among kept b.path (behind_first b more kept h.behind) in
    record {
      marks = subst (λ l. AreMarked kept (with_paths os) l (new.kept ++ None ∷ [])) (sym (placed_more ns r)) (marks_more kept (with_paths os) (with_paths ns) new.kept b None h.marks fresh);
      others =
          noted_writes (ns ++ r ∷ []) (length ns) new.others r.writes (ap writes_of (get_last ns r []))
          ∙ (ap (λ ws. ws ++ r.writes) (writes_before ns (r ∷ []) new.others h.numbers ∙ h.others)
          ∙ (ap (λ ws. other_writes kept (with_paths ns) ++ ws) (sym (one_other kept b fresh))
          ∙ (sym (others_both kept (with_paths ns) (b ∷ [])) ∙ ap (other_writes kept) (sym (placed_more ns r)))));
      numbers = noted_below (length ns) (length (ns ++ r ∷ [])) new.others (any_write r.writes) (let e = length_push ns r in omega (arith, e)) (numbers_more (length ns) (length (ns ++ r ∷ [])) new.others (length_push ns r) h.numbers);
      within = noted_longer new.known (length ns) new.others (any_write r.writes) h.within;
      known =
          subst (λ l. AreKnown new.keys (writes_at (ns ++ r ∷ []) l)) (sym (noted_take new.known (length ns) new.others (any_write r.writes) h.within))
          (subst (AreKnown new.keys) (sym (writes_before ns (r ∷ []) (take new.known new.others) (each_take (λ n. n < length ns) new.known new.others h.numbers))) h.known);
      behind = behind_rest b more kept h.behind;
    }

-- more keys are known
pub learnt_new : (os ns : List Record) (kept : List Path) (rest : List Placed) (new : NewRun) (keys : List TableKeys) (known : ℕ) → HasLearnt ns new.others new.keys new.known keys known
    → IsNew os kept rest ns new → IsNew os kept rest ns (record new { keys = keys; known = known })
learnt_new os ns kept rest new keys known learnt h = record {
  marks = h.marks;
  others = h.others;
  numbers = h.numbers;
  within = learnt.within;
  known = learnt.still h.known;
  behind = h.behind;
}

caught : (g : Graph) (changes : List Change) (db : Tables) (os : List Record) (task : Task) (old : OldRun) (new now : NewRun) → HasCaughtUp task.log.records new now → IsUnderway g changes db os task old new → IsUnderway g changes db os task old now
caught g changes db os task old new now k u = record {
  call = u.call;
  was = u.was;
  runs = u.runs;
  olds = u.olds;
  past = u.past;
  rises = u.rises;
  is = u.is;
  left = u.left;
  leaves = u.leaves;
  rest = u.rest;
  split = u.split;
  beside = u.beside;
  along = k.still os (kept_paths os task.log.records changes) u.rest u.along;
  count = u.count;
}

pub caught_way : (g : Graph) (db : Tables) (task : Task) (old : OldRun) (new now : NewRun) → HasCaughtUp task.log.records new now → IsOnWay g db task old new → IsOnWay g db task old now
caught_way g db task old new now k w = record { changes = w.changes; os = w.os; underway = caught g w.changes db w.os task old new now k w.underway }

pub caught_step : (g : Graph) (db : Tables) (task : Task) (old : OldRun) (new now : NewRun) (task' : Task) (old' : OldRun) (new' : NewRun) (before after : Sight) → HasCaughtUp task.log.records new now → HasStepped g db task old now task' old' new' before after
    → HasStepped g db task old new task' old' new' before after
caught_step g db task old new now task' old' new' before after k s = record {
  went = λ changes os u. s.went changes os (caught g changes db os task old new now k u);
  queried = λ changes os start u q. s.queried changes os start (caught g changes db os task old new now k u) q;
  less = s.less;
}

-- The walk goes on

went_on : (g : Graph) (changes : List Change) (db : Tables) (os : List Record) (task : Task) (old : OldRun) (new : NewRun) (u : IsUnderway g changes db os task old new) (ahead : Ahead) (p : Path)
    → (c : Comes g changes db os task old new u ahead p) → (task' : Task) (old' : OldRun) (new' : NewRun) (ks : List Path) → IsTaskOf g u.call task' → task'.log.records ≡ task.log.records ++ c.r ∷ [] → HasLeft g u.call db task' c.tail → task'.log.past ≡ task.log.past → task'.log.kept ≤ old'.at
    → kept_paths os (task.log.records ++ c.r ∷ []) changes ≡ ks → IsOld changes os ks c.more old' → IsNew os ks c.more (task.log.records ++ c.r ∷ []) new' → task'.executed + length ks ≡ length (task.log.records ++ c.r ∷ []) → IsUnderway g changes db os task' old' new'
went_on g changes db os task old new u ahead p c task' old' new' ks is records leaves past rises kept beside along count = record {
  call = u.call;
  was = u.was;
  runs = u.runs;
  olds = u.olds;
  past = past ∙ u.past;
  rises = rises;
  is = is;
  left = c.tail;
  leaves = leaves;
  rest = c.more;
  split =
      c.placed
      ∙ (sym (append_assoc (with_paths task.log.records) (next_placed task.log.records c.r ∷ []) c.more)
      ∙ ap (λ l. l ++ c.more) (sym (placed_more task.log.records c.r) ∙ ap with_paths (sym records)));
  beside = subst (λ k. IsOld changes os k c.more old') (sym paths') beside;
  along = subst (λ k. IsNew os k c.more task'.log.records new') (sym paths') (subst (λ (l : List Record). IsNew os ks c.more l new') (sym records) along);
  count = ap (λ k. task'.executed + length k) paths' ∙ (count ∙ ap length (sym records));
}
  where
    paths' : kept_paths os task'.log.records changes ≡ ks
    paths' = ap (λ (l : List Record). kept_paths os l changes) records ∙ kept

-- a record of the old run is in the place of the next record if they have the same path
same_place : (g : Graph) (changes : List Change) (db : Tables) (os : List Record) (task : Task) (old : OldRun) (new : NewRun) (u : IsUnderway g changes db os task old new) (ahead : Ahead) (p : Path)
    → (c : Comes g changes db os task old new u ahead p) → (n : ℕ) (o : Record) (q : Path) → slice_get os n ≡ Some o → slice_get (paths os) n ≡ Some q
    → is_in_place (Some o) ahead.spot ≡ is_path q (next_placed task.log.records c.r).path
same_place g changes db os task old new u ahead p c n o q there got = by (is_path q b.path) refl (is_in_place (Some o) ahead.spot) refl
  where
    b : Placed
    b = next_placed task.log.records c.r

    placed : slice_get (with_paths (meaning_of g u.call db).records) (length task.log.records) ≡ Some b
    placed = ap (λ l. slice_get l (length task.log.records)) c.placed
        ∙ (ap (slice_get (with_paths task.log.records ++ b ∷ c.more)) (sym (many_placed task.log.records)) ∙ get_last (with_paths task.log.records) b c.more)

    of_new : IsRecordAt (recorded g.tables g.procedure u.call db) (length task.log.records) c.r b.path
    of_new = record {
      there = ap (λ (l : List Record). slice_get l (length task.log.records)) c.all ∙ get_last task.log.records c.r c.tail;
      path = ap (λ l. slice_get l (length task.log.records)) (sym (placed_paths (meaning_of g u.call db).records))
          ∙ (slice_get-map (λ (z : Placed). z.path) (with_paths (meaning_of g u.call db).records) (length task.log.records) ∙ ap (option_map (λ (z : Placed). z.path)) placed);
    }

    of_old : IsRecordAt (recorded g.tables g.procedure u.call u.was) n o q
    of_old = record {
      there = ap (λ (l : List Record). slice_get l n) (sym u.olds) ∙ there;
      path = ap (λ (l : List Record). slice_get (paths l) n) (sym u.olds) ∙ got;
    }

    law : (q ≡ b.path → o.spot ≡ c.r.spot) × (o.spot ≡ c.r.spot → q ≡ b.path) × (q ≡ b.path → path_above (recorded g.tables g.procedure u.call u.was) o ≡ path_above (recorded g.tables g.procedure u.call db) c.r)
    law = one_path g.tables g.tables g.procedure u.call u.call u.was db n (length task.log.records) o c.r q b.path of_old of_new

    by : (x : Bool) → is_path q b.path ≡ x → (y : Bool) → is_in_place (Some o) ahead.spot ≡ y → y ≡ x
    by true e true f = refl
    by false e false f = refl
    by true e false f = absurd (both_ways (is_in_place (Some o) ahead.spot) f (ap (is_in_place (Some o)) (sym c.spot ∙ sym (law.0 (path_is q b.path e))) ∙ in_own_place o))
    by false e true f = absurd (both_ways (is_path q b.path) e (ap (λ z. is_path z b.path) (law.1 (in_place_is o ahead.spot f ∙ sym c.spot)) ∙ path_self b.path))

-- the walk has come to the place of the next record
comes_to : (g : Graph) (changes : List Change) (db : Tables) (os : List Record) (task : Task) (old : OldRun) (new : NewRun) (u : IsUnderway g changes db os task old new) (ahead : Ahead) (p : Path)
    → (c : Comes g changes db os task old new u ahead p) → (n : ℕ) → IsComeTo os n ahead.spot p → is_before (slice_get (paths os) n) (next_placed task.log.records c.r).path ≡ false
comes_to g changes db os task old new u ahead p c n (inr h) = ap (is_before (slice_get (paths os) n)) c.path ∙ h
comes_to g changes db os task old new u ahead p c n (inl h) = by (slice_get os n) refl
  where
    b : Placed
    b = next_placed task.log.records c.r

    by : (o : Option Record) → slice_get os n ≡ o → is_before (slice_get (paths os) n) b.path ≡ false
    by None e = absurd (both_ways (is_in_place (slice_get os n) ahead.spot) (ap (λ z. is_in_place z ahead.spot) e) h)
    by (Some o) e =
        let q : Path = path_behind (take n os) o.spot o.parent in
        let got : slice_get (paths os) n ≡ Some q = path_got os n o e in
        let same : is_path q b.path ≡ true = sym (same_place g changes db os task old new u ahead p c n o q e got) ∙ (sym (ap (λ z. is_in_place z ahead.spot) e) ∙ h) in
        ap (λ z. is_before z b.path) got ∙ not_before q b.path same

-- what the walk knows of the next record, where the old run was passed up to its path
decides : (g : Graph) (changes : List Change) (db : Tables) (os : List Record) (task : Task) (old mid : OldRun) (new : NewRun) (u : IsUnderway g changes db os task old new) (ahead : Ahead) (p : Path)
    → (c : Comes g changes db os task old new u ahead p) → HasPassed task.log.past old p mid → IsComeTo task.log.past mid.at ahead.spot p
    → Decides changes os (kept_paths os task.log.records changes) task.log.records (next_placed task.log.records c.r) c.more ahead mid new
decides g changes db os task old mid new u ahead p c passed come = record {
  climbs = subst (λ (l : List Record). Climbs (with_paths l)) (sym u.olds) (climbs_of (meaning_of g u.call u.was).records (recorded_rises g.tables g.procedure u.call u.was));
  names = subst (NamesEarlier 0) (sym u.olds) (recorded_names g.tables g.procedure u.call u.was);
  parent = c.parent;
  reads = c.reads;
  early = c.early;
  early_reads = c.early_reads;
  beside = subst (λ (xs : List Record). HasPassed xs old p mid) u.past passed changes kept (next_placed task.log.records c.r) c.more c.path c.later (subst (λ l. IsOld changes os kept l old) c.rest_is u.beside);
  along = subst (λ l. IsNew os kept l task.log.records new) c.rest_is u.along;
  places = λ o there got. same_place g changes db os task old new u ahead p c mid.at o.it o.path there got;
  stops = comes_to g changes db os task old new u ahead p c mid.at (subst (λ (xs : List Record). IsComeTo xs mid.at ahead.spot p) u.past come);
}
  where
    kept : List Path
    kept = kept_paths os task.log.records changes

-- what the rule says of the next record
says : (g : Graph) (changes : List Change) (db : Tables) (os : List Record) (task : Task) (old mid : OldRun) (new : NewRun) (u : IsUnderway g changes db os task old new) (ahead : Ahead) (p : Path)
    → (c : Comes g changes db os task old new u ahead p) → Decides changes os (kept_paths os task.log.records changes) task.log.records (next_placed task.log.records c.r) c.more ahead mid new
    → (b : Bool) → stays_at task.log.past mid new task.log.records ahead ≡ b
    → stays changes (kept_paths os task.log.records changes) (with_paths os) (with_paths task.log.records) (next_placed task.log.records c.r) ≡ b
says g changes db os task old mid new u ahead p c d b h =
    sym (decided changes os (kept_paths os task.log.records changes) task.log.records (next_placed task.log.records c.r) c.more ahead mid new d)
    ∙ (ap (λ (xs : List Record). stays_at xs mid new task.log.records ahead) (sym u.past) ∙ h)

same_content : (o r : Record) → effect_in o ≡ effect_in r → r ≡ record o { spot = r.spot; parent = r.parent; reads = r.reads }
same_content o r h = ap (record_of r.spot r.parent r.reads) (sym h)

-- a record that stays has the content of the old one
alike : (g : Graph) (changes : List Change) (db : Tables) (os : List Record) (task : Task) (old : OldRun) (new : NewRun) (u : IsUnderway g changes db os task old new) (ahead : Ahead) (p : Path)
    → (c : Comes g changes db os task old new u ahead p) → (o : Placed) → at (next_placed task.log.records c.r).path (with_paths os) ≡ Some o
    → stays changes (kept_paths os task.log.records changes) (with_paths os) (with_paths task.log.records) (next_placed task.log.records c.r) ≡ true → HasContent o.it c.r
alike g changes db os task old new u ahead p c o found h =
    let b : Placed = next_placed task.log.records c.r in
    let it : AreAlike (with_paths (meaning_of g u.call u.was).records) (with_paths (meaning_of g u.call db).records) o.it c.r =
    next_same g.tables g.procedure u.call u.was db changes u.runs (with_paths task.log.records) b c.more o c.placed
    (subst (λ (l : List Record). at b.path (with_paths l) ≡ Some o) u.olds found)
    (subst (λ (l : List Record). stays changes (keep changes (with_paths l) [] [] (with_paths task.log.records)) (with_paths l) (with_paths task.log.records) b ≡ true) u.olds h) in
    same_content o.it c.r it.effect

-- What the walk decides

-- the path of the record that is ahead
abbrev pub path_ahead : Task → Ahead → Path
path_ahead task ahead = path_behind task.log.records ahead.spot ahead.parent

-- the keys of the others are known
pub known_old : (g : Graph) (db : Tables) (task : Task) (old mid : OldRun) (new : NewRun) (o : Option Ahead) (ahead : Ahead) → IsOnWay g db task old new → IsAhead g task o → o ≡ Some ahead
    → HasPassed task.log.past old (path_ahead task ahead) mid → IsComeTo task.log.past mid.at ahead.spot (path_ahead task ahead) → (16 < length mid.others → mid.known ≡ length mid.others)
    → AreKnownIfMany mid.keys task.log.past mid.others
known_old g db task old mid new o ahead w next some passed come all many =
    let c = comes g w.changes db w.os task old new w.underway ahead (path_ahead task ahead) (subst (IsAhead g task) some next) refl in
    let it = decides g w.changes db w.os task old mid new w.underway ahead (path_ahead task ahead) c passed come in
    subst (λ (xs : List Record). AreKnown mid.keys (writes_at xs mid.others)) (sym w.underway.past)
    (subst (λ l. AreKnown mid.keys (writes_at w.os l)) (take_all mid.known mid.others (omega (arith, all many))) it.beside.known)

pub known_new : (g : Graph) (db : Tables) (task : Task) (old : OldRun) (new now : NewRun) → IsOnWay g db task old new → HasCaughtUp task.log.records new now → AreKnownIfMany now.keys task.log.records now.others
known_new g db task old new now w k many =
    let u = caught g w.changes db w.os task old new now k w.underway in
    subst (λ l. AreKnown now.keys (writes_at task.log.records l)) (take_all now.known now.others (omega (arith, k.all many))) u.along.known

-- the old run was passed up to the path of the next record, and the walk has decided whether that record stays
pub record HasDecided (g : Graph) (task : Task) (old mid : OldRun) (new : NewRun) (ahead : Ahead) (b : Bool) : Type 0 where
  pub next : IsAhead g task (Some ahead)
  pub passed : HasPassed task.log.past old (path_ahead task ahead) mid
  pub come : IsComeTo task.log.past mid.at ahead.spot (path_ahead task ahead)
  pub stays : stays_at task.log.past mid new task.log.records ahead ≡ b

-- the same of what `step` has
pub has_decided : (g : Graph) (task : Task) (old mid : OldRun) (new : NewRun) (o : Option Ahead) (ahead : Ahead) (r b : Bool) → IsAhead g task o → o ≡ Some ahead → HasPassed task.log.past old (path_ahead task ahead) mid
    → IsComeTo task.log.past mid.at ahead.spot (path_ahead task ahead) → r ≡ stays_at task.log.past mid new task.log.records ahead → r ≡ b → HasDecided g task old mid new ahead b
has_decided g task old mid new o ahead r b next some passed come stays is = record {
  next = subst (IsAhead g task) some next;
  passed = passed;
  come = come;
  stays = sym stays ∙ is;
}

-- A record that is kept

-- the next record stays, and was kept
pub record Keeps (g : Graph) (task : Task) (old mid : OldRun) (new : NewRun) (ahead : Ahead) (task' : Task) (old' : OldRun) (new' : NewRun) : Type 0 where
  pub decided : HasDecided g task old mid new ahead true
  pub same : IsSameCall g task task'
  pub kept : HasKept g task mid new task' old' new'

-- what that leaves
record Kept (g : Graph) (changes : List Change) (db : Tables) (os : List Record) (task : Task) (old : OldRun) (new : NewRun) (u : IsUnderway g changes db os task old new) (ahead : Ahead) (task' : Task) (old' : OldRun) (new' : NewRun) : Type 0 where
  c : Comes g changes db os task old new u ahead (path_ahead task ahead)
  records : task'.log.records ≡ task.log.records ++ c.r ∷ []
  leaves : HasLeft g u.call db task' c.tail
  kept : kept_paths os (task.log.records ++ c.r ∷ []) changes ≡ kept_paths os task.log.records changes ++ (next_placed task.log.records c.r).path ∷ []
  went : IsUnderway g changes db os task' old' new'

some_same : (a b : Record) → Some a ≡ Some b → a ≡ b
some_same a b e = cc

-- the first of two facts
first : (x y : Bool) → (x && y) ≡ true → x ≡ true
first true y e = refl
first false y e = e

it_kept : (g : Graph) (changes : List Change) (db : Tables) (os : List Record) (task : Task) (old mid : OldRun) (new : NewRun) (u : IsUnderway g changes db os task old new) (ahead : Ahead) (task' : Task) (old' : OldRun) (new' : NewRun)
    → Keeps g task old mid new ahead task' old' new' → Kept g changes db os task old new u ahead task' old' new'
it_kept g changes db os task old mid new u ahead task' old' new' k =
    let p : Path = path_ahead task ahead in
    let c : Comes g changes db os task old new u ahead p = comes g changes db os task old new u ahead p k.decided.next refl in
    let b : Placed = next_placed task.log.records c.r in
    let ks : List Path = kept_paths os task.log.records changes in
    let d : Decides changes os ks task.log.records b c.more ahead mid new = decides g changes db os task old mid new u ahead p c k.decided.passed k.decided.come in
    let h : stays changes ks (with_paths os) (with_paths task.log.records) b ≡ true = says g changes db os task old mid new u ahead p c d true k.decided.stays in
    let f : Found changes os ks task.log.records b c.more ahead mid new d = found_old changes os ks task.log.records b c.more ahead mid new d
    (first (is_in_place (slice_get os mid.at) ahead.spot) (next_stays os mid new task.log.records ahead (slice_get os mid.at) (slice_get mid.hits mid.at))
    (ap (λ (xs : List Record). stays_at xs mid new task.log.records ahead) (sym u.past) ∙ k.decided.stays)) in
    let given : k.kept.given ≡ f.o.it = some_same k.kept.given f.o.it (sym k.kept.there ∙ (ap (λ (xs : List Record). slice_get xs mid.at) u.past ∙ f.old_record)) in
    let content : HasContent k.kept.given c.r = subst (λ q. HasContent q c.r) (sym given) (alike g changes db os task old new u ahead p c f.o f.found h) in
    let leaves : HasLeft g u.call db task (c.r ∷ c.tail) = subst (HasLeft g u.call db task) c.left_is u.leaves in
    let leaves' : HasLeft g u.call db task' c.tail = k.kept.goes_on u.call db c.r c.tail u.is u.runs.new_is.rising leaves content in
    let one = one_more (meaning_of g u.call db).records task.log.records k.kept.adopted.next c.r c.tail c.tail (leaves' ∙ ap (λ l. l ++ c.tail) k.kept.adopted.records) c.all in
    let records : task'.log.records ≡ task.log.records ++ c.r ∷ [] = k.kept.adopted.records ∙ ap (λ q. task.log.records ++ q ∷ []) one.0 in
    let kept : kept_paths os (task.log.records ++ c.r ∷ []) changes ≡ ks ++ b.path ∷ [] = kept_is changes os task.log.records c.r true h in
    record {
      c = c;
      records = records;
      leaves = leaves';
      kept = kept;
      went =
          went_on g changes db os task old new u ahead p c task' old' new' (ks ++ b.path ∷ []) (k.same u.call u.is) records leaves' k.kept.past (let next : old'.at ≡ mid.at + 1 = ap (λ (o : OldRun). o.at) k.kept.old_is in omega (arith, next, k.kept.kept)) kept
          (subst (IsOld changes os (ks ++ b.path ∷ []) c.more) (sym k.kept.old_is) (old_kept changes os ks b c.more mid f.o f.cs d.climbs d.beside f.coming f.path c.later))
          (subst (IsNew os (ks ++ b.path ∷ []) c.more (task.log.records ++ c.r ∷ [])) (sym k.kept.new_is)
          (new_kept os task.log.records c.r ks c.more new mid.at f.o d.along c.before c.later f.there f.path))
          (omega (arith, k.kept.adopted.executed, u.count, length-append ks (b.path ∷ []), length-append task.log.records (c.r ∷ [])));
    }

pub kept_step : (g : Graph) (db : Tables) (task : Task) (old mid : OldRun) (new : NewRun) (ahead : Ahead) (task' : Task) (old' : OldRun) (new' : NewRun) (now : Sight)
    → Keeps g task old mid new ahead task' old' new' → IsOnWay g db task old new → HasStepped g db task old new task' old' new' now now
kept_step g db task old mid new ahead task' old' new' now k w = record {
  went = λ changes os u. (it_kept g changes db os task old mid new u ahead task' old' new' k).went;
  queried = λ changes os start u q.
      let it : Kept g changes db os task old new u ahead task' old' new' = it_kept g changes db os task old mid new u ahead task' old' new' k in
      let b : Placed = next_placed task.log.records it.c.r in
      let same : queried os (task.log.records ++ it.c.r ∷ []) changes ≡ queried os task.log.records changes =
      kept_asks os task.log.records it.c.r changes it.kept (among_new (kept_paths os task.log.records changes) b.path) (all_apart b.path (with_paths task.log.records) it.c.before) in
      subst (λ (l : List Record). HasQueried os l changes [] start now) (sym it.records)
      (subst (λ ps. AskedFor (ps ++ []) (writes_in (os ++ (task.log.records ++ it.c.r ∷ []))) start now) (sym same)
      (still_queried (queried os task.log.records changes ++ []) (writes_in (os ++ task.log.records)) (writes_in (os ++ (task.log.records ++ it.c.r ∷ []))) start now (keys_more os task.log.records it.c.r) q));
  less =
      let u : IsUnderway g w.changes db w.os task old new = w.underway in
      let it : Kept g w.changes db w.os task old new u ahead task' old' new' = it_kept g w.changes db w.os task old mid new u ahead task' old' new' k in
      fewer_left g u.call db task task' it.c.r it.c.tail u.runs.new_is.rising u.is (k.same u.call u.is) (subst (HasLeft g u.call db task) it.c.left_is u.leaves) it.leaves;
}

-- A record that is executed

-- the next record doesn't stay, and was executed
pub record Renews (g : Graph) (db : Tables) (task : Task) (old mid : OldRun) (new : NewRun) (ahead : Ahead) (met : Bool) (task' : Task) (old' : OldRun) (new' : NewRun) (now after : Sight) : Type 0 where
  pub decided : HasDecided g task old mid new ahead false
  pub met_is : met ≡ is_in_place (slice_get task.log.past mid.at) ahead.spot
  pub old_is : old' ≡ left_behind met task.log.past mid
  pub same : IsSameCall g task task'
  pub goes_on : IsSameCallOn g db task task'
  pub ran : HasRun task task' now after
  pub past : task'.log.past ≡ task.log.past
  pub kept : task'.log.kept ≡ task.log.kept
  pub on : old.at ≤ mid.at
  pub new_is : new' ≡ renewed (length task.log.records) (any_write (writes_of (slice_get task'.log.records (length task.log.records)))) new

-- what that leaves
record Renewed (g : Graph) (changes : List Change) (db : Tables) (os : List Record) (task : Task) (old : OldRun) (new : NewRun) (u : IsUnderway g changes db os task old new) (ahead : Ahead) (task' : Task) (old' : OldRun) (new' : NewRun) (r : Record) : Type 0 where
  c : Comes g changes db os task old new u ahead (path_ahead task ahead)
  is : r ≡ c.r
  records : task'.log.records ≡ task.log.records ++ c.r ∷ []
  leaves : HasLeft g u.call db task' c.tail
  kept : kept_paths os (task.log.records ++ c.r ∷ []) changes ≡ kept_paths os task.log.records changes
  behind : Each (λ k. IsEarlierPath k (next_placed task.log.records c.r).path) (kept_paths os task.log.records changes)
  went : IsUnderway g changes db os task' old' new'

-- the old run after a record that was executed
old_after : (changes : List Change) (os past : List Record) (kept : List Path) (ns : List Record) (b : Placed) (more : List Placed) (ahead : Ahead) (mid old' : OldRun) (new : NewRun) (met : Bool)
    → (d : Decides changes os kept ns b more ahead mid new) → past ≡ os → met ≡ is_in_place (slice_get past mid.at) ahead.spot → old' ≡ left_behind met past mid → Each (λ (c : Placed). IsEarlierPath b.path c.path) more → IsOld changes os kept more old'
old_after changes os past kept ns b more ahead mid old' new false d same there is later = subst (IsOld changes os kept more) (sym is) (old_left changes os kept b more mid d.beside)
old_after changes os past kept ns b more ahead mid old' new true d same there is later =
    let f : Found changes os kept ns b more ahead mid new d = found_old changes os kept ns b more ahead mid new d (ap (λ (xs : List Record). is_in_place (slice_get xs mid.at) ahead.spot) (sym same) ∙ sym there) in
    subst (IsOld changes os kept more) (sym (is ∙ ap (λ (xs : List Record). left_behind true xs mid) same)) (old_met changes os kept b more mid f.o f.cs d.beside f.coming f.path later)

not_back : (met : Bool) (past : List Record) (mid : OldRun) → mid.at ≤ (left_behind met past mid).at
not_back true past mid = omega arith
not_back false past mid = omega arith

it_renewed : (g : Graph) (changes : List Change) (db : Tables) (os : List Record) (task : Task) (old mid : OldRun) (new : NewRun) (u : IsUnderway g changes db os task old new) (ahead : Ahead) (met : Bool) (task' : Task) (old' : OldRun) (new' : NewRun) (now after : Sight)
    → (k : Renews g db task old mid new ahead met task' old' new' now after) → Renewed g changes db os task old new u ahead task' old' new' k.ran.next
it_renewed g changes db os task old mid new u ahead met task' old' new' now after k =
    let p : Path = path_ahead task ahead in
    let c : Comes g changes db os task old new u ahead p = comes g changes db os task old new u ahead p k.decided.next refl in
    let b : Placed = next_placed task.log.records c.r in
    let ks : List Path = kept_paths os task.log.records changes in
    let d : Decides changes os ks task.log.records b c.more ahead mid new = decides g changes db os task old mid new u ahead p c k.decided.passed k.decided.come in
    let h : stays changes ks (with_paths os) (with_paths task.log.records) b ≡ false = says g changes db os task old mid new u ahead p c d false k.decided.stays in
    let on : IsTaskOn g u.call db task' = k.goes_on u.call (record { is = u.is; rest = u.left; leaves = u.leaves }) in
    let one = one_more (meaning_of g u.call db).records task.log.records k.ran.next c.r on.rest c.tail (on.leaves ∙ ap (λ l. l ++ on.rest) k.ran.records) c.all in
    let records : task'.log.records ≡ task.log.records ++ c.r ∷ [] = k.ran.records ∙ ap (λ q. task.log.records ++ q ∷ []) one.0 in
    let leaves : HasLeft g u.call db task' c.tail = subst (HasLeft g u.call db task') one.1 on.leaves in
    let kept : kept_paths os (task.log.records ++ c.r ∷ []) changes ≡ ks = kept_is changes os task.log.records c.r false h in
    record {
      c = c;
      is = one.0;
      records = records;
      leaves = leaves;
      kept = kept;
      behind = behind_first b c.more ks d.along.behind;
      went =
          went_on g changes db os task old new u ahead p c task' old' new' ks (k.same u.call u.is) records leaves k.past
          (let up = not_back met task.log.past mid in let at : old'.at ≡ (left_behind met task.log.past mid).at = ap (λ (o : OldRun). o.at) k.old_is in omega (arith, k.kept, u.rises, k.on, up, at)) kept
          (old_after changes os task.log.past ks task.log.records b c.more ahead mid old' new met d u.past k.met_is k.old_is c.later)
          (subst (IsNew os ks c.more (task.log.records ++ c.r ∷ [])) (sym (k.new_is ∙ ap (λ w. renewed (length task.log.records) (any_write w) new) (ap (λ (xs : List Record). writes_of (slice_get xs (length task.log.records))) records ∙ ap writes_of (get_last task.log.records c.r []))))
          (new_executed os task.log.records c.r ks c.more new d.along))
          (omega (arith, k.ran.executed, u.count, length-append task.log.records (c.r ∷ [])));
    }

pub renewed_step : (g : Graph) (db : Tables) (task : Task) (old mid : OldRun) (new : NewRun) (ahead : Ahead) (met : Bool) (task' : Task) (old' : OldRun) (new' : NewRun) (now after : Sight)
    → Renews g db task old mid new ahead met task' old' new' now after → IsOnWay g db task old new → HasStepped g db task old new task' old' new' now after
renewed_step g db task old mid new ahead met task' old' new' now after k w = record {
  went = λ changes os u. (it_renewed g changes db os task old mid new u ahead met task' old' new' now after k).went;
  queried = λ changes os start u q.
      let it : Renewed g changes db os task old new u ahead task' old' new' k.ran.next = it_renewed g changes db os task old mid new u ahead met task' old' new' now after k in
      let b : Placed = next_placed task.log.records it.c.r in
      let ps : List Pred = queried os task.log.records changes in
      let vs : List Write = writes_in (os ++ (task.log.records ++ it.c.r ∷ [])) in
      let more : queried os (task.log.records ++ it.c.r ∷ []) changes ≡ ps ++ it.c.r.preds = executed_asks os task.log.records it.c.r changes it.kept (not_among (kept_paths os task.log.records changes) b.path it.behind) in
      let asked : AskedFor it.c.r.preds (writes_in task.log.records) now after = subst (λ (r : Record). AskedFor r.preds (writes_in task.log.records) now after) it.is k.ran.asked in
      let all : different (writes_in (os ++ task.log.records)) ≤ different vs = keys_more os task.log.records it.c.r in
      let wide : different (writes_in task.log.records) ≤ different vs = (let a = keys_within os task.log.records in omega (arith, a, all)) in
      let together : (ps ++ []) ++ it.c.r.preds ≡ queried os (task.log.records ++ it.c.r ∷ []) changes ++ [] = ap (λ qs. qs ++ it.c.r.preds) (append-nil ps) ∙ (sym more ∙ sym (append-nil (queried os (task.log.records ++ it.c.r ∷ []) changes))) in
      subst (λ (l : List Record). HasQueried os l changes [] start after) (sym it.records)
      (subst (λ qs. AskedFor qs vs start after) together
      (asked_both (ps ++ []) it.c.r.preds vs vs start now after (omega arith) (still_queried (ps ++ []) (writes_in (os ++ task.log.records)) vs start now all q) (still_queried it.c.r.preds (writes_in task.log.records) vs now after wide asked)));
  less =
      let u : IsUnderway g w.changes db w.os task old new = w.underway in
      let it : Renewed g w.changes db w.os task old new u ahead task' old' new' k.ran.next = it_renewed g w.changes db w.os task old mid new u ahead met task' old' new' now after k in
      fewer_left g u.call db task task' it.c.r it.c.tail u.runs.new_is.rising u.is (k.same u.call u.is) (subst (HasLeft g u.call db task) it.c.left_is u.leaves) it.leaves;
}

-- What the step needs

-- a record in the place ahead is there
pub met_within : (os : List Record) (n : ℕ) (spot : Spot) → is_in_place (slice_get os n) spot ≡ true → n < length os
met_within os n spot h = by (slice_get os n) refl
  where
    by : (o : Option Record) → slice_get os n ≡ o → n < length os
    by None e = absurd (both_ways (is_in_place (slice_get os n) spot) (ap (λ o. is_in_place o spot) e) h)
    by (Some r) e = slice_get_within os n r e

-- a record that stays is there
pub stays_within : (os : List Record) (old : OldRun) (new : NewRun) (ns : List Record) (ahead : Ahead) (r : Bool) → r ≡ stays_at os old new ns ahead → r ≡ true → old.at < length os
stays_within os old new ns ahead r is h =
    met_within os old.at ahead.spot (first (is_in_place (slice_get os old.at) ahead.spot) (next_stays os old new ns ahead (slice_get os old.at) (slice_get old.hits old.at)) (sym is ∙ h))
