-- The old run beside the new one: records that are passed, kept or left.
use Rattle.std.proofs.Common.{◌≡◌, ◌≤◌, ◌<◌, ℕ, ◌+◌, true, false, List, [], ◌∷◌, ◌++◌, Some, None, map, drop, if◌then◌else◌, refl, sym, ap, subst, ◌∙◌, arith, append_assoc, append-nil, length-append, Bool, length, take}
use Rattle.std.specs.Prelude.{slice_get}
use Rattle.std.specs.Ordering.{nat_cmp}
use Rattle.std.specs.Cmp.Lexicographic.{slice_cmp}
use Rattle.std.proofs.lemmas.Grind.{flat_map-append}
use Rattle.std.proofs.lemmas.List.{length-map, map-append, take-append-le}
use Rattle.std.proofs.lemmas.Option.{slice_get_past}
use Rattle.mv_values.specs.declared.patch.Write.{Write}
use Rattle.mv_values.proofs.Deciding.{less_is}
use Rattle.mv_record.specs.declared.record.Record.{Record}
use Rattle.mv_record.specs.Paths.{paths, IsEarlierPath}
use Rattle.mv_recorded.specs.Own.{Each}
use Rattle.mv_recorded.proofs.Held.{get_last}
use Rattle.mv_history.specs.declared.change.Change.{Change}
use Rattle.mv_history.specs.Hits.{any_hits}
use Rattle.mv_history.specs.Kept.{Path, Placed, with_paths, is_path, among, other_writes}
use Rattle.mv_soundness.proofs.Keeping.{Climbs, among_new}
use Rattle.mv_soundness.proofs.Placing.{apart, its, its_all, many_placed, placed_paths}
use Rattle.mv_repair.specs.declared.walk.OldRun.{OldRun}
use Rattle.mv_repair.specs.Keys.{TableKeys}
use Rattle.mv_repair.specs.Walking.{any_write, noted, is_before, hits_in, writes_of, next_writes, next_passed, AreKnown, HasLearnt, IsOld, HasPassed, writes_at}
use Rattle.mv_recorded.proofs.Inverting.{each_join, each_map}
use Rattle.mv_soundness.proofs.Walking.{earlier_then, climbs_parts}
use Rattle.mv_repair.proofs.Lists.{drop_past, first_dropped, none_dropped, next_dropped}
use Rattle.mv_repair.proofs.Marking.{not_among, among_still}

abbrev all_before : List Placed → List Placed → Type 0
all_before xs ys = Each (λ (a : Placed). Each (λ (b : Placed). IsEarlierPath a.path b.path) ys) xs

-- The writes of records that aren't kept

pub others_both : (kept : List Path) (xs ys : List Placed) → other_writes kept (xs ++ ys) ≡ other_writes kept xs ++ other_writes kept ys
others_both kept xs ys = flat_map-append (λ (r : Placed). if among kept r.path then [] else r.it.writes) xs ys

pub one_other : (kept : List Path) (o : Placed) → among kept o.path ≡ false → other_writes kept (o ∷ []) ≡ o.it.writes
one_other kept o h = ap (λ b. (if b then [] else o.it.writes) ++ []) h ∙ append-nil o.it.writes

pub no_other : (kept : List Path) (o : Placed) → among kept o.path ≡ true → other_writes kept (o ∷ []) ≡ []
no_other kept o h = ap (λ b. (if b then [] else o.it.writes) ++ []) h

-- one path more is kept, which none of them has
pub others_still : (kept : List Path) (p : Path) (xs : List Placed) → Each (λ (a : Placed). is_path a.path p ≡ false) xs → other_writes (kept ++ p ∷ []) xs ≡ other_writes kept xs
others_still kept p [] h = refl
others_still kept p (x ∷ xs) h =
    ap (λ b. (if b then [] else x.it.writes) ++ other_writes (kept ++ p ∷ []) xs) (among_still kept p x.path h.0)
    ∙ ap (λ ws. (if among kept x.path then [] else x.it.writes) ++ ws) (others_still kept p xs h.1)

-- Numbers that are noted

pub noted_writes : (rs : List Record) (n : ℕ) (ns : List ℕ) (ws : List Write) → writes_of (slice_get rs n) ≡ ws → writes_at rs (noted (any_write ws) n ns) ≡ writes_at rs ns ++ ws
noted_writes rs n ns [] h = sym (append-nil (writes_at rs ns))
noted_writes rs n ns (w ∷ ws) h =
    flat_map-append (λ m. writes_of (slice_get rs m)) ns (n ∷ []) ∙ ap (λ l. writes_at rs ns ++ l) (append-nil (writes_of (slice_get rs n)) ∙ h)

pub noted_below : (n m : ℕ) (ns : List ℕ) (b : Bool) → n < m → Each (λ k. k < m) ns → Each (λ k. k < m) (noted b n ns)
noted_below n m ns false lt h = h
noted_below n m ns true lt h = each_join (λ k. k < m) ns (n ∷ []) h (lt, tt)

pub noted_longer : (k n : ℕ) (ns : List ℕ) (b : Bool) → k ≤ length ns → k ≤ length (noted b n ns)
noted_longer k n ns false le = le
noted_longer k n ns true le = let e = length-append ns (n ∷ []) in omega (arith, e, le)

pub noted_take : (k n : ℕ) (ns : List ℕ) (b : Bool) → k ≤ length ns → take k (noted b n ns) ≡ take k ns
noted_take k n ns false le = refl
noted_take k n ns true le = take-append-le k ns (n ∷ []) le

-- The order of the two runs

lower : (b : Placed) (more xs : List Placed) → all_before xs (b ∷ more) → Each (λ (a : Placed). IsEarlierPath a.path b.path) xs
lower b more xs h = each_map (λ (a : Placed). Each (λ (c : Placed). IsEarlierPath a.path c.path) (b ∷ more)) (λ (a : Placed). IsEarlierPath a.path b.path) xs (λ a k. k.0) h

lower_rest : (b : Placed) (more xs : List Placed) → all_before xs (b ∷ more) → all_before xs more
lower_rest b more xs h = each_map (λ (a : Placed). Each (λ (c : Placed). IsEarlierPath a.path c.path) (b ∷ more)) (λ (a : Placed). Each (λ (c : Placed). IsEarlierPath a.path c.path) more) xs (λ a k. k.1) h

pub all_apart : (p : Path) (xs : List Placed) → Each (λ (a : Placed). IsEarlierPath a.path p) xs → Each (λ (a : Placed). is_path a.path p ≡ false) xs
all_apart p xs h = each_map (λ (a : Placed). IsEarlierPath a.path p) (λ (a : Placed). is_path a.path p ≡ false) xs (λ a k. apart a.path p k) h

after_all : (p q : Path) (ys : List Placed) → IsEarlierPath p q → Each (λ (c : Placed). IsEarlierPath q c.path) ys → Each (λ (c : Placed). IsEarlierPath p c.path) ys
after_all p q ys h k = each_map (λ (c : Placed). IsEarlierPath q c.path) (λ (c : Placed). IsEarlierPath p c.path) ys (λ c l. earlier_then p q c.path h l) k

pub same_before : (p q : Path) (ys : List Placed) → p ≡ q → Each (λ (c : Placed). IsEarlierPath q c.path) ys → Each (λ (c : Placed). IsEarlierPath p c.path) ys
same_before p q ys is k = subst (λ z. Each (λ (c : Placed). IsEarlierPath z c.path) ys) (sym is) k

pub behind_rest : (o : Placed) (cs : List Placed) (ks : List Path) → Each (λ k. Each (λ (a : Placed). IsEarlierPath k a.path) (o ∷ cs)) ks → Each (λ k. Each (λ (a : Placed). IsEarlierPath k a.path) cs) ks
behind_rest o cs ks h = each_map (λ k. Each (λ (a : Placed). IsEarlierPath k a.path) (o ∷ cs)) (λ k. Each (λ (a : Placed). IsEarlierPath k a.path) cs) ks (λ k l. l.1) h

pub behind_first : (o : Placed) (cs : List Placed) (ks : List Path) → Each (λ k. Each (λ (a : Placed). IsEarlierPath k a.path) (o ∷ cs)) ks → Each (λ k. IsEarlierPath k o.path) ks
behind_first o cs ks h = each_map (λ k. Each (λ (a : Placed). IsEarlierPath k a.path) (o ∷ cs)) (λ k. IsEarlierPath k o.path) ks (λ k l. l.0) h

-- The next record of the old run

pub next_is : (changes : List Change) (os : List Record) (kept : List Path) (rest : List Placed) (old : OldRun) (o : Placed) (cs : List Placed) → (h : IsOld changes os kept rest old) → h.coming ≡ o ∷ cs → slice_get os old.at ≡ Some o.it
next_is changes os kept rest old o cs h e =
    let all : os ≡ its h.passed ++ o.it ∷ its cs = sym (its_all os) ∙ (ap its (h.split ∙ ap (λ l. h.passed ++ l) e) ∙ map-append (λ (p : Placed). p.it) h.passed (o ∷ cs)) in
    let at : old.at ≡ length (its h.passed) = h.at ∙ sym (length-map h.passed (λ (p : Placed). p.it)) in
    ap (λ l. slice_get l old.at) all ∙ (ap (slice_get (its h.passed ++ o.it ∷ its cs)) at ∙ get_last (its h.passed) o.it (its cs))

-- the paths of the coming records
pub coming_paths : (changes : List Change) (os : List Record) (kept : List Path) (rest : List Placed) (old : OldRun) → (h : IsOld changes os kept rest old) → drop old.at (paths os) ≡ map (λ (p : Placed). p.path) h.coming
coming_paths changes os kept rest old h =
    ap (drop old.at) (sym (placed_paths os) ∙ (ap (map (λ (p : Placed). p.path)) h.split ∙ map-append (λ (p : Placed). p.path) h.passed h.coming))
    ∙ drop_past old.at (map (λ (p : Placed). p.path) h.passed) (map (λ (p : Placed). p.path) h.coming) (h.at ∙ sym (length-map h.passed (λ (p : Placed). p.path)))

-- if none comes, there is no next one
pub none_comes : (changes : List Change) (os : List Record) (kept : List Path) (rest : List Placed) (old : OldRun) → (h : IsOld changes os kept rest old) → h.coming ≡ [] → slice_get os old.at ≡ None
none_comes changes os kept rest old h e =
    let all : length os ≡ length h.passed = sym (many_placed os) ∙ ap length (h.split ∙ (ap (λ l. h.passed ++ l) e ∙ append-nil h.passed)) in
    slice_get_past os old.at (omega (arith, all, h.at))

-- One record that is passed

pub passed_next : (os : List Record) (old : OldRun) (p : Path) → is_before (slice_get (paths os) old.at) p ≡ true → HasPassed os old p (next_passed os old)
passed_next os old p yes' changes kept b more is later h = by h.coming refl
  where
    by : (l : List Placed) → h.coming ≡ l → IsOld changes os kept (b ∷ more) (next_passed os old)
    by [] e = absurd (clash (ap (λ o. is_before o p) (none_dropped old.at (paths os) (coming_paths changes os kept (b ∷ more) old h ∙ ap (map (λ (p : Placed). p.path)) e))) yes')
      where
        clash : is_before (slice_get (paths os) old.at) p ≡ false → is_before (slice_get (paths os) old.at) p ≡ true → ⊥
        clash k l = cc
    by (o ∷ cs) e =
        let path : slice_get (paths os) old.at ≡ Some o.path = first_dropped old.at (paths os) o.path (map (λ (p : Placed). p.path) cs) (coming_paths changes os kept (b ∷ more) old h ∙ ap (map (λ (p : Placed). p.path)) e) in
        let less : IsEarlierPath o.path b.path = subst (IsEarlierPath o.path) (sym is) (less_is (slice_cmp nat_cmp o.path p) (sym (ap (λ q. is_before q p) path) ∙ yes')) in
        let behind : Each (λ k. Each (λ (a : Placed). IsEarlierPath k a.path) (o ∷ cs)) kept = subst (λ l. Each (λ k. Each (λ (a : Placed). IsEarlierPath k a.path) l) kept) e h.behind in
        let written : writes_of (slice_get os old.at) ≡ o.it.writes = ap writes_of (next_is changes os kept (b ∷ more) old o cs h e) in
        record {
          passed = h.passed ++ o ∷ [];
          coming = cs;
          split = h.split ∙ (ap (λ l. h.passed ++ l) e ∙ sym (append_assoc h.passed (o ∷ []) cs));
          at = omega (arith, h.at, length-append h.passed (o ∷ []));
          hits = next_dropped old.at old.hits (any_hits changes (its h.passed) o.it) (hits_in changes (its h.passed ++ o.it ∷ []) (its cs)) (h.hits ∙ ap (λ l. hits_in changes (its h.passed) (its l)) e)
              ∙ ap (λ l. hits_in changes l (its cs)) (sym (map-append (λ (p : Placed). p.it) h.passed (o ∷ [])));
          others =
              subst (λ w. writes_at os (noted (any_write w) old.at old.others) ≡ other_writes kept (h.passed ++ o ∷ [])) (sym written)
              (noted_writes os old.at old.others o.it.writes written
              ∙ (ap (λ ws. ws ++ o.it.writes) h.others
              ∙ (ap (λ ws. other_writes kept h.passed ++ ws) (sym (one_other kept o (not_among kept o.path (behind_first o cs kept behind)))) ∙ sym (others_both kept h.passed (o ∷ [])))));
          within = noted_longer old.known old.at old.others (any_write (next_writes os old)) h.within;
          known = subst (λ l. AreKnown old.keys (writes_at os l)) (sym (noted_take old.known old.at old.others (any_write (next_writes os old)) h.within)) h.known;
          below = each_join (λ (a : Placed). Each (λ (c : Placed). IsEarlierPath a.path c.path) (b ∷ more)) h.passed (o ∷ []) h.below ((less, after_all o.path b.path more less later), tt);
          behind = behind_rest o cs kept behind;
        }

pub passed_then : (os : List Record) (old mid new : OldRun) (p : Path) → HasPassed os old p mid → HasPassed os mid p new → HasPassed os old p new
passed_then os old mid new p f g changes kept b more is later h = g changes kept b more is later (f changes kept b more is later h)

-- more keys are known
pub learnt_old : (changes : List Change) (os : List Record) (kept : List Path) (rest : List Placed) (old : OldRun) (keys : List TableKeys) (known : ℕ) → HasLearnt os old.others old.keys old.known keys known
    → IsOld changes os kept rest old → IsOld changes os kept rest (record old { keys = keys; known = known })
learnt_old changes os kept rest old keys known learnt h = record {
  passed = h.passed;
  coming = h.coming;
  split = h.split;
  at = h.at;
  hits = h.hits;
  others = h.others;
  within = learnt.within;
  known = learnt.still h.known;
  below = h.below;
  behind = h.behind;
}

-- A record that is kept, and one that is executed

climbs_at : (os xs : List Record) (passed : List Placed) (o : Placed) (cs : List Placed) → Climbs (with_paths os) → with_paths os ≡ passed ++ o ∷ cs → Each (λ (c : Placed). IsEarlierPath o.path c.path) cs
climbs_at os xs passed o cs climbs is = (climbs_parts passed o cs (subst Climbs is climbs)).1

pub old_kept : (changes : List Change) (os : List Record) (kept : List Path) (b : Placed) (more : List Placed) (old : OldRun) (o : Placed) (cs : List Placed) → Climbs (with_paths os)
    → (h : IsOld changes os kept (b ∷ more) old) → h.coming ≡ o ∷ cs → o.path ≡ b.path → Each (λ (c : Placed). IsEarlierPath b.path c.path) more → IsOld changes os (kept ++ b.path ∷ []) more (record old { at = old.at + 1 })
old_kept changes os kept b more old o cs climbs h e same later =
    let is : with_paths os ≡ h.passed ++ o ∷ cs = h.split ∙ ap (λ l. h.passed ++ l) e in
    let behind : Each (λ k. Each (λ (a : Placed). IsEarlierPath k a.path) (o ∷ cs)) kept = subst (λ l. Each (λ k. Each (λ (a : Placed). IsEarlierPath k a.path) l) kept) e h.behind in
    record {
      passed = h.passed ++ o ∷ [];
      coming = cs;
      split = is ∙ sym (append_assoc h.passed (o ∷ []) cs);
      at = omega (arith, h.at, length-append h.passed (o ∷ []));
      hits = next_dropped old.at old.hits (any_hits changes (its h.passed) o.it) (hits_in changes (its h.passed ++ o.it ∷ []) (its cs)) (h.hits ∙ ap (λ l. hits_in changes (its h.passed) (its l)) e)
          ∙ ap (λ l. hits_in changes l (its cs)) (sym (map-append (λ (p : Placed). p.it) h.passed (o ∷ [])));
      others =
          h.others
          ∙ (sym (others_still kept b.path h.passed (all_apart b.path h.passed (lower b more h.passed h.below)))
          ∙ (sym (append-nil (other_writes (kept ++ b.path ∷ []) h.passed))
          ∙ (ap (λ ws. other_writes (kept ++ b.path ∷ []) h.passed ++ ws) (sym (no_other (kept ++ b.path ∷ []) o (ap (among (kept ++ b.path ∷ [])) same ∙ among_new kept b.path)))
          ∙ sym (others_both (kept ++ b.path ∷ []) h.passed (o ∷ [])))));
      within = h.within;
      known = h.known;
      below = each_join (λ (a : Placed). Each (λ (c : Placed). IsEarlierPath a.path c.path) more) h.passed (o ∷ []) (lower_rest b more h.passed h.below) (same_before o.path b.path more same later, tt);
      behind = each_join (λ k. Each (λ (a : Placed). IsEarlierPath k a.path) cs) kept (b.path ∷ []) (behind_rest o cs kept behind) (same_before b.path o.path cs (sym same) (climbs_at os [] h.passed o cs climbs is), tt);
    }

-- the old record of a path that is executed anew
pub old_met : (changes : List Change) (os : List Record) (kept : List Path) (b : Placed) (more : List Placed) (old : OldRun) (o : Placed) (cs : List Placed)
    → (h : IsOld changes os kept (b ∷ more) old) → h.coming ≡ o ∷ cs → o.path ≡ b.path → Each (λ (c : Placed). IsEarlierPath b.path c.path) more → IsOld changes os kept more (next_passed os old)
old_met changes os kept b more old o cs h e same later =
    let behind : Each (λ k. Each (λ (a : Placed). IsEarlierPath k a.path) (o ∷ cs)) kept = subst (λ l. Each (λ k. Each (λ (a : Placed). IsEarlierPath k a.path) l) kept) e h.behind in
    let written : writes_of (slice_get os old.at) ≡ o.it.writes = ap writes_of (next_is changes os kept (b ∷ more) old o cs h e) in
    record {
      passed = h.passed ++ o ∷ [];
      coming = cs;
      split = h.split ∙ (ap (λ l. h.passed ++ l) e ∙ sym (append_assoc h.passed (o ∷ []) cs));
      at = omega (arith, h.at, length-append h.passed (o ∷ []));
      hits = next_dropped old.at old.hits (any_hits changes (its h.passed) o.it) (hits_in changes (its h.passed ++ o.it ∷ []) (its cs)) (h.hits ∙ ap (λ l. hits_in changes (its h.passed) (its l)) e)
          ∙ ap (λ l. hits_in changes l (its cs)) (sym (map-append (λ (p : Placed). p.it) h.passed (o ∷ [])));
      others =
          subst (λ w. writes_at os (noted (any_write w) old.at old.others) ≡ other_writes kept (h.passed ++ o ∷ [])) (sym written)
          (noted_writes os old.at old.others o.it.writes written
          ∙ (ap (λ ws. ws ++ o.it.writes) h.others
          ∙ (ap (λ ws. other_writes kept h.passed ++ ws) (sym (one_other kept o (not_among kept o.path (behind_first o cs kept behind)))) ∙ sym (others_both kept h.passed (o ∷ [])))));
      within = noted_longer old.known old.at old.others (any_write (next_writes os old)) h.within;
      known = subst (λ l. AreKnown old.keys (writes_at os l)) (sym (noted_take old.known old.at old.others (any_write (next_writes os old)) h.within)) h.known;
      below = each_join (λ (a : Placed). Each (λ (c : Placed). IsEarlierPath a.path c.path) more) h.passed (o ∷ []) (lower_rest b more h.passed h.below) (same_before o.path b.path more same later, tt);
      behind = behind_rest o cs kept behind;
    }

pub old_left : (changes : List Change) (os : List Record) (kept : List Path) (b : Placed) (more : List Placed) (old : OldRun) → IsOld changes os kept (b ∷ more) old → IsOld changes os kept more old
old_left changes os kept b more old h = record {
  passed = h.passed;
  coming = h.coming;
  split = h.split;
  at = h.at;
  hits = h.hits;
  others = h.others;
  within = h.within;
  known = h.known;
  below = lower_rest b more h.passed h.below;
  behind = h.behind;
}

pub old_lower : (changes : List Change) (os : List Record) (kept : List Path) (b : Placed) (more : List Placed) (old : OldRun) → (h : IsOld changes os kept (b ∷ more) old) → Each (λ (a : Placed). IsEarlierPath a.path b.path) h.passed
old_lower changes os kept b more old h = lower b more h.passed h.below
