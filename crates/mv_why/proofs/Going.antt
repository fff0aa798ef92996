-- The walk goes on: by an old record that is passed, by a record that is kept, and by one that isn't.
use Rattle.std.proofs.Common.{◌≡◌, ℕ, ◌+◌, Bool, true, false, not, List, [], ◌∷◌, ◌++◌, Some, None, map, length, if◌then◌else◌, refl, sym, ap, subst, ◌∙◌, arith, append_assoc, append-nil, length-append}
use Rattle.std.specs.Prelude.{◌&&◌, slice_get, option_to_list}
use Rattle.std.specs.List.{list_any}
use Rattle.std.specs.Ordering.{nat_cmp}
use Rattle.std.specs.Cmp.Lexicographic.{slice_cmp}
use Rattle.std.proofs.lemmas.Grind.{flat_map-append}
use Rattle.std.proofs.lemmas.List.{length-map, map_push}
use Rattle.mv_values.specs.declared.patch.Write.{Write}
use Rattle.mv_values.proofs.Deciding.{less_is}
use Rattle.mv_record.specs.declared.record.Record.{Record}
use Rattle.mv_record.specs.Paths.{paths, IsEarlierPath, PathsRise}
use Rattle.mv_recorded.specs.Own.{Each}
use Rattle.mv_recorded.proofs.Inverting.{each_map, each_join}
use Rattle.mv_history.specs.declared.change.Change.{Change}
use Rattle.mv_history.specs.Hits.{touches}
use Rattle.mv_history.specs.Kept.{Path, Placed, with_paths, among, kept_paths}
use Rattle.mv_soundness.proofs.Keeping.{Climbs, climbs_of}
use Rattle.mv_soundness.proofs.Placing.{its, its_all, placed_paths}
use Rattle.mv_soundness.proofs.Walking.{earlier_then, climbs_parts}
use Rattle.mv_why.specs.declared.run.Run.{Run}
use Rattle.mv_why.specs.declared.walk.Walk.{Walk}
use Rattle.mv_why.specs.Causes.{is_touching, touching}
use Rattle.mv_why.specs.Walking.{is_before, any_write, any_touch, writes_of, touching_one, touching_at, all_before, AreOthers, IsUnder, noted, noted_old, kept_more, other_more, HasPassed}
use Rattle.mv_why.proofs.Fixed.{all_kept, not_kept}

-- The next records

get_here : {A B : Type 0} (f : A → B) (xs ys : List A) → slice_get (map f (xs ++ ys)) (length xs) ≡ slice_get (map f ys) 0
get_here f [] ys = refl
get_here f (x ∷ xs) ys = get_here f xs ys

-- the path of the next record
pub next_path : (rs : List Record) (xs ys : List Placed) → with_paths rs ≡ xs ++ ys → slice_get (paths rs) (length xs) ≡ slice_get (map (λ (p : Placed). p.path) ys) 0
next_path rs xs ys is =
    ap (λ l. slice_get l (length xs)) (sym (placed_paths rs) ∙ ap (map (λ (p : Placed). p.path)) is) ∙ get_here (λ (p : Placed). p.path) xs ys

-- the next record
pub next_record : (rs : List Record) (xs ys : List Placed) → with_paths rs ≡ xs ++ ys → slice_get rs (length xs) ≡ slice_get (its ys) 0
next_record rs xs ys is = ap (λ l. slice_get l (length xs)) (sym (its_all rs) ∙ ap its is) ∙ get_here (λ (p : Placed). p.it) xs ys

-- where there is a path, there is a record with it
pub record First (p : Path) (ys : List Placed) : Type 0 where
  pub b : Placed
  pub more : List Placed
  pub are : ys ≡ b ∷ more
  pub path : b.path ≡ p

pub first_is : (p : Path) (ys : List Placed) → slice_get (map (λ (p : Placed). p.path) ys) 0 ≡ Some p → First p ys
first_is p [] h = cc
first_is p (b ∷ more) h = let same : b.path ≡ p = cc in record { b = b; more = more; are = refl; path = same }

-- where the next path is before another one, there is a record with it
pub record Before (p : Path) (ys : List Placed) : Type 0 where
  pub b : Placed
  pub more : List Placed
  pub are : ys ≡ b ∷ more
  pub earlier : IsEarlierPath b.path p

pub before_is : (p : Path) (ys : List Placed) → is_before (slice_get (map (λ (p : Placed). p.path) ys) 0) p ≡ true → Before p ys
before_is p [] h = cc
before_is p (b ∷ more) h = record { b = b; more = more; are = refl; earlier = less_is (slice_cmp nat_cmp b.path p) h }

-- Others

touching_both : (kept : List Path) (x : Record) (xs ys : List Placed) → touching kept x (xs ++ ys) ≡ touching kept x xs ++ touching kept x ys
touching_both kept x xs ys = flat_map-append (λ (r : Placed). if is_touching kept x r then r.path ∷ [] else []) xs ys

-- a record more that is kept
pub others_kept : (kept : List Path) (rs : List Record) (first : List Placed) (numbers : List ℕ) (o : Placed) → AreOthers kept rs first numbers → among kept o.path ≡ true → AreOthers kept rs (first ++ o ∷ []) numbers
others_kept kept rs first numbers o h in' x =
    h x
    ∙ (sym (append-nil (touching kept x first))
    ∙ (ap (λ b. touching kept x first ++ ((if not b && list_any (touches x) o.it.writes then o.path ∷ [] else []) ++ [])) (sym in')
    ∙ sym (touching_both kept x first (o ∷ []))))

-- a record more that isn't
one_touching : (kept : List Path) (x : Record) (o : Placed) (b : Bool) → among kept o.path ≡ false → list_any (touches x) o.it.writes ≡ b → touching kept x (o ∷ []) ≡ (if b then o.path ∷ [] else [])
one_touching kept x o true h k = ap (λ s. (if not s && list_any (touches x) o.it.writes then o.path ∷ [] else []) ++ []) h ∙ ap (λ s. (if s then o.path ∷ [] else []) ++ []) k
one_touching kept x o false h k = ap (λ s. (if not s && list_any (touches x) o.it.writes then o.path ∷ [] else []) ++ []) h ∙ ap (λ s. (if s then o.path ∷ [] else []) ++ []) k

one_at : (x : Record) (rs : List Record) (ps : List Path) (n : ℕ) (o : Placed) (b : Bool) → slice_get rs n ≡ Some o.it → slice_get ps n ≡ Some o.path → list_any (touches x) o.it.writes ≡ b
    → touching_at x.preds rs ps (n ∷ []) ≡ (if b then o.path ∷ [] else [])
one_at x rs ps n o b hr hp k =
    ap (λ r. option_to_list (if any_touch x.preds (writes_of r) then slice_get ps n else None) ++ []) hr
    ∙ (ap (λ s. option_to_list (if s then slice_get ps n else None) ++ []) k
    ∙ (ap (λ p. option_to_list (if b then p else None) ++ []) hp ∙ by b))
  where
    by : (b : Bool) → option_to_list (if b then Some o.path else None) ++ [] ≡ (if b then o.path ∷ [] else [])
    by true = refl
    by false = refl

pub others_more : (kept : List Path) (rs : List Record) (first : List Placed) (numbers : List ℕ) (n : ℕ) (o : Placed) → AreOthers kept rs first numbers
    → slice_get rs n ≡ Some o.it → slice_get (paths rs) n ≡ Some o.path → among kept o.path ≡ false → AreOthers kept rs (first ++ o ∷ []) (noted (any_write o.it.writes) n numbers)
others_more kept rs first numbers n o h hr hp out x = by o.it.writes refl
  where
    noted_one : touching_at x.preds rs (paths rs) (numbers ++ n ∷ []) ≡ touching kept x (first ++ o ∷ [])
    noted_one =
        flat_map-append (λ m. option_to_list (touching_one x.preds rs (paths rs) m)) numbers (n ∷ [])
        ∙ (ap (λ l. l ++ touching_at x.preds rs (paths rs) (n ∷ [])) (h x)
        ∙ (ap (λ l. touching kept x first ++ l) (one_at x rs (paths rs) n o (list_any (touches x) o.it.writes) hr hp refl ∙ sym (one_touching kept x o (list_any (touches x) o.it.writes) out refl))
        ∙ sym (touching_both kept x first (o ∷ []))))

    by : (ws : List Write) → o.it.writes ≡ ws → touching_at x.preds rs (paths rs) (noted (any_write ws) n numbers) ≡ touching kept x (first ++ o ∷ [])
    by [] e =
        h x
        ∙ (sym (append-nil (touching kept x first))
        ∙ (ap (λ l. touching kept x first ++ l) (sym (one_touching kept x o false out (ap (list_any (touches x)) e)))
        ∙ sym (touching_both kept x first (o ∷ []))))
    by (w ∷ ws) e = noted_one

-- what is noted, by the record itself
pub noted_same : (rs : List Record) (n : ℕ) (o : Record) (numbers : List ℕ) → slice_get rs n ≡ Some o → noted (any_write (writes_of (slice_get rs n))) n numbers ≡ noted (any_write o.writes) n numbers
noted_same rs n o numbers h = ap (λ r. noted (any_write (writes_of r)) n numbers) h

-- Order

lower_rest : (b : Placed) (more xs : List Placed) → all_before xs (b ∷ more) → all_before xs more
lower_rest b more xs h = each_map (λ (a : Placed). Each (λ (c : Placed). IsEarlierPath a.path c.path) (b ∷ more)) (λ (a : Placed). Each (λ (c : Placed). IsEarlierPath a.path c.path) more) xs (λ a k. k.1) h

after_all : (p q : Path) (ys : List Placed) → IsEarlierPath p q → Each (λ (c : Placed). IsEarlierPath q c.path) ys → Each (λ (c : Placed). IsEarlierPath p c.path) ys
after_all p q ys h k = each_map (λ (c : Placed). IsEarlierPath q c.path) (λ (c : Placed). IsEarlierPath p c.path) ys (λ c l. earlier_then p q c.path h l) k

same_before : (p q : Path) (ys : List Placed) → p ≡ q → Each (λ (c : Placed). IsEarlierPath q c.path) ys → Each (λ (c : Placed). IsEarlierPath p c.path) ys
same_before p q ys is k = subst (λ z. Each (λ (c : Placed). IsEarlierPath z c.path) ys) (sym is) k

abbrev Behind : List Path → List Placed → List Placed → Type 0
Behind kept coming done = Each (λ (b : Placed). among kept b.path ≡ true → Each (λ (a : Placed). IsEarlierPath b.path a.path) coming) done

behind_first : (kept : List Path) (o : Placed) (cs ds : List Placed) → Behind kept (o ∷ cs) ds → Each (λ (d : Placed). among kept d.path ≡ true → IsEarlierPath d.path o.path) ds
behind_first kept o cs ds h =
    each_map (λ (b : Placed). among kept b.path ≡ true → Each (λ (a : Placed). IsEarlierPath b.path a.path) (o ∷ cs)) (λ (d : Placed). among kept d.path ≡ true → IsEarlierPath d.path o.path) ds (λ d f e. (f e).0) h

behind_rest : (kept : List Path) (o : Placed) (cs ds : List Placed) → Behind kept (o ∷ cs) ds → Behind kept cs ds
behind_rest kept o cs ds h =
    each_map (λ (b : Placed). among kept b.path ≡ true → Each (λ (a : Placed). IsEarlierPath b.path a.path) (o ∷ cs)) (λ (b : Placed). among kept b.path ≡ true → Each (λ (a : Placed). IsEarlierPath b.path a.path) cs) ds (λ d f e. (f e).1) h

next_at : (at : ℕ) (xs : List Placed) (o : Placed) → at ≡ length xs → at + 1 ≡ length (xs ++ o ∷ [])
next_at at xs o h = omega (arith, h, length-append xs (o ∷ []))

abbrev flags : List Path → List Placed → List Bool
flags kept ds = map (λ (r : Placed). among kept r.path) ds

pub many_flags : (kept : List Path) (ds : List Placed) (w : List Bool) → w ≡ flags kept ds → length w ≡ length ds
many_flags kept ds w h = ap length h ∙ length-map ds (λ (r : Placed). among kept r.path)

more_flags : (kept : List Path) (ds : List Placed) (w : List Bool) (b : Placed) (is : Bool) → w ≡ flags kept ds → is ≡ among kept b.path → w ++ is ∷ [] ≡ flags kept (ds ++ b ∷ [])
more_flags kept ds w b is h k = ap (λ l. l ++ is ∷ []) h ∙ (ap (λ x. flags kept ds ++ x ∷ []) k ∙ sym (map_push (λ (r : Placed). among kept r.path) ds b))

split_on : (all xs : List Placed) (b : Placed) (ys zs : List Placed) → all ≡ xs ++ zs → zs ≡ b ∷ ys → all ≡ (xs ++ b ∷ []) ++ ys
split_on all xs b ys zs h k = h ∙ (ap (λ l. xs ++ l) k ∙ sym (append_assoc xs (b ∷ []) ys))

-- The next record of the new run

pub next_of : (kept : List Path) (old fresh : List Record) (w : Walk) (p : Path) → slice_get (paths fresh) (length w.kept) ≡ Some p → (u : IsUnder kept old fresh w) → First p u.rest
next_of kept old fresh w p h u =
    first_is p u.rest (sym (next_path fresh u.done u.rest u.news) ∙ (ap (slice_get (paths fresh)) (sym (many_flags kept u.done w.kept u.flags)) ∙ h))

-- An old record is passed

passed_with : (changes : List Change) (old fresh : List Record) (w : Walk) (p : Path) → PathsRise old → PathsRise fresh → is_before (slice_get (paths old) w.at) p ≡ true
    → (u : IsUnder (kept_paths old fresh changes) old fresh w) → (f : First p u.rest) → (n : Before p u.coming)
    → IsUnder (kept_paths old fresh changes) old fresh (record (noted_old old w) { at = w.at + 1 })
passed_with changes old fresh w p rises new_rises yes' u f n =
    let kept : List Path = kept_paths old fresh changes in
    let o : Placed = n.b in
    let b : Placed = f.b in
    let news : with_paths fresh ≡ u.done ++ b ∷ f.more = u.news ∙ ap (λ l. u.done ++ l) f.are in
    let climbs : Climbs (u.done ++ b ∷ f.more) = subst Climbs news (climbs_of fresh new_rises) in
    let before : IsEarlierPath o.path b.path = subst (IsEarlierPath o.path) (sym f.path) n.earlier in
    let behind : Behind kept (o ∷ n.more) u.done = subst (λ l. Behind kept l u.done) n.are u.behind in
    let out : among kept o.path ≡ false =
    ap (λ l. among (all_kept changes (with_paths old) l) o.path) news
    ∙ not_kept changes (with_paths old) u.done b f.more (climbs_of old rises) climbs o.path before
    (subst (λ l. Each (λ (d : Placed). among (all_kept changes (with_paths old) l) d.path ≡ true → IsEarlierPath d.path o.path) u.done) news (behind_first kept o n.more u.done behind)) in
    let there : slice_get old w.at ≡ Some o.it = ap (slice_get old) u.at ∙ (next_record old u.passed u.coming u.olds ∙ ap (λ l. slice_get (its l) 0) n.are) in
    let path : slice_get (paths old) w.at ≡ Some o.path = ap (slice_get (paths old)) u.at ∙ (next_path old u.passed u.coming u.olds ∙ ap (λ l. slice_get (map (λ (p : Placed). p.path) l) 0) n.are) in
    record {
      passed = u.passed ++ o ∷ [];
      coming = n.more;
      done = u.done;
      rest = u.rest;
      olds = split_on (with_paths old) u.passed o n.more u.coming u.olds n.are;
      news = u.news;
      at = next_at w.at u.passed o u.at;
      flags = u.flags;
      below = each_join (λ (a : Placed). Each (λ (c : Placed). IsEarlierPath a.path c.path) u.rest) u.passed (o ∷ []) u.below
          (subst (λ l. Each (λ (c : Placed). IsEarlierPath o.path c.path) l) (sym f.are) (before, after_all o.path b.path f.more before (climbs_parts u.done b f.more climbs).1), tt);
      behind = behind_rest kept o n.more u.done behind;
      old_others = subst (AreOthers kept old (u.passed ++ o ∷ [])) (sym (noted_same old w.at o.it w.old_others there)) (others_more kept old u.passed w.old_others w.at o u.old_others there path out);
      fresh_others = u.fresh_others;
    }

pub passed_next : (old : Run) (w : Walk) (p : Path) (w' : Walk) → HasPassed old w p w' → is_before (slice_get old.paths w'.at) p ≡ true → HasPassed old w p (record (noted_old old.records w') { at = w'.at + 1 })
passed_next old w p w' h yes' = record {
  kept = h.kept;
  fresh_others = h.fresh_others;
  under = λ changes fresh is rises new_rises next u.
      let v = h.under changes fresh is rises new_rises next u in
      let before : is_before (slice_get (paths old.records) w'.at) p ≡ true = ap (λ l. is_before (slice_get l w'.at) p) (sym is) ∙ yes' in
      let there : slice_get (paths fresh) (length w'.kept) ≡ Some p = ap (λ (l : List Bool). slice_get (paths fresh) (length l)) h.kept ∙ next in
      passed_with changes old.records fresh w' p rises new_rises before v (next_of (kept_paths old.records fresh changes) old.records fresh w' p there v)
      (before_is p v.coming (ap (λ o. is_before o p) (sym (ap (slice_get (paths old.records)) v.at ∙ next_path old.records v.passed v.coming v.olds)) ∙ before));
}

pub passed_none : (old : Run) (w : Walk) (p : Path) → HasPassed old w p w
passed_none old w p = record { kept = refl; fresh_others = refl; under = λ changes fresh is rises new_rises next u. u }

-- A record is kept

pub went_on : (kept : List Path) (old fresh : List Record) (w : Walk) → PathsRise old → PathsRise fresh → (u : IsUnder kept old fresh w) → (b : Placed) (more : List Placed) → u.rest ≡ b ∷ more → (o : Placed) (cs : List Placed) → u.coming ≡ o ∷ cs
    → o.path ≡ b.path → among kept b.path ≡ true → IsUnder kept old fresh (kept_more w)
went_on kept old fresh w rises new_rises u b more are o cs here same in' =
    let old_climbs : Climbs (u.passed ++ o ∷ cs) = subst Climbs (u.olds ∙ ap (λ l. u.passed ++ l) here) (climbs_of old rises) in
    let climbs : Climbs (u.done ++ b ∷ more) = subst Climbs (u.news ∙ ap (λ l. u.done ++ l) are) (climbs_of fresh new_rises) in
    let below : all_before u.passed (b ∷ more) = subst (all_before u.passed) are u.below in
    let behind : Behind kept (o ∷ cs) u.done = subst (λ l. Behind kept l u.done) here u.behind in
    let old_in : among kept o.path ≡ true = ap (among kept) same ∙ in' in
    record {
      passed = u.passed ++ o ∷ [];
      coming = cs;
      done = u.done ++ b ∷ [];
      rest = more;
      olds = split_on (with_paths old) u.passed o cs u.coming u.olds here;
      news = split_on (with_paths fresh) u.done b more u.rest u.news are;
      at = next_at w.at u.passed o u.at;
      flags = more_flags kept u.done w.kept b true u.flags (sym in');
      below = each_join (λ (a : Placed). Each (λ (c : Placed). IsEarlierPath a.path c.path) more) u.passed (o ∷ []) (lower_rest b more u.passed below) (same_before o.path b.path more same (climbs_parts u.done b more climbs).1, tt);
      behind = each_join (λ (d : Placed). among kept d.path ≡ true → Each (λ (a : Placed). IsEarlierPath d.path a.path) cs) u.done (b ∷ []) (behind_rest kept o cs u.done behind)
          (λ e. same_before b.path o.path cs (sym same) (climbs_parts u.passed o cs old_climbs).1, tt);
      old_others = others_kept kept old u.passed w.old_others o u.old_others old_in;
      fresh_others = others_kept kept fresh u.done w.fresh_others b u.fresh_others in';
    }

-- A record isn't kept

clash : false ≡ true → ⊥
clash e = cc

pub went_anew : (kept : List Path) (old fresh : List Record) (w : Walk) → PathsRise fresh → (u : IsUnder kept old fresh w) → (b : Placed) (more : List Placed) → u.rest ≡ b ∷ more → (number : ℕ) → number ≡ length w.kept
    → among kept b.path ≡ false → IsUnder kept old fresh (other_more fresh number w)
went_anew kept old fresh w new_rises u b more are number long out =
    let at : number ≡ length u.done = long ∙ many_flags kept u.done w.kept u.flags in
    let there : slice_get fresh number ≡ Some b.it = ap (slice_get fresh) at ∙ (next_record fresh u.done u.rest u.news ∙ ap (λ l. slice_get (its l) 0) are) in
    let path : slice_get (paths fresh) number ≡ Some b.path = ap (slice_get (paths fresh)) at ∙ (next_path fresh u.done u.rest u.news ∙ ap (λ l. slice_get (map (λ (p : Placed). p.path) l) 0) are) in
    record {
      passed = u.passed;
      coming = u.coming;
      done = u.done ++ b ∷ [];
      rest = more;
      olds = u.olds;
      news = split_on (with_paths fresh) u.done b more u.rest u.news are;
      at = u.at;
      flags = more_flags kept u.done w.kept b false u.flags (sym out);
      below = lower_rest b more u.passed (subst (all_before u.passed) are u.below);
      behind = each_join (λ (d : Placed). among kept d.path ≡ true → Each (λ (a : Placed). IsEarlierPath d.path a.path) u.coming) u.done (b ∷ []) u.behind (λ e. absurd (clash (sym out ∙ e)), tt);
      old_others = u.old_others;
      fresh_others = subst (AreOthers kept fresh (u.done ++ b ∷ [])) (sym (noted_same fresh number b.it w.fresh_others there)) (others_more kept fresh u.done w.fresh_others number b u.fresh_others there path out);
    }

-- The beginning

pub begins : (kept : List Path) (old fresh : List Record) → IsUnder kept old fresh (record { kept = []; at = 0; old_others = []; fresh_others = [] })
begins kept old fresh = record {
  passed = [];
  coming = with_paths old;
  done = [];
  rest = with_paths fresh;
  olds = refl;
  news = refl;
  at = refl;
  flags = refl;
  below = tt;
  behind = tt;
  old_others = λ o. refl;
  fresh_others = λ o. refl;
}
