-- The comparison of two runs goes on: by an old record that is passed, by a record that is kept, and by one that isn't.
use Rattle.std.proofs.Common.{◌≡◌, ℕ, suc, ◌+◌, ◌≤◌, Bool, true, false, List, [], ◌∷◌, ◌++◌, Some, map, length, if◌then◌else◌, refl, sym, ap, subst, ◌∙◌, arith, append_assoc, append-nil, length-append}
use Rattle.std.specs.Prelude.{◌||◌, slice_get}
use Rattle.std.specs.Ordering.{nat_cmp}
use Rattle.std.specs.Cmp.Lexicographic.{slice_cmp}
use Rattle.std.proofs.lemmas.Grind.{flat_map-append}
use Rattle.std.proofs.lemmas.List.{length-map, map_push}
use Rattle.mv_values.specs.declared.patch.Write.{Write}
use Rattle.mv_values.proofs.Deciding.{less_is, or_none}
use Rattle.mv_record.specs.declared.record.Record.{Record}
use Rattle.mv_record.specs.Paths.{IsEarlierPath}
use Rattle.mv_recorded.specs.Own.{Each}
use Rattle.mv_recorded.proofs.Inverting.{each_map, each_join}
use Rattle.mv_history.specs.Kept.{Path, Placed, is_path, among, other_writes, stays, keep}
use Rattle.mv_history.proofs.Zipping.{zip_its, zip_firsts}
use Rattle.mv_soundness.proofs.Keeping.{Climbs, among_more, among_new}
use Rattle.mv_soundness.proofs.Placing.{apart, apart_back}
use Rattle.mv_soundness.proofs.Walking.{earlier_then, climbs_parts}
use Rattle.mv_audit.specs.declared.walk.Run.{Run}
use Rattle.mv_audit.specs.declared.walk.Runs.{Runs}
use Rattle.mv_audit.specs.declared.walk.Walk.{Walk}
use Rattle.mv_audit.specs.Comparing.{placed_in, changes_in, IsWhole, AreSound, is_before, writes_of, any_write, writes_at, AreBefore, ComeBefore, IsAlong, executed_by, noted, passed_more, kept_more, other_more}

-- Records with paths

get_here : {A B : Type 0} (f : A → B) (xs ys : List A) → slice_get (map f (xs ++ ys)) (length xs) ≡ slice_get (map f ys) 0
get_here f [] ys = refl
get_here f (x ∷ xs) ys = get_here f xs ys

-- the path of the next record, and the record
pub next_path : (r : Run) (xs ys : List Placed) → IsWhole r → placed_in r ≡ xs ++ ys → slice_get r.paths.now (length xs) ≡ slice_get (map (λ (p : Placed). p.path) ys) 0
next_path r xs ys whole is =
    ap (λ l. slice_get l (length xs)) (sym (zip_firsts r.paths.now r.records.now whole) ∙ ap (map (λ (p : Placed). p.path)) is) ∙ get_here (λ (p : Placed). p.path) xs ys

pub next_record : (r : Run) (xs ys : List Placed) → IsWhole r → placed_in r ≡ xs ++ ys → slice_get r.records.now (length xs) ≡ slice_get (map (λ (p : Placed). p.it) ys) 0
next_record r xs ys whole is =
    ap (λ l. slice_get l (length xs)) (sym (zip_its r.paths.now r.records.now whole) ∙ ap (map (λ (p : Placed). p.it)) is) ∙ get_here (λ (p : Placed). p.it) xs ys

-- where there is a path, there is a record with it
pub record First (p : Path) (ys : List Placed) : Type 0 where
  pub b : Placed
  pub more : List Placed
  pub are : ys ≡ b ∷ more
  pub path : b.path ≡ p

pub first_is : (p : Path) (ys : List Placed) → slice_get (map (λ (p : Placed). p.path) ys) 0 ≡ Some p → First p ys
first_is p [] h = cc
first_is p (b ∷ more) h = let same : b.path ≡ p = cc in record { b = b; more = more; are = refl; path = same }

-- where the next path is before another one, there is a record with it
pub record Before (p : Path) (ys : List Placed) : Type 0 where
  pub b : Placed
  pub more : List Placed
  pub are : ys ≡ b ∷ more
  pub earlier : IsEarlierPath b.path p

pub before_is : (p : Path) (ys : List Placed) → is_before (slice_get (map (λ (p : Placed). p.path) ys) 0) p ≡ true → Before p ys
before_is p [] h = cc
before_is p (b ∷ more) h = record { b = b; more = more; are = refl; earlier = less_is (slice_cmp nat_cmp b.path p) h }

-- Others

noted_writes : (rs : List Record) (ns : List ℕ) (n : ℕ) (r : Record) → slice_get rs n ≡ Some r → writes_at rs (noted (any_write (writes_of (slice_get rs n))) n ns) ≡ writes_at rs ns ++ r.writes
noted_writes rs ns n r there = ap (λ x. writes_at rs (noted (any_write (writes_of x)) n ns)) there ∙ by r.writes refl
  where
    by : (ws : List Write) → r.writes ≡ ws → writes_at rs (noted (any_write ws) n ns) ≡ writes_at rs ns ++ ws
    by [] e = sym (append-nil (writes_at rs ns))
    by (w ∷ ws) e = flat_map-append (λ m. writes_of (slice_get rs m)) ns (n ∷ []) ∙ ap (λ l. writes_at rs ns ++ l) (ap (λ x. writes_of x ++ []) there ∙ (append-nil r.writes ∙ e))

other_more_is : (kept : List Path) (xs : List Placed) (o : Placed) (b : Bool) → among kept o.path ≡ b → other_writes kept (xs ++ o ∷ []) ≡ other_writes kept xs ++ (if b then [] else o.it.writes)
other_more_is kept xs o b h =
    flat_map-append (λ (r : Placed). if among kept r.path then [] else r.it.writes) xs (o ∷ [])
    ∙ ap (λ l. other_writes kept xs ++ l) (append-nil (if among kept o.path then [] else o.it.writes) ∙ ap (λ x. if x then [] else o.it.writes) h)

other_none : (kept : List Path) (xs : List Placed) (o : Placed) → among kept o.path ≡ true → other_writes kept (xs ++ o ∷ []) ≡ other_writes kept xs
other_none kept xs o h = other_more_is kept xs o true h ∙ append-nil (other_writes kept xs)

among_same : (kept : List Path) (p q : Path) → is_path q p ≡ false → among (kept ++ p ∷ []) q ≡ among kept q
among_same kept p q h = among_more kept p q ∙ (ap (λ b. among kept q || b) h ∙ or_none (among kept q))

others_same : (kept : List Path) (p : Path) (xs : List Placed) → Each (λ (a : Placed). IsEarlierPath a.path p) xs → other_writes (kept ++ p ∷ []) xs ≡ other_writes kept xs
others_same kept p [] h = refl
others_same kept p (x ∷ xs) h =
    ap (λ b. (if b then [] else x.it.writes) ++ other_writes (kept ++ p ∷ []) xs) (among_same kept p x.path (apart x.path p h.0))
    ∙ ap (λ ws. (if among kept x.path then [] else x.it.writes) ++ ws) (others_same kept p xs h.1)

-- Flags

abbrev flags_in : List Path → List Placed → List Bool
flags_in kept ds = map (λ (r : Placed). among kept r.path) ds

flags_same : (kept : List Path) (p : Path) (xs : List Placed) → Each (λ (a : Placed). IsEarlierPath a.path p) xs → flags_in (kept ++ p ∷ []) xs ≡ flags_in kept xs
flags_same kept p [] h = refl
flags_same kept p (x ∷ xs) h = ap (λ b. b ∷ flags_in (kept ++ p ∷ []) xs) (among_same kept p x.path (apart x.path p h.0)) ∙ ap (λ l. among kept x.path ∷ l) (flags_same kept p xs h.1)

pub many_flags : (kept : List Path) (ds : List Placed) (flags : List Bool) → flags ≡ flags_in kept ds → length flags ≡ length ds
many_flags kept ds flags h = ap length h ∙ length-map ds (λ (r : Placed). among kept r.path)

more_flags : (kept : List Path) (ds : List Placed) (flags : List Bool) (b : Placed) (is : Bool) → flags ≡ flags_in kept ds → is ≡ among kept b.path → flags ++ is ∷ [] ≡ flags_in kept (ds ++ b ∷ [])
more_flags kept ds flags b is h k = ap (λ l. l ++ is ∷ []) h ∙ (ap (λ x. flags_in kept ds ++ x ∷ []) k ∙ sym (map_push (λ (r : Placed). among kept r.path) ds b))

-- Order

not_among : (kept : List Path) (q : Path) → Each (λ p. IsEarlierPath p q) kept → among kept q ≡ false
not_among [] q h = refl
not_among (p ∷ ps) q h = ap (λ b. b || among ps q) (apart_back p q h.0) ∙ not_among ps q h.1

before_first : (ps : List Path) (b : Placed) (bs : List Placed) → AreBefore ps (b ∷ bs) → Each (λ p. IsEarlierPath p b.path) ps
before_first ps b bs h = each_map (λ p. Each (λ (c : Placed). IsEarlierPath p c.path) (b ∷ bs)) (λ p. IsEarlierPath p b.path) ps (λ p k. k.0) h

before_rest : (ps : List Path) (b : Placed) (bs : List Placed) → AreBefore ps (b ∷ bs) → AreBefore ps bs
before_rest ps b bs h = each_map (λ p. Each (λ (c : Placed). IsEarlierPath p c.path) (b ∷ bs)) (λ p. Each (λ (c : Placed). IsEarlierPath p c.path) bs) ps (λ p k. k.1) h

come_first : (xs : List Placed) (b : Placed) (bs : List Placed) → ComeBefore xs (b ∷ bs) → Each (λ (a : Placed). IsEarlierPath a.path b.path) xs
come_first xs b bs h = each_map (λ (a : Placed). Each (λ (c : Placed). IsEarlierPath a.path c.path) (b ∷ bs)) (λ (a : Placed). IsEarlierPath a.path b.path) xs (λ a k. k.0) h

come_rest : (xs : List Placed) (b : Placed) (bs : List Placed) → ComeBefore xs (b ∷ bs) → ComeBefore xs bs
come_rest xs b bs h = each_map (λ (a : Placed). Each (λ (c : Placed). IsEarlierPath a.path c.path) (b ∷ bs)) (λ (a : Placed). Each (λ (c : Placed). IsEarlierPath a.path c.path) bs) xs (λ a k. k.1) h

pub after_all : (p q : Path) (ys : List Placed) → IsEarlierPath p q → Each (λ (c : Placed). IsEarlierPath q c.path) ys → Each (λ (c : Placed). IsEarlierPath p c.path) ys
after_all p q ys h k = each_map (λ (c : Placed). IsEarlierPath q c.path) (λ (c : Placed). IsEarlierPath p c.path) ys (λ c l. earlier_then p q c.path h l) k

same_before : (p q : Path) (ys : List Placed) → p ≡ q → Each (λ (c : Placed). IsEarlierPath q c.path) ys → Each (λ (c : Placed). IsEarlierPath p c.path) ys
same_before p q ys is k = subst (λ z. Each (λ (c : Placed). IsEarlierPath z c.path) ys) (sym is) k

next_at : (at : ℕ) (xs : List Placed) (o : Placed) → at ≡ length xs → at + 1 ≡ length (xs ++ o ∷ [])
next_at at xs o h = omega (arith, h, length-append xs (o ∷ []))

split_on : (all xs : List Placed) (b : Placed) (ys zs : List Placed) → all ≡ xs ++ zs → zs ≡ b ∷ ys → all ≡ (xs ++ b ∷ []) ++ ys
split_on all xs b ys zs h k = h ∙ (ap (λ l. xs ++ l) k ∙ sym (append_assoc xs (b ∷ []) ys))

-- The next record of the new run

pub next_of : (runs : Runs) (w : Walk) (p : Path) → AreSound runs → slice_get runs.new.paths.now (length w.flags) ≡ Some p → (u : IsAlong runs w) → First p u.rest
next_of runs w p s h u =
    first_is p u.rest (sym (next_path runs.new u.done u.rest s.new_whole u.news) ∙ (ap (slice_get runs.new.paths.now) (sym (many_flags u.kept u.done w.flags u.flags)) ∙ h))

-- An old record is passed

pub passed_on : (runs : Runs) (w : Walk) (p : Path) → AreSound runs → (u : IsAlong runs w) → (f : First p u.rest) → (n : Before p u.coming) → IsAlong runs (passed_more runs.old.records.now w)
passed_on runs w p s u f n =
    let o : Placed = n.b in
    let b : Placed = f.b in
    let climbs : Climbs (u.done ++ b ∷ f.more) = subst Climbs (u.news ∙ ap (λ l. u.done ++ l) f.are) s.new_climbs in
    let before : IsEarlierPath o.path b.path = subst (IsEarlierPath o.path) (sym f.path) n.earlier in
    let kept_coming : AreBefore u.kept (o ∷ n.more) = subst (AreBefore u.kept) n.are u.kept_coming in
    let there : slice_get runs.old.records.now w.at ≡ Some o.it =
    ap (slice_get runs.old.records.now) u.at ∙ (next_record runs.old u.passed u.coming s.old_whole u.olds ∙ ap (λ l. slice_get (map (λ (p : Placed). p.it) l) 0) n.are) in
    record {
      kept = u.kept;
      passed = u.passed ++ o ∷ [];
      coming = n.more;
      done = u.done;
      rest = u.rest;
      olds = split_on (placed_in runs.old) u.passed o n.more u.coming u.olds n.are;
      news = u.news;
      at = next_at w.at u.passed o u.at;
      flags = u.flags;
      executed = u.executed;
      left = u.left;
      kept_rest = u.kept_rest;
      kept_coming = before_rest u.kept o n.more kept_coming;
      passed_rest = each_join (λ (a : Placed). Each (λ (c : Placed). IsEarlierPath a.path c.path) u.rest) u.passed (o ∷ []) u.passed_rest
          (subst (λ l. Each (λ (c : Placed). IsEarlierPath o.path c.path) l) (sym f.are) (before, after_all o.path b.path f.more before (climbs_parts u.done b f.more climbs).1), tt);
      old_others = noted_writes runs.old.records.now w.old_others w.at o.it there
          ∙ (ap (λ l. l ++ o.it.writes) u.old_others ∙ sym (other_more_is u.kept u.passed o false (not_among u.kept o.path (before_first u.kept o n.more kept_coming))));
      new_others = u.new_others;
    }

-- A record is kept

pub kept_on : (runs : Runs) (w : Walk) (p : Path) → AreSound runs → (u : IsAlong runs w) → (f : First p u.rest) → (g : First p u.coming) → stays (changes_in runs) u.kept (placed_in runs.old) u.done f.b ≡ true → IsAlong runs (kept_more w)
kept_on runs w p s u f g stay =
    let o : Placed = g.b in
    let b : Placed = f.b in
    let next : List Path = u.kept ++ b.path ∷ [] in
    let same : o.path ≡ b.path = g.path ∙ sym f.path in
    let old_climbs : Climbs (u.passed ++ o ∷ g.more) = subst Climbs (u.olds ∙ ap (λ l. u.passed ++ l) g.are) s.old_climbs in
    let climbs : Climbs (u.done ++ b ∷ f.more) = subst Climbs (u.news ∙ ap (λ l. u.done ++ l) f.are) s.new_climbs in
    let later : Each (λ (c : Placed). IsEarlierPath b.path c.path) f.more = (climbs_parts u.done b f.more climbs).1 in
    let done_before : Each (λ (a : Placed). IsEarlierPath a.path b.path) u.done = (climbs_parts u.done b f.more climbs).0 in
    let passed_rest : ComeBefore u.passed (b ∷ f.more) = subst (ComeBefore u.passed) f.are u.passed_rest in
    let kept_rest : AreBefore u.kept (b ∷ f.more) = subst (AreBefore u.kept) f.are u.kept_rest in
    let kept_coming : AreBefore u.kept (o ∷ g.more) = subst (AreBefore u.kept) g.are u.kept_coming in
    record {
      kept = u.kept ++ b.path ∷ [];
      passed = u.passed ++ o ∷ [];
      coming = g.more;
      done = u.done ++ b ∷ [];
      rest = f.more;
      olds = split_on (placed_in runs.old) u.passed o g.more u.coming u.olds g.are;
      news = split_on (placed_in runs.new) u.done b f.more u.rest u.news f.are;
      at = next_at w.at u.passed o u.at;
      flags = more_flags next u.done w.flags b true (u.flags ∙ sym (flags_same u.kept b.path u.done done_before)) (sym (among_new u.kept b.path));
      executed = (let many = u.executed in let m = length-append u.kept (b.path ∷ []) in let n = length-append u.done (b ∷ []) in omega (arith, many, m, n));
      left = sym (ap (λ x. keep (changes_in runs) (placed_in runs.old) (if x then u.kept ++ b.path ∷ [] else u.kept) (u.done ++ b ∷ []) f.more) stay)
          ∙ (ap (keep (changes_in runs) (placed_in runs.old) u.kept u.done) (sym f.are) ∙ u.left);
      kept_rest = each_join (λ q. Each (λ (c : Placed). IsEarlierPath q c.path) f.more) u.kept (b.path ∷ []) (before_rest u.kept b f.more kept_rest) (later, tt);
      kept_coming = each_join (λ q. Each (λ (c : Placed). IsEarlierPath q c.path) g.more) u.kept (b.path ∷ []) (before_rest u.kept o g.more kept_coming)
          (same_before b.path o.path g.more (sym same) (climbs_parts u.passed o g.more old_climbs).1, tt);
      passed_rest = each_join (λ (a : Placed). Each (λ (c : Placed). IsEarlierPath a.path c.path) f.more) u.passed (o ∷ []) (come_rest u.passed b f.more passed_rest) (same_before o.path b.path f.more same later, tt);
      old_others = u.old_others
          ∙ (sym (others_same u.kept b.path u.passed (come_first u.passed b f.more passed_rest)) ∙ sym (other_none next u.passed o (ap (among next) same ∙ among_new u.kept b.path)));
      new_others = u.new_others ∙ (sym (others_same u.kept b.path u.done done_before) ∙ sym (other_none next u.done b (among_new u.kept b.path)));
    }

-- A record isn't kept

pub renewed_on : (runs : Runs) (w : Walk) (p : Path) (n : ℕ) → AreSound runs → (u : IsAlong runs w) → (f : First p u.rest) → n ≡ length w.flags → stays (changes_in runs) u.kept (placed_in runs.old) u.done f.b ≡ false
    → IsAlong runs (other_more runs.new.records.now n w)
renewed_on runs w p n s u f long stay =
    let b : Placed = f.b in
    let passed_rest : ComeBefore u.passed (b ∷ f.more) = subst (ComeBefore u.passed) f.are u.passed_rest in
    let kept_rest : AreBefore u.kept (b ∷ f.more) = subst (AreBefore u.kept) f.are u.kept_rest in
    let out : among u.kept b.path ≡ false = not_among u.kept b.path (before_first u.kept b f.more kept_rest) in
    let there : slice_get runs.new.records.now n ≡ Some b.it =
    ap (slice_get runs.new.records.now) (long ∙ many_flags u.kept u.done w.flags u.flags)
    ∙ (next_record runs.new u.done u.rest s.new_whole u.news ∙ ap (λ l. slice_get (map (λ (p : Placed). p.it) l) 0) f.are) in
    record {
      kept = u.kept;
      passed = u.passed;
      coming = u.coming;
      done = u.done ++ b ∷ [];
      rest = f.more;
      olds = u.olds;
      news = split_on (placed_in runs.new) u.done b f.more u.rest u.news f.are;
      at = u.at;
      flags = more_flags u.kept u.done w.flags b false u.flags (sym out);
      executed = (let many = u.executed in let m = length-append u.done (b ∷ []) in omega (arith, many, m));
      left = sym (ap (λ x. keep (changes_in runs) (placed_in runs.old) (if x then u.kept ++ b.path ∷ [] else u.kept) (u.done ++ b ∷ []) f.more) stay)
          ∙ (ap (keep (changes_in runs) (placed_in runs.old) u.kept u.done) (sym f.are) ∙ u.left);
      kept_rest = before_rest u.kept b f.more kept_rest;
      kept_coming = u.kept_coming;
      passed_rest = come_rest u.passed b f.more passed_rest;
      old_others = u.old_others;
      new_others = noted_writes runs.new.records.now w.new_others n b.it there ∙ (ap (λ l. l ++ b.it.writes) u.new_others ∙ sym (other_more_is u.kept u.done b false out));
    }

-- The beginning and the end

pub begins : (runs : Runs) → IsAlong runs (record { flags = []; executed = 0; at = 0; old_others = []; new_others = [] })
begins runs = record {
  kept = [];
  passed = [];
  coming = placed_in runs.old;
  done = [];
  rest = placed_in runs.new;
  olds = refl;
  news = refl;
  at = refl;
  flags = refl;
  executed = refl;
  left = refl;
  kept_rest = tt;
  kept_coming = tt;
  passed_rest = tt;
  old_others = refl;
  new_others = refl;
}

many_placed : (r : Run) → IsWhole r → length (placed_in r) ≡ length r.records.now
many_placed r whole = sym (length-map (placed_in r) (λ (p : Placed). p.it)) ∙ ap length (zip_its r.paths.now r.records.now whole)

pub ends : (runs : Runs) (w : Walk) → AreSound runs → length w.flags ≡ length runs.new.records.now → IsAlong runs w → w.executed ≡ executed_by runs
ends runs w s long u = by u.rest refl
  where
    all : length u.done + length u.rest ≡ length runs.new.records.now
    all = sym (length-append u.done u.rest) ∙ (ap length (sym u.news) ∙ many_placed runs.new s.new_whole)

    many : length u.done ≡ length runs.new.records.now
    many = sym (many_flags u.kept u.done w.flags u.flags) ∙ long

    by : (rest : List Placed) → u.rest ≡ rest → w.executed ≡ executed_by runs
    by [] e =
        let kept : length u.kept ≡ length (keep (changes_in runs) (placed_in runs.old) [] [] (placed_in runs.new)) = ap length (sym (ap (keep (changes_in runs) (placed_in runs.old) u.kept u.done) e) ∙ u.left) in
        let count = u.executed in
        omega (arith, kept, count, many)
    by (b ∷ bs) e = let n : length u.rest ≡ suc (length bs) = ap length e in absurd (omega (arith, n, all, many))

pub pass_next : (runs : Runs) (w : Walk) (p : Path) → AreSound runs → slice_get runs.new.paths.now (length w.flags) ≡ Some p → is_before (slice_get runs.old.paths.now w.at) p ≡ true → IsAlong runs w → IsAlong runs (passed_more runs.old.records.now w)
pass_next runs w p s next before u =
    passed_on runs w p s u (next_of runs w p s next u)
    (before_is p u.coming (ap (λ q. is_before q p) (sym (ap (slice_get runs.old.paths.now) u.at ∙ next_path runs.old u.passed u.coming s.old_whole u.olds)) ∙ before))

pub few_executed : (runs : Runs) (w : Walk) → IsAlong runs w → w.executed ≤ length w.flags
few_executed runs w u = let many = many_flags u.kept u.done w.flags u.flags in let count = u.executed in omega (arith, many, count)
