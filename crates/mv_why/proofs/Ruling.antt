-- A record has no reason if and only if it stays.
use Rattle.std.proofs.Common.{◌≡◌, ℕ, Bool, true, false, not, List, [], ◌∷◌, ◌++◌, Option, Some, None, map, if◌then◌else◌, refl, sym, ap, ◌∙◌}
use Rattle.std.specs.Prelude.{◌&&◌, ◌||◌, is_none, option_map}
use Rattle.std.specs.List.{list_any}
use Rattle.std.specs.Option.{option_or}
use Rattle.std.proofs.lemmas.List.Folds.{list_any-append}
use Rattle.mv_record.specs.declared.record.Read.{Read}
use Rattle.mv_record.specs.declared.record.Record.{Record}
use Rattle.mv_history.specs.declared.change.Change.{Change}
use Rattle.mv_history.specs.Hits.{hits, any_hits, touches}
use Rattle.mv_history.specs.Kept.{Path, Placed, among, at, front, path_at, is_kept, same_path, reads_stay, other_writes, is_untouched, stays_with}
use Rattle.mv_changes.specs.declared.recent.Committed.{Committed}
use Rattle.mv_why.specs.declared.cause.Reason.{Reason}
use Rattle.mv_why.specs.declared.cause.Reason.TheVariants.{Controller, Reads, Hit, Touched}
use Rattle.mv_why.specs.Causes.{controller, reading, hit_in, hit, touching, least, touched, why_with, changes_since}
use Rattle.mv_why.specs.Laws.{ReasonsAreOfTheRule}

none_or : (a b : Option Reason) → is_none (option_or a b) ≡ (is_none a && is_none b)
none_or None b = refl
none_or (Some x) b = refl

both : (a b c d : Bool) → a ≡ c → b ≡ d → (a && b) ≡ (c && d)
both a b c d h k = cc

neither : (a b : Bool) → not (a || b) ≡ (not a && not b)
neither true b = refl
neither false b = refl

-- Points

controller_none : (kept : List Path) (ns : List Placed) (parent : Option ℕ) → is_none (controller kept ns parent) ≡ is_kept kept (path_at ns parent)
controller_none kept ns None = refl
controller_none kept ns (Some n) = by (is_kept kept (path_at ns (Some n)))
  where
    by : (b : Bool) → is_none (if b then None else Some (Controller n)) ≡ b
    by true = refl
    by false = refl

reading_none : (kept : List Path) (os : List Placed) (as' : List Read) (ns : List Placed) (bs : List Read) → is_none (reading kept os as' ns bs) ≡ reads_stay kept os as' ns bs
reading_none kept os [] ns [] = refl
reading_none kept os [] ns (b ∷ bs) = refl
reading_none kept os (a ∷ as') ns [] = refl
reading_none kept os (a ∷ as') ns (b ∷ bs) = by (same_path (path_at os a.definer) (path_at ns b.definer)) (is_kept kept (path_at ns b.definer)) (reading_none kept os as' ns bs)
  where
    by : (s k : Bool) → is_none (reading kept os as' ns bs) ≡ reads_stay kept os as' ns bs
        → is_none (if s && k then reading kept os as' ns bs else Some (Reads a.definer b.definer)) ≡ (s && (k && reads_stay kept os as' ns bs))
    by true true h = h
    by true false h = refl
    by false k h = refl

hit_in_none : (commit : ℕ) (cs : List Change) (before : List Record) (o : Record) → is_none (hit_in commit cs before o) ≡ not (any_hits cs before o)
hit_in_none commit [] before o = refl
hit_in_none commit (c ∷ cs) before o = by (hits before o c) (hit_in_none commit cs before o)
  where
    by : (b : Bool) → is_none (hit_in commit cs before o) ≡ not (any_hits cs before o)
        → is_none (if b then Some (Hit commit c.table c.key) else hit_in commit cs before o) ≡ not (b || any_hits cs before o)
    by true h = refl
    by false h = h

hit_none : (since : List Committed) (before : List Record) (o : Record) → is_none (hit since before o) ≡ not (any_hits (changes_since since) before o)
hit_none [] before o = refl
hit_none (c ∷ cs) before o =
    none_or (hit_in c.commit c.changes before o) (hit cs before o)
    ∙ (both (is_none (hit_in c.commit c.changes before o)) (is_none (hit cs before o)) (not (any_hits c.changes before o)) (not (any_hits (changes_since cs) before o)) (hit_in_none c.commit c.changes before o) (hit_none cs before o)
    ∙ (sym (neither (any_hits c.changes before o) (any_hits (changes_since cs) before o))
    ∙ ap not (sym (list_any-append (hits before o) c.changes (changes_since cs)))))

abbrev is_nil : List Path → Bool
is_nil [] = true
is_nil (p ∷ ps) = false

nil_both : (xs ys : List Path) → is_nil (xs ++ ys) ≡ (is_nil xs && is_nil ys)
nil_both [] ys = refl
nil_both (x ∷ xs) ys = refl

none_least : (ps : List Path) → is_none (option_map (λ path. Touched path) (least ps)) ≡ is_nil ps
none_least [] = refl
none_least (p ∷ ps) = refl

nil_touching : (kept : List Path) (o : Record) (rs : List Placed) → is_nil (touching kept o rs) ≡ not (list_any (touches o) (other_writes kept rs))
nil_touching kept o [] = refl
nil_touching kept o (r ∷ rs) = by (among kept r.path) (list_any (touches o) r.it.writes) refl (nil_touching kept o rs)
  where
    by : (k l : Bool) → list_any (touches o) r.it.writes ≡ l → is_nil (touching kept o rs) ≡ not (list_any (touches o) (other_writes kept rs))
        → is_nil ((if not k && l then r.path ∷ [] else []) ++ touching kept o rs) ≡ not (list_any (touches o) ((if k then [] else r.it.writes) ++ other_writes kept rs))
    by true l e h = h
    by false true e h = sym (ap not (list_any-append (touches o) r.it.writes (other_writes kept rs) ∙ ap (λ b. b || list_any (touches o) (other_writes kept rs)) e))
    by false false e h = h ∙ sym (ap not (list_any-append (touches o) r.it.writes (other_writes kept rs) ∙ ap (λ b. b || list_any (touches o) (other_writes kept rs)) e))

touched_none : (kept : List Path) (before ns : List Placed) (o : Record) → is_none (touched kept before ns o) ≡ is_untouched kept before ns o
touched_none kept before ns o =
    none_least (touching kept o before ++ touching kept o ns)
    ∙ (nil_both (touching kept o before) (touching kept o ns)
    ∙ (both (is_nil (touching kept o before)) (is_nil (touching kept o ns)) (not (list_any (touches o) (other_writes kept before))) (not (list_any (touches o) (other_writes kept ns))) (nil_touching kept o before) (nil_touching kept o ns)
    ∙ (sym (neither (list_any (touches o) (other_writes kept before)) (list_any (touches o) (other_writes kept ns)))
    ∙ ap not (sym (list_any-append (touches o) (other_writes kept before) (other_writes kept ns))))))

-- All of them

with_points : (kept : List Path) (since : List Committed) (os before ns : List Placed) (r : Record) (o : Option Placed)
    → is_none (why_with kept since os before ns r o) ≡ stays_with (changes_since since) kept os before ns r o
with_points kept since os before ns r None = refl
with_points kept since os before ns r (Some o) =
    let c : Option Reason = controller kept ns r.parent in
    let d : Option Reason = reading kept os o.it.reads ns r.reads in
    let h : Option Reason = hit since (map (λ (p : Placed). p.it) before) o.it in
    let t : Option Reason = touched kept before ns o.it in
    none_or c (option_or d (option_or h t))
    ∙ both (is_none c) (is_none (option_or d (option_or h t))) (is_kept kept (path_at ns r.parent))
    (reads_stay kept os o.it.reads ns r.reads && (not (any_hits (changes_since since) (map (λ (p : Placed). p.it) before) o.it) && is_untouched kept before ns o.it)) (controller_none kept ns r.parent)
    (none_or d (option_or h t)
    ∙ both (is_none d) (is_none (option_or h t)) (reads_stay kept os o.it.reads ns r.reads) (not (any_hits (changes_since since) (map (λ (p : Placed). p.it) before) o.it) && is_untouched kept before ns o.it) (reading_none kept os o.it.reads ns r.reads)
    (none_or h t
    ∙ both (is_none h) (is_none t) (not (any_hits (changes_since since) (map (λ (p : Placed). p.it) before) o.it)) (is_untouched kept before ns o.it) (hit_none since (map (λ (p : Placed). p.it) before) o.it) (touched_none kept before ns o.it)))

pub points : ReasonsAreOfTheRule
points kept since os ns r = with_points kept since os (front r.path os) ns r.it (at r.path os)
