-- How often a repair queries its view.
use Rattle.std.proofs.Common.{◌≡◌, ◌≤◌, ℕ, suc, ◌*◌, Bool, true, false, not, List, [], ◌∷◌, ◌++◌, length, if◌then◌else◌, refl, sym, ap, subst, ◌∙◌, arith, append_assoc, append-nil, mul-le-mul_left}
use Rattle.std.specs.List.{filter, flat_map}
use Rattle.std.proofs.lemmas.Grind.{flat_map-append}
use Rattle.std.proofs.lemmas.List.Elements.{filter-append}
use Rattle.mv_values.specs.declared.pred.Pred.{Pred}
use Rattle.mv_values.specs.declared.patch.Write.{Write}
use Rattle.mv_record.specs.declared.record.Record.{Record}
use Rattle.mv_record.specs.Runs.{writes_in}
use Rattle.mv_recorded.specs.Own.{Each}
use Rattle.mv_undo.specs.Owning.{touches}
use Rattle.mv_view.specs.Viewing.{Sight}
use Rattle.mv_effect.specs.Looking.{AskedFor, different}
use Rattle.mv_effect.proofs.Different.{different_more}
use Rattle.mv_history.specs.declared.change.Change.{Change}
use Rattle.mv_history.specs.Kept.{Path, Placed, with_paths, next_placed, is_path, among, kept_paths}
use Rattle.mv_repair.specs.Repairing.{queried}
use Rattle.mv_soundness.proofs.Placing.{placed_more}
use Rattle.mv_repair.proofs.Marking.{among_still}

-- Keys

choose : (b : Bool) (n : ℕ) → n ≤ (if b then n else suc n)
choose true n = omega arith
choose false n = omega arith

different_behind : (vs ws : List Write) → different ws ≤ different (vs ++ ws)
different_behind [] ws = omega arith
different_behind (v ∷ vs) ws =
    let rest : different ws ≤ different (vs ++ ws) = different_behind vs ws in
    let one : different (vs ++ ws) ≤ different (v ∷ (vs ++ ws)) = choose (touches v.table v.key (vs ++ ws)) (different (vs ++ ws)) in
    omega (arith, rest, one)

writes_both : (xs ys : List Record) → writes_in (xs ++ ys) ≡ writes_in xs ++ writes_in ys
writes_both xs ys = flat_map-append (λ (r : Record). r.writes) xs ys

-- the keys of all records are no fewer than those of some
pub keys_within : (os ns : List Record) → different (writes_in ns) ≤ different (writes_in (os ++ ns))
keys_within os ns = subst (λ ws. different (writes_in ns) ≤ different ws) (sym (writes_both os ns)) (different_behind (writes_in os) (writes_in ns))

pub keys_more : (os ns : List Record) (r : Record) → different (writes_in (os ++ ns)) ≤ different (writes_in (os ++ (ns ++ r ∷ [])))
keys_more os ns r =
    subst (λ ws. different (writes_in (os ++ ns)) ≤ different ws) (sym (writes_both (os ++ ns) (r ∷ [])) ∙ ap writes_in (append_assoc os ns (r ∷ []))) (different_more (writes_in (os ++ ns)) (writes_in (r ∷ [])))

-- Predicates

-- a record isn't kept
abbrev test : List Path → Placed → Bool
test kept r = not (among kept r.path)

abbrev asked_by : List Placed → List Pred
asked_by rs = flat_map (λ r. r.it.preds) rs

filter_same : (p q : Placed → Bool) (xs : List Placed) → Each (λ x. p x ≡ q x) xs → filter p xs ≡ filter q xs
filter_same p q [] h = refl
filter_same p q (x ∷ xs) h = by (p x) refl (filter_same p q xs h.1)
  where
    by : (b : Bool) → p x ≡ b → filter p xs ≡ filter q xs → filter p (x ∷ xs) ≡ filter q (x ∷ xs)
    by true e rest = let f : q x ≡ true = sym h.0 ∙ e in rw (e, f) (ap (λ l. x ∷ l) rest)
    by false e rest = let f : q x ≡ false = sym h.0 ∙ e in rw (e, f) rest

same_tests : (kept : List Path) (p : Path) (xs : List Placed) → Each (λ (a : Placed). is_path a.path p ≡ false) xs → Each (λ a. test (kept ++ p ∷ []) a ≡ test kept a) xs
same_tests kept p [] h = tt
same_tests kept p (x ∷ xs) h = (ap not (among_still kept p x.path h.0), same_tests kept p xs h.1)

filter_one : (p : Placed → Bool) (x : Placed) (b : Bool) → p x ≡ b → asked_by (filter p (x ∷ [])) ≡ (if b then x.it.preds else [])
filter_one p x true e = rw e (append-nil x.it.preds)
filter_one p x false e = rw e refl

asked_more : (p : Placed → Bool) (xs : List Placed) (x : Placed) (b : Bool) → p x ≡ b → asked_by (filter p (xs ++ x ∷ [])) ≡ asked_by (filter p xs) ++ (if b then x.it.preds else [])
asked_more p xs x b h = ap asked_by (filter-append p xs (x ∷ [])) ∙ (flat_map-append (λ (r : Placed). r.it.preds) (filter p xs) (filter p (x ∷ [])) ∙ ap (λ ps. asked_by (filter p xs) ++ ps) (filter_one p x b h))

-- those of a record that is executed come after the others
pub executed_asks : (os ns : List Record) (r : Record) (changes : List Change) → kept_paths os (ns ++ r ∷ []) changes ≡ kept_paths os ns changes → among (kept_paths os ns changes) (next_placed ns r).path ≡ false
    → queried os (ns ++ r ∷ []) changes ≡ queried os ns changes ++ r.preds
executed_asks os ns r changes same fresh =
    ap (λ k. asked_by (filter (test k) (with_paths (ns ++ r ∷ [])))) same
    ∙ (ap (λ l. asked_by (filter (test (kept_paths os ns changes)) l)) (placed_more ns r)
    ∙ asked_more (test (kept_paths os ns changes)) (with_paths ns) (next_placed ns r) true (ap not fresh))

-- a record that is kept adds none
pub kept_asks : (os ns : List Record) (r : Record) (changes : List Change) → kept_paths os (ns ++ r ∷ []) changes ≡ kept_paths os ns changes ++ (next_placed ns r).path ∷ []
    → among (kept_paths os ns changes ++ (next_placed ns r).path ∷ []) (next_placed ns r).path ≡ true
    → Each (λ (a : Placed). is_path a.path (next_placed ns r).path ≡ false) (with_paths ns) → queried os (ns ++ r ∷ []) changes ≡ queried os ns changes
kept_asks os ns r changes more so apart =
    let k : List Path = kept_paths os ns changes in
    let p : Path = (next_placed ns r).path in
    ap (λ k. asked_by (filter (test k) (with_paths (ns ++ r ∷ [])))) more
    ∙ (ap (λ l. asked_by (filter (test (k ++ p ∷ [])) l)) (placed_more ns r)
    ∙ (asked_more (test (k ++ p ∷ [])) (with_paths ns) (next_placed ns r) false (ap not so)
    ∙ (append-nil (asked_by (filter (test (k ++ p ∷ [])) (with_paths ns))) ∙ ap asked_by (filter_same (test (k ++ p ∷ [])) (test k) (with_paths ns) (same_tests k p (with_paths ns) apart)))))

-- Queries

-- no more was queried than may be now
pub still_queried : (ps : List Pred) (ws vs : List Write) (start now : Sight) → different ws ≤ different vs → AskedFor ps ws start now → AskedFor ps vs start now
still_queried ps ws vs start now le q =
    let more : length ps * different ws ≤ length ps * different vs = mul-le-mul_left (length ps) le in
    record { for_rows = q.for_rows; for_row = omega (arith, q.for_row, more) }
