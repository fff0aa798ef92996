-- The rows in the span of keys that the tests leave.
use Rattle.std.proofs.Common.{◌≡◌, ℕ, zero, suc, ◌<◌, Bool, true, false, List, [], ◌∷◌, Option, Some, None, Result, Ok, Err, All, length, slice_index_or, refl, sym, ap, subst, ◌∙◌, arith}
use Rattle.std.specs.Prelude.{◌==◌, option_to_list, IfOk, map, if◌then◌else◌}
use Rattle.std.specs.List.{filter, position}
use Rattle.std.specs.Option.{option_map}
use Rattle.std.proofs.lemmas.Bool.{eqb-true, and_parts}
use Rattle.std.proofs.lemmas.List.Elements.{All-nil, All-cons, All-head, All-tail}
use Rattle.std.proofs.lemmas.List.Quantifiers.{position-Some}
use Rattle.mv_values.specs.declared.value.Value.{Value}
use Rattle.mv_values.specs.declared.pred.Test.{Test}
use Rattle.mv_values.specs.declared.rows.Keyed.{Keyed}
use Rattle.mv_values.specs.declared.calls.End.{End}
use Rattle.mv_values.specs.Columns.{column_of, columns_of}
use Rattle.mv_values.specs.Preds.{allows, passes, holds_at, agrees, meets}
use Rattle.mv_table.specs.declared.scan.Direction.{Direction}
use Rattle.mv_table.specs.declared.scan.Direction.TheVariants.{Forward, Backward}
use Rattle.mv_table.specs.Scans.{foremost}
use Rattle.mv_table.specs.Spans.{Admits, AdmitsOnly}
use Rattle.mv_catalog.specs.declared.resolved.RCond.{RCond}
use Rattle.mv_eval.specs.declared.state.Env.{Env}
use Rattle.mv_eval.specs.declared.state.Stop.{Stop}
use Rattle.mv_eval.specs.FirstRows.{AdmitMatches, MatchesOnly}
use Rattle.mv_eval.specs.Results.{Gives, then_do}
use Rattle.mv_eval.specs.Own.{StandUnder}
use Rattle.mv_eval.specs.Rows.{test_on, tests_of, IsPlaced}
use Rattle.mv_eval.specs.Value.{value_of}

-- a key column is at its place
pub place_there : (keys : List ℕ) (c place : ℕ) → Some place ≡ position (λ k. k == c) keys → (place < length keys) × (slice_index_or keys place 0 ≡ c)
place_there keys c place is =
    let found = position-Some (λ k. k == c) keys place 0 (sym is) in
    (found.0, eqb-true (slice_index_or keys place 0) c found.1)

-- the value at a place of a row's key
pub key_column : (row : List Value) (keys : List ℕ) (place : ℕ) → place < length keys → column_of (columns_of row keys) place ≡ column_of row (slice_index_or keys place 0)
key_column row [] place lt = absurd (omega (arith, lt))
key_column row (k ∷ ks) zero lt = refl
key_column row (k ∷ ks) (suc place) lt = key_column row ks place (omega (arith, lt))

-- where a row stands under its own key, a test that it passes admits the key
test_admits : (keys : List ℕ) (row : List Value) (test : Test) → IsPlaced keys test → passes row test ≡ true → agrees (columns_of row keys) test ≡ true
test_admits keys row test is h = by test.key_place is
  where
    by : (place : Option ℕ) → place ≡ position (λ k. k == test.column) keys → holds_at place test (columns_of row keys) ≡ true
    by None e = refl
    by (Some place) e =
        let there = place_there keys test.column place e in
        ap (allows test) (key_column row keys place there.0 ∙ ap (column_of row) there.1) ∙ h

-- so do all tests that it passes
pub tests_admit : (keys : List ℕ) (row : List Value) (tests : List Test) → All (IsPlaced keys) tests → meets tests row ≡ true → Admits tests (columns_of row keys)
tests_admit keys row [] places h = refl
tests_admit keys row (t ∷ ts) places h =
    let two = and_parts (passes row t) (meets ts row) h in
    rw (test_admits keys row t (All-head (IsPlaced keys) t ts places) two.0) (tests_admit keys row ts (All-tail (IsPlaced keys) t ts places) two.1)

-- where each row stands under its own key, the tests admit the keys of the rows that match
pub placed_admit : (keys : List ℕ) (tests : List Test) (rows : List Keyed) → All (IsPlaced keys) tests → StandUnder keys rows → AdmitMatches tests rows
placed_admit keys tests rows places own k d lt so = subst (Admits tests) (sym (own k d lt)) (tests_admit keys (slice_index_or rows k d).row tests places so)

long_columns : (row : List Value) (keys : List ℕ) → length (columns_of row keys) ≡ length keys
long_columns row [] = refl
long_columns row (k ∷ ks) = ap suc (long_columns row ks)

-- so of the rows that match each has the key that the tests give whole
pub whole_matches : (keys : List ℕ) (tests : List Test) (rows : List Keyed) (key : List Value) → All (IsPlaced keys) tests → StandUnder keys rows → AdmitsOnly tests (length keys) key → MatchesOnly tests key rows
whole_matches keys tests rows key places own only k d lt so =
    let item = slice_index_or rows k d in
    only item.key (ap length (own k d lt) ∙ long_columns item.row keys) (placed_admit keys tests rows places own k d lt so)

-- the tests of WHERE have their places
pub tests_placed : (keys : List ℕ) (conds : List RCond) (env : Env) (tests : List Test) → tests_of keys conds env ≡ Ok tests → All (IsPlaced keys) tests
tests_placed keys [] env tests h = let none : [] ≡ tests = cc in subst (All (IsPlaced keys)) none (All-nil (IsPlaced keys))
tests_placed keys (c ∷ cs) env tests h = by (value_of c.right env []) (tests_of keys cs env) (λ rest is. tests_placed keys cs env rest is) h
  where
    by : (v : Result Value End) (r : Result (List Test) End) → ((rest : List Test) → r ≡ Ok rest → All (IsPlaced keys) rest) → then_do v (λ v. then_do r (λ more. Ok (test_on keys c.column c.op v ∷ more))) ≡ Ok tests → All (IsPlaced keys) tests
    by (Ok v) (Ok rest) later h =
        let same : test_on keys c.column c.op v ∷ rest ≡ tests = cc in
        subst (All (IsPlaced keys)) same (All-cons (IsPlaced keys) (test_on keys c.column c.op v) rest refl (later rest refl))
    by (Ok v) (Err e) later h = cc
    by (Err e) r later h = cc

-- so have those that were made of it
pub placed_where : (keys : List ℕ) (conds : List RCond) (env : Env) (r : Result (List Test) Stop) → Gives r (tests_of keys conds env) → IfOk r (All (IsPlaced keys))
placed_where keys conds env (Ok tests) h = tests_placed keys conds env tests h
placed_where keys conds env (Err s) h = tt

-- a filter through what is seen
pub filter_seen : {A : Type 0} (seen : A → Keyed) (p : Keyed → Bool) (xs : List A) → map seen (filter (λ x. p (seen x)) xs) ≡ filter p (map seen xs)
filter_seen seen p [] = refl
filter_seen {A} seen p (x ∷ xs) = by (p (seen x)) (filter_seen seen p xs)
  where
    by : (b : Bool) → map seen (filter (λ x. p (seen x)) xs) ≡ filter p (map seen xs)
        → map seen (if b then x ∷ filter (λ x. p (seen x)) xs else filter (λ x. p (seen x)) xs) ≡ (if b then seen x ∷ filter p (map seen xs) else filter p (map seen xs))
    by true h = ap (λ l. seen x ∷ l) h
    by false h = h

-- One row or none

pub one_seen : {A : Type 0} (seen : A → Keyed) (o : Option A) → map seen (option_to_list o) ≡ option_to_list (option_map seen o)
one_seen seen None = refl
one_seen seen (Some x) = refl

pub foremost_of_one : (d : Direction) (o : Option Keyed) → o ≡ foremost d (option_to_list o)
foremost_of_one Forward None = refl
foremost_of_one Forward (Some x) = refl
foremost_of_one Backward None = refl
foremost_of_one Backward (Some x) = refl
