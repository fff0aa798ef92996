-- What a view was asked so far, and rows put together one by one.
use Rattle.std.proofs.Common.{◌≡◌, ◌≤◌, ◌+◌, ◌*◌, ℕ, Bool, true, false, List, [], ◌∷◌, ◌++◌, Option, None, length, length-append, mul-le-mul_left, add-mul, drop, refl, sym, ap, subst, ◌∙◌, arith, if◌then◌else◌, ◌<◌, slice_index_or}
use Rattle.std.specs.Prelude.{◌||◌}
use Rattle.std.proofs.lemmas.List.{drop_all, drop_more}
use Rattle.std.specs.Ordering.{is_eq}
use Rattle.std.proofs.lemmas.Bool.{both_ways}
use Rattle.mv_values.specs.declared.value.Value.{Value}
use Rattle.mv_values.specs.declared.rows.Keyed.{Keyed}
use Rattle.mv_values.specs.declared.pred.Pred.{Pred}
use Rattle.mv_values.specs.declared.patch.Write.{Write}
use Rattle.mv_values.specs.declared.schema.TableInfo.{TableInfo}
use Rattle.mv_values.specs.Keys.{IsRising}
use Rattle.mv_values.specs.Order.{key_order}
use Rattle.mv_values.specs.Patching.{row_of, placed, applied}
use Rattle.mv_values.specs.Counts.{one_more}
use Rattle.mv_values.proofs.KeyOrder.{tied}
use Rattle.mv_catalog.specs.declared.resolved.RStmt.{RStmt}
use Rattle.mv_catalog.specs.declared.resolved.RStmt.TheOpen.{RStmt-F}
use Rattle.mv_eval.specs.declared.state.Env.{Env}
use Rattle.mv_record.specs.declared.effect.Effect.{Effect}
use Rattle.mv_recorded.specs.Effects.{IsEffect}
use Rattle.mv_record.proofs.Patching.{row_of-placed_same, placed_other, rising_placed}
use Rattle.mv_undo.specs.Owning.{is_among}
use Rattle.mv_view.specs.Viewing.{Sight, with_rows_call, with_row_call}
use Rattle.mv_effect.specs.Looking.{IsSameView, WasNeverStale, AskedAtMost, AskedBy, AskedFor, different}

-- it was asked so often, and none of its answers was Stale
pub record WasAsked (n m : ℕ) (before after : Sight) : Type 0 where
  pub same : IsSameView before after
  pub stale : WasNeverStale before after
  pub counts : AskedAtMost n m before after

-- a count with one more is higher by one at most
more_at_most : (c : ℕ) → one_more c ≤ c + 1
more_at_most c = omega arith

-- a call of `rows`, and then calls of `row`
pub asked_look : (s t u : Sight) (n m : ℕ) → t ≡ with_rows_call s → AskedAtMost 0 n t u → n ≤ m → AskedAtMost 1 m s u
asked_look s t u n m is h le =
    let first : t.rows_calls ≡ one_more s.rows_calls = ap (λ (v : Sight). v.rows_calls) is in
    let second : t.row_calls ≡ s.row_calls = ap (λ (v : Sight). v.row_calls) is in
    record { for_rows = omega (arith, h.for_rows, first, more_at_most s.rows_calls); for_row = omega (arith, h.for_row, second, le) }

-- what was asked so far, where more might have been
pub asked_less : (n : ℕ) (s t : Sight) → WasAsked 0 n s t → WasAsked 0 (n + 1) s t
asked_less n s t asked = record { same = asked.same; stale = asked.stale; counts = record { for_rows = asked.counts.for_rows; for_row = omega (arith, asked.counts.for_row) } }

-- one more call of `row`
pub asked_row : (n : ℕ) (s t u : Sight) → WasAsked 0 n s t → u ≡ with_row_call t → WasAsked 0 (n + 1) s u
asked_row n s t u asked call = record {
  same = record {
    database = ap (λ (v : Sight). v.database) call ∙ asked.same.database;
    start = ap (λ (v : Sight). v.start) call ∙ asked.same.start;
    may_be_stale = ap (λ (v : Sight). v.may_be_stale) call ∙ asked.same.may_be_stale;
  };
  stale = record { answers = ap (λ (v : Sight). v.stale_answers) call ∙ asked.stale.answers; last_low = ap (λ (v : Sight). v.last_low) call ∙ asked.stale.last_low };
  counts = record {
    for_rows = let same : u.rows_calls ≡ t.rows_calls = ap (λ (v : Sight). v.rows_calls) call in omega (arith, same, asked.counts.for_rows);
    for_row = let one : u.row_calls ≡ one_more t.row_calls = ap (λ (v : Sight). v.row_calls) call in omega (arith, one, more_at_most t.row_calls, asked.counts.for_row);
  };
}

-- Rows under keys

-- with the rows under those of these keys that a test fails
abbrev pub with_rows_under : List Keyed → (List Value → Bool) → List (List Value) → List Keyed → List Keyed
with_rows_under rows test [] own = own
with_rows_under rows test (k ∷ ks) own = with_rows_under rows test ks (if test k then own else placed k (row_of rows k) own)

-- the first or the second
abbrev pub picked : Bool → Option (List Value) → Option (List Value) → Option (List Value)
picked b x y = if b then x else y

-- behind the rows under keys, each of these keys that fails the test has its row of the table
pub rows_under_all : (rows own : List Keyed) (test : List Value → Bool) (ks : List (List Value)) (key : List Value) → IsRising own → test key ≡ false
    → row_of (with_rows_under rows test ks own) key ≡ picked (is_among ks key) (row_of rows key) (row_of own key)
rows_under_all rows own test [] key h fails = refl
rows_under_all rows own test (k ∷ ks) key h fails =
    rows_under_all rows (if test k then own else placed k (row_of rows k) own) test ks key (rising (test k)) fails ∙ by (is_among ks key) (is_eq (key_order k key)) refl (test k) refl
  where
    rising : (t : Bool) → IsRising (if t then own else placed k (row_of rows k) own)
    rising true = h
    rising false = rising_placed k (row_of rows k) own h

    by : (b c : Bool) → is_eq (key_order k key) ≡ c → (t : Bool) → test k ≡ t → picked b (row_of rows key) (row_of (if t then own else placed k (row_of rows k) own) key) ≡ picked (c || b) (row_of rows key) (row_of own key)
    by true true e t g = refl
    by true false e t g = refl
    by false true e true g = absurd (both_ways (test k) (ap test (tied k key e) ∙ fails) g)
    by false true e false g =
        let same = tied k key e in
        subst (λ z. row_of (placed k (row_of rows k) own) z ≡ row_of rows z) same (row_of-placed_same k (row_of rows k) own h)
    by false false e true g = refl
    by false false e false g = placed_other k (row_of rows k) own key e

-- where no keys are left, those rows and no others were put together
pub rows_under_none : (rows own : List Keyed) (test : List Value → Bool) (ks : List (List Value)) (i : ℕ) (key : List Value) → length ks ≤ i
    → with_rows_under rows test (drop i ks) own ≡ with_rows_under rows test ks [] → is_among ks key ≡ true → test key ≡ false → row_of own key ≡ row_of rows key
rows_under_none rows own test ks i key le is among fails =
    ap (λ l. row_of l key) (sym (ap (λ l. with_rows_under rows test l own) (drop_all i ks le)) ∙ is)
    ∙ (rows_under_all rows [] test ks key none fails ∙ ap (λ b. picked b (row_of rows key) None) among)
  where
    none : IsRising []
    none = λ i j d lt within. absurd (omega (arith, within))

-- one key more
pub rows_under_more : (rows own later : List Keyed) (test : List Value → Bool) (ks : List (List Value)) (i : ℕ) (k : List Value) (whole : List Keyed) (t : Bool) → i < length ks → k ≡ slice_index_or ks i k → test k ≡ t → later ≡ (if t then own else placed k (row_of rows k) own)
    → with_rows_under rows test (drop i ks) own ≡ whole → with_rows_under rows test (drop (i + 1) ks) later ≡ whole
rows_under_more rows own later test ks i k whole t lt is tells made so =
    ap (with_rows_under rows test (drop (i + 1) ks)) (made ∙ ap (λ b. if b then own else placed k (row_of rows k) own) (sym tells))
    ∙ (ap (λ l. with_rows_under rows test l own) (sym (drop_more ks i k lt ∙ ap (λ j. j ∷ drop (i + 1) ks) (sym is))) ∙ so)

-- What was asked

-- a statement that asked one predicate
pub asked_one : (preds : List Pred) (pred : Pred) (ws : List Write) (s t : Sight) → preds ≡ pred ∷ [] → AskedAtMost 1 (different ws) s t → AskedFor preds ws s t
asked_one preds pred ws s t is h = subst (λ ps. AskedFor ps ws s t) (sym is) (record { for_rows = h.for_rows; for_row = omega (arith, h.for_row) })

-- nothing was asked
pub none_asked : (preds : List Pred) (ws : List Write) (at : Sight) → AskedFor preds ws at at
none_asked preds ws at = none (length preds) (length preds * different ws)
  where
    none : (n m : ℕ) → AskedAtMost n m at at
    none n m = record { for_rows = omega arith; for_row = omega arith }

-- more was asked
asked_more : (n k d e : ℕ) (a b c : Sight) → d ≤ e → AskedAtMost n (n * d) a b → AskedAtMost k (k * d) b c → AskedAtMost (n + k) ((n + k) * e) a c
asked_more n k d e a b c more first last =
    let before : n * d ≤ n * e = mul-le-mul_left n more in
    let later : k * d ≤ k * e = mul-le-mul_left k more in
    record {
      for_rows = omega (arith, first.for_rows, last.for_rows);
      for_row = omega (arith, first.for_row, last.for_row, before, later, add-mul n k e);
    }

-- for these predicates, and then for others
pub asked_both : (ps qs : List Pred) (ws vs : List Write) (a b c : Sight) → different ws ≤ different vs → AskedFor ps ws a b → AskedFor qs ws b c → AskedFor (ps ++ qs) vs a c
asked_both ps qs ws vs a b c more first last =
    subst (λ n. AskedAtMost n (n * different vs) a c) (sym (length-append ps qs)) (asked_more (length ps) (length qs) (different ws) (different vs) a b c more first last)

pub asked_all : (p : Pred) (qs : List Pred) (ws : List Write) (a b c : Sight) → AskedAtMost 1 (different ws) a b → AskedFor qs ws b c → AskedFor (p ∷ qs) ws a c
asked_all p qs ws a b c first last = asked_both (p ∷ []) qs ws ws a b c (omega arith) (asked_one (p ∷ []) p ws a b refl first) last

-- for the first alone
pub asked_first : (p : Pred) (qs : List Pred) (ws : List Write) (a b : Sight) → AskedAtMost 1 (different ws) a b → AskedFor (p ∷ qs) ws a b
asked_first p qs ws a b first = asked_all p qs ws a b b first (none_asked qs ws b)

-- Statements

-- a statement whose effect is known
pub asked_by : (tables : List TableInfo) (s : RStmt-F RStmt) (env : Env) (ws : List Write) (before after : Sight) (e : Effect) → IsEffect tables s env (applied ws before.database) e → AskedFor e.preds ws before after → AskedBy tables s env ws before after
asked_by tables s env ws before after e is h = λ lines. subst (λ ps. AskedFor ps ws before after) (ap (λ (x : Effect). x.preds) (is lines)) h

-- and that asks one predicate
pub asked_by_one : (tables : List TableInfo) (s : RStmt-F RStmt) (env : Env) (ws : List Write) (before after : Sight) (e : Effect) (pred : Pred) → IsEffect tables s env (applied ws before.database) e → e.preds ≡ pred ∷ [] → AskedAtMost 1 (different ws) before after
    → AskedBy tables s env ws before after
asked_by_one tables s env ws before after e pred is one h = asked_by tables s env ws before after e is (asked_one e.preds pred ws before after one h)

-- a statement that asks nothing
pub none_asked_by : (tables : List TableInfo) (s : RStmt-F RStmt) (env : Env) (ws : List Write) (at : Sight) → AskedBy tables s env ws at at
none_asked_by tables s env ws at = λ lines. none_asked _ ws at
