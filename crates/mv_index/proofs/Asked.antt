-- What a view was asked.
use Rattle.std.proofs.Common.{◌≡◌, ◌≤◌, ◌+◌, ℕ, true, false, Option, Some, None, All, Result, Ok, Err, length, slice_index_or, inl, inr, refl, sym, ap, subst, ◌∙◌, arith}
use Rattle.std.specs.Prelude.{IfSome}
use Rattle.std.specs.Option.{is_some}
use Rattle.std.proofs.lemmas.Bool.{both_ways}
use Rattle.mv_values.specs.declared.pred.Test.{Test}
use Rattle.mv_values.specs.declared.pred.Pred.{Pred}
use Rattle.mv_values.specs.Counts.{one_more}
use Rattle.mv_view.specs.declared.view.Refused.{Refused}
use Rattle.mv_view.specs.declared.view.Refused.TheVariants.{NoMemory, Stale}
use Rattle.mv_view.specs.Viewing.{Sight, with_rows_call, with_row_call, answered, IsStale, MayAnswer}
use Rattle.mv_index.specs.Forms.{KeyList}
use Rattle.mv_index.specs.Indexing.{Contents, lens_of, gives_key, keys_for, IsNoWorse, AreFewest}
use Rattle.mv_index.specs.declared.lens.KeyLens.{KeyLens}
use Rattle.mv_index.specs.Asking.{Indexed, AskedAtMost, PassesOn, LooksUp}

-- the view with other counts of calls
abbrev pub counted : Sight → ℕ → ℕ → Sight
counted s rows row = record s { rows_calls = rows; row_calls = row }

-- a view with an index
abbrev pub indexed : Contents → ℕ → ℕ → Sight → Indexed
indexed index rows row inner = record { index = index; inner = inner; rows_calls = rows; row_calls = row }

-- nothing but the counts of calls changed
abbrev pub OnlyCounts : Sight → Sight → Type 0
OnlyCounts before after = after ≡ counted before after.rows_calls after.row_calls

module _ {A : Type 0} where
  rows_calls_of : (r : Result A Refused) (s : Sight) → (answered r s).rows_calls ≡ s.rows_calls
  rows_calls_of (Ok x) s = refl
  rows_calls_of (Err NoMemory) s = refl
  rows_calls_of (Err (Stale start low)) s = refl

  row_calls_of : (r : Result A Refused) (s : Sight) → (answered r s).row_calls ≡ s.row_calls
  row_calls_of (Ok x) s = refl
  row_calls_of (Err NoMemory) s = refl
  row_calls_of (Err (Stale start low)) s = refl

  database_of : (r : Result A Refused) (s : Sight) → (answered r s).database ≡ s.database
  database_of (Ok x) s = refl
  database_of (Err NoMemory) s = refl
  database_of (Err (Stale start low)) s = refl

  -- a call that counts so
  called : (r : Result A Refused) (before after : Sight) (n m : ℕ) → after ≡ answered r (counted before n m) → MayAnswer before after r → PassesOn before after r
  called r before after n m is may =
      let rows : after.rows_calls ≡ n = ap (λ (s : Sight). s.rows_calls) is ∙ rows_calls_of r (counted before n m) in
      let row : after.row_calls ≡ m = ap (λ (s : Sight). s.row_calls) is ∙ row_calls_of r (counted before n m) in
      record {
        sight = is ∙ (ap (λ x. answered r (counted before x m)) (sym rows) ∙ ap (λ x. answered r (counted before after.rows_calls x)) (sym row));
        stale = may;
      }

  pub row_passes : (r : Result A Refused) (before after : Sight) → after ≡ answered r (with_row_call before) → MayAnswer before after r → PassesOn before after r
  row_passes r before after is may = called r before after before.rows_calls (one_more before.row_calls) is may

  pub row_asked : (r : Result A Refused) (before after : Sight) → after ≡ answered r (with_row_call before) → AskedAtMost 0 1 before after
  row_asked r before after is =
      let rows : after.rows_calls ≡ before.rows_calls = ap (λ (s : Sight). s.rows_calls) is ∙ rows_calls_of r (with_row_call before) in
      let row : after.row_calls ≡ one_more before.row_calls = ap (λ (s : Sight). s.row_calls) is ∙ row_calls_of r (with_row_call before) in
      record { for_rows = omega (arith, rows); for_row = omega (arith, row, more_at_most before.row_calls) }
    where
      more_at_most : (c : ℕ) → one_more c ≤ c + 1
      more_at_most c = omega arith

  pub rows_passes : (r : Result A Refused) (before after : Sight) → after ≡ answered r (with_rows_call before) → MayAnswer before after r → PassesOn before after r
  rows_passes r before after is may = called r before after (one_more before.rows_calls) before.row_calls is may

  pub rows_asked : (r : Result A Refused) (before after : Sight) → after ≡ answered r (with_rows_call before) → after.rows_calls ≤ before.rows_calls + 1
  rows_asked r before after is =
      let rows : after.rows_calls ≡ one_more before.rows_calls = ap (λ (s : Sight). s.rows_calls) is ∙ rows_calls_of r (with_rows_call before) in
      omega (arith, rows, more_at_most before.rows_calls)
    where
      more_at_most : (c : ℕ) → one_more c ≤ c + 1
      more_at_most c = omega arith

  -- the database is the same
  pub same_database : (r : Result A Refused) (before after : Sight) → PassesOn before after r → after.database ≡ before.database
  same_database r before after h = ap (λ (s : Sight). s.database) h.sight ∙ database_of r (counted before after.rows_calls after.row_calls)

  -- as a view that has counts of its own sees it
  pub seen_through : (r : Result A Refused) (before after : Sight) (rows row : ℕ) → PassesOn before after r → counted after rows row ≡ answered r (counted before rows row)
  seen_through (Ok x) before after rows row h = ap (λ s. counted s rows row) h.sight
  seen_through (Err NoMemory) before after rows row h = ap (λ s. counted s rows row) h.sight
  seen_through (Err (Stale start low)) before after rows row h = ap (λ s. counted s rows row) h.sight

  pub stale_through : (r : Result A Refused) (before after : Sight) (n m rows row : ℕ) → PassesOn before after r → MayAnswer (counted before n m) (counted after rows row) r
  stale_through (Ok x) before after n m rows row h = tt
  stale_through (Err NoMemory) before after n m rows row h = tt
  stale_through (Err (Stale start low)) before after n m rows row h = record { may_be = h.stale.may_be; own_start = h.stale.own_start; too_late = h.stale.too_late; rose = h.stale.rose }

-- One call after another

stale_then : {B : Type 0} (a b c : Sight) (r : Result B Refused) → OnlyCounts a b → MayAnswer b c r → MayAnswer a c r
stale_then a b c (Ok x) e h = tt
stale_then a b c (Err NoMemory) e h = tt
stale_then a b c (Err (Stale start low)) e h =
    let s : IsStale (counted a b.rows_calls b.row_calls) c start low = subst (λ v. IsStale v c start low) e h in
    record { may_be = s.may_be; own_start = s.own_start; too_late = s.too_late; rose = s.rose }

pub only_then : (a b c : Sight) → OnlyCounts a b → OnlyCounts b c → OnlyCounts a c
only_then a b c e h = h ∙ ap (λ s. counted s c.rows_calls c.row_calls) e

pub passes_then : {B : Type 0} (a b c : Sight) (r : Result B Refused) → OnlyCounts a b → PassesOn b c r → PassesOn a c r
passes_then a b c r e h = record { sight = h.sight ∙ ap (λ s. answered r (counted s c.rows_calls c.row_calls)) e; stale = stale_then a b c r e h.stale }

-- a refusal is passed on
pub passes_err : {A B : Type 0} (a b : Sight) (e : Refused) → PassesOn {A = A} a b (Err e) → PassesOn {A = B} a b (Err e)
passes_err a b NoMemory h = record { sight = h.sight; stale = tt }
passes_err a b (Stale start low) h = record { sight = h.sight; stale = h.stale }

-- there is no memory for what was found
pub passes_memory : {B : Type 0} (a b : Sight) → OnlyCounts a b → PassesOn {A = B} a b (Err NoMemory)
passes_memory a b e = record { sight = e; stale = tt }

pub passes_ok : {B : Type 0} (a b : Sight) (y : B) → OnlyCounts a b → PassesOn a b (Ok y)
passes_ok a b y e = record { sight = e; stale = tt }

pub asked_less : (n m : ℕ) (a b : Sight) → AskedAtMost 0 n a b → n ≤ m → AskedAtMost 0 m a b
asked_less n m a b h le = record { for_rows = h.for_rows; for_row = omega (arith, h.for_row, le) }

pub not_asked : (n m : ℕ) (a : Sight) → AskedAtMost n m a a
not_asked n m a = record { for_rows = omega arith; for_row = omega arith }

-- How a look-up asks

-- a table that has had a row isn't one that has had none
unlike : {B : Type 0} (o : Option KeyLens) → is_some o ≡ true → o ≡ None → B
unlike o h e = absurd (both_ways (is_some o) (ap is_some e) h)

module _ {A : Type 0} (index : Contents) (pred : Pred) where
  -- nothing is asked
  asks_nothing : (a : Sight) (r : Result A Refused) → PassesOn a a r → LooksUp index pred a a r
  asks_nothing a r passes = record {
    by_none = λ e. not_asked 0 0 a;
    by_key = λ e. not_asked 0 1 a;
    by_value = λ e k d lt. some (keys_for index pred.table (slice_index_or pred.tests k d));
    at_most = omega arith;
    passes_on = passes;
  }
    where
      some : (o : Option KeyList) → IfSome o (λ keys. AskedAtMost 0 (length keys) a a)
      some None = tt
      some (Some keys) = not_asked 0 (length keys) a

  pub looks_none : (a : Sight) → LooksUp {A = A} index pred a a (Err NoMemory)
  looks_none a = asks_nothing a (Err NoMemory) (passes_memory a a refl)

  pub looks_nowhere : (a : Sight) (x : A) → LooksUp index pred a a (Ok x)
  looks_nowhere a x = asks_nothing a (Ok x) (passes_ok a a x refl)

  pub looks_key : (a b : Sight) (r : Result A Refused) → is_some (lens_of index pred.table) ≡ true → gives_key index pred ≡ true → AskedAtMost 0 1 a b → PassesOn a b r → LooksUp index pred a b r
  looks_key a b r some given asked passes = record {
    by_none = λ none. unlike (lens_of index pred.table) some none;
    by_key = λ e. asked;
    by_value = λ e. absurd (both_ways (gives_key index pred) e given);
    at_most = let h = asked.for_rows in omega (arith, h);
    passes_on = passes;
  }

  pub looks_keys : (a b : Sight) (r : Result A Refused) (keys : KeyList) → is_some (lens_of index pred.table) ≡ true → gives_key index pred ≡ false → AreFewest index pred keys → AskedAtMost 0 (length keys) a b → PassesOn a b r → LooksUp index pred a b r
  looks_keys a b r keys some given few asked passes = record {
    by_none = λ none. unlike (lens_of index pred.table) some none;
    by_key = λ e. absurd (both_ways (gives_key index pred) given e);
    by_value = λ e k d lt. least (slice_index_or pred.tests k d) (keys_for index pred.table (slice_index_or pred.tests k d)) (few.fewest k d lt);
    at_most = let h = asked.for_rows in omega (arith, h);
    passes_on = passes;
  }
    where
      least : (other : Test) (o : Option KeyList) → IfSome o (λ others. IsNoWorse (length keys) few.test.column (length others) other.column) → IfSome o (λ others. AskedAtMost 0 (length others) a b)
      least other None h = tt
      least other (Some others) h = elim h [
        | inl less ↦ asked_less (length keys) (length others) a b asked (omega (arith, less))
        | inr same ↦ let is = same.0 in asked_less (length keys) (length others) a b asked (omega (arith, is))
      ]

  pub looks_rows : (a b : Sight) (r : Result A Refused) → is_some (lens_of index pred.table) ≡ true → gives_key index pred ≡ false → All (λ test. keys_for index pred.table test ≡ None) pred.tests → b ≡ answered r (with_rows_call a) → MayAnswer a b r → LooksUp index pred a b r
  looks_rows a b r some given none is may = record {
    by_none = λ e. unlike (lens_of index pred.table) some e;
    by_key = λ e. absurd (both_ways (gives_key index pred) given e);
    by_value = λ e k d lt. subst (λ o. IfSome o (λ keys. AskedAtMost 0 (length keys) a b)) (sym (none k d lt)) tt;
    at_most = rows_asked r a b is;
    passes_on = rows_passes r a b is may;
  }
