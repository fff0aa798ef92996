-- Keys that are noted.
use Rattle.std.proofs.Common.{◌≡◌, ◌<◌, ◌≤◌, ◌++◌, ◌==◌, ℕ, Bool, true, false, inl, inr, List, [], ◌∷◌, Option, Some, None, refl, sym, arith, rules, le_trans}
use Rattle.std.specs.Prelude.{OnOk, Result, Ok, Err, ◌||◌, nat_le}
use Rattle.std.specs.List.{list_any}
use Rattle.std.proofs.lemmas.Bool.{cases_Bool, eq-eqb, eqb-true, false≢true}
use Rattle.mv_values.specs.declared.value.Value.{Value}
use Rattle.mv_values.proofs.KeyOrder.{same_key}
use Rattle.mv_store.specs.Kept.{is_entry, is_due, written_at, HasEntry, Climb, table_keys_in, is_table_key, HasTableKey}
use Rattle.mv_store.specs.declared.written_keys.TableKey.{TableKey}
use Rattle.mv_store.specs.declared.written_keys.Written.{Written}

at_itself : (s : TableKey) → is_table_key s.table s.key s ≡ true
at_itself s = rw (eq-eqb s.table s.table refl, same_key s.key) refl

pub last_noted : (ss : List TableKey) (s : TableKey) → HasTableKey s.table s.key (ss ++ s ∷ [])
last_noted [] s = rw (at_itself s) refl
last_noted (x ∷ ss) s = by (is_table_key s.table s.key x) (last_noted ss s)
  where
    by : (b : Bool) → HasTableKey s.table s.key (ss ++ s ∷ []) → b || list_any (is_table_key s.table s.key) (ss ++ s ∷ []) ≡ true
    by true more = refl
    by false more = more

pub on_sure : {A E : Type 0} (r : Result A E) (P : Type 0) → P → OnOk r P
on_sure (Ok x) P h = h
on_sure (Err e) P h = tt

-- Keys of commits

pub entry_left : (n t : ℕ) (key : List Value) (ws more : List Written) → HasEntry n t key ws → HasEntry n t key (ws ++ more)
entry_left n t key [] more h = absurd (false≢true h)
entry_left n t key (w ∷ ws) more h = by (is_entry n t key w) h (entry_left n t key ws more)
  where
    by : (b : Bool) → b || list_any (is_entry n t key) ws ≡ true → (HasEntry n t key ws → HasEntry n t key (ws ++ more)) → b || list_any (is_entry n t key) (ws ++ more) ≡ true
    by true e rest = refl
    by false e rest = rest e

-- the keys of a call are those of its commit
pub entry_last : (n t : ℕ) (key : List Value) (ws : List Written) (o : Option (List TableKey)) → HasTableKey t key (table_keys_in o) → HasEntry n t key (ws ++ written_at n o)
entry_last n t key [] None h = absurd (false≢true h)
entry_last n t key [] (Some table_keys) h = let there : list_any (is_table_key t key) table_keys ≡ true = h in rw (eq-eqb n n refl, there) refl
entry_last n t key (w ∷ ws) o h = by (is_entry n t key w) (entry_last n t key ws o h)
  where
    by : (b : Bool) → HasEntry n t key (ws ++ written_at n o) → b || list_any (is_entry n t key) (ws ++ written_at n o) ≡ true
    by true more = refl
    by false more = more

-- a key that isn't among those of the first commit is among those of a later one
pub entry_rest : (n t : ℕ) (key : List Value) (w : Written) (ws : List Written) → is_entry n t key w ≡ false → HasEntry n t key (w ∷ ws) → HasEntry n t key ws
entry_rest n t key w ws differs h = by (is_entry n t key w) differs h
  where
    by : (b : Bool) → b ≡ false → b || list_any (is_entry n t key) ws ≡ true → HasEntry n t key ws
    by true e g = absurd (false≢true (sym e))
    by false e g = g

pub climb_push : (first last n : ℕ) (ws : List Written) (o : Option (List TableKey)) → Climb first ws last → last ≤ n → Climb first (ws ++ written_at n o) n
climb_push first last n [] None h le = le_trans h le
climb_push first last n [] (Some table_keys) h le = (le_trans h le, omega arith)
climb_push first last n (w ∷ ws) o h le = (h.0, climb_push w.commit last n ws o h.1 le)

pub climb_from : (low first last : ℕ) (ws : List Written) → low ≤ first → Climb first ws last → Climb low ws last
climb_from low first last [] le h = le_trans le h
climb_from low first last (w ∷ ws) le h = (le_trans le h.0, h.1)

entry_above : (low first last n t : ℕ) (key : List Value) (ws : List Written) → low < first → Climb first ws last → HasEntry n t key ws → low < n
entry_above low first last n t key [] lt h e = absurd (false≢true e)
entry_above low first last n t key (w ∷ ws) lt h e = elim (cases_Bool (w.commit == n)) [
  | inl same ↦ let is : w.commit ≡ n = eqb-true w.commit n same in let up : first ≤ w.commit = h.0 in omega (arith, lt, is, up)
  | inr differs ↦ let up : first ≤ w.commit = h.0 in entry_above low w.commit last n t key ws (omega (arith, lt, up)) h.1 (entry_rest n t key w ws (rw differs refl) e)
]

-- where the first commit is not due, none is
pub none_due : (low last n t : ℕ) (key : List Value) (ws : List Written) → is_due low ws ≡ false → Climb 0 ws last → HasEntry n t key ws → low < n
none_due low last n t key [] due h e = absurd (false≢true e)
none_due low last n t key (w ∷ ws) due h e =
    let after : nat_le w.commit low ≡ false = due in
    let lt : low < w.commit = search (rules, after) in
    entry_above low w.commit last n t key (w ∷ ws) lt (omega arith, h.1) e
