-- Keys under values, before and after a change of the keys under one value.
use Rattle.std.proofs.Common.{◌≡◌, arith, length, [], ◌∷◌, Bool, true, false, cond, List, Option, Some, None, refl, sym, ap, ◌∙◌}
use Rattle.std.specs.Prelude.{◌||◌, ◌&&◌, not}
use mathlib.Core.Path.{fun_ext, subst}
use Rattle.std.proofs.lemmas.Bool.{or_right, and_right}
use Rattle.std.proofs.lemmas.Cmp.{tied_itself}
use Rattle.std.specs.BTreeMap.{is_at}
use Rattle.std.specs.Map.{lookup}
use Rattle.std.specs.Cmp.{Equal-is}
use Rattle.std.specs.Option.{is_some}
use Rattle.std.specs.Ordering.{is_eq}
use Rattle.std.specs.declared.cmp.Ordering.{Ordering}
use Rattle.mv_values.specs.contracts.value.ValueOrd.TheImpl.{cmp-value}
use Rattle.mv_values.specs.declared.value.Value.{Value}
use Rattle.mv_values.specs.declared.value.Value.TheVariants.{Int, Text}
use Rattle.mv_values.specs.Order.{value_order, key_order}
use Rattle.mv_values.proofs.KeyOrder.{exact_values, exact_keys, same_key, value_order_total}
use Rattle.mv_table.specs.Entries.{item_of}
use Rattle.mv_index.specs.Forms.{KeyList}
use Rattle.mv_index.specs.Indexing.{keys_in, keys_at, has_key, is_pair}

abbrev pub Under : Type 0
Under = List (Value × KeyList)

values_alike : (a b : Value) → value_order a b ≡ cmp-value.it a b
values_alike (Int m) (Int n) = refl
values_alike (Int m) (Text t) = refl
values_alike (Text s) (Int n) = refl
values_alike (Text s) (Text t) = refl

orders_alike : value_order ≡ cmp-value.it
orders_alike = fun_ext (λ a. fun_ext (λ b. values_alike a b))

pub or_false : (b : Bool) → b || false ≡ b
or_false true = refl
or_false false = refl

pub and_true : (b : Bool) → b && true ≡ b
and_true true = refl
and_true false = refl

pub same_value : (a b : Value) → is_eq (value_order a b) ≡ true → a ≡ b
same_value a b h = exact_values a b ((Equal-is (value_order a b)).0 h)

-- a map's look-up by a value
pub looked_up : (v : Value) (es : Under) → lookup (is_at (cmp-value.it v)) es ≡ lookup (is_at (value_order v)) es
looked_up v es = ap (λ (order : Value → Value → Ordering). lookup (is_at (order v)) es) (sym orders_alike)

abbrev pub UpdatedBy : Value → Option KeyList → Under → Under → Type 0
UpdatedBy value keys old new = (q : Value) → lookup (is_at (cmp-value.it q)) new ≡ cond (is_at (cmp-value.it value) q) keys (lookup (is_at (cmp-value.it q)) old)

updated : (value : Value) (keys : Option KeyList) (old new : Under) → UpdatedBy value keys old new
    → (v : Value) → lookup (is_at (value_order v)) new ≡ cond (is_eq (value_order value v)) keys (lookup (is_at (value_order v)) old)
updated value keys old new h v =
    subst (λ (order : Value → Value → Ordering). lookup (is_at (order v)) new ≡ cond (is_eq (order value v)) keys (lookup (is_at (order v)) old)) (sym orders_alike) (h v)

-- a key was put under a value
pub key_put : (value : Value) (key : List Value) (old new : Under) (keys : KeyList) → UpdatedBy value (Some keys) old new
    → ((k : List Value) → item_of keys k ≡ cond (is_eq (key_order key k)) (Some tt) (item_of (keys_at old value) k))
    → (v : Value) (k : List Value) → has_key new v k ≡ (has_key old v k || is_pair value key v k)
key_put value key old new keys up put v k =
    ap (λ o. is_some (item_of (keys_in o) k)) (updated value (Some keys) old new up v) ∙ by (is_eq (value_order value v)) refl
  where
    here : (b : Bool) → is_some (cond b (Some tt) (item_of (keys_at old value) k)) ≡ (has_key old value k || b)
    here true = sym (or_right (has_key old value k) true refl)
    here false = sym (or_false (has_key old value k))

    by : (e : Bool) → is_eq (value_order value v) ≡ e → is_some (item_of (keys_in (cond e (Some keys) (lookup (is_at (value_order v)) old))) k) ≡ (has_key old v k || (e && is_eq (key_order key k)))
    by true h = ap is_some (put k) ∙ (here (is_eq (key_order key k)) ∙ ap (λ w. has_key old w k || is_eq (key_order key k)) (same_value value v h))
    by false h = sym (or_false (has_key old v k))

-- a key was taken out from under a value
pub key_taken : (value : Value) (key : List Value) (old new : Under) (keys : KeyList) → UpdatedBy value (Some keys) old new
    → ((k : List Value) → item_of keys k ≡ cond (is_eq (key_order key k)) None (item_of (keys_at old value) k))
    → (v : Value) (k : List Value) → has_key new v k ≡ (has_key old v k && not (is_pair value key v k))
key_taken value key old new keys up taken v k =
    ap (λ o. is_some (item_of (keys_in o) k)) (updated value (Some keys) old new up v) ∙ by (is_eq (value_order value v)) refl
  where
    here : (b : Bool) → is_some (cond b None (item_of (keys_at old value) k)) ≡ (has_key old value k && not b)
    here true = sym (and_right (has_key old value k) false refl)
    here false = sym (and_true (has_key old value k))

    by : (e : Bool) → is_eq (value_order value v) ≡ e → is_some (item_of (keys_in (cond e (Some keys) (lookup (is_at (value_order v)) old))) k) ≡ (has_key old v k && not (e && is_eq (key_order key k)))
    by true h = ap is_some (taken k) ∙ (here (is_eq (key_order key k)) ∙ ap (λ w. has_key old w k && not (is_eq (key_order key k))) (same_value value v h))
    by false h = sym (and_true (has_key old v k))

-- where a value has no keys, none can be taken out
pub key_absent : (value : Value) (key : List Value) (old : Under) → keys_at old value ≡ [] → (v : Value) (k : List Value) → has_key old v k ≡ (has_key old v k && not (is_pair value key v k))
key_absent value key old none v k = by (is_eq (value_order value v)) refl
  where
    by : (e : Bool) → is_eq (value_order value v) ≡ e → has_key old v k ≡ (has_key old v k && not (e && is_eq (key_order key k)))
    by true h =
        let gone : has_key old v k ≡ false = ap (λ w. has_key old w k) (sym (same_value value v h)) ∙ ap (λ keys. is_some (item_of keys k)) none in
        gone ∙ sym (ap (λ b. b && not (is_eq (key_order key k))) gone)
    by false h = sym (and_true (has_key old v k))

-- a value without keys was removed
pub value_gone : (value : Value) (old new : Under) → UpdatedBy value None old new → keys_at old value ≡ [] → (v : Value) (k : List Value) → has_key new v k ≡ has_key old v k
value_gone value old new up none v k =
    ap (λ o. is_some (item_of (keys_in o) k)) (updated value None old new up v) ∙ by (is_eq (value_order value v)) refl
  where
    by : (e : Bool) → is_eq (value_order value v) ≡ e → is_some (item_of (keys_in (cond e None (lookup (is_at (value_order v)) old))) k) ≡ has_key old v k
    by true h = sym (ap (λ w. has_key old w k) (sym (same_value value v h)) ∙ ap (λ keys. is_some (item_of keys k)) none)
    by false h = refl

-- As a call leaves it

-- the keys that a map has under a value
under_value : (value : Value) (old : Under) (was : KeyList) → Some was ≡ lookup (is_at (cmp-value.it value)) old → keys_at old value ≡ was
under_value value old was h = ap keys_in (sym (h ∙ looked_up value old))

pub none_under : (value : Value) (old : Under) → None ≡ lookup (is_at (cmp-value.it value)) old → keys_at old value ≡ []
none_under value old h = ap keys_in (sym (h ∙ looked_up value old))

pub put_there : (value : Value) (key copy : List Value) (old new : Under) (was keys : KeyList) → copy ≡ key → Some was ≡ lookup (is_at (cmp-value.it value)) old → UpdatedBy value (Some keys) old new
    → ((k : List Value) → item_of keys k ≡ cond (is_eq (key_order copy k)) (Some tt) (item_of was k)) → (v : Value) (k : List Value) → has_key new v k ≡ (has_key old v k || is_pair value key v k)
put_there value key copy old new was keys same there up put =
    key_put value key old new keys up
    (λ k. put k ∙ (ap (λ l. cond (is_eq (key_order copy k)) (Some tt) (item_of l k)) (sym (under_value value old was there)) ∙ ap (λ j. cond (is_eq (key_order j k)) (Some tt) (item_of (keys_at old value) k)) same))

pub put_first : (value v' : Value) (key copy : List Value) (old new : Under) (empty keys : KeyList) → v' ≡ value → copy ≡ key → None ≡ lookup (is_at (cmp-value.it value)) old → empty ≡ [] → UpdatedBy v' (Some keys) old new
    → ((k : List Value) → item_of keys k ≡ cond (is_eq (key_order copy k)) (Some tt) (item_of empty k)) → (v : Value) (k : List Value) → has_key new v k ≡ (has_key old v k || is_pair value key v k)
put_first value v' key copy old new empty keys is same none blank up put =
    key_put value key old new keys (subst (λ w. UpdatedBy w (Some keys) old new) is up)
    (λ k. put k ∙ (ap (λ l. cond (is_eq (key_order copy k)) (Some tt) (item_of l k)) (blank ∙ sym (none_under value old none)) ∙ ap (λ j. cond (is_eq (key_order j k)) (Some tt) (item_of (keys_at old value) k)) same))

-- the keys under a value are as before
pub put_back : (value : Value) (old new : Under) (was keys : KeyList) → keys ≡ was → Some was ≡ lookup (is_at (cmp-value.it value)) old → UpdatedBy value (Some keys) old new → (v : Value) (k : List Value) → has_key new v k ≡ has_key old v k
put_back value old new was keys same there up v k =
    ap (λ o. is_some (item_of (keys_in o) k)) (updated value (Some keys) old new up v) ∙ by (is_eq (value_order value v)) refl
  where
    by : (e : Bool) → is_eq (value_order value v) ≡ e → is_some (item_of (keys_in (cond e (Some keys) (lookup (is_at (value_order v)) old))) k) ≡ has_key old v k
    by true h = ap (λ l. is_some (item_of l k)) (same ∙ sym (under_value value old was there)) ∙ ap (λ w. has_key old w k) (same_value value v h)
    by false h = refl

pub taken_there : (value : Value) (key : List Value) (old new : Under) (was keys : KeyList) → Some was ≡ lookup (is_at (cmp-value.it value)) old → UpdatedBy value (Some keys) old new
    → ((k : List Value) → item_of keys k ≡ cond (is_eq (key_order key k)) None (item_of was k)) → (v : Value) (k : List Value) → has_key new v k ≡ (has_key old v k && not (is_pair value key v k))
taken_there value key old new was keys there up taken =
    key_taken value key old new keys up (λ k. taken k ∙ ap (λ l. cond (is_eq (key_order key k)) None (item_of l k)) (sym (under_value value old was there)))

-- no key is left
pub none_left : (value : Value) (new : Under) (keys : KeyList) → lookup (is_at (cmp-value.it value)) new ≡ Some keys → length keys ≡ 0 → keys_at new value ≡ []
none_left value new keys there none = ap keys_in (sym (looked_up value new) ∙ there) ∙ by keys none
  where
    by : (l : KeyList) → length l ≡ 0 → l ≡ []
    by [] e = refl
    by (x ∷ xs) e = absurd (omega (arith, e))

-- a pair that is another is the same value and key
pub same_pair : (value v : Value) (key k : List Value) → is_pair value key v k ≡ true → (v ≡ value) × (k ≡ key)
same_pair value v key k h = by (is_eq (value_order value v)) refl (is_eq (key_order key k)) refl h
  where
    by : (a : Bool) → is_eq (value_order value v) ≡ a → (b : Bool) → is_eq (key_order key k) ≡ b → a && b ≡ true → (v ≡ value) × (k ≡ key)
    by true e true f g = (sym (same_value value v e), sym (exact_keys key k ((Equal-is (key_order key k)).0 f)))
    by true e false f g = cc
    by false e b f g = cc

pub pair_itself : (value : Value) (key : List Value) → is_pair value key value key ≡ true
pair_itself value key = ap (λ o. is_eq o && is_eq (key_order key key)) (tied_itself value_order_total value) ∙ ap is_eq (same_key key)
