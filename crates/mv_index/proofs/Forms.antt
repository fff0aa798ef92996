-- Keys in their forms.
use Rattle.std.proofs.Common.{◌≡◌, Bool, true, false, cond, List, Option, Some, None, refl, sym, ap, subst, ◌∙◌}
use Rattle.std.specs.Cmp.{Equal-is}
use Rattle.std.specs.Ordering.{is_eq}
use Rattle.mv_values.specs.declared.value.Value.{Value}
use Rattle.mv_values.specs.Order.{key_order}
use Rattle.mv_values.proofs.KeyOrder.{exact_keys}
use Rattle.mv_table.specs.Entries.{item_of}
use Rattle.mv_index.specs.declared.keys.Form.{Form}
use Rattle.mv_index.specs.declared.keys.Form.TheVariants.{One}
use Rattle.mv_index.specs.Forms.{held}

abbrev pub no_item : Option (Unit {0})
no_item = None

abbrev pub an_item : Option (Unit {0})
an_item = Some tt

pub same : (a b : List Value) → is_eq (key_order a b) ≡ true → a ≡ b
same a b h = exact_keys a b ((Equal-is (key_order a b)).0 h)

-- the only key was put again
pub one_kept : (form : Form) (only key k : List Value) → form ≡ One only → is_eq (key_order only key) ≡ true → item_of (held form) k ≡ cond (is_eq (key_order key k)) (Some tt) (item_of (held form) k)
one_kept form only key k is h =
    subst (λ f. item_of (held f) k ≡ cond (is_eq (key_order key k)) an_item (item_of (held f) k)) (sym is)
    (subst (λ j. cond (is_eq (key_order j k)) an_item None ≡ cond (is_eq (key_order key k)) an_item (cond (is_eq (key_order j k)) an_item None)) (sym (same only key h)) (by (is_eq (key_order key k))))
  where
    by : (b : Bool) → cond b an_item None ≡ cond b an_item (cond b an_item None)
    by true = refl
    by false = refl

-- the only key was taken out
pub one_gone : (form : Form) (only key k : List Value) → form ≡ One only → is_eq (key_order only key) ≡ true → no_item ≡ cond (is_eq (key_order key k)) None (item_of (held form) k)
one_gone form only key k is h =
    subst (λ f. no_item ≡ cond (is_eq (key_order key k)) None (item_of (held f) k)) (sym is)
    (subst (λ j. no_item ≡ cond (is_eq (key_order key k)) None (cond (is_eq (key_order j k)) an_item None)) (sym (same only key h)) (by (is_eq (key_order key k))))
  where
    by : (b : Bool) → no_item ≡ cond b None (cond b an_item None)
    by true = refl
    by false = refl

-- another key stays
pub one_left : (form : Form) (only key k : List Value) → form ≡ One only → is_eq (key_order only key) ≡ false → cond (is_eq (key_order only k)) an_item None ≡ cond (is_eq (key_order key k)) None (item_of (held form) k)
one_left form only key k is h =
    subst (λ f. cond (is_eq (key_order only k)) an_item None ≡ cond (is_eq (key_order key k)) None (item_of (held f) k)) (sym is) (by (is_eq (key_order key k)) refl)
  where
    by : (b : Bool) → is_eq (key_order key k) ≡ b → cond (is_eq (key_order only k)) an_item None ≡ cond b None (cond (is_eq (key_order only k)) an_item None)
    by true e = ap (λ j. cond (is_eq (key_order only j)) an_item None) (sym (same key k e)) ∙ ap (λ b. cond b an_item None) h
    by false e = refl
