-- When a change hits a record.
use Rattle.std.proofs.Common.{◌≡◌, ◌==◌, Bool, true, false, not, cond, List, [], ◌∷◌, Option, if◌then◌else◌, refl, sym, ap, ◌∙◌}
use Rattle.std.specs.Prelude.{◌↔◌, IsTrue, ◌&&◌, ◌||◌}
use Rattle.std.specs.List.{list_any, filter}
use Rattle.std.proofs.lemmas.Cmp.{nat_eq_equiv}
use Rattle.mv_values.specs.declared.value.Value.{Value}
use Rattle.mv_values.specs.declared.pred.Pred.{Pred}
use Rattle.mv_values.specs.declared.patch.Write.{Write}
use Rattle.mv_values.specs.Preds.{admits, sees}
use Rattle.mv_record.specs.declared.record.Record.{Record}
use Rattle.mv_record.specs.Runs.{writes_in}
use Rattle.mv_undo.specs.Owning.{touches}
use Rattle.mv_history.specs.declared.change.Change.{Change}
use Rattle.mv_history.specs.Changes.{is_same}
use Rattle.mv_history.specs.Hits.{is_alike, hits_predicate, hits, any_hits}
use Rattle.mv_history.proofs.Listing.{same_is, same_itself}
use Rattle.mv_history.proofs.Alike.{alike_sees}
use Rattle.mv_changes.specs.Hitting.{hits_pred}

false_is : IsTrue false → ⊥
false_is h = cc

-- a test that tells whether two rows are the same
pub tells_same : (b : Bool) (x y : Option (List Value)) → IsTrue b ↔ (x ≡ y) → b ≡ is_same x y
tells_same true x y h = sym (ap (λ z. is_same z y) (h.0 refl) ∙ same_itself y)
tells_same false x y h = by (is_same x y) refl
  where
    by : (s : Bool) → is_same x y ≡ s → false ≡ s
    by true e = absurd (false_is (h.1 (same_is x y e)))
    by false e = refl

-- what a predicate names and doesn't differ, it sees alike
seen_alike : (c : Change) (p : Pred) → is_alike p c.before c.after ≡ true → is_same (sees p c.before) (sees p c.after) ≡ true
seen_alike c p h = ap (λ s. is_same s (sees p c.after)) (alike_sees p c.before c.after h) ∙ same_itself (sees p c.after)

pub unseen_hits : (ws : List Write) (c : Change) (p : Pred) → is_same (sees p c.before) (sees p c.after) ≡ true
    → hits_pred ws c p ≡ (admits p c.key && (not (is_alike p c.before c.after) && touches c.table c.key ws))
unseen_hits ws c p s = by (touches c.table c.key ws) (admits p c.key) (is_alike p c.before c.after) (is_same (sees p c.before) (sees p c.after)) s
  where
    by : (w a l s : Bool) → s ≡ true → (if w then a && not l else not s) ≡ (a && (not l && w))
    by true true true s e = refl
    by true true false s e = refl
    by true false l s e = refl
    by false true true true e = refl
    by false true false true e = refl
    by false false l true e = refl
    by false a l false e = cc

pub seen_hits : (ws : List Write) (c : Change) (p : Pred) → is_same (sees p c.before) (sees p c.after) ≡ false
    → hits_pred ws c p ≡ (admits p c.key || not (touches c.table c.key ws))
seen_hits ws c p s = by (touches c.table c.key ws) (admits p c.key) (is_alike p c.before c.after) refl (is_same (sees p c.before) (sees p c.after)) s
  where
    clash : is_alike p c.before c.after ≡ true → is_same (sees p c.before) (sees p c.after) ≡ false → ⊥
    clash h k = let so = seen_alike c p h in cc

    by : (w a l : Bool) → is_alike p c.before c.after ≡ l → (s' : Bool) → s' ≡ false → (if w then a && not l else not s') ≡ (a || not w)
    by true a true e s' f = absurd (clash e s)
    by true true false e s' f = refl
    by true false false e s' f = refl
    by false true l e false f = refl
    by false false l e false f = refl
    by false a l e true f = cc

-- a change hits a record
abbrev pub hits_any : List Write → Change → Record → Bool
hits_any ws c r = list_any (λ p. (p.table == c.table) && hits_pred ws c p) r.preds

-- one of the changes hits a record
abbrev pub some_hits : List Write → List Change → Record → Bool
some_hits ws changes r = list_any (λ c. hits_any ws c r) changes

-- Over lists

module _ {X : Type 0} where
  pub any_swap : {Y : Type 0} (f : X → Y → Bool) (xs : List X) (ys : List Y) → list_any (λ x. list_any (f x) ys) xs ≡ list_any (λ y. list_any (λ x. f x y) xs) ys
  any_swap f [] [] = refl
  any_swap f [] (y ∷ ys) = any_swap f [] ys
  any_swap f (x ∷ xs) ys = ap (λ b. list_any (f x) ys || b) (any_swap f xs ys) ∙ sym (join ys)
    where
      shuffle : (a b c d : Bool) → ((a || b) || (c || d)) ≡ ((a || c) || (b || d))
      shuffle true b true d = refl
      shuffle true b false d = refl
      shuffle false true true d = refl
      shuffle false true false d = refl
      shuffle false false c d = refl

      join : (ys : List _) → list_any (λ y. f x y || list_any (λ x. f x y) xs) ys ≡ (list_any (f x) ys || list_any (λ y. list_any (λ x. f x y) xs) ys)
      join [] = refl
      join (y ∷ ys) = ap (λ b. (f x y || list_any (λ x. f x y) xs) || b) (join ys) ∙ shuffle (f x y) (list_any (λ x. f x y) xs) (list_any (f x) ys) (list_any (λ y. list_any (λ x. f x y) xs) ys)

  pub any_kept : (q p : X → Bool) (xs : List X) → list_any p (filter q xs) ≡ list_any (λ x. q x && p x) xs
  any_kept q p [] = refl
  any_kept q p (x ∷ xs) = by (q x) (any_kept q p xs)
    where
      by : (b : Bool) → list_any p (filter q xs) ≡ list_any (λ x. q x && p x) xs → list_any p (cond b (x ∷ filter q xs) (filter q xs)) ≡ ((b && p x) || list_any (λ x. q x && p x) xs)
      by true more = ap (λ b. p x || b) more
      by false more = more

  pub any_alike : (p q : X → Bool) (xs : List X) → ((x : X) → p x ≡ q x) → list_any p xs ≡ list_any q xs
  any_alike p q [] h = refl
  any_alike p q (x ∷ xs) h = ap (λ b. b || list_any p xs) (h x) ∙ ap (λ b. q x || b) (any_alike p q xs h)

-- a predicate on the changes of its own table alone
own_table : (ws : List Write) (changes : List Change) (r : Record) → list_any (λ p. list_any (λ c. hits_pred ws c p) (filter (λ c. c.table == p.table) changes)) r.preds ≡ some_hits ws changes r
own_table ws changes r =
    any_alike (λ p. list_any (λ c. hits_pred ws c p) (filter (λ c. c.table == p.table) changes)) (λ p. list_any (λ c. (p.table == c.table) && hits_pred ws c p) changes) r.preds (λ p.
    any_kept (λ c. c.table == p.table) (λ c. hits_pred ws c p) changes
    ∙ any_alike (λ (c : Change). (c.table == p.table) && hits_pred ws c p) (λ c. (p.table == c.table) && hits_pred ws c p) changes (λ c. ap (λ b. b && hits_pred ws c p) (nat_eq_equiv.symm c.table p.table)))
    ∙ any_swap (λ (p : Pred) (c : Change). (p.table == c.table) && hits_pred ws c p) r.preds changes

-- the same by the records before
hits_by_records : (before : List Record) (c : Change) (r : Record) → hits_any (writes_in before) c r ≡ hits before r c
hits_by_records before c r =
    any_alike (λ (p : Pred). (p.table == c.table) && hits_pred (writes_in before) c p) (hits_predicate before c) r.preds (λ p. ap (λ b. b && hits_pred (writes_in before) c p) (nat_eq_equiv.symm p.table c.table))

some_by_records : (before : List Record) (changes : List Change) (r : Record) → some_hits (writes_in before) changes r ≡ any_hits changes before r
some_by_records before changes r = any_alike (λ c. hits_any (writes_in before) c r) (hits before r) changes (λ c. hits_by_records before c r)

pub record_hit : (ws : List Write) (before : List Record) (c : Change) (r : Record) → ws ≡ writes_in before → hits_any ws c r ≡ hits before r c
record_hit ws before c r h = ap (λ l. hits_any l c r) h ∙ hits_by_records before c r

pub record_hit_by_some : (ws : List Write) (before : List Record) (changes : List Change) (r : Record) → ws ≡ writes_in before
    → list_any (λ p. list_any (λ c. hits_pred ws c p) (filter (λ c. c.table == p.table) changes)) r.preds ≡ any_hits changes before r
record_hit_by_some ws before changes r h = own_table ws changes r ∙ (ap (λ l. some_hits l changes r) h ∙ some_by_records before changes r)
