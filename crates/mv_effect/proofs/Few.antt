-- Lists of things that are all different are no longer than what they are of.
use Rattle.std.proofs.Common.{◌≡◌, ◌≤◌, ◌<◌, ℕ, zero, suc, ◌==◌, Bool, true, false, not, List, [], ◌∷◌, All, length, refl, sym, ap, subst, ◌∙◌, arith, if◌then◌else◌}
use Rattle.std.specs.Prelude.{◌||◌}
use Rattle.std.proofs.lemmas.Bool.Decides.{eqb_tells}
use Rattle.std.proofs.lemmas.List.Elements.{All-weaker}
use Rattle.std.specs.Ordering.{is_eq}
use Rattle.std.specs.declared.cmp.Ordering.TheVariants.{Less, Equal}
use Rattle.std.proofs.lemmas.Bool.{and_parts}
use Rattle.mv_values.specs.declared.value.Value.{Value}
use Rattle.mv_values.specs.declared.patch.Write.{Write}
use Rattle.mv_values.specs.declared.pred.Pred.{Pred}
use Rattle.mv_values.specs.declared.schema.TableInfo.{TableInfo}
use Rattle.mv_values.specs.Order.{key_order}
use Rattle.mv_values.specs.Preds.{admits}
use Rattle.mv_values.specs.Tables.{columns_at}
use Rattle.mv_values.proofs.KeyOrder.{tied, same_key}
use Rattle.mv_catalog.specs.Text.{IsTable}
use Rattle.mv_eval.proofs.Few.{Each, Pairs, NotBoth, without, pairs_of, each_weaker, pairs_weaker, each_kept, pairs_kept, one_goes}
use Rattle.mv_record.specs.Writes.{is_on}
use Rattle.mv_undo.specs.Owning.{touches, is_among, AreSought}
use Rattle.mv_checks.proofs.Referring.{columns_few}
use Rattle.mv_effect.specs.Looking.{different}

-- Different keys

-- there are no more different keys among those that were written than different ones were written
keys_few : (t : ℕ) (ws : List Write) (ks : List (List Value)) → Pairs (λ a b. key_order a b ≡ Less) ks → Each (λ k. touches t k ws ≡ true) ks → length ks ≤ different ws
keys_few t [] [] h w = omega arith
keys_few t [] (k ∷ ks) h w = cc
keys_few t (w ∷ ws) ks h all = by (λ l p q. keys_few t ws l p q) (touches w.table w.key ws) refl
  where
    here_key : (k : List Value) → is_on t k w ≡ true → w.key ≡ k
    here_key k e = tied w.key k (and_parts (w.table == t) (is_eq (key_order w.key k)) e).1

    here_table : (k : List Value) → is_on t k w ≡ true → w.table ≡ t
    here_table k e = let n : (w.table == t) ≡ true = (and_parts (w.table == t) (is_eq (key_order w.key k)) e).0 in grind (arith, eqb_tells)

    by : ((l : List (List Value)) → Pairs (λ a b. key_order a b ≡ Less) l → Each (λ k. touches t k ws ≡ true) l → length l ≤ different ws)
        → (b : Bool) → touches w.table w.key ws ≡ b → length ks ≤ (if b then different ws else suc (different ws))
    by fewer true e = fewer ks h (each_weaker (λ k. touches t k (w ∷ ws) ≡ true) (λ k. touches t k ws ≡ true) ks (λ k there. later k (is_on t k w) refl there) all)
      where
        later : (k : List Value) (b : Bool) → is_on t k w ≡ b → (b || touches t k ws) ≡ true → touches t k ws ≡ true
        later k true on there = subst (λ u. touches u k ws ≡ true) (here_table k on) (subst (λ l. touches w.table l ws ≡ true) (here_key k on) e)
        later k false on there = there
    by fewer false e =
        let rest = fewer (without (λ k. is_on t k w) ks) (pairs_kept (λ k. not (is_on t k w)) (λ a b. key_order a b ≡ Less) ks h)
        (each_kept (λ k. not (is_on t k w)) (λ k. touches t k (w ∷ ws) ≡ true) (λ k. touches t k ws ≡ true) ks (λ k off there. later k (is_on t k w) off there) all) in
        omega (arith, rest, one_goes (λ k. is_on t k w) ks (pairs_weaker (λ a b. key_order a b ≡ Less) (NotBoth (λ k. is_on t k w)) ks (λ a b less ea eb. apart a b less (sym (here_key a ea) ∙ here_key b eb)) h))
      where
        later : (k : List Value) (b : Bool) → not b ≡ true → (b || touches t k ws) ≡ true → touches t k ws ≡ true
        later k true off there = cc
        later k false off there = there

        apart : (a b : List Value) → key_order a b ≡ Less → a ≡ b → ⊥
        apart a b less is = let tied : key_order a b ≡ Equal = subst (λ z. key_order a z ≡ Equal) is (same_key a) in cc

-- there are no more keys than different ones that were written
pub sought_few : (pred : Pred) (ws : List Write) (ks : List (List Value)) → AreSought pred ws ks → length ks ≤ different ws
sought_few pred ws ks h = keys_few pred.table ws ks (pairs_of (λ a b. key_order a b ≡ Less) ks h.rising) (touched ks (λ k e. e))
  where
    among_first : (k : List Value) (l : List (List Value)) → is_among (k ∷ l) k ≡ true
    among_first k l = ap (λ o. is_eq o || is_among l k) (same_key k)

    among_later : (k x : List Value) (l : List (List Value)) → is_among l k ≡ true → is_among (x ∷ l) k ≡ true
    among_later k x l e = by (is_eq (key_order x k))
      where
        by : (b : Bool) → (b || is_among l k) ≡ true
        by true = refl
        by false = e

    touched : (l : List (List Value)) → ((k : List Value) → is_among l k ≡ true → is_among ks k ≡ true) → Each (λ k. touches pred.table k ws ≡ true) l
    touched [] sub = tt
    touched (k ∷ l) sub =
        ((and_parts (touches pred.table k ws) (admits pred k) (sym (h.are k) ∙ sub k (among_first k l))).0, touched l (λ z e. sub z (among_later z k l e)))

-- so their numbers are bytes
pub bytes_of : {A : Type 0} (number : A → ℕ) (tables : List TableInfo) (t : ℕ) (xs : List A) → All IsTable tables → All (λ x. number x < length (columns_at tables t)) xs → All (λ x. number x < 256) xs
bytes_of number tables t xs each h = All-weaker (λ x. number x < length (columns_at tables t)) (λ x. number x < 256) (λ x lt. omega (arith, lt, columns_few tables t each)) xs h
