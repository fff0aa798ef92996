-- How many different keys writes are on, where more writes follow.
use Rattle.std.proofs.Common.{◌≡◌, ◌≤◌, ℕ, suc, ◌==◌, Bool, true, false, List, [], ◌∷◌, ◌++◌, if◌then◌else◌, refl, sym, ap, subst, ◌∙◌, arith, append_assoc}
use Rattle.std.specs.Prelude.{◌||◌, ◌&&◌}
use Rattle.std.specs.Ordering.{is_eq}
use Rattle.std.proofs.lemmas.Bool.Decides.{eqb_tells}
use Rattle.std.proofs.lemmas.Bool.{and_parts}
use Rattle.std.proofs.lemmas.Cmp.{nat_eq_equiv, eq_by_cmp_equiv}
use Rattle.mv_values.specs.declared.patch.Write.{Write}
use Rattle.mv_values.specs.Order.{key_order}
use Rattle.mv_values.proofs.KeyOrder.{key_order_total, tied}
use Rattle.mv_values.proofs.Deciding.{or_none}
use Rattle.mv_record.specs.Writes.{is_on}
use Rattle.mv_undo.specs.Owning.{touches}
use Rattle.mv_effect.specs.Looking.{different}

-- two writes are each on the key of the other, or neither is
on_either_way : (v w : Write) → is_on v.table v.key w ≡ is_on w.table w.key v
on_either_way v w =
    ap (λ b. b && is_eq (key_order w.key v.key)) (nat_eq_equiv.symm w.table v.table)
    ∙ ap (λ b. (v.table == w.table) && b) ((eq_by_cmp_equiv key_order_total).symm w.key v.key)

-- where a write is on the key of another one, the same writes touch both
touched_alike : (v w : Write) (ws : List Write) → is_on v.table v.key w ≡ true → touches v.table v.key ws ≡ touches w.table w.key ws
touched_alike v w ws on =
    let both : ((w.table == v.table) ≡ true) × (is_eq (key_order w.key v.key) ≡ true) = and_parts (w.table == v.table) (is_eq (key_order w.key v.key)) on in
    let table : (w.table == v.table) ≡ true = both.0 in
    let same : w.table ≡ v.table = grind (arith, eqb_tells) in
    let key : w.key ≡ v.key = tied w.key v.key both.1 in
    ap (λ t. touches t v.key ws) (sym same) ∙ ap (λ k. touches w.table k ws) (sym key)

or_last : (b c : Bool) → (b || (c || false)) ≡ (b || c)
or_last true c = refl
or_last false true = refl
or_last false false = refl

or_then : (a b c : Bool) → (a || (b || c)) ≡ ((a || b) || c)
or_then true b c = refl
or_then false b c = refl

touched_last : (v : Write) (ws : List Write) (w : Write) → touches v.table v.key (ws ++ w ∷ []) ≡ (touches v.table v.key ws || is_on v.table v.key w)
touched_last v [] w = or_last false (is_on v.table v.key w)
touched_last v (x ∷ ws) w = ap (λ b. is_on v.table v.key x || b) (touched_last v ws w) ∙ or_then (is_on v.table v.key x) (touches v.table v.key ws) (is_on v.table v.key w)

-- one more write on another key counts one more
new_key : (ws : List Write) (w : Write) → touches w.table w.key ws ≡ false → different (ws ++ w ∷ []) ≡ suc (different ws)
new_key [] w h = refl
new_key (x ∷ ws) w h = by (is_on w.table w.key x) refl h (λ e. new_key ws w e)
  where
    by : (b : Bool) → is_on w.table w.key x ≡ b → (b || touches w.table w.key ws) ≡ false → (touches w.table w.key ws ≡ false → different (ws ++ w ∷ []) ≡ suc (different ws))
        → different (x ∷ (ws ++ w ∷ [])) ≡ suc (different (x ∷ ws))
    by true on e go = cc
    by false off e go =
        let rest : different (ws ++ w ∷ []) ≡ suc (different ws) = go e in
        let same : touches x.table x.key (ws ++ w ∷ []) ≡ touches x.table x.key ws =
        touched_last x ws w ∙ (ap (λ b. touches x.table x.key ws || b) (on_either_way x w ∙ off) ∙ or_none (touches x.table x.key ws)) in
        ap (λ b. if b then different (ws ++ w ∷ []) else suc (different (ws ++ w ∷ []))) same
        ∙ (ap (λ n. if touches x.table x.key ws then n else suc n) rest ∙ out (touches x.table x.key ws) (different ws))
      where
        out : (b : Bool) (n : ℕ) → (if b then suc n else suc (suc n)) ≡ suc (if b then n else suc n)
        out true n = refl
        out false n = refl

-- one more write counts no less
one_more : (ws : List Write) (w : Write) → different ws ≤ different (ws ++ w ∷ [])
one_more [] w = omega arith
one_more (x ∷ ws) w = by (touches x.table x.key ws) refl (is_on x.table x.key w) refl (one_more ws w)
  where
    more : List Write
    more = ws ++ w ∷ []

    by : (t : Bool) → touches x.table x.key ws ≡ t → (b : Bool) → is_on x.table x.key w ≡ b → different ws ≤ different more → different (x ∷ ws) ≤ different (x ∷ more)
    by t is b on rest = at t b (ap (λ u. if u then different ws else suc (different ws)) is)
        (ap (λ u. if u then different more else suc (different more)) (touched_last x ws w ∙ (ap (λ u. u || is_on x.table x.key w) is ∙ ap (λ u. t || u) on)))
        (λ f e. new_key ws w (sym (touched_alike x w ws (on ∙ e)) ∙ (is ∙ f)))
      where
        at : (t b : Bool) → different (x ∷ ws) ≡ (if t then different ws else suc (different ws)) → different (x ∷ more) ≡ (if t || b then different more else suc (different more))
            → (t ≡ false → b ≡ true → different more ≡ suc (different ws)) → different (x ∷ ws) ≤ different (x ∷ more)
        at true b l r new = omega (arith, l, r, rest)
        at false true l r new = omega (arith, l, r, new refl refl)
        at false false l r new = omega (arith, l, r, rest)

pub different_more : (vs ws : List Write) → different vs ≤ different (vs ++ ws)
different_more [] ws = omega arith
different_more (v ∷ vs) ws = all (v ∷ vs) ws
  where
    all : (us ws : List Write) → different us ≤ different (us ++ ws)
    all us [] = subst (λ xs. different us ≤ different xs) (sym (none us)) (omega arith)
      where
        none : (us : List Write) → us ++ [] ≡ us
        none [] = refl
        none (u ∷ us) = ap (λ xs. u ∷ xs) (none us)
    all us (w ∷ ws) =
        let one : different us ≤ different (us ++ w ∷ []) = one_more us w in
        let rest : different (us ++ w ∷ []) ≤ different ((us ++ w ∷ []) ++ ws) = all (us ++ w ∷ []) ws in
        let same : different ((us ++ w ∷ []) ++ ws) ≡ different (us ++ (w ∷ ws)) = ap different (append_assoc us (w ∷ []) ws) in
        omega (arith, one, rest, same)
