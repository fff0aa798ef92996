-- The least of paths that climb is the first one.
use Rattle.std.proofs.Common.{◌≡◌, Bool, true, false, List, [], ◌∷◌, ◌++◌, Option, Some, None, if◌then◌else◌, refl, sym, ap, ◌∙◌, append-nil}
use Rattle.std.specs.Ordering.{is_lt, nat_cmp}
use Rattle.std.specs.Cmp.Lexicographic.{slice_cmp}
use Rattle.std.proofs.lemmas.Bool.{both_ways}
use Rattle.mv_values.proofs.Deciding.{less_is}
use Rattle.mv_record.specs.declared.record.Record.{Record}
use Rattle.mv_record.specs.Paths.{IsEarlierPath}
use Rattle.mv_recorded.specs.Own.{Each}
use Rattle.mv_history.specs.Kept.{Path, Placed}
use Rattle.mv_soundness.proofs.Keeping.{Climbs}
use Rattle.mv_soundness.proofs.Placing.{not_itself}
use Rattle.mv_soundness.proofs.Walking.{earlier_then}
use Rattle.mv_why.specs.Causes.{is_touching, touching, lesser, least}
use Rattle.mv_why.specs.Walking.{earlier_of, first_of}

-- each path is before the next one
abbrev Chain : List Path → Type 0
Chain [] = Unit {0}
Chain (p ∷ ps) = Each (IsEarlierPath p) ps × Chain ps

abbrev is_less : Path → Path → Bool
is_less q p = is_lt (slice_cmp nat_cmp q p)

-- a path isn't before one that is before it
not_less : (p q : Path) → IsEarlierPath p q → is_less q p ≡ false
not_less p q h = by (is_less q p) refl
  where
    by : (b : Bool) → is_less q p ≡ b → is_less q p ≡ false
    by false e = e
    by true e = absurd (not_itself p p refl (earlier_then p q p h (less_is (slice_cmp nat_cmp q p) e)))

-- nor before one that is before another that it isn't before
still_not : (p q t : Path) → IsEarlierPath p q → is_less t q ≡ false → is_less t p ≡ false
still_not p q t h k = by (is_less t p) refl
  where
    by : (b : Bool) → is_less t p ≡ b → is_less t p ≡ false
    by false e = e
    by true e = absurd (both_ways (is_less t q) k (ap is_lt (earlier_then t p q (less_is (slice_cmp nat_cmp t p) e) h)))

joined : (ps ts : List Path) → Chain ps → least (ps ++ ts) ≡ earlier_of (first_of ps) (least ts)
joined [] ts h = refl
joined (p ∷ []) ts h = by (least ts)
  where
    by : (t : Option Path) → ◌≡◌ {A = Option Path} (Some (lesser p t)) (earlier_of (Some p) t)
    by None = refl
    by (Some t) = on (is_less t p)
      where
        on : (b : Bool) → ◌≡◌ {A = Option Path} (Some (if b then t else p)) (if b then Some t else Some p)
        on true = refl
        on false = refl
joined (p ∷ q ∷ ps) ts h = ap (λ t. Some (lesser p t)) (joined (q ∷ ps) ts h.1) ∙ by (least ts)
  where
    by : (t : Option Path) → ◌≡◌ {A = Option Path} (Some (lesser p (earlier_of (Some q) t))) (earlier_of (Some p) t)
    by None = ap (λ b. Some (if b then q else p)) (not_less p q h.0.0)
    by (Some t) = on (is_less t q) refl
      where
        last : (b : Bool) → ◌≡◌ {A = Option Path} (Some (if b then t else p)) (if b then Some t else Some p)
        last true = refl
        last false = refl

        on : (b : Bool) → is_less t q ≡ b → ◌≡◌ {A = Option Path} (Some (lesser p (if b then Some t else Some q))) (if is_less t p then Some t else Some p)
        on true e = last (is_less t p)
        on false e = ap (λ b. Some (if b then q else p)) (not_less p q h.0.0) ∙ ap (λ b. if b then Some t else Some p) (sym (still_not p q t h.0.0 e))

least_first : (ts : List Path) → Chain ts → least ts ≡ first_of ts
least_first ts h = ap least (sym (append-nil ts)) ∙ (joined ts [] h ∙ by (first_of ts))
  where
    by : (t : Option Path) → earlier_of t None ≡ t
    by None = refl
    by (Some t) = refl

earlier_touching : (kept : List Path) (o : Record) (p : Path) (rs : List Placed) → Each (λ (b : Placed). IsEarlierPath p b.path) rs → Each (IsEarlierPath p) (touching kept o rs)
earlier_touching kept o p [] h = tt
earlier_touching kept o p (r ∷ rs) h = by (is_touching kept o r) (earlier_touching kept o p rs h.1)
  where
    by : (b : Bool) → Each (IsEarlierPath p) (touching kept o rs) → Each (IsEarlierPath p) ((if b then r.path ∷ [] else []) ++ touching kept o rs)
    by true k = (h.0, k)
    by false k = k

chain_touching : (kept : List Path) (o : Record) (rs : List Placed) → Climbs rs → Chain (touching kept o rs)
chain_touching kept o [] h = tt
chain_touching kept o (r ∷ rs) h = by (is_touching kept o r) (chain_touching kept o rs h.1)
  where
    by : (b : Bool) → Chain (touching kept o rs) → Chain ((if b then r.path ∷ [] else []) ++ touching kept o rs)
    by true k = (earlier_touching kept o r.path rs h.0, k)
    by false k = k

-- the least path of two runs' records is the earlier one of their first ones
pub least_of : (kept : List Path) (o : Record) (xs ys : List Placed) → Climbs xs → Climbs ys
    → least (touching kept o xs ++ touching kept o ys) ≡ earlier_of (first_of (touching kept o xs)) (first_of (touching kept o ys))
least_of kept o xs ys h k =
    joined (touching kept o xs) (touching kept o ys) (chain_touching kept o xs h)
    ∙ ap (earlier_of (first_of (touching kept o xs))) (least_first (touching kept o ys) (chain_touching kept o ys k))
