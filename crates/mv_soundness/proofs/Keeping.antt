-- Records of two runs side by side: those that are kept stand in both in the same order.
use Rattle.std.proofs.Common.{◌≡◌, ◌<◌, ℕ, zero, suc, Bool, true, false, List, [], ◌∷◌, ◌++◌, Some, length, if◌then◌else◌, refl, sym, ap, subst, ◌∙◌, arith}
use Rattle.std.specs.Prelude.{◌||◌, slice_get, slice_index_or, AllPairs}
use Rattle.std.proofs.lemmas.Option.{same_Some}
use Rattle.std.proofs.lemmas.Bool.{both_ways, or_right}
use Rattle.mv_values.specs.declared.pred.Pred.{Pred}
use Rattle.mv_values.specs.declared.patch.Write.{Write}
use Rattle.mv_values.proofs.Deciding.{or_none}
use Rattle.mv_record.specs.declared.record.Record.{Record}
use Rattle.mv_record.specs.Paths.{paths, IsEarlierPath, PathsRise}
use Rattle.mv_record.specs.Runs.{writes_in}
use Rattle.mv_record.specs.declared.effect.Effect.{Effect}
use Rattle.mv_history.specs.Hits.{touches_predicate}
use Rattle.mv_history.specs.Kept.{Path, Placed, zip_paths, with_paths, is_path, among, other_writes}
use Rattle.mv_recorded.specs.Own.{Each}
use Rattle.mv_record.specs.Effects.{effect_in}
use Rattle.mv_soundness.specs.Laws.{AreAlike}
use Rattle.mv_soundness.proofs.Definers.{KeptSame, front_get}
use Rattle.mv_soundness.proofs.Placing.{path_self, not_itself, its}
use Rattle.mv_soundness.proofs.Seeing.{Merged, done, both, old, new}

-- Order

abbrev pub Climbs : List Placed → Type 0
Climbs [] = Unit {0}
Climbs (a ∷ as') = Each (λ (b : Placed). IsEarlierPath a.path b.path) as' × Climbs as'

each_behind : (p : Path) (ps : List Path) (rs : List Record) → ((j : ℕ) (d : Path) → j < length ps → IsEarlierPath p (slice_index_or ps j d)) → Each (λ (b : Placed). IsEarlierPath p b.path) (zip_paths ps rs)
each_behind p [] rs h = tt
each_behind p (q ∷ qs) [] h = tt
each_behind p (q ∷ qs) (r ∷ rs) h = (h 0 q (omega arith), each_behind p qs rs (λ j d lt. h (suc j) d (omega (arith, lt))))

climbs_with : (ps : List Path) (rs : List Record) → AllPairs IsEarlierPath ps → Climbs (zip_paths ps rs)
climbs_with [] rs h = tt
climbs_with (p ∷ ps) [] h = tt
climbs_with (p ∷ ps) (r ∷ rs) h =
    (each_behind p ps rs (λ j d lt. h 0 (suc j) d (omega arith) (omega (arith, lt))), climbs_with ps rs (λ i j d lt within. h (suc i) (suc j) d (omega (arith, lt)) (omega (arith, within))))

pub climbs_of : (rs : List Record) → PathsRise rs → Climbs (with_paths rs)
climbs_of rs h = climbs_with (paths rs) rs h

pub each_get : (P : Placed → Type 0) (xs : List Placed) (d : ℕ) (a : Placed) → Each P xs → slice_get xs d ≡ Some a → P a
each_get P [] d a h is = cc
each_get P (x ∷ xs) zero a h is = let same : x ≡ a = cc in subst P same h.0
each_get P (x ∷ xs) (suc d) a h is = each_get P xs d a h.1 is

-- records with one path have one number
pub one_number : (xs : List Placed) (i j : ℕ) (a b : Placed) → Climbs xs → slice_get xs i ≡ Some a → slice_get xs j ≡ Some b → a.path ≡ b.path → i ≡ j
one_number [] i j a b h p q same = cc
one_number (x ∷ xs) zero zero a b h p q same = refl
one_number (x ∷ xs) zero (suc j) a b h p q same =
    let at : x ≡ a = cc in
    absurd (not_itself x.path b.path (ap (λ (z : Placed). z.path) at ∙ same) (each_get (λ (y : Placed). IsEarlierPath x.path y.path) xs j b h.0 q))
one_number (x ∷ xs) (suc i) zero a b h p q same =
    let at : x ≡ b = cc in
    absurd (not_itself x.path a.path (ap (λ (z : Placed). z.path) at ∙ sym same) (each_get (λ (y : Placed). IsEarlierPath x.path y.path) xs i a h.0 p))
one_number (x ∷ xs) (suc i) (suc j) a b h p q same = ap suc (one_number xs i j a b h.1 p q same)

pub distinct : (xs : List Placed) (i j : ℕ) (a b : Placed) → Climbs xs → slice_get xs i ≡ Some a → slice_get xs j ≡ Some b → a.path ≡ b.path → a ≡ b
distinct xs i j a b h p q same = same_Some a b (sym p ∙ (ap (slice_get xs) (one_number xs i j a b h p q same) ∙ q))

-- Side by side

-- the two whole runs
pub record Sides : Type 0 where
  pub old : List Placed
  pub new : List Placed

pub data Aligned (u : Sides) (kept : List Path) : List Placed → List Placed → Type 0 where
  ends : Aligned u kept [] []
  stay : (a b : Placed) (xs ys : List Placed) → a.path ≡ b.path → among kept b.path ≡ true → AreAlike u.old u.new a.it b.it → Aligned u kept xs ys → Aligned u kept (a ∷ xs) (b ∷ ys)
  gone : (a : Placed) (xs ys : List Placed) → among kept a.path ≡ false → Aligned u kept xs ys → Aligned u kept (a ∷ xs) ys
  come : (b : Placed) (xs ys : List Placed) → among kept b.path ≡ false → Aligned u kept xs ys → Aligned u kept xs (b ∷ ys)

pub aligned_join : (u : Sides) (kept : List Path) (xs ys us vs : List Placed) → Aligned u kept xs ys → Aligned u kept us vs → Aligned u kept (xs ++ us) (ys ++ vs)
aligned_join u kept _ _ us vs ends k = k
aligned_join u kept _ _ us vs (stay a b xs ys p q r h) k = stay a b (xs ++ us) (ys ++ vs) p q r (aligned_join u kept xs ys us vs h k)
aligned_join u kept _ _ us vs (gone a xs ys p h) k = gone a (xs ++ us) (ys ++ vs) p (aligned_join u kept xs ys us vs h k)
aligned_join u kept _ _ us vs (come b xs ys p h) k = come b (xs ++ us) (ys ++ vs) p (aligned_join u kept xs ys us vs h k)

pub all_gone : (u : Sides) (kept : List Path) (xs : List Placed) → Each (λ (a : Placed). among kept a.path ≡ false) xs → Aligned u kept xs []
all_gone u kept [] h = ends
all_gone u kept (x ∷ xs) h = gone x xs [] h.0 (all_gone u kept xs h.1)

-- one path more is kept, which none of them has
pub among_more : (kept : List Path) (p q : Path) → among (kept ++ p ∷ []) q ≡ (among kept q || is_path q p)
among_more [] p q = or_none (is_path q p)
among_more (k ∷ ks) p q = by (is_path q k) (among_more ks p q)
  where
    by : (b : Bool) → among (ks ++ p ∷ []) q ≡ (among ks q || is_path q p) → (b || among (ks ++ p ∷ []) q) ≡ ((b || among ks q) || is_path q p)
    by true h = refl
    by false h = h

among_still : (kept : List Path) (p q : Path) → among kept q ≡ true → among (kept ++ p ∷ []) q ≡ true
among_still kept p q h = among_more kept p q ∙ ap (λ b. b || is_path q p) h

among_not : (kept : List Path) (p q : Path) → among kept q ≡ false → is_path q p ≡ false → among (kept ++ p ∷ []) q ≡ false
among_not kept p q h k = among_more kept p q ∙ (ap (λ b. b || is_path q p) h ∙ k)

pub among_new : (kept : List Path) (p : Path) → among (kept ++ p ∷ []) p ≡ true
among_new kept p = among_more kept p p ∙ (ap (λ b. among kept p || b) (path_self p) ∙ or_right (among kept p) true refl)

pub aligned_more : (u : Sides) (kept : List Path) (p : Path) (xs ys : List Placed) → Each (λ (a : Placed). is_path a.path p ≡ false) xs → Each (λ (b : Placed). is_path b.path p ≡ false) ys → Aligned u kept xs ys → Aligned u (kept ++ p ∷ []) xs ys
aligned_more u kept p _ _ h k ends = ends
aligned_more u kept p _ _ h k (stay a b xs ys s q r m) = stay a b xs ys s (among_still kept p b.path q) r (aligned_more u kept p xs ys h.1 k.1 m)
aligned_more u kept p _ _ h k (gone a xs ys q m) = gone a xs ys (among_not kept p a.path q h.0) (aligned_more u kept p xs ys h.1 k m)
aligned_more u kept p _ _ h k (come b xs ys q m) = come b xs ys (among_not kept p b.path q k.0) (aligned_more u kept p xs ys h k.1 m)

-- the record of the old run for one that is kept
pub record Partner (u : Sides) (xs : List Placed) (b : Placed) : Type 0 where
  pub d : ℕ
  pub a : Placed
  pub there : slice_get xs d ≡ Some a
  pub same : a.path ≡ b.path
  pub alike : AreAlike u.old u.new a.it b.it

pub partner : (u : Sides) (kept : List Path) (xs ys : List Placed) (e : ℕ) (b : Placed) → Aligned u kept xs ys → slice_get ys e ≡ Some b → among kept b.path ≡ true → Partner u xs b
partner u kept _ _ e b ends is k = cc
partner u kept _ _ zero b (stay a c xs ys s q r m) is k = let at : c ≡ b = cc in record { d = 0; a = a; there = refl; same = s ∙ ap (λ (z : Placed). z.path) at; alike = subst (λ (z : Placed). AreAlike u.old u.new a.it z.it) at r }
partner u kept _ _ (suc e) b (stay a c xs ys s q r m) is k = let it : Partner u xs b = partner u kept xs ys e b m is k in record { d = suc it.d; a = it.a; there = it.there; same = it.same; alike = it.alike }
partner u kept _ _ e b (gone a xs ys q m) is k = let it : Partner u xs b = partner u kept xs ys e b m is k in record { d = suc it.d; a = it.a; there = it.there; same = it.same; alike = it.alike }
partner u kept _ _ zero b (come c xs ys q m) is k = let at : c ≡ b = cc in absurd (both_ways (among kept b.path) (subst (λ (z : Placed). among kept z.path ≡ false) at q) k)
partner u kept _ _ (suc e) b (come c xs ys q m) is k = partner u kept xs ys e b m is k

pub kept_same : (u : Sides) (kept : List Path) (xs more ys : List Placed) → Climbs (xs ++ more) → Aligned u kept xs ys → KeptSame kept (xs ++ more) ys
kept_same u kept xs more ys climbs h d e a b is are same k =
    let it : Partner u xs b = partner u kept xs ys e b h are k in
    let one : it.a ≡ a = distinct (xs ++ more) it.d d it.a a climbs (front_get xs more it.d it.a it.there) is (it.same ∙ sym same) in
    ap (λ (z : Placed). effect_in z.it) (sym one) ∙ it.alike.effect

-- Writes

abbrev pub NoTouch : Pred → List Write → Type 0
NoTouch p ws = Each (λ w. touches_predicate w p ≡ false) ws

merged_both : (p : Pred) (ws us vs : List Write) → Merged p us vs → Merged p (ws ++ us) (ws ++ vs)
merged_both p [] us vs h = h
merged_both p (w ∷ ws) us vs h = both w (ws ++ us) (ws ++ vs) (merged_both p ws us vs h)

merged_old : (p : Pred) (ws us vs : List Write) → NoTouch p ws → Merged p us vs → Merged p (ws ++ us) vs
merged_old p [] us vs n h = h
merged_old p (w ∷ ws) us vs n h = old w (ws ++ us) vs n.0 (merged_old p ws us vs n.1 h)

merged_new : (p : Pred) (ws us vs : List Write) → NoTouch p ws → Merged p us vs → Merged p us (ws ++ vs)
merged_new p [] us vs n h = h
merged_new p (w ∷ ws) us vs n h = new w us (ws ++ vs) n.0 (merged_new p ws us vs n.1 h)

pub touch_parts : (p : Pred) (vs ws : List Write) → NoTouch p (vs ++ ws) → NoTouch p vs × NoTouch p ws
touch_parts p [] ws h = (tt, h)
touch_parts p (v ∷ vs) ws h = let rest = touch_parts p vs ws h.1 in ((h.0, rest.0), rest.1)

pub merged_of : (p : Pred) (u : Sides) (kept : List Path) (xs ys : List Placed) → Aligned u kept xs ys → NoTouch p (other_writes kept xs) → NoTouch p (other_writes kept ys) → Merged p (writes_in (its xs)) (writes_in (its ys))
merged_of p u kept _ _ ends h k = done
merged_of p u kept _ _ (stay a b xs ys s q r m) h k =
    let at : among kept a.path ≡ true = ap (among kept) s ∙ q in
    let hs : NoTouch p (other_writes kept xs) = subst (λ t. NoTouch p ((if t then [] else a.it.writes) ++ other_writes kept xs)) at h in
    let ks : NoTouch p (other_writes kept ys) = subst (λ t. NoTouch p ((if t then [] else b.it.writes) ++ other_writes kept ys)) q k in
    subst (λ ws. Merged p (a.it.writes ++ writes_in (its xs)) (ws ++ writes_in (its ys))) (ap (λ (e : Effect). e.writes) r.effect)
    (merged_both p a.it.writes (writes_in (its xs)) (writes_in (its ys)) (merged_of p u kept xs ys m hs ks))
merged_of p u kept _ _ (gone a xs ys q m) h k =
    let hs = touch_parts p a.it.writes (other_writes kept xs) (subst (λ t. NoTouch p ((if t then [] else a.it.writes) ++ other_writes kept xs)) q h) in
    merged_old p a.it.writes (writes_in (its xs)) (writes_in (its ys)) hs.0 (merged_of p u kept xs ys m hs.1 k)
merged_of p u kept _ _ (come b xs ys q m) h k =
    let ks = touch_parts p b.it.writes (other_writes kept ys) (subst (λ t. NoTouch p ((if t then [] else b.it.writes) ++ other_writes kept ys)) q k) in
    merged_new p b.it.writes (writes_in (its xs)) (writes_in (its ys)) ks.0 (merged_of p u kept xs ys m h ks.1)
