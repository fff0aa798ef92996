-- What is read is the same in two runs where its definers have the same paths and are kept.
use Rattle.std.proofs.Common.{◌≡◌, ◌⊎◌, inl, inr, ◌<◌, ◌≤◌, ℕ, zero, suc, ◌+◌, ◌==◌, Bool, true, false, List, [], ◌∷◌, ◌++◌, Option, Some, None, map, length, slice_index_or, if◌then◌else◌, refl, sym, ap, subst, ◌∙◌, arith}
use Rattle.std.specs.Prelude.{◌||◌, ◌-◌, slice_get, nat_le}
use Rattle.std.proofs.lemmas.Bool.Decides.{eqb_tells, nat_tests}
use Rattle.std.specs.List.{filter, list_any}
use Rattle.std.specs.Option.{option_or, option_map}
use Rattle.std.proofs.lemmas.Bool.{and_parts}
use Rattle.std.proofs.lemmas.List.{same_from_push}
use Rattle.mv_eval.specs.declared.state.Env.{Env}
use Rattle.mv_eval.specs.declared.state.Content.TheVariants.{Scalar, Turn}
use Rattle.mv_eval.specs.declared.state.State.{State}
use Rattle.mv_eval.specs.Env.{held_at, with_held}
use Rattle.mv_record.specs.declared.record.Slot.{Slot}
use Rattle.mv_record.specs.declared.record.Record.{Record}
use Rattle.mv_recorded.specs.Effect.{with_slots}
use Rattle.mv_recorded.specs.Reading.{Loop, each_once, last_place, loop_of, sets_variable, definer}
use Rattle.mv_recorded.specs.Recorded.{Site}
use Rattle.mv_record.specs.declared.effect.Effect.{Effect}
use Rattle.mv_history.specs.Kept.{Path, Placed, among, path_at, is_kept, same_path, reads_stay}
use Rattle.mv_recorded.specs.Own.{Each, Within, Ground, IsAtSite, LoopsHold, sets_in, rows_of, row_in}
use Rattle.mv_recorded.proofs.Slots.{get_same, get_other, kept_within, once_within}
use Rattle.mv_recorded.proofs.Held.{slots_alike, slots_both, OwnSlots}
use Rattle.mv_record.specs.Effects.{effect_in}
use Rattle.mv_recorded.proofs.Inverting.{each_within}
use Rattle.mv_soundness.proofs.Placing.{path_is, its}

-- Which record last set a variable

slots_unset : (ss : List Slot) (e : Env) (x : ℕ) → list_any (λ (s : Slot). s.slot == x) ss ≡ false → held_at (with_slots ss e) x ≡ held_at e x
slots_unset [] e x h = refl
slots_unset (s ∷ ss) e x h = by (λ k. slots_unset ss (with_held e s.slot (Scalar s.value)) x k) (s.slot == x) refl h
  where
    by : (list_any (λ (s : Slot). s.slot == x) ss ≡ false → held_at (with_slots ss (with_held e s.slot (Scalar s.value))) x ≡ held_at (with_held e s.slot (Scalar s.value)) x)
        → (b : Bool) → (s.slot == x) ≡ b → (b || list_any (λ (s : Slot). s.slot == x) ss) ≡ false → held_at (with_slots ss (with_held e s.slot (Scalar s.value))) x ≡ held_at e x
    by go true is k = cc
    by go false is k = let apart : s.slot ≡ x → ⊥ = λ at. grind (arith, eqb_tells) in go k ∙ get_other e.held s.slot x (Scalar s.value) apart

slots_set : (ss : List Slot) (e f : Env) (x : ℕ) → list_any (λ (s : Slot). s.slot == x) ss ≡ true → held_at (with_slots ss e) x ≡ held_at (with_slots ss f) x
slots_set [] e f x h = cc
slots_set (s ∷ ss) e f x h = by (λ k. slots_set ss (with_held e s.slot (Scalar s.value)) (with_held f s.slot (Scalar s.value)) x k) (s.slot == x) refl h
  where
    by : (list_any (λ (s : Slot). s.slot == x) ss ≡ true → held_at (with_slots ss (with_held e s.slot (Scalar s.value))) x ≡ held_at (with_slots ss (with_held f s.slot (Scalar s.value))) x)
        → (b : Bool) → (s.slot == x) ≡ b → (b || list_any (λ (s : Slot). s.slot == x) ss) ≡ true
        → held_at (with_slots ss (with_held e s.slot (Scalar s.value))) x ≡ held_at (with_slots ss (with_held f s.slot (Scalar s.value))) x
    by go true is k =
        let at : s.slot ≡ x = grind (arith, eqb_tells) in
        slots_alike ss (with_held e s.slot (Scalar s.value)) (with_held f s.slot (Scalar s.value)) x
        (subst (λ z. held_at (with_held e s.slot (Scalar s.value)) z ≡ held_at (with_held f s.slot (Scalar s.value)) z) at (get_same e.held s.slot (Scalar s.value) ∙ sym (get_same f.held s.slot (Scalar s.value))))
    by go false is k = go k

slots_low : (params base : ℕ) (ss : List Slot) (e : Env) (x : ℕ) → OwnSlots params base ss → x < params → held_at (with_slots ss e) x ≡ held_at e x
slots_low params base [] e x all lt = refl
slots_low params base (s ∷ ss) e x all lt =
    slots_low params base ss (with_held e s.slot (Scalar s.value)) x all.1 lt ∙ get_other e.held s.slot x (Scalar s.value) (λ same. omega (arith, same, lt, all.0.0))

none_parts : (o : Option ℕ) (b : Bool) (n : ℕ) → option_or o (if b then Some n else None) ≡ None → (o ≡ None) × (b ≡ false)
none_parts None true n h = cc
none_parts None false n h = (refl, refl)
none_parts (Some m) b n h = cc

none_set : (x n : ℕ) (rs : List Record) (e : Env) → last_place (sets_variable x) n rs ≡ None → held_at (with_slots (sets_in rs) e) x ≡ held_at e x
none_set x n [] e h = refl
none_set x n (r ∷ rs) e h =
    let both = none_parts (last_place (sets_variable x) (n + 1) rs) (sets_variable x r) n h in
    ap (λ f. held_at f x) (slots_both r.sets (sets_in rs) e) ∙ (none_set x (n + 1) rs (with_slots r.sets e) both.0 ∙ slots_unset r.sets e x both.1)

-- the record that last set it tells what it holds
pub record LastSet (x n : ℕ) (rs : List Record) (d : ℕ) : Type 0 where
  pub j : ℕ
  pub r : Record
  pub number : d ≡ n + j
  pub there : slice_get rs j ≡ Some r
  pub holds : (e f : Env) → held_at (with_slots (sets_in rs) e) x ≡ held_at (with_slots r.sets f) x

last_set : (x n : ℕ) (rs : List Record) (d : ℕ) → last_place (sets_variable x) n rs ≡ Some d → LastSet x n rs d
last_set x n [] d h = cc
last_set x n (r ∷ rs) d h = by (λ d k. last_set x (n + 1) rs d k) (last_place (sets_variable x) (n + 1) rs) refl (sets_variable x r) refl h
  where
    by : ((d : ℕ) → last_place (sets_variable x) (n + 1) rs ≡ Some d → LastSet x (n + 1) rs d) → (o : Option ℕ) → last_place (sets_variable x) (n + 1) rs ≡ o → (b : Bool) → sets_variable x r ≡ b
        → option_or o (if b then Some n else None) ≡ Some d → LastSet x n (r ∷ rs) d
    by go (Some m) is b set k =
        let same : m ≡ d = cc in
        let it : LastSet x (n + 1) rs m = go m is in
        record { j = suc it.j; r = it.r; number = omega (arith, it.number, same); there = it.there; holds = λ e f. ap (λ g. held_at g x) (slots_both r.sets (sets_in rs) e) ∙ it.holds (with_slots r.sets e) f }
    by go None is true set k =
        let same : n ≡ d = cc in
        record {
          j = 0;
          r = r;
          number = omega (arith, same);
          there = refl;
          holds = λ e f. ap (λ g. held_at g x) (slots_both r.sets (sets_in rs) e) ∙ (none_set x (n + 1) rs (with_slots r.sets e) is ∙ slots_set r.sets e f x set);
        }
    by go None is false set k = cc

-- Loops

abbrev rows : List Loop → List ℕ
rows loops = map (λ (l : Loop). l.row) loops

-- the loop whose row this is, in both
pub record BothLoops (x : ℕ) (before behind : List Record) (e f : Env) (loops others : List Loop) : Type 0 where
  pub n : ℕ
  pub m : ℕ
  pub k : ℕ
  pub first : loop_of x loops ≡ Some n
  pub second : loop_of x others ≡ Some m
  pub old : n < length before
  pub new : m < length behind
  pub held : held_at e x ≡ Turn (row_in before n k)
  pub holds : held_at f x ≡ Turn (row_in behind m k)

find_loop : (x : ℕ) (before behind : List Record) (e f : Env) (loops others : List Loop) (turns : List ℕ) → LoopsHold before e loops turns → LoopsHold behind f others turns → rows loops ≡ rows others → Within x (rows loops)
    → BothLoops x before behind e f loops others
find_loop x before behind e f [] others turns h k same w = absurd w
find_loop x before behind e f (l ∷ ls) [] turns h k same w = cc
find_loop x before behind e f (l ∷ ls) (o ∷ os) turns h k same w =
    let row : l.row ≡ o.row = cc in
    let rest : rows ls ≡ rows os = cc in
    let ends = same_from_push h.0 k.0 h.1 k.1 (sym h.2 ∙ k.2) in
    by (λ v. find_loop x before behind e f ls os h.0 h.5 (subst (LoopsHold behind f os) (sym ends.0) k.5) rest v) row ends.1 (l.row == x) refl w
  where
    by : (Within x (rows ls) → BothLoops x before behind e f ls os) → l.row ≡ o.row → h.1 ≡ k.1 → (b : Bool) → (l.row == x) ≡ b → (x ≡ l.row) ⊎ Within x (rows ls) → BothLoops x before behind e f (l ∷ ls) (o ∷ os)
    by go row turn true is v =
        let at : l.row ≡ x = grind (arith, eqb_tells) in
        let is' : (o.row == x) ≡ true = subst (λ z. (z == x) ≡ true) row is in
        record {
          n = l.number;
          m = o.number;
          k = h.1;
          first = ap (λ b. if b then Some l.number else loop_of x ls) is;
          second = ap (λ b. if b then Some o.number else loop_of x os) is';
          old = h.3;
          new = k.3;
          held = subst (λ z. held_at e z ≡ Turn (row_in before l.number h.1)) at h.4;
          holds = subst (λ z. held_at f z ≡ Turn (row_in behind o.number h.1)) (sym row ∙ at) (k.4 ∙ ap (λ i. Turn (row_in behind o.number i)) (sym turn));
        }
    by go row turn false is (inl at) = absurd (let apart : x ≡ l.row → ⊥ = λ s. grind (arith, eqb_tells) in apart at)
    by go row turn false is (inr v) =
        let it : BothLoops x before behind e f ls os = go v in
        let is' : (o.row == x) ≡ false = subst (λ z. (z == x) ≡ false) row is in
        record {
          n = it.n;
          m = it.m;
          k = it.k;
          first = ap (λ b. if b then Some l.number else loop_of x ls) is ∙ it.first;
          second = ap (λ b. if b then Some o.number else loop_of x os) is' ∙ it.second;
          old = it.old;
          new = it.new;
          held = it.held;
          holds = it.holds;
        }

no_loop : (base x : ℕ) (loops : List Loop) → Each (λ y. base ≤ y) (rows loops) → x < base → loop_of x loops ≡ None
no_loop base x [] h lt = refl
no_loop base x (l ∷ ls) h lt = ap (λ b. if b then Some l.number else loop_of x ls) (off (l.row == x) refl) ∙ no_loop base x ls h.1 lt
  where
    off : (b : Bool) → (l.row == x) ≡ b → (l.row == x) ≡ false
    off false e = e
    off true e = let at : l.row ≡ x = grind (arith, eqb_tells) in absurd (omega (arith, at, h.0, lt))

-- Kept records

-- those that are kept are the same in both
abbrev pub KeptSame : List Path → List Placed → List Placed → Type 0
KeptSame kept os ns = (d e : ℕ) (a b : Placed) → slice_get os d ≡ Some a → slice_get ns e ≡ Some b → a.path ≡ b.path → among kept b.path ≡ true → effect_in a.it ≡ effect_in b.it

its_get : (ps : List Placed) (d : ℕ) (r : Record) → slice_get (its ps) d ≡ Some r → (a : Placed) × (slice_get ps d ≡ Some a) × (a.it ≡ r)
its_get [] d r h = cc
its_get (p ∷ ps) zero r h = let same : p.it ≡ r = cc in (p, refl, same)
its_get (p ∷ ps) (suc d) r h = its_get ps d r h

pub front_get : (fo more : List Placed) (d : ℕ) (a : Placed) → slice_get fo d ≡ Some a → slice_get (fo ++ more) d ≡ Some a
front_get [] more d a h = cc
front_get (p ∷ ps) more zero a h = h
front_get (p ∷ ps) more (suc d) a h = front_get ps more d a h

get_some : (rs : List Record) (n : ℕ) → n < length rs → (r : Record) × (slice_get rs n ≡ Some r)
get_some [] n lt = absurd (omega (arith, lt))
get_some (r ∷ rs) zero lt = (r, refl)
get_some (r ∷ rs) (suc n) lt = get_some rs n (omega (arith, lt))

paths_match : (kept : List Path) (p q : Path) → same_path (Some p) (Some q) ≡ true → is_kept kept (Some q) ≡ true → (p ≡ q) × (among kept q ≡ true)
paths_match kept p q h k = (path_is p q h, k)

abbrev path_of : Option Placed → Option Path
path_of o = option_map (λ (r : Placed). r.path) o

-- what records of the numbers of two definers tell
abbrev Stay : List Path → List Placed → List Placed → Option ℕ → Option ℕ → Type 0
Stay kept os ns d e = (same_path (path_at os d) (path_at ns e) ≡ true) × (is_kept kept (path_at ns e) ≡ true)

definers_same : (kept : List Path) (fo more ns : List Placed) (d e : ℕ) (a b : Record) → KeptSame kept (fo ++ more) ns → slice_get (its fo) d ≡ Some a → slice_get (its ns) e ≡ Some b → Stay kept (fo ++ more) ns (Some d) (Some e)
    → effect_in a ≡ effect_in b
definers_same kept fo more ns d e a b same h k stay =
    let p = its_get fo d a h in
    let q = its_get ns e b k in
    let at : slice_get (fo ++ more) d ≡ Some p.0 = front_get fo more d p.0 p.1 in
    let left : path_at (fo ++ more) (Some d) ≡ Some p.0.path = ap path_of at in
    let right : path_at ns (Some e) ≡ Some q.0.path = ap path_of q.1 in
    let m = paths_match kept p.0.path q.0.path (sym (ap (λ o. same_path o (path_at ns (Some e))) left ∙ ap (same_path (Some p.0.path)) right) ∙ stay.0) (sym (ap (is_kept kept) right) ∙ stay.1) in
    sym (ap effect_in p.2) ∙ (same d e p.0 q.0 at q.1 m.0 m.1 ∙ ap effect_in q.2)

-- a variable holds the same in both
pub held_same : (g : Ground) (new : List (List _)) (kept : List Path) (fo more ns : List Placed) (site other : Site) (rs : List ℕ) (st nst : State) (x : ℕ) → g.params ≤ g.base
    → IsAtSite g site rs (its fo) st → IsAtSite (record g { db = new }) other rs (its ns) nst → site.turns ≡ other.turns → KeptSame kept (fo ++ more) ns → (x < g.base) ⊎ Within x rs
    → (g.params ≤ x → Stay kept (fo ++ more) ns (definer site.loops (its fo) x) (definer other.loops (its ns) x)) → held_at st.env x ≡ held_at nst.env x
held_same g new kept fo more ns site other rs st nst x below h k turns same (inl lt) stay = by (nat_le g.params x) refl
  where
    old_value : held_at st.env x ≡ held_at (with_slots (sets_in (its fo)) g.first) x
    old_value = h.told.held x lt

    new_value : held_at nst.env x ≡ held_at (with_slots (sets_in (its ns)) g.first) x
    new_value = k.told.held x lt

    last : (a b : Option ℕ) → last_place (sets_variable x) 0 (its fo) ≡ a → last_place (sets_variable x) 0 (its ns) ≡ b → Stay kept (fo ++ more) ns a b → held_at st.env x ≡ held_at nst.env x
    last None None p q s = old_value ∙ (none_set x 0 (its fo) g.first p ∙ sym (new_value ∙ none_set x 0 (its ns) g.first q))
    last (Some d) (Some e) p q s =
        let a : LastSet x 0 (its fo) d = last_set x 0 (its fo) d p in
        let b : LastSet x 0 (its ns) e = last_set x 0 (its ns) e q in
        let at : slice_get (its fo) d ≡ Some a.r = ap (slice_get (its fo)) (let e : d ≡ a.j = omega (arith, a.number) in e) ∙ a.there in
        let there : slice_get (its ns) e ≡ Some b.r = ap (slice_get (its ns)) (let f : e ≡ b.j = omega (arith, b.number) in f) ∙ b.there in
        let tells = definers_same kept fo more ns d e a.r b.r same at there s in
        old_value ∙ (a.holds g.first g.first ∙ (ap (λ (e : Effect). held_at (with_slots e.sets g.first) x) tells ∙ sym (new_value ∙ b.holds g.first g.first)))
    last None (Some e) p q s =
        let b : LastSet x 0 (its ns) e = last_set x 0 (its ns) e q in
        let there : slice_get (its ns) e ≡ Some b.r = ap (slice_get (its ns)) (let f : e ≡ b.j = omega (arith, b.number) in f) ∙ b.there in
        let it = its_get ns e b.r there in
        let clash : false ≡ true = sym (ap (λ o. same_path None (path_of o)) it.1) ∙ s.0 in
        cc
    last (Some d) None p q s =
        let a : LastSet x 0 (its fo) d = last_set x 0 (its fo) d p in
        let at : slice_get (its fo) d ≡ Some a.r = ap (slice_get (its fo)) (let e : d ≡ a.j = omega (arith, a.number) in e) ∙ a.there in
        let it = its_get fo d a.r at in
        let clash : false ≡ true = sym (ap (λ o. same_path (path_of o) None) (front_get fo more d it.0 it.1)) ∙ s.0 in
        cc

    by : (b : Bool) → nat_le g.params x ≡ b → held_at st.env x ≡ held_at nst.env x
    by false e =
        let low : x < g.params = grind (arith, nat_tests) in
        old_value ∙ (slots_low g.params g.base (sets_in (its fo)) g.first x h.told.slots low ∙ sym (new_value ∙ slots_low g.params g.base (sets_in (its ns)) g.first x k.told.slots low))
    by true e =
        let high : g.params ≤ x = grind (arith, nat_tests) in
        let a : loop_of x site.loops ≡ None = no_loop g.base x site.loops (subst (Each (λ y. g.base ≤ y)) (sym h.around) h.high) lt in
        let b : loop_of x other.loops ≡ None = no_loop g.base x other.loops (subst (Each (λ y. g.base ≤ y)) (sym k.around) k.high) lt in
        last (last_place (sets_variable x) 0 (its fo)) (last_place (sets_variable x) 0 (its ns)) refl refl
        (subst (λ o. Stay kept (fo ++ more) ns (option_or o (last_place (sets_variable x) 0 (its fo))) (last_place (sets_variable x) 0 (its ns))) a
        (subst (λ o. Stay kept (fo ++ more) ns (definer site.loops (its fo) x) (option_or o (last_place (sets_variable x) 0 (its ns)))) b (stay high)))
held_same g new kept fo more ns site other rs st nst x below h k turns same (inr w) stay =
    let it : BothLoops x (its fo) (its ns) st.env nst.env site.loops other.loops =
    find_loop x (its fo) (its ns) st.env nst.env site.loops other.loops site.turns h.loops (subst (LoopsHold (its ns) nst.env other.loops) (sym turns) k.loops) (h.around ∙ sym k.around) (subst (Within x) (sym h.around) w) in
    let a = get_some (its fo) it.n it.old in
    let b = get_some (its ns) it.m it.new in
    let s : Stay kept (fo ++ more) ns (Some it.n) (Some it.m) =
    subst (λ o. Stay kept (fo ++ more) ns (option_or o (last_place (sets_variable x) 0 (its fo))) (Some it.m)) it.first
    (subst (λ o. Stay kept (fo ++ more) ns (definer site.loops (its fo) x) (option_or o (last_place (sets_variable x) 0 (its ns)))) it.second (stay (omega (arith, below, each_within (λ i. g.base ≤ i) rs h.high x w)))) in
    let tells = definers_same kept fo more ns it.n it.m a.0 b.0 same a.1 b.1 s in
    it.held ∙ (ap Turn (ap (λ o. slice_index_or (rows_of o) (it.k - 1) []) a.1 ∙ (ap (λ (e : Effect). slice_index_or e.rows (it.k - 1) []) tells ∙ sym (ap (λ o. slice_index_or (rows_of o) (it.k - 1) []) b.1))) ∙ sym it.holds)

-- What is read

reads_at : (kept : List Path) (os ns : List Placed) (f g : ℕ → Option ℕ) (xs : List ℕ) → reads_stay kept os (map (λ x. record { slot = x; definer = f x }) xs) ns (map (λ x. record { slot = x; definer = g x }) xs) ≡ true
    → (x : ℕ) → Within x xs → Stay kept os ns (f x) (g x)
reads_at kept os ns f g [] h x w = absurd w
reads_at kept os ns f g (y ∷ ys) h x w =
    let a = and_parts _ _ h in
    let b = and_parts _ _ a.1 in
    by a.0 b.0 (λ v. reads_at kept os ns f g ys b.1 x v) w
  where
    by : same_path (path_at os (f y)) (path_at ns (g y)) ≡ true → is_kept kept (path_at ns (g y)) ≡ true → (Within x ys → Stay kept os ns (f x) (g x)) → (x ≡ y) ⊎ Within x ys → Stay kept os ns (f x) (g x)
    by p q go (inl at) = subst (λ z. Stay kept os ns (f z) (g z)) (sym at) (p, q)
    by p q go (inr v) = go v

-- the definers of what is read stay
pub stay_of : (kept : List Path) (os ns : List Placed) (params : ℕ) (loops others : List Loop) (before behind : List Record) (xs : List ℕ)
    → reads_stay kept os (map (λ x. record { slot = x; definer = definer loops before x }) (filter (λ x. nat_le params x) (each_once xs))) ns
    (map (λ x. record { slot = x; definer = definer others behind x }) (filter (λ x. nat_le params x) (each_once xs))) ≡ true
    → (x : ℕ) → Within x xs → params ≤ x → Stay kept os ns (definer loops before x) (definer others behind x)
stay_of kept os ns params loops others before behind xs h x w le =
    reads_at kept os ns (definer loops before) (definer others behind) (filter (λ x. nat_le params x) (each_once xs)) h x
    (kept_within x (λ x. nat_le params x) (each_once xs) (grind (arith, nat_tests)) (once_within x xs w))
