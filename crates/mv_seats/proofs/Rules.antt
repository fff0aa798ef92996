-- The rule, seat by seat.
use Rattle.std.proofs.Common.{◌≡◌, ◌≢◌, ℕ, zero, suc, ◌+◌, ◌≤◌, ⊎_elim, true, List, [], ◌∷◌, ◌++◌, length, slice_index, set, refl, sym, ◌∙◌, subst, zero-le, ap, arith}
use Rattle.std.specs.List.{IsDistinct}
use Rattle.std.proofs.lemmas.Bool.{false≢true}
use lib.Dec.{eqb}
use native.Mathlib.Decide.{ℕ_discrete}
use mathlib.Core.Option.{Option, some, some-ne-none, some-injective}
use lib.ListN.{get_elem?}
use Rattle.atomic_table.specs.Table.{State, opening}
use Rattle.atomic_table.proofs.Lists.{at_set, at_snoc, set_else, at_longer}
use Rattle.mv_seats.specs.Scripts.{BoardScript}
use Rattle.mv_seats.specs.Knowing.{Role, Gate, Spent, has_role, AreCalls}
use Rattle.mv_seats.specs.Rule.{View, first, BeginsIn, IsBelow, IsExact, Sizes, Ruled}
use Rattle.mv_seats.proofs.Words.{there_put}

-- what the rule says of one seat
pub record Fits (script : BoardScript) (words history : List ℕ) (gate : ℕ) (owner : ℕ → ℕ) (seat : ℕ) (v : View) : Type 0 where
  pub of_script : v.script ≡ script
  pub is_gate : v.knows.role ≡ Gate → seat ≡ gate
  pub is_owner : (q : ℕ) → has_role v.knows q ≡ true → seat ≡ owner q
  pub begins : BeginsIn history v
  pub below : (q : ℕ) → IsBelow words q v.knows
  pub exact : (q : ℕ) → has_role v.knows q ≡ true → IsExact words q v.knows

-- what it says of all seats
abbrev pub EachView : BoardScript → List ℕ → List ℕ → ℕ → (ℕ → ℕ) → List View → Type 0
EachView script words history gate owner views = (seat : ℕ) (v : View) → get_elem? views seat ≡ some v → v.knows.role ≢ Spent → Fits script words history gate owner seat v

-- the gate's view is there
abbrev pub HasGate : ℕ → List View → Type 0
HasGate gate views = (v : View) × (get_elem? views gate ≡ some v) × (v.knows.role ≡ Gate)

not_spent : (r : Role) → r ≡ Gate → r ≢ Spent
not_spent r gated e = absurd (cc (sym gated ∙ e))

pub each_of : (script : BoardScript) (s : State ℕ View) (r : Ruled script s) → EachView script s.words r.history r.gate r.owner s.views
each_of script s r seat v at live = record {
  of_script = r.one_script seat v (at, live);
  is_gate = r.one_of_each.one_gate seat v (at, live);
  is_owner = r.one_of_each.one_shard seat v (at, live);
  begins = r.prefixes.0 seat v (at, live);
  below = r.marks seat v (at, live);
  exact = r.own_marks seat v (at, live);
}

pub gate_of : (script : BoardScript) (s : State ℕ View) (r : Ruled script s) → HasGate r.gate s.views
gate_of script s r = let t = r.one_of_each.there in (t.0, t.1.0, t.2)

pub ruled : (script : BoardScript) (words : List ℕ) (homes : List (Option ℕ)) (views : List View) (history : List ℕ) (gate : ℕ) (owner : ℕ → ℕ)
    → EachView script words history gate owner views → HasGate gate views → AreCalls script history → slice_index words 0 ≡ length history → Sizes script words
    → Ruled script record { words = words; homes = homes; views = views }
ruled script words homes views history gate owner each there calls count sizes = record {
  history = history;
  gate = gate;
  owner = owner;
  one_script = λ seat v at. (each seat v at.0 at.1).of_script;
  one_of_each = record {
    there = (there.0, (there.1, not_spent there.0.knows.role there.2), there.2);
    one_gate = λ seat v at. (each seat v at.0 at.1).is_gate;
    one_shard = λ seat v at. (each seat v at.0 at.1).is_owner;
  };
  prefixes = (λ seat v at. (each seat v at.0 at.1).begins, calls);
  count = count;
  marks = λ seat v at. (each seat v at.0 at.1).below;
  own_marks = λ seat v at. (each seat v at.0 at.1).exact;
  sizes = sizes;
}

-- one seat has another view, and the others fit what has become of the board
pub each_step : (script : BoardScript) (words words' history history' : List ℕ) (gate id : ℕ) (owner : ℕ → ℕ) (views : List View) (w : View) → EachView script words history gate owner views
    → (w.knows.role ≢ Spent → Fits script words' history' gate owner id w)
    → ((j : ℕ) (u : View) → j ≢ id → Fits script words history gate owner j u → Fits script words' history' gate owner j u)
    → EachView script words' history' gate owner (set views id w)
each_step script words words' history history' gate id owner views w each fits others j u at live = ⊎_elim
    (λ (t : (j ≡ id) × (w ≡ u)). subst (λ (z : ℕ). Fits script words' history' gate owner z u) (sym t.0) (subst (λ (z : View). Fits script words' history' gate owner id z) t.1 (fits (subst (λ (z : View). z.knows.role ≢ Spent) (sym t.1) live))))
    (λ (t : (j ≢ id) × (get_elem? views j ≡ some u)). others j u t.0 (each j u t.1 live))
    (at_set views id j w u at)

-- the same, where the board stays
pub each_set : (script : BoardScript) (words history : List ℕ) (gate id : ℕ) (owner : ℕ → ℕ) (views : List View) (w : View) → EachView script words history gate owner views
    → (w.knows.role ≢ Spent → Fits script words history gate owner id w) → EachView script words history gate owner (set views id w)
each_set script words history gate id owner views w each fits = each_step script words words history history gate id owner views w each fits (λ j u n f. f)

pub each_push : (script : BoardScript) (words history : List ℕ) (gate : ℕ) (owner : ℕ → ℕ) (views : List View) (w : View) → EachView script words history gate owner views
    → ((j : ℕ) → Fits script words history gate owner j w) → EachView script words history gate owner (views ++ w ∷ [])
each_push script words history gate owner views w each fits j u at live = ⊎_elim
    (λ (t : get_elem? views j ≡ some u). each j u t live)
    (λ (t : w ≡ u). subst (λ (z : View). Fits script words history gate owner j z) t (fits j))
    (at_snoc views w u j at)

gate_put : (gate id : ℕ) (views : List View) (v w : View) → get_elem? views id ≡ some v → w.knows.role ≡ v.knows.role → HasGate gate views → Dec (gate ≡ id) → HasGate gate (set views id w)
gate_put gate id views v w at same g (yes e) =
    let is : g.0 ≡ v = some-injective g.0 v (sym g.1 ∙ (ap (get_elem? views) e ∙ at)) in (
      w,
      ap (get_elem? (set views id w)) e ∙ there_put views id v w at,
      same ∙ subst (λ (z : View). z.knows.role ≡ Gate) is g.2,
    )
gate_put gate id views v w at same g (no ne) = (g.0, set_else views id gate w ne ∙ g.1, g.2)

-- a seat that steps keeps its role
pub gate_set : (gate id : ℕ) (views : List View) (v w : View) → get_elem? views id ≡ some v → w.knows.role ≡ v.knows.role → HasGate gate views → HasGate gate (set views id w)
gate_set gate id views v w at same g = gate_put gate id views v w at same g (ℕ_discrete gate id)

pub gate_push : (gate : ℕ) (views : List View) (w : View) → HasGate gate views → HasGate gate (views ++ w ∷ [])
gate_push gate views w g = (g.0, at_longer views (w ∷ []) gate g.0 g.1, g.2)

-- a seat that isn't the gate's may get any view
pub gate_else : (gate id : ℕ) (views : List View) (v w : View) → get_elem? views id ≡ some v → v.knows.role ≢ Gate → HasGate gate views → HasGate gate (set views id w)
gate_else gate id views v w at plain g =
    let ne : gate ≢ id = λ e. plain (subst (λ (z : View). z.knows.role ≡ Gate) (some-injective g.0 v (sym g.1 ∙ (ap (get_elem? views) e ∙ at))) g.2) in
    (g.0, set_else views id gate w ne ∙ g.1, g.2)

none_distinct : IsDistinct eqb []
unfolding IsDistinct
none_distinct = tt

first_each : (script : BoardScript) (words : List ℕ) → ((k : ℕ) → slice_index words k ≡ 0) → EachView script words [] 0 (λ q. 0) (first script ∷ [])
first_each script words zeros zero v at live = subst (λ (z : View). Fits script words [] 0 (λ q. 0) 0 z) (some-injective (first script) v at) record {
  of_script = refl;
  is_gate = λ e. refl;
  is_owner = λ q h. refl;
  begins = record { seen = ([], refl); one = ([], refl); two = ([], refl); whole = λ e. refl };
  below = λ q. record { marks = zero-le; mine = zero-le; theirs = zero-le };
  exact = λ q h. record { marks = sym (zeros (q + 1)); mine = sym (zeros (q + 1)); seen = omega (arith, zeros (q + 1)) };
}
first_each script words zeros (suc j) v at live = absurd (some-ne-none v (sym at))

pub starts : (script : BoardScript) (words : List ℕ) → length script.calls ≤ 1000000 → length words ≡ script.shards + 1 → ((k : ℕ) → slice_index words k ≡ 0) → Ruled script (opening {S = ℕ} words [] (first script))
starts script words few wide zeros = ruled script words [] (first script ∷ []) [] 0 (λ q. 0) (first_each script words zeros) (first script, refl, refl)
    record { distinct = none_distinct; there = λ q h. absurd (false≢true h) }
    (zeros 0)
    record { wide = wide; few = few; marks = λ q. omega (arith, zeros (q + 1)) }
