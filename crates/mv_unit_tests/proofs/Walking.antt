-- A call that is walked through with records of another run of it.
use Rattle.std.proofs.Common.{◌≡◌, ◌<◌, ℕ, zero, suc, false, true, List, [], ◌∷◌, ◌++◌, Some, length, slice_get, refl, sym, ap, ◌∙◌, arith, append-nil, length-append}
use Rattle.mv_values.specs.declared.calls.Call.{Call}
use Rattle.mv_values.specs.Tables.{Tables}
use Rattle.mv_record.specs.declared.record.Record.{Record}
use Rattle.mv_record.specs.Writes.{AreRising}
use Rattle.mv_graph.specs.declared.graph.Graph.{Graph}
use Rattle.mv_graph.specs.Nodes.{meaning_of}
use Rattle.mv_exec.specs.declared.task.Task.{Task}
use Rattle.mv_exec.specs.Running.{HasLeft, IsTaskOn, IsSameCall, GoesOnWith, EndsExactly}

at_end : (xs ys : List Record) (x : Record) → slice_get (xs ++ x ∷ ys) (length xs) ≡ Some x
at_end [] ys x = refl
at_end (z ∷ xs) ys x = at_end xs ys x

-- there is an item with each lower number
pub there : (xs : List Record) (n : ℕ) → n < length xs → (x : Record) × (slice_get xs n ≡ Some x)
there [] n lt = absurd (omega (arith, lt))
there (x ∷ xs) zero lt = (x, refl)
there (x ∷ xs) (suc n) lt = there xs n (omega (arith, lt))

-- a call that hasn't ended has fewer records than its full run
pub within : EndsExactly → (g : Graph) (call : Call) (db : Tables) (task : Task) (given : List Record) → AreRising db → IsTaskOn g call db task → given ≡ (meaning_of g call db).records → task.ended ≡ false
    → length task.log.records < length given
within ends g call db task given rise on all live = by on.rest refl
  where
    by : (rest : List Record) → on.rest ≡ rest → length task.log.records < length given
    by [] e = let ended : task.ended ≡ true = (ends g call db task on.rest on.is rise on.leaves).1 e in cc
    by (r ∷ rest) e =
        let are : given ≡ task.log.records ++ r ∷ rest = all ∙ (on.leaves ∙ ap (λ l. task.log.records ++ l) e) in
        omega (arith, ap length are, length-append task.log.records (r ∷ rest))

-- where the next of these records was adopted, it was the next one of the full run
pub goes_on : (g : Graph) (call : Call) (db : Tables) (old new : Task) (given : List Record) (n : ℕ) → AreRising db → IsTaskOn g call db old → given ≡ (meaning_of g call db).records
    → length old.log.records < length given → n ≡ length old.log.records → IsSameCall g old new → ((it : Record) → slice_get given n ≡ Some it → GoesOnWith g old it new) → IsTaskOn g call db new
goes_on g call db old new given n rise on all lt is same goes = by on.rest refl
  where
    by : (rest : List Record) → on.rest ≡ rest → IsTaskOn g call db new
    by [] e =
        let are : given ≡ old.log.records = all ∙ (on.leaves ∙ (ap (λ l. old.log.records ++ l) e ∙ append-nil old.log.records)) in
        absurd (omega (arith, lt, ap length are))
    by (r ∷ rest) e =
        let leaves : HasLeft g call db old (r ∷ rest) = on.leaves ∙ ap (λ l. old.log.records ++ l) e in
        let next : slice_get given n ≡ Some r =
        ap (λ l. slice_get l n) (all ∙ leaves) ∙ (ap (λ k. slice_get (old.log.records ++ r ∷ rest) k) is ∙ at_end old.log.records rest r) in
        record { is = same call on.is; rest = rest; leaves = goes r next call db r rest on.is rise leaves refl }

-- a call that has ended has them all
pub has_all : EndsExactly → (g : Graph) (call : Call) (db : Tables) (task : Task) (given : List Record) → AreRising db → IsTaskOn g call db task → given ≡ (meaning_of g call db).records → task.ended ≡ true
    → task.log.records ≡ given
has_all ends g call db task given rise on all ended =
    sym (all ∙ (on.leaves ∙ (ap (λ l. task.log.records ++ l) ((ends g call db task on.rest on.is rise on.leaves).0 ended) ∙ append-nil task.log.records)))
