-- A core without events.
use Rattle.std.proofs.Common.{◌≡◌, ◌≤◌, ◌∙◌, ℕ, List, [], Option, Some, length, sym, ap, subst, arith}
use Rattle.std.specs.Prelude.{slice_get}
use Rattle.mv_lawful.specs.Batch.{table_at}
use Rattle.mv_lawful.specs.Lawful.{Schedule, beginning}
use Rattle.mv_lawful.proofs.Turns.{none_at}
use Rattle.mv_store.specs.Stored.{Versioned, database_at, own_writes}
use Rattle.mv_script.specs.declared.script.CompiledScript.{CompiledScript}
use Rattle.mv_core.specs.declared.tasks.Running.{Running}
use Rattle.mv_script.specs.Scripts.{IsCompiledScript, batch_of}
use Rattle.mv_core.specs.Books.{Booked}
use Rattle.mv_core.specs.Cores.{IsCore}
use Rattle.mv_core.proofs.Numbered.{numbers_begin}

pub new_core : (s : CompiledScript) (b : Booked) (store : Versioned) (ts : List (Option Running)) → IsCompiledScript s → b.script ≡ s → b.schedule ≡ beginning
    → ((n : ℕ) → database_at store n ≡ s.opening) → ((call : ℕ) → own_writes store call ≡ []) → store.last ≡ 0 → store.low ≡ 0 → ts ≡ [] → IsCore b store ts
new_core s b store ts sound script schedule opening own last low none = record {
  stored = record {
    script = subst IsCompiledScript (sym script) sound;
    last = last ∙ sym (ap (λ (x : Schedule). length x.order) schedule);
    low_is = low ∙ sym (ap (λ (x : Schedule). x.low) schedule);
    below = subst (λ (x : Schedule). x.low ≤ length x.order) (sym schedule) (omega arith);
    reads = λ n from to. reads n to;
    own = own;
  };
  numbers = numbers_begin b schedule;
  tasks = record {
    few = subst (λ (x : Schedule). length x.calls ≤ length b.script.calls) (sym schedule) (omega arith);
    count = ap length none ∙ sym (ap (λ (x : Schedule). length x.calls) schedule);
    running = λ c l live. absurd (none_at c l (subst (λ (x : Schedule). slice_get x.calls c ≡ Some l) schedule live.at));
  };
} where
  reads : (n : ℕ) → n ≤ length b.schedule.order → database_at store n ≡ table_at (batch_of b.script) b.schedule.order n
  reads n to =
      let first : n ≡ 0 = let le = subst (λ (x : Schedule). n ≤ length x.order) schedule to in omega (arith, le) in
      subst (λ (x : Schedule). database_at store n ≡ table_at (batch_of b.script) x.order n) (sym schedule)
      (subst (λ k. database_at store n ≡ table_at (batch_of b.script) [] k) (sym first) (opening n ∙ ap (λ (x : CompiledScript). x.opening) (sym script)))
