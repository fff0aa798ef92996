-- A scheduler before any event.
use Rattle.std.proofs.Common.{◌≡◌, ◌∙◌, ℕ, List, [], Option, Some, length, sym, ap, subst, arith}
use Rattle.std.specs.Prelude.{slice_get}
use Rattle.mv_lawful.specs.Lawful.{Schedule, beginning}
use Rattle.mv_lawful.proofs.Turns.{none_at}
use Rattle.mv_lawful.specs.Rounds.{IsBounded}
use Rattle.mv_journal.specs.declared.event.Event.{Event}
use Rattle.mv_seats.specs.Scripts.{BoardScript}
use Rattle.mv_seats.specs.Knowing.{Knows}
use Rattle.mv_script.specs.declared.script.CompiledScript.{CompiledScript}
use Rattle.mv_script.specs.Scripts.{IsCompiledScript}
use Rattle.mv_shards.specs.Scripts.{script_in, batch}
use Rattle.mv_shards.specs.Ledgers.{Entered}
use Rattle.mv_core.specs.Books.{Booked}
use Rattle.mv_gate.specs.Gates.{IsScheduler}

pub new_scheduler : (s : BoardScript) (script : CompiledScript) (b : Booked) (ledger : Entered) (starts : List (Option (List ℕ))) (pass : Knows) → IsCompiledScript script → script ≡ script_in s → b.script ≡ script → b.schedule ≡ beginning → b.journal ≡ []
    → ledger.commits ≡ 0 → ledger.knows ≡ pass → pass.seen ≡ [] → starts ≡ [] → IsScheduler s b ledger starts
new_scheduler s script b ledger starts pass sound named same schedule journal commits knows seen none = record {
  script = same ∙ named;
  sound = subst IsCompiledScript named sound;
  seen = ap (λ (k : Knows). k.seen) knows ∙ (seen ∙ sym (ap (λ (x : Schedule). x.order) schedule));
  commits = commits ∙ sym (ap (λ (x : Schedule). length x.order) schedule);
  low = let low = ap (λ (x : Schedule). x.low) schedule in omega (arith, low);
  round_starts = λ c l at. absurd (none_at c l (subst (λ (x : Schedule). slice_get x.calls c ≡ Some l) schedule at));
  bounded = subst (λ (es : List Event). IsBounded (batch s) es) (sym journal) (record { few = λ c. omega arith; late = tt });
  rounds = λ c l live. absurd (none_at c l (subst (λ (x : Schedule). slice_get x.calls c ≡ Some l) schedule live.at));
  touched = record {
    count = ap length none ∙ sym (ap (λ (x : Schedule). length x.calls) schedule);
    each = λ c l live. absurd (none_at c l (subst (λ (x : Schedule). slice_get x.calls c ≡ Some l) schedule live.at));
  };
}
