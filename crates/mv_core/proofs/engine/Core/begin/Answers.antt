use Rattle.std.proofs.Common.{◌≡◌, ◌∷◌, ◌++◌, [], List, Option, Some, None, Ok, take, length, sym, ap, subst, ◌∙◌, refl, ℕ}
use Rattle.std.proofs.lemmas.List.{take_at}
use Rattle.std.specs.Prelude.{slice_get}
use Rattle.mv_values.specs.Tables.{Tables}
use Rattle.mv_core.specs.declared.tasks.Running.{Running}
use Rattle.mv_journal.specs.declared.event.Event.TheVariants.{B}
use Rattle.mv_script.specs.declared.script.CompiledScript.{CompiledScript}
use Rattle.mv_core.specs.declared.book.Begun.{Begun}
use Rattle.mv_core.specs.Books.{Made, HasBegun}
use Rattle.mv_core.specs.Cores.{RunsOn, IsCore, records_by}
use Rattle.mv_core.proofs.Stored.{stored_made}
use Rattle.mv_core.proofs.Numbered.{numbers_other}
use Rattle.mv_core.proofs.Taking.{begun_on}
use Rattle.mv_core.proofs.Refusing.{begun_number}
use Rattle.mv_core.proofs.Changed.{core_same, tasks_in}
use Rattle.mv_core.proofs.Recorded.{begun_records, others_begun}
use Rattle.mv_core.proofs.Lasting.{last_same, last_other}
use Rattle.mv_core.proofs.engine.Core.begin.Goals as goal

pub invariant_of-self-in-Ok-Some : goal.invariant_of-self-in-Ok-Some
invariant_of-self-in-Ok-Some c =
    let next = c.in-Some.ensures.next in
    let begun : Made (B c.in-Ok-Some.begun.call) c.self.inside.book c.begin.new.self =
    (subst (λ (o : Option Begun). HasBegun (Ok o) c.self.inside.book c.begin.new.self) c.in-Ok-Some.field-0-is c.in-Ok-Some.ensures).0 in
    let made : Made (B c.in-Some.call) c.self.inside.book c.begin.new.self = subst (λ n. Made (B n) c.self.inside.book c.begin.new.self) (begun_number c.in-Ok-Some.begun.call c.self.inside.book c.begin.new.self begun ∙ sym next.0) begun in (
      subst (λ (ts : List (Option Running)). IsCore c.begin.new.self c.self.inside.store ts) (sym (c.in_ok-push.ensures.items ∙ ap (λ (r : Running). c.self.inside.tasks.items ++ Some r ∷ []) c.in_ok-block.ensures)) (record {
        stored = stored_made (B c.in-Some.call) c.self.inside.book c.begin.new.self c.self.inside.store c.self.invariant.0.stored made refl refl;
        numbers = numbers_other (B c.in-Some.call) c.self.inside.book c.begin.new.self made (λ d. refl) c.self.invariant.0.numbers;
        tasks = begun_on c.self.inside.book c.begin.new.self c.self.inside.tasks.items c.in-Some.call c.in_ok-task.task c.self.invariant.0.tasks made next.0 next.1
            (subst (λ (s : CompiledScript). (db : Tables) → RunsOn s c.in-Some.call db c.in_ok-task.task) c.script.ensures c.in_ok-task.ensures.runs)
            (c.in_ok-task.ensures.executed ∙ sym (ap length c.in_ok-task.ensures.records));
      }),
      last_other (B c.in-Some.call) c.self.inside.book c.begin.new.self c.self.inside.last c.self.invariant.1 made refl,
    )

pub invariant_of-self-in-Err : goal.invariant_of-self-in-Err
invariant_of-self-in-Err c =
    let back : c.truncate.new.self.items ≡ c.self.inside.tasks.items =
    c.truncate.ensures.items ∙ (ap (take c.in-Some.call) (c.in_ok-push.ensures.items ∙ ap (λ (r : Running). c.self.inside.tasks.items ++ Some r ∷ []) c.in_ok-block.ensures) ∙ take_at c.self.inside.tasks.items (Some (record { task = c.in_ok-task.task; count = None }) ∷ []) c.in-Some.call (c.self.invariant.0.tasks.count ∙ sym c.in-Some.ensures.next.0)) in
    (subst (λ (ts : List (Option Running)). IsCore c.begin.new.self c.self.inside.store ts) (sym back) (core_same c.self.inside.book c.begin.new.self c.self.inside.store c.self.inside.tasks.items c.self.invariant.0 c.in-Err.ensures), last_same c.self.inside.book c.begin.new.self c.self.inside.last c.self.invariant.1 c.in-Err.ensures)

pub returns-in-Ok-Some-clause-task : goal.returns-in-Ok-Some-clause-task
returns-in-Ok-Some-clause-task c =
    let begun : Made (B c.in-Ok-Some.begun.call) c.self.inside.book c.begin.new.self =
    (subst (λ (o : Option Begun). HasBegun (Ok o) c.self.inside.book c.begin.new.self) c.in-Ok-Some.field-0-is c.in-Ok-Some.ensures).0 in
    let last : c.in-Ok-Some.begun.call ≡ length c.self.inside.tasks.items = begun_number c.in-Ok-Some.begun.call c.self.inside.book c.begin.new.self begun ∙ sym c.self.invariant.0.tasks.count in
    subst (λ (ts : List (Option Running)). (records_by (slice_get ts c.in-Ok-Some.begun.call) ≡ []) × ((d : ℕ) → (d ≡ c.in-Ok-Some.begun.call → ⊥) → slice_get ts d ≡ slice_get c.args.self.now.tasks d)) (sym (c.in_ok-push.ensures.items ∙ ap (λ (r : Running). c.self.inside.tasks.items ++ Some r ∷ []) c.in_ok-block.ensures)) (
      begun_records c.in-Ok-Some.begun.call c.self.inside.tasks.items (record { task = c.in_ok-task.task; count = None }) last c.in_ok-task.ensures.records,
      others_begun c.in-Ok-Some.begun.call c.self.inside.tasks.items (Some (record { task = c.in_ok-task.task; count = None })) c.args.self.now (ap tasks_in c.self.view_is) last,
    )

pub returns-in-Err-clause-task : goal.returns-in-Err-clause-task
returns-in-Err-clause-task c =
    c.truncate.ensures.items
    ∙ (ap (take c.in-Some.call) (c.in_ok-push.ensures.items ∙ ap (λ (r : Running). c.self.inside.tasks.items ++ Some r ∷ []) c.in_ok-block.ensures)
    ∙ (take_at c.self.inside.tasks.items (Some (record { task = c.in_ok-task.task; count = None }) ∷ []) c.in-Some.call (c.self.invariant.0.tasks.count ∙ sym c.in-Some.ensures.next.0) ∙ ap tasks_in c.self.view_is))
