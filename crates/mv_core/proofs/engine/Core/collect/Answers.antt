use Rattle.std.proofs.Common.{List, Option, refl, subst, ap}
use Rattle.std.specs.Prelude.{Result, Ok, Err}
use Rattle.mv_values.specs.declared.memory.NoMemory.{NoMemory}
use Rattle.mv_store.specs.Stored.{Versioned}
use Rattle.mv_core.specs.declared.tasks.Running.{Running}
use Rattle.mv_core.specs.Books.{Booked}
use Rattle.mv_core.specs.Cores.{IsStoreOf, IsCore, HasCollected}
use Rattle.mv_core.proofs.Taking.{tasks_same, collected_on}
use Rattle.mv_core.proofs.Numbered.{numbers_same, numbers_other}
use Rattle.mv_journal.specs.declared.event.Event.TheVariants.{G}
use Rattle.mv_core.proofs.Changed.{book_in, tasks_in}
use Rattle.mv_core.proofs.Lasting.{last_collected}
use Rattle.mv_core.proofs.engine.Core.collect.Goals as goal

-- versions were collected, or nothing happened
core_collected : (r : Result (Unit {0}) NoMemory) (old new : Booked) (store raised : Versioned) (ts : List (Option Running)) → IsCore old store ts → HasCollected r old new → IsStoreOf new raised → IsCore new raised ts
core_collected (Ok x) old new store raised ts k made stored = record { stored = stored; numbers = numbers_other G old new made (λ d. refl) k.numbers; tasks = collected_on old new ts k.tasks made }
core_collected (Err e) old new store raised ts k same stored = record { stored = stored; numbers = numbers_same old new same k.numbers; tasks = tasks_same old.script new.script old.schedule new.schedule ts k.tasks same.script same.schedule }

pub invariant_of-self : goal.invariant_of-self
invariant_of-self c = (core_collected c.collect_versions.result c.self.inside.book c.collect_versions.new.book c.self.inside.store c.collect_versions.new.store c.self.inside.tasks.items c.self.invariant.0 c.collect_versions.ensures.made c.collect_versions.ensures.stored, last_collected c.collect_versions.result c.self.inside.book c.collect_versions.new.book c.self.inside.last c.self.invariant.1 c.collect_versions.ensures.made)

pub returns-clause-made : goal.returns-clause-made
returns-clause-made c = subst (λ (b : Booked). HasCollected c.collect_versions.result b c.collect_versions.new.book) (ap book_in c.self.view_is) c.collect_versions.ensures.made

pub returns-clause-tasks : goal.returns-clause-tasks
returns-clause-tasks c = ap tasks_in c.self.view_is
