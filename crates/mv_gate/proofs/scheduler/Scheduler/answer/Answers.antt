use Rattle.std.proofs.Common.{◌<◌, Ok, length, refl, sym, subst, rules}
use Rattle.mv_script.specs.Scripts.{IsCompiledScript}
use Rattle.mv_core.specs.Books.{Booked, IsSame, IsReader, IsNotStale, HasAnswered}
use Rattle.mv_core.proofs.Changed.{refused_is_same}
use Rattle.mv_gate.specs.Gates.{IsWhole}
use Rattle.mv_gate.proofs.Starts.{entry_there}
use Rattle.mv_gate.proofs.Schedulers.{scheduler_same, scheduler_answered}
use Rattle.mv_gate.proofs.Committing.{must_answer}
use Rattle.mv_gate.proofs.scheduler.Scheduler.answer.Goals as goal

pub answer_told-requires-clause-script : goal.answer_told-requires-clause-script
answer_told-requires-clause-script g c = subst IsCompiledScript (sym c.self.invariant.script) c.self.invariant.sound

pub answer_told-requires-clause-live : goal.answer_told-requires-clause-live
answer_told-requires-clause-live g c = (subst (λ (b : Booked). IsWhole b c.args.call c.args.task.now) (sym c.self.view_is) c.requires.whole).live

pub answer_told-requires-clause-number : goal.answer_told-requires-clause-number
answer_told-requires-clause-number g c = (subst (λ (b : Booked). IsWhole b c.args.call c.args.task.now) (sym c.self.view_is) c.requires.whole).there

pub answer_told-requires-clause-kind : goal.answer_told-requires-clause-kind
answer_told-requires-clause-kind g c = subst (λ (b : Booked). IsReader b c.args.call) (sym c.self.view_is) c.requires.kind

pub answer_told-requires-clause-missing : goal.answer_told-requires-clause-missing
answer_told-requires-clause-missing g c = (subst (λ (b : Booked). IsWhole b c.args.call c.args.task.now) (sym c.self.view_is) c.requires.whole).number

pub answer_told-requires-clause-whole : goal.answer_told-requires-clause-whole
answer_told-requires-clause-whole g c = (subst (λ (b : Booked). IsWhole b c.args.call c.args.task.now) (sym c.self.view_is) c.requires.whole).records

pub index_mut-requires : goal.index_mut-requires
index_mut-requires g c =
    let lt : c.args.call < length c.self.inside.starts.items =
    entry_there g.N.Making.script c.self.inside.book.schedule c.self.inside.starts.items c.args.call c.self.invariant.touched (subst (λ (b : Booked). IsWhole b c.args.call c.args.task.now) (sym c.self.view_is) c.requires.whole).live in
    search (rules, lt)

pub invariant_of-self : goal.invariant_of-self
invariant_of-self g c =
    scheduler_answered c.args.call g.N.Making.script c.self.inside.book c.answer_told.new.book c.self.inside.ledger c.self.inside.starts.items c.self.invariant (subst (λ (b : Booked). IsWhole b c.args.call c.args.task.now) (sym c.self.view_is) c.requires.whole).live c.in-Ok.ensures.0

pub returns-in-Ok-clause-ok : goal.returns-in-Ok-clause-ok
returns-in-Ok-clause-ok g c = subst (λ (b : Booked). HasAnswered c.args.call (Ok c.in-Ok.start) b c.answer_told.new.book) c.self.view_is c.in-Ok.ensures

pub invariant_of-self-in-Err-NoMemory : goal.invariant_of-self-in-Err-NoMemory
invariant_of-self-in-Err-NoMemory g c =
    scheduler_same g.N.Making.script c.self.inside.book c.answer_told.new.book c.self.inside.ledger c.self.inside.ledger c.self.inside.starts.items c.self.invariant
    (refused_is_same c.args.call c.in-Err-NoMemory.field-0 c.self.inside.book c.answer_told.new.book c.in-Err-NoMemory.ensures) refl refl

pub returns-in-Err-NoMemory-clause-err : goal.returns-in-Err-NoMemory-clause-err
returns-in-Err-NoMemory-clause-err g c =
    subst (λ (b : Booked). IsSame b c.answer_told.new.book) c.self.view_is (refused_is_same c.args.call c.in-Err-NoMemory.field-0 c.self.inside.book c.answer_told.new.book c.in-Err-NoMemory.ensures)

pub unreachable-requires : goal.unreachable-requires
unreachable-requires g c =
    must_answer c.args.call c.in-Err-Stale.field-0 c.self.inside.book c.answer_told.new.book (λ e. search (rules, e, c.in-Err-Stale.field-0-is))
    (subst (λ (b : Booked). IsNotStale b c.args.call) (sym c.self.view_is) c.requires.fresh) c.in-Err-Stale.ensures
