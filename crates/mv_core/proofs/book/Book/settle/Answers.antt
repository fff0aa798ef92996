use Rattle.std.proofs.Common.{arith, Some, is_some, refl, ap, sym, ◌∙◌}
use Rattle.mv_lawful.specs.Rounds.{last_number}
use Rattle.mv_core.specs.Books.{Booked}
use Rattle.mv_script.specs.Scripts.{batch_of}
use Rattle.mv_core.proofs.Keeping.{live_stays, the_schedule, here_at, kept_settled, settled_live, settled_told, still_settled, number_set, set_known, missing_due, same_calls, room_left}
use Rattle.mv_core.proofs.Recents.{recent_set}
use Rattle.mv_core.proofs.book.Book.settle.Goals as goal

pub returns-then-is_some-clause-settled : goal.returns-then-is_some-clause-settled
returns-then-is_some-clause-settled c =
    let here = here_at c.self.inside c.args.self.now c.args.call c.index.result.now c.self.view_is c.requires.live c.index.ensures in
    settled_told c.self.inside c.args.self.now c.args.call c.index.result.now c.self.view_is here.2.at
    (ap (λ rs. is_some (last_number rs)) (sym c.as_slice.ensures) ∙ (ap is_some (sym c.last_number.ensures) ∙ (sym c.is_some.ensures ∙ c.if-is_some.true)))

pub invariant_of-self : goal.invariant_of-self
invariant_of-self c =
    let here = here_at c.self.inside c.args.self.now c.args.call c.index_mut.result.now c.self.view_is c.requires.live c.index_mut.ensures.value in
    let first = here_at c.self.inside c.args.self.now c.args.call c.index.result.now c.self.view_is c.requires.live c.index.ensures in
    let due = missing_due c.self.inside c.args.self.now c.args.call c.args.task.now.executed c.index.result.now c.last_number.result c.self.view_is first.2.at
    (c.last_number.ensures ∙ ap last_number c.as_slice.ensures) (sym c.is_some.ensures ∙ c.if-is_some.false) c.requires.number in
    let start = c.settle.ensures.start in
    record {
      kept = kept_settled c.self.inside.script c.self.inside.order.items c.self.inside.low c.self.inside.answered.items c.args.call c.self.inside.calls.items c.self.inside.journal.items c.executed.result c.index_mut.result.now c.settle.new.self
          c.self.invariant.kept here.2.at here.2.going (due ∙ ap Some (sym c.executed.ensures)) c.settle.ensures.start c.settle.ensures.steps c.settle.ensures.rounds c.settle.ensures.reply;
      live = c.self.invariant.live ∙ sym (live_stays c.self.inside.calls.items c.args.call c.index_mut.result.now c.settle.new.self here.2.at c.settle.ensures.reply);
      recent = recent_set (batch_of c.self.inside.script) c.self.inside.order.items c.self.inside.low c.self.inside.answered.items c.args.call c.self.inside.calls.items c.index_mut.result.now c.settle.new.self c.self.inside.recent c.self.invariant.recent here.2.at here.2.going (omega (arith, start));
    }

pub returns-clause-settled : goal.returns-clause-settled
returns-clause-settled c =
    let here = here_at c.self.inside c.args.self.now c.args.call c.index_mut.result.now c.self.view_is c.requires.live c.index_mut.ensures.value in
    let number = number_set c.self.inside.script c.self.inside.order.items c.self.inside.low c.self.inside.answered.items c.args.call c.self.inside.calls.items c.self.inside.journal.items c.executed.result c.index_mut.result.now c.settle.new.self c.self.invariant.kept here.2.at c.settle.ensures.rounds in
    set_known c.self.inside.calls.items c.args.call c.executed.result c.index_mut.result.now c.settle.new.self here.2.at number

pub returns-clause-same : goal.returns-clause-same
returns-clause-same c =
    let here = here_at c.self.inside c.args.self.now c.args.call c.index_mut.result.now c.self.view_is c.requires.live c.index_mut.ensures.value in
    let number = number_set c.self.inside.script c.self.inside.order.items c.self.inside.low c.self.inside.answered.items c.args.call c.self.inside.calls.items c.self.inside.journal.items c.executed.result c.index_mut.result.now c.settle.new.self c.self.invariant.kept here.2.at c.settle.ensures.rounds in
    record {
      script = ap (λ (b : Booked). b.script) c.self.view_is;
      schedule =
          ap (the_schedule c.self.inside.order.items c.self.inside.low c.self.inside.answered.items)
          (same_calls c.self.inside.calls.items c.args.call c.index_mut.result.now c.settle.new.self here.2.at (settled_live (Some c.executed.result) c.index_mut.result.now c.settle.new.self c.settle.ensures.start c.settle.ensures.steps c.settle.ensures.rounds c.settle.ensures.reply))
          ∙ ap (λ (b : Booked). b.schedule) c.self.view_is;
      settled = λ d has. still_settled c.self.inside c.args.self.now c.args.call d c.index_mut.result.now c.settle.new.self c.self.view_is here.2.at (λ is was. ap is_some number) has;
      journal = ap (λ (b : Booked). b.journal) c.self.view_is;
    }

pub returns-clause-room : goal.returns-clause-room
returns-clause-room c x n has =
    let here = here_at c.self.inside c.args.self.now c.args.call c.index_mut.result.now c.self.view_is c.requires.live c.index_mut.ensures.value in
    room_left _ c.args.self.now _ c.self.inside.calls.items c.args.call x n n c.index_mut.result.now c.settle.new.self c.self.view_is refl here.2.at (omega arith) (omega arith) (let r = c.settle.ensures.room in omega (arith, r)) has
