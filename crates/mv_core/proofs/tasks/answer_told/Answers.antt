use Rattle.std.proofs.Common.{◌≡◌, ◌<◌, Ok, Err, length, arith, sym, ap, subst, ◌∙◌}
use Rattle.mv_script.specs.declared.script.CompiledScript.{CompiledScript}
use Rattle.mv_script.specs.Scripts.{batch_of, IsCompiledScript}
use Rattle.mv_core.specs.Calls.{IsLive, IsLiveCall}
use Rattle.mv_core.specs.Books.{Booked, AreRecordsOf}
use Rattle.mv_core.proofs.Stored.{start_reply}
use Rattle.mv_core.proofs.Changed.{on_new, same_both, missing_same, answered_after}
use Rattle.mv_core.proofs.tasks.answer_told.Goals as goal

pub settle-requires-clause-live : goal.settle-requires-clause-live
settle-requires-clause-live c = on_new (λ s x. IsLiveCall x c.args.call) c.args.book.now c.reserve.new.self c.reserve.ensures.same c.requires.live

pub settle-requires-clause-number : goal.settle-requires-clause-number
settle-requires-clause-number c = missing_same c.args.book.now c.reserve.new.self c.args.call c.args.task.now.executed c.reserve.ensures.same c.requires.missing

pub answer_read-requires-clause-live : goal.answer_read-requires-clause-live
answer_read-requires-clause-live c =
    on_new (λ s x. IsLiveCall x c.args.call) c.args.book.now c.settle.new.self (same_both c.args.book.now c.reserve.new.self c.settle.new.self c.reserve.ensures.same c.settle.ensures.same) c.requires.live

pub answer_read-requires-clause-kind : goal.answer_read-requires-clause-kind
answer_read-requires-clause-kind c =
    ap (λ (s : CompiledScript). (batch_of s).read_only c.args.call) (same_both c.args.book.now c.reserve.new.self c.settle.new.self c.reserve.ensures.same c.settle.ensures.same).script ∙ c.requires.kind

pub answer_read-requires-clause-reply : goal.answer_read-requires-clause-reply
answer_read-requires-clause-reply c l live =
    let same = same_both c.args.book.now c.reserve.new.self c.settle.new.self c.reserve.ensures.same c.settle.ensures.same in
    let b : Booked = c.settle.new.self in
    c.requires.reply
    ∙ start_reply b c.args.call l c.args.task.now.log.records (subst IsCompiledScript (sym same.script) c.requires.script) (subst (λ (s : CompiledScript). c.args.call < length s.calls) (sym same.script) c.requires.number)
    (on_new (λ s x. AreRecordsOf (record b { script = s; schedule = x }) c.args.call c.args.task.now.log.records) c.args.book.now b same c.requires.whole l live)

pub answer_read-requires-clause-room : goal.answer_read-requires-clause-room
answer_read-requires-clause-room c = let has = (c.settle.ensures.room c.args.call 2 c.in_ok-reserve.ensures.room).0 in omega (arith, has)

pub returns : goal.returns
returns c = answered_after c.args.call c.answer_read.result c.args.book.now c.settle.new.self c.answer_read.new.self (same_both c.args.book.now c.reserve.new.self c.settle.new.self c.reserve.ensures.same c.settle.ensures.same) c.answer_read.ensures.answered
