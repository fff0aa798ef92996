use Rattle.std.proofs.Common.{◌≡◌, ℕ, Option, Ok, length, ap, subst, arith}
use Rattle.mv_journal.specs.declared.event.Event.TheVariants.{B}
use Rattle.mv_script.specs.declared.script.CompiledScript.{CompiledScript}
use Rattle.mv_core.specs.Books.{Made, IsSame, batch_in}
use Rattle.mv_core.specs.Cores.{HasBegunCall}
use Rattle.mv_core.proofs.Journals.{room_of}
use Rattle.mv_core.proofs.Turning.{begun_live, end_of, turn_ends, turned_none, turned_more, turned_on, many_turned, many_on, turned_all}
use Rattle.mv_core.proofs.runs.run_calls.Goals as goal

pub loop-call-init : goal.loop-call-init
loop-call-init c = turned_none c.args.core.now.book c.requires

pub end_call-requires : goal.end_call-requires
end_call-requires c =
    begun_live c.in-Some.call c.loop-call.core.book c.begin.new.self.book (subst (λ (o : Option ℕ). HasBegunCall (Ok o) c.loop-call.core.book c.begin.new.self.book) c.in-Some.is c.in_ok-call.ensures.made)

pub loop-call-smaller : goal.loop-call-smaller
loop-call-smaller c =
    let begun : Made (B c.in-Some.call) c.loop-call.core.book c.begin.new.self.book = subst (λ (o : Option ℕ). HasBegunCall (Ok o) c.loop-call.core.book c.begin.new.self.book) c.in-Some.is c.in_ok-call.ensures.made in
    let ended : Made (end_of c.begin.new.self.book c.in-Some.call) c.begin.new.self.book c.end_call.new.core.book = turn_ends c.in-Some.call c.args.core.now.book c.loop-call.core.book c.begin.new.self.book c.end_call.new.core.book c.loop-call.invariant begun c.in_ok-end_call.ensures in
    let less = (room_of (batch_in c.loop-call.core.book) (length c.loop-call.core.book.schedule.calls) c.in-Some.call begun.allowed).1 in
    let more = many_turned c.in-Some.call c.loop-call.core.book c.begin.new.self.book c.end_call.new.core.book begun ended in
    let on = many_on c.end_call.new.core.book c.collect_after.new.core.book c.in_ok-collect_after.ensures in
    let many = on.0 in
    let first = ap (λ (s : CompiledScript). length s.calls) begun.script in
    let second = ap (λ (s : CompiledScript). length s.calls) ended.script in
    let third = ap (λ (s : CompiledScript). length s.calls) on.1 in
    omega (arith, less, more, many, first, second, third)

pub loop-call-preserved : goal.loop-call-preserved
loop-call-preserved c =
    let begun : Made (B c.in-Some.call) c.loop-call.core.book c.begin.new.self.book = subst (λ (o : Option ℕ). HasBegunCall (Ok o) c.loop-call.core.book c.begin.new.self.book) c.in-Some.is c.in_ok-call.ensures.made in
    let ended : Made (end_of c.begin.new.self.book c.in-Some.call) c.begin.new.self.book c.end_call.new.core.book = turn_ends c.in-Some.call c.args.core.now.book c.loop-call.core.book c.begin.new.self.book c.end_call.new.core.book c.loop-call.invariant begun c.in_ok-end_call.ensures in
    turned_on c.args.core.now.book c.end_call.new.core.book c.collect_after.new.core.book
    (turned_more c.in-Some.call c.args.core.now.book c.loop-call.core.book c.begin.new.self.book c.end_call.new.core.book c.loop-call.invariant begun ended) c.in_ok-collect_after.ensures

pub returns : goal.returns
returns c =
    let none : (length c.loop-call.core.book.schedule.calls ≡ length c.loop-call.core.book.script.calls) × IsSame c.loop-call.core.book c.begin.new.self.book =
    subst (λ (o : Option ℕ). HasBegunCall (Ok o) c.loop-call.core.book c.begin.new.self.book) c.in_default.is c.in_ok-call.ensures.made in
    turned_all c.args.core.now.book c.loop-call.core.book c.begin.new.self.book c.loop-call.invariant none.0 none.1
