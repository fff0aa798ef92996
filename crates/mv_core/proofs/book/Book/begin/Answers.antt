use Rattle.std.proofs.Common.{rules, ◌≡◌, ◌<◌, ◌^◌, ◌∙◌, length, subst, sym, List, map, ap, ◌++◌, ◌∷◌, [], refl}
use Rattle.mv_journal.specs.declared.event.Event.TheVariants.{B}
use Rattle.mv_core.specs.declared.progress.Progress.{Progress}
use Rattle.std.specs.Prelude.{All}
use Rattle.mv_core.specs.Lives.{live_numbers}
use Rattle.mv_core.specs.Calls.{live_of, IsFresh}
use Rattle.mv_script.specs.declared.script.CompiledScript.{CompiledScript}
use Rattle.mv_script.specs.Scripts.{batch_of}
use Rattle.mv_core.specs.Books.{Booked, IsBook}
use Rattle.mv_core.proofs.Keeping.{few_inside, live_within, live_comes, kept_begun, begun_none, begun_made, the_schedule, all_begun}
use Rattle.mv_core.proofs.Recents.{recent_begun}
use Rattle.mv_core.proofs.book.Book.begin.Goals as goal

pub returns-then-len : goal.returns-then-len
returns-then-len c = all_begun c.self.inside c.args.self.now c.self.view_is c.self.invariant.kept (search (rules, c.if-len.true, c.len.ensures, c.len-2.ensures ∙ ap (λ (s : CompiledScript). length s.calls) c.get.ensures))

pub returns-in_err-reserve : goal.returns-in_err-reserve
returns-in_err-reserve c = begun_none _ c.self.inside c.args.self.now _ c.self.inside.calls.items c.from_residual.result c.self.view_is refl refl refl refl c.reserve.ensures.items c.from_residual.ensures.1

pub returns-in_err-reserve-2 : goal.returns-in_err-reserve-2
returns-in_err-reserve-2 c = begun_none _ c.self.inside c.args.self.now _ c.reserve-2.new.self.items c.from_residual-in_err-reserve-2.result c.self.view_is c.reserve-2.ensures.items refl refl refl c.reserve.ensures.items c.from_residual-in_err-reserve-2.ensures.1

pub returns-in_err-progress : goal.returns-in_err-progress
returns-in_err-progress c = begun_none _ c.self.inside c.args.self.now _ c.reserve-2.new.self.items c.from_residual-in_err-progress.result c.self.view_is c.reserve-2.ensures.items refl refl refl c.reserve.ensures.items c.from_residual-in_err-progress.ensures.1

pub returns-in_err-push : goal.returns-in_err-push
returns-in_err-push c = begun_none _ c.self.inside c.args.self.now _ c.reserve-2.new.self.items c.from_residual-in_err-push.result c.self.view_is c.reserve-2.ensures.items refl refl refl c.reserve.ensures.items c.from_residual-in_err-push.ensures.1

pub overflow_cast-start : goal.overflow_cast-start
overflow_cast-start c = let few : length c.self.inside.order.items < 2 ^ 32 = few_inside c.self.inside c.self.invariant.kept in search (rules, few, c.len-start.ensures)

pub push-requires : goal.push-requires
push-requires c =
    let is : c.len-call.result ≡ length c.self.inside.calls.items = search (rules, c.len-call.ensures) in
    subst (All (λ d. d < c.len-call.result)) (sym c.self.invariant.live)
    (subst (λ n. All (λ d. d < n) (live_numbers (map live_of c.self.inside.calls.items))) (sym is) (live_within c.self.inside.calls.items))

more : (c : goal.After-put) → c.push-2.new.self.items ≡ c.self.inside.calls.items ++ c.in_ok-progress.progress ∷ []
more c = search (rules, c.push-2.ensures.items, c.if-is_err.false, c.is_err.ensures.value, c.reserve-2.ensures.items)

number : (c : goal.After-put) → c.len-call.result ≡ length c.self.inside.calls.items
number c = search (rules, c.len-call.ensures)

less : (c : goal.After-put) → length c.self.inside.calls.items < length c.self.inside.script.calls
less c = search (rules, c.if-len.false, c.len.ensures, c.len-2.ensures ∙ ap (λ (s : CompiledScript). length s.calls) c.get.ensures)

fresh : (c : goal.After-put) → IsFresh (length c.self.inside.order.items) c.in_ok-progress.progress
fresh c = subst (λ n. IsFresh n c.in_ok-progress.progress) c.len-start.ensures c.in_ok-progress.ensures

adds : (c : goal.After-put) → c.put.new.self.items ≡ c.self.inside.journal.items ++ B c.len-call.result ∷ []
adds c = search (rules, c.put.ensures.items, c.reserve.ensures.items)

pub invariant_of-self-2 : goal.invariant_of-self-2
invariant_of-self-2 c =
    let live : c.push.new.self ≡ c.self.inside.live ++ length c.self.inside.calls.items ∷ [] = search (rules, c.in_ok-push.ensures.ok, c.len-call.ensures) in
    subst (λ (ps : List Progress). IsBook c.self.inside.script (the_schedule c.self.inside.order.items c.self.inside.low c.self.inside.answered.items (map live_of ps)) ps c.put.new.self.items c.push.new.self c.self.inside.recent) (sym (more c)) (record {
      kept = (kept_begun c.self.inside.script c.self.inside.order.items c.self.inside.low c.self.inside.answered.items c.len-call.result c.self.inside.calls.items c.self.inside.journal.items _ c.in_ok-progress.progress c.self.invariant.kept (less c) (number c) (fresh c) (adds c)).1;
      live = live ∙ (ap (λ ns. ns ++ length c.self.inside.calls.items ∷ []) c.self.invariant.live ∙ sym (live_comes c.self.inside.calls.items (length c.self.inside.order.items) c.in_ok-progress.progress (fresh c)));
      recent = recent_begun (batch_of c.self.inside.script) c.self.inside.order.items c.self.inside.low c.self.inside.answered.items c.self.inside.calls.items c.in_ok-progress.progress c.self.inside.recent c.self.invariant.recent (fresh c);
    })

pub returns : goal.returns
returns c = (
  begun_made c.self.inside c.args.self.now _ c.len-call.result c.push-2.new.self.items c.in_ok-progress.progress c.self.view_is c.self.invariant.kept (less c) (number c) (fresh c) (more c) refl refl refl (adds c),
  c.len-start.ensures ∙ ap (λ (b : Booked). length b.schedule.order) c.self.view_is,
)
