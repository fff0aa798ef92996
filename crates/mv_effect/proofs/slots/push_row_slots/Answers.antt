use Rattle.std.proofs.Common.{true, sym, ap, ◌∙◌, ◌+◌, ◌++◌, ◌∷◌, [], take, slice_index_or}
use Rattle.std.proofs.lemmas.Result.{on_ok_weaker}
use Rattle.mv_values.specs.Columns.{columns_of}
use Rattle.mv_eval.specs.Env.{with_found, with_values}
use Rattle.mv_log.specs.Logged.{Logged}
use Rattle.mv_recorded.specs.Reading.{each_once}
use Rattle.mv_recorded.specs.Effects.{slots_behind}
use Rattle.mv_effect.specs.Logging.{with_sets}
use Rattle.mv_effect.proofs.Once.{once_there, once_new, once_all}
use Rattle.mv_effect.proofs.Variables.{slots_more, slots_end}
use Rattle.mv_recorded.proofs.Slots.{same_found}
use Rattle.mv_effect.proofs.slots.push_row_slots.Goals as goal

pub loop-i-preserved-then-is_among_first : goal.loop-i-preserved-then-is_among_first
loop-i-preserved-then-is_among_first c =
    let next = with_found (with_values c.args.env.now c.args.to.now (columns_of c.args.row.now c.args.columns.now)) true in
    c.loop-i.invariant ∙ ap (λ xs. with_sets c.args.log.now (slots_behind next xs)) (once_there c.args.to.now c.loop-i.i 0 c.loop-i-test.true (sym c.is_among_first.ensures ∙ c.if-is_among_first.true))

pub loop-i-preserved : goal.loop-i-preserved
loop-i-preserved c =
    let env = with_values c.args.env.now c.args.to.now (columns_of c.args.row.now c.args.columns.now) in
    let found = same_found c.args.env.now c.args.to.now (columns_of c.args.row.now c.args.columns.now) in
    let new = once_new c.args.to.now c.loop-i.i 0 c.loop-i-test.true (sym c.is_among_first.ensures ∙ c.if-is_among_first.false) in
    let more = slots_more env true (each_once (take c.loop-i.i c.args.to.now)) (each_once (take (c.loop-i.i + 1) c.args.to.now)) (slice_index_or c.args.to.now c.loop-i.i 0) c.in_ok-value.value c.args.env.now.found (sym found) new c.in_ok-value.ensures in
    c.in_ok-push_set.ensures.ok ∙ (ap (λ (l : Logged). with_sets l (l.effect.sets ++ c.slot_before_found.result ∷ [])) c.loop-i.invariant
    ∙ ap (λ ss. with_sets c.args.log.now ss) (ap (λ s. slots_behind (with_found env true) (each_once (take c.loop-i.i c.args.to.now)) ++ s ∷ []) c.slot_before_found.ensures ∙ more))

pub returns-clause-ok : goal.returns-clause-ok
returns-clause-ok c =
    let env = with_values c.args.env.now c.args.to.now (columns_of c.args.row.now c.args.columns.now) in
    let found = same_found c.args.env.now c.args.to.now (columns_of c.args.row.now c.args.columns.now) in
    let end = slots_end env true (each_once c.args.to.now) c.args.env.now.found (sym found) in
    let all = once_all c.args.to.now c.loop-i.i c.loop-i-test.false in
    on_ok_weaker c.push_set-2.result
    (λ is.
    is ∙ (ap (λ (l : Logged). with_sets l (l.effect.sets ++ c.found_slot.result ∷ [])) (c.loop-i.invariant ∙ ap (λ xs. with_sets c.args.log.now (slots_behind (with_found env true) xs)) all)
    ∙ ap (λ ss. with_sets c.args.log.now ss) (ap (λ s. slots_behind (with_found env true) (each_once c.args.to.now) ++ s ∷ []) c.found_slot.ensures ∙ end)))
    c.push_set-2.ensures.ok
