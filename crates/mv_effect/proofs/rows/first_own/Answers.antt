use Rattle.std.proofs.Common.{rules, ◌≡◌, ◌-◌, Some, inr, length, sym, ap, subst, ◌∙◌, arith}
use Rattle.std.specs.Option.{option_copied}
use Rattle.mv_values.specs.Patching.{row_of, applied, found_by}
use Rattle.mv_undo.specs.Owning.{earlier, is_sought}
use Rattle.mv_effect.specs.Firsts.{IsFirstOf}
use Rattle.mv_effect.specs.Looking.{different}
use Rattle.mv_effect.proofs.Few.{sought_few}
use Rattle.mv_effect.proofs.OwnKeys.{one_fewer, rises_later, each_later, none_before, first_with_row, none_written, asked_nothing, asked_again}
use Rattle.mv_effect.proofs.rows.first_own.Goals as goal

pub returns-then-is_empty-clause-found : goal.returns-then-is_empty-clause-found
returns-then-is_empty-clause-found g c =
    let ws = earlier c.args.number c.args.undo.now in
    let none : length c.args.undo.now ≡ 0 = search rules in
    none_written c.args.number c.args.undo.now c.args.direction c.args.pred.now (found_by c.args.pred.now (applied ws (g.V.View.sight c.args.view.now).database)) (option_copied c.args.other) none

pub loop-key-init : goal.loop-key-init
loop-key-init g c =
    let ws = earlier c.args.number c.args.undo.now in
    record {
      rising = c.in_ok-keys.ensures.rising;
      each = λ key so. inr (c.in_ok-keys.ensures.are key ∙ so);
      few = sought_few c.args.pred.now ws c.in_ok-keys.keys c.in_ok-keys.ensures;
      asked = asked_nothing (different ws - length c.in_ok-keys.keys) (g.V.View.sight c.args.view.now);
    }

pub returns-then-not-is_met_before-clause-found : goal.returns-then-not-is_met_before-clause-found
returns-then-not-is_met_before-clause-found g c =
    let ws = earlier c.args.number c.args.undo.now in
    none_before c.args.direction (is_sought c.args.pred.now ws) (found_by c.args.pred.now (applied ws (g.V.View.sight c.args.view.now).database)) c.in-Some.key.now c.loop-key.keys c.take_next.new.self c.in-Some.ensures c.loop-key.invariant.rising
    c.loop-key.invariant.each (option_copied c.args.other) (sym c.if-not-is_met_before.ensures)

pub returns-in-Some-2-clause-found : goal.returns-in-Some-2-clause-found
returns-in-Some-2-clause-found g c =
    let d = c.args.direction in
    let pred = c.args.pred.now in
    let ws = earlier c.args.number c.args.undo.now in
    let rows = found_by pred (applied ws (g.V.View.sight c.args.view.now).database) in
    let other = option_copied c.args.other in
    let key = c.in-Some.key.now in
    let row = c.in-Some-2.row in
    let found : c.in_ok-row.field-0 ≡ row_of rows key = c.in_ok-row.ensures.found ∙ ap (λ db. row_of (found_by pred (applied ws db)) key) c.loop-key.invariant.asked.same.database in
    subst (λ item. IsFirstOf d (is_sought pred ws) rows other (Some item)) (sym (c.under.ensures ∙ ap (λ k. record { key = k; row = row }) c.in_ok-key.ensures))
    (first_with_row d (is_sought pred ws) rows key c.loop-key.keys c.take_next.new.self c.in-Some.ensures c.loop-key.invariant.rising c.loop-key.invariant.each other row (sym c.if-not-is_met_before.ensures) (sym found ∙ c.in-Some-2.is))

pub loop-key-preserved : goal.loop-key-preserved
loop-key-preserved g c =
    let d = c.args.direction in
    let pred = c.args.pred.now in
    let ws = earlier c.args.number c.args.undo.now in
    let rows = found_by pred (applied ws (g.V.View.sight c.args.view.now).database) in
    let key = c.in-Some.key.now in
    let keys = c.loop-key.keys in
    let rest = c.take_next.new.self in
    let found : c.in_ok-row.field-0 ≡ row_of rows key = c.in_ok-row.ensures.found ∙ ap (λ db. row_of (found_by pred (applied ws db)) key) c.loop-key.invariant.asked.same.database in
    record {
      rising = rises_later d key keys rest c.in-Some.ensures c.loop-key.invariant.rising;
      each = each_later d (is_sought pred ws) rows key keys rest c.in-Some.ensures c.loop-key.invariant.rising c.loop-key.invariant.each (sym found ∙ c.in_default-2.is);
      few = omega (arith, c.loop-key.invariant.few, one_fewer d key keys rest c.in-Some.ensures);
      asked =
          asked_again (different ws) d key keys rest (g.V.View.sight c.args.view.now) (g.V.View.sight c.loop-key.view) (g.V.View.sight c.own_row.new.view) c.in-Some.ensures c.loop-key.invariant.few c.loop-key.invariant.asked
          c.in_ok-row.ensures.view.same c.in_ok-row.ensures.view.passes_on c.in_ok-row.ensures.looks;
    }
