use Rattle.std.proofs.Common.{None, refl, sym, ap, ◌∙◌}
use Rattle.mv_eval.specs.Env.{scalar_at}
use Rattle.mv_effect.proofs.Variables.{value_by, taken_value}
use Rattle.mv_effect.proofs.slots.target_value.Goals as goal

pub returns-in-Some : goal.returns-in-Some
returns-in-Some c =
    let own = scalar_at c.args.env.now c.args.x in
    let is = taken_value c.args.env.now c.args.to.now c.args.columns.now c.args.row.now c.args.x None own refl ∙ ap (λ l. value_by c.args.row.now l own) (sym c.in-Some.ensures) in
    rw is c.column_value.ensures

pub returns-in-None : goal.returns-in-None
returns-in-None c =
    let own = scalar_at c.args.env.now c.args.x in
    let is = taken_value c.args.env.now c.args.to.now c.args.columns.now c.args.row.now c.args.x None own refl ∙ ap (λ l. value_by c.args.row.now l own) (sym c.in-None.ensures) in
    rw is c.scalar.ensures
