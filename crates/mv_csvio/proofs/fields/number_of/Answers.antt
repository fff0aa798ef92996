use Rattle.std.proofs.Common.{◌≡◌, ◌∙◌, ap, rules, sym}
use Rattle.mv_csvio.specs.Fields.{number_in}
use Rattle.mv_csvio.proofs.Values.{parsed, not_utf8}
use Rattle.mv_csvio.proofs.fields.number_of.Goals as goal

pub returns-in_err-text : goal.returns-in_err-text
returns-in_err-text c = c.from_residual.ensures ∙ not_utf8 c.args.field.now c.from_utf8.result _ _ c.from_utf8.ensures.cases (sym c.ok.ensures.value ∙ c.in_err-text.was)

pub returns : goal.returns
returns c =
    let same : c.in_ok-text.text.now ≡ c.args.field.now = search rules in
    c.ok-2.ensures.value ∙ (parsed c.in_ok-text.text.now c.parse.result (search rules) c.parse.ensures.value.0 ∙ ap number_in same)
