use Rattle.std.proofs.Common.{◌≤◌, ◌∙◌, List, ℕ, length, ap, sym, subst}
use Rattle.std.specs.Option.{option_map}
use Rattle.mv_top.specs.Parts.{with_values}
use Rattle.mv_top.proofs.Parting.{report_of, report_is_few}
use Rattle.mv_top.proofs.parts.report_in.Goals as goal

pub returns-in-Some-clause-report : goal.returns-in-Some-clause-report
returns-in-Some-clause-report c = ap report_of (sym (ap (option_map with_values) c.in-Some.is) ∙ c.parts_of.ensures)

pub returns-in-None-clause-report : goal.returns-in-None-clause-report
returns-in-None-clause-report c = ap report_of (sym (ap (option_map with_values) c.in-None.is) ∙ c.parts_of.ensures)

pub returns-in-Some-clause-few : goal.returns-in-Some-clause-few
returns-in-Some-clause-few c = subst (λ (report : List ℕ). length report ≤ length c.args.bytes.now) (sym (returns-in-Some-clause-report c)) (report_is_few c.args.bytes.now)
