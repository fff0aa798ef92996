use Rattle.std.proofs.Common.{◌≡◌, ◌∙◌, ap, sym, rules, true}
use Rattle.std.specs.List.{list_all}
use Rattle.std.specs.Char.{is_ascii_digit}
use Rattle.mv_journal.specs.Reading.{number_in}
use Rattle.mv_journal.proofs.Numbers.{none_of_others, read, not_refused}
use Rattle.mv_journal.proofs.line.number_of.Goals as goal

pub returns-then-not-are_digits : goal.returns-then-not-are_digits
returns-then-not-are_digits c = none_of_others c.args.digits.now (sym c.are_digits.ensures ∙ c.if-not-are_digits.true)

pub returns-in_err-text : goal.returns-in_err-text
returns-in_err-text c = c.from_residual.ensures ∙ not_refused c.args.digits.now c.from_utf8.result _ _ (sym c.are_digits.ensures ∙ c.if-not-are_digits.false) c.from_utf8.ensures.cases (sym c.ok.ensures.value ∙ c.in_err-text.was)

pub returns : goal.returns
returns c =
    let same : c.in_ok-text.text.now ≡ c.args.digits.now = search rules in
    let digits : list_all is_ascii_digit c.in_ok-text.text.now ≡ true = rw same (sym c.are_digits.ensures ∙ c.if-not-are_digits.false) in
    c.ok-2.ensures.value ∙ (read c.in_ok-text.text.now c.parse.result digits c.parse.ensures.value.0 ∙ ap number_in same)
