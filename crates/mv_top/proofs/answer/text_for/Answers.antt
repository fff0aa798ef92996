use Rattle.std.proofs.Common.{◌≤◌, length, arith}
use Rattle.std.proofs.lemmas.Result.{err_from_is_err_and}
use Rattle.mv_top.proofs.Judging.{text_only, text_refused, text_told, script_refused, script_told}
use Rattle.mv_top.proofs.Taking.{accepted_script, accepts_script, none_accepted, accepted_is_few, input_is_told}
use Rattle.mv_accept.specs.Accepting.{most_bytes}
use Rattle.mv_top.specs.Answers.{by_input}
use Rattle.mv_top.proofs.answer.text_for.Goals as goal

pub text_of-requires-clause-accepted : goal.text_of-requires-clause-accepted
text_of-requires-clause-accepted g c κs within = accepts_script c.args.command.now c.args.bytes.now c.in_ok-script.script.now c.in_ok-program.program c.in_ok-script.ensures c.in_ok-program.ensures.found

pub text_of-requires-clause-size : goal.text_of-requires-clause-size
text_of-requires-clause-size g c κs within =
    let few : length c.args.bytes.now ≤ most_bytes = accepted_is_few c.args.command.now c.args.bytes.now c.in_ok-program.program (text_of-requires-clause-accepted g c κs within) in
    omega (arith, few)

pub returns-clause-only : goal.returns-clause-only
returns-clause-only g c =
    λ program takes. text_only c.args.command.now c.args.bytes.now c.in_ok-program.program program c.text_of.result c.text_of.ensures.found c.text_of.ensures.only
    (c.in_ok-program.ensures.only program (accepted_script c.args.command.now c.args.bytes.now c.in_ok-script.script.now program c.in_ok-script.ensures takes.0)) takes.1

pub returns-clause-refused : goal.returns-clause-refused
returns-clause-refused g c =
    text_refused c.args.command.now c.args.bytes.now c.in_ok-script.script.now c.in_ok-program.program c.text_of.result c.in_ok-script.ensures c.in_ok-program.ensures.found c.text_of.ensures.refused

pub returns-clause-told : goal.returns-clause-told
returns-clause-told g c =
    λ refusal cause. c.text_of.ensures.told refusal
    (text_told c.args.command.now c.args.bytes.now c.in_ok-script.script.now c.in_ok-program.program refusal c.in_ok-script.ensures c.in_ok-program.ensures.told c.in_ok-program.ensures.only cause)

pub returns-in_err-program-clause-only : goal.returns-in_err-program-clause-only
returns-in_err-program-clause-only g c =
    let p = err_from_is_err_and c.from_residual-in_err-program.result c.from_residual-in_err-program.ensures.1 in
    λ program takes. rw (p.1, p.2) (c.in_err-program.ensures.only program (accepted_script c.args.command.now c.args.bytes.now c.in_ok-script.script.now program c.in_ok-script.ensures takes.0))

pub returns-in_err-program-clause-refused : goal.returns-in_err-program-clause-refused
returns-in_err-program-clause-refused g c =
    let p = err_from_is_err_and c.from_residual-in_err-program.result c.from_residual-in_err-program.ensures.1 in
    rw (p.1, p.2) (script_refused c.args.command.now c.args.bytes.now c.in_ok-script.script.now c.in_err-program.field-0.0 c.in_ok-script.ensures c.in_err-program.ensures.refused)

pub returns-in_err-program-clause-told : goal.returns-in_err-program-clause-told
returns-in_err-program-clause-told g c =
    let p = err_from_is_err_and c.from_residual-in_err-program.result c.from_residual-in_err-program.ensures.1 in
    λ refusal cause. rw (p.1, p.2)
    (script_told c.args.command.now c.args.bytes.now c.in_ok-script.script.now c.in_err-program.field-0.0 refusal c.in_ok-script.ensures c.in_err-program.ensures.told c.in_err-program.ensures.only cause)

pub returns-in_err-script-clause-only : goal.returns-in_err-script-clause-only
returns-in_err-script-clause-only g c = λ program takes. absurd (none_accepted c.args.command.now c.args.bytes.now c.in_err-script.field-0.0 program c.in_err-script.ensures takes.0)

pub returns-in_err-script-clause-refused : goal.returns-in_err-script-clause-refused
returns-in_err-script-clause-refused g c =
    let p = err_from_is_err_and c.from_residual.result c.from_residual.ensures.1 in
    rw (p.1, p.2) (by_input c.in_err-script.field-0.0 c.in_err-script.ensures)

pub returns-in_err-script-clause-told : goal.returns-in_err-script-clause-told
returns-in_err-script-clause-told g c =
    let p = err_from_is_err_and c.from_residual.result c.from_residual.ensures.1 in
    λ refusal cause. rw (p.1, p.2) (input_is_told c.args.command.now c.args.bytes.now c.in_err-script.field-0.0 refusal c.in_err-script.ensures cause)
