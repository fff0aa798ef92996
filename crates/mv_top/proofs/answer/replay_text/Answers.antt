use Rattle.std.proofs.Common.{refl}
use Rattle.std.proofs.lemmas.Result.{err_from_is_err_and}
use Rattle.mv_words.specs.declared.command.Command.TheVariants.{Replay}
use Rattle.mv_top.proofs.Judging.{only_of, told_of, text_only, text_refused, text_told, script_refused, script_told}
use Rattle.mv_top.proofs.answer.replay_text.Goals as goal

pub returns-clause-only : goal.returns-clause-only
returns-clause-only c =
    λ program takes. text_only (Replay c.args.options) c.args.bytes.now c.in_ok-program.program program c.journal_text.result c.journal_text.ensures.text
    (only_of (Replay c.args.options) c.args.bytes.now c.in_ok-program.program c.journal_text.result c.journal_text.ensures.refused) (c.in_ok-program.ensures.only program takes.0) takes.1

pub returns-clause-refused : goal.returns-clause-refused
returns-clause-refused c =
    text_refused (Replay c.args.options) c.args.bytes.now c.args.bytes.now c.in_ok-program.program c.journal_text.result refl c.in_ok-program.ensures.found c.journal_text.ensures.refused

pub returns-clause-told : goal.returns-clause-told
returns-clause-told c =
    λ refusal cause. told_of (Replay c.args.options) c.args.bytes.now c.in_ok-program.program c.journal_text.result c.journal_text.ensures.text c.journal_text.ensures.refused refusal
    (text_told (Replay c.args.options) c.args.bytes.now c.args.bytes.now c.in_ok-program.program refusal refl c.in_ok-program.ensures.told c.in_ok-program.ensures.only cause)

pub returns-in_err-program-clause-only : goal.returns-in_err-program-clause-only
returns-in_err-program-clause-only c =
    let p = err_from_is_err_and c.from_residual.result c.from_residual.ensures.1 in
    λ program takes. rw (p.1, p.2) (c.in_err-program.ensures.only program takes.0)

pub returns-in_err-program-clause-refused : goal.returns-in_err-program-clause-refused
returns-in_err-program-clause-refused c =
    let p = err_from_is_err_and c.from_residual.result c.from_residual.ensures.1 in
    rw (p.1, p.2) (script_refused (Replay c.args.options) c.args.bytes.now c.args.bytes.now c.in_err-program.field-0.0 refl c.in_err-program.ensures.refused)

pub returns-in_err-program-clause-told : goal.returns-in_err-program-clause-told
returns-in_err-program-clause-told c =
    let p = err_from_is_err_and c.from_residual.result c.from_residual.ensures.1 in
    λ refusal cause. rw (p.1, p.2)
    (script_told (Replay c.args.options) c.args.bytes.now c.args.bytes.now c.in_err-program.field-0.0 refusal refl c.in_err-program.ensures.told c.in_err-program.ensures.only cause)
