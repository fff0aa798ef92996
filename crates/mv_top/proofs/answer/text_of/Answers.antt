use Rattle.std.proofs.Common.{◌≡◌, IfErr, MatchResult, subst, sym}
use Rattle.mv_words.specs.declared.command.Command.{Command}
use Rattle.mv_words.specs.declared.command.Command.TheVariants.{Replay, Why}
use Rattle.mv_top.specs.declared.refusal.Refusal.{Refusal}
use Rattle.mv_top.specs.declared.refusal.NoText.TheVariants.{NoMemory}
use Rattle.mv_top.specs.Refusing.{RefusesAs}
use Rattle.mv_top.specs.Answers.{IsTextOf, AcceptsScript, AcceptsProgram, RefusesProgram}
use Rattle.mv_top.proofs.Judging.{only_of, told_of}
use Rattle.mv_top.proofs.answer.text_of.Goals as goal

pub print_text-requires : goal.print_text-requires
print_text-requires g c =
    let accepted = subst (λ (k : Command). AcceptsScript k c.args.bytes.now c.args.program) c.in-Tpcc-default-true-default-default.is c.requires.accepted in
    record { spelled = (accepted.0.1.0, accepted.0.1.1) }

pub returns-in-Replay-clause-only : goal.returns-in-Replay-clause-only
returns-in-Replay-clause-only g c =
    subst (λ (k : Command). AcceptsProgram k c.args.bytes.now c.args.program → IfErr c.journal_text.result (λ f. f ≡ NoMemory)) (sym c.in-Replay.is)
    (only_of (Replay c.in-Replay.options) c.args.bytes.now c.args.program c.journal_text.result c.journal_text.ensures.refused)

pub returns-in-Replay-clause-told : goal.returns-in-Replay-clause-told
returns-in-Replay-clause-told g c =
    subst (λ (k : Command). (refusal : Refusal) → RefusesProgram k c.args.bytes.now c.args.program refusal → MatchResult c.journal_text.result (λ answer. ⊥) (RefusesAs refusal)) (sym c.in-Replay.is)
    (told_of (Replay c.in-Replay.options) c.args.bytes.now c.args.program c.journal_text.result c.journal_text.ensures.text c.journal_text.ensures.refused)

pub returns-in-Why-clause-only : goal.returns-in-Why-clause-only
returns-in-Why-clause-only g c =
    subst (λ (k : Command). AcceptsProgram k c.args.bytes.now c.args.program → IfErr c.why_text.result (λ f. f ≡ NoMemory)) (sym c.in-Why.is)
    (only_of (Why c.in-Why.options) c.args.bytes.now c.args.program c.why_text.result c.why_text.ensures.refused)

pub returns-in-Why-clause-told : goal.returns-in-Why-clause-told
returns-in-Why-clause-told g c =
    subst (λ (k : Command). (refusal : Refusal) → RefusesProgram k c.args.bytes.now c.args.program refusal → MatchResult c.why_text.result (λ answer. ⊥) (RefusesAs refusal)) (sym c.in-Why.is)
    (told_of (Why c.in-Why.options) c.args.bytes.now c.args.program c.why_text.result c.why_text.ensures.text c.why_text.ensures.refused)

pub returns-in_ok-run_text-in-Run-clause-found : goal.returns-in_ok-run_text-in-Run-clause-found
returns-in_ok-run_text-in-Run-clause-found g c =
    subst (λ (k : Command). IsTextOf k c.args.bytes.now c.args.program c.in_ok-run_text-in-Run.field-0) (sym c.in-Run.is) c.in_ok-run_text-in-Run.ensures
