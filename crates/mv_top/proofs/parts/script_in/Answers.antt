use Rattle.std.proofs.Common.{◌≡◌, Ok, Err, sym, subst}
use Rattle.std.specs.Prelude.{MatchResult}
use Rattle.mv_words.specs.declared.command.Command.{Command}
use Rattle.mv_top.specs.Inputs.{script_in}
use Rattle.mv_top.proofs.Taking.{takes_all}
use Rattle.mv_top.proofs.parts.script_in.Goals as goal

pub returns-in-Audit : goal.returns-in-Audit
returns-in-Audit c =
    subst (λ (k : Command). MatchResult c.headed_script.result (λ script. script_in k c.args.bytes.now ≡ Ok script.now) (λ refusal. script_in k c.args.bytes.now ≡ Err refusal)) (sym c.in-Audit.is) c.headed_script.ensures

pub returns-in_default : goal.returns-in_default
returns-in_default c = takes_all c.args.command.now c.args.bytes.now c.in_default.not-Audit
