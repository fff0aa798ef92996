use Rattle.std.proofs.Common.{◌∙◌}
use Rattle.std.specs.Prelude.{◌==◌, not}
use Rattle.mv_chain.specs.Having.{patch_has}
use Rattle.mv_chain.proofs.Having.{any_of_filter}
use Rattle.mv_chain.proofs.column.others_have.Goals as goal

pub returns : goal.returns
returns c = c.any_other.ensures ∙ any_of_filter (λ p. patch_has c.args.column c.args.value.now p.patch) (λ p. not (p.call == c.args.call)) c.args.own.now
