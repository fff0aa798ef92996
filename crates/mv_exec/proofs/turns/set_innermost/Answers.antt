use Rattle.std.proofs.Common.{◌≡◌, length, ◌-◌, ap, ◌∙◌, slice_set, rules}
use Rattle.mv_exec.proofs.Turning.{set_last}
use Rattle.mv_exec.proofs.turns.set_innermost.Goals as goal

pub returns-in-Some : goal.returns-in-Some
returns-in-Some c = λ outer p e.
    let last : c.in-Some.last ≡ length c.args.frames.now - 1 = search rules in
    c.set.ensures ∙ (ap (λ n. slice_set c.args.frames.now n c.args.frame) last ∙ (ap (λ ps. slice_set ps (length ps - 1) c.args.frame) e ∙ set_last outer p c.args.frame))
