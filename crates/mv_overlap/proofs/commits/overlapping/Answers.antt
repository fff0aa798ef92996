use Rattle.std.proofs.Common.{◌≡◌, sym, subst, ◌∙◌}
use Rattle.mv_script.specs.declared.script.CompiledScript.{CompiledScript}
use Rattle.mv_script.specs.Scripts.{batch_of}
use Rattle.mv_journal.specs.declared.outcome.Outcome.{Outcome}
use Rattle.mv_lawful.specs.Lawful.{Lawful}
use Rattle.mv_overlap.proofs.commits.overlapping.Goals as goal

pub returns : goal.returns
returns c =
    let same = c.end_all.ensures.script ∙ (c.play.ensures.script ∙ c.in_ok-core.ensures.script) in
    subst (λ (s : CompiledScript). Lawful (batch_of s) c.in_ok-outcome.outcome.journal) same
    (subst (λ (o : Outcome). Lawful (batch_of c.end_all.new.core.book.script) o.journal) (sym c.in_ok-outcome.ensures.outcome) c.in_ok-outcome.ensures.lawful)
