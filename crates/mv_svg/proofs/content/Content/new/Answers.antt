use Rattle.std.proofs.Common.{sym, subst}
use Rattle.mv_svg.specs.Xml.{IsContent, no_content}
use Rattle.mv_svg.proofs.content.Content.new.Goals as goal

pub invariant_of-result : goal.invariant_of-result
invariant_of-result c = record { well_formed = ∣ subst IsContent (sym c.new.ensures) no_content ∣₁ }
