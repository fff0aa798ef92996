use Rattle.std.proofs.Common.{◌≡◌, Some, ap, subst, ◌∙◌}
use Rattle.std.specs.Prelude.{slice_get}
use Rattle.mv_recorded.specs.Recorded.{outside}
use Rattle.mv_exec.specs.Peeked.{Ahead}
use Rattle.mv_exec.specs.Frames.{site_in, site_of}
use Rattle.mv_exec.proofs.Peeking.{read_at}
use Rattle.mv_exec.proofs.ahead.Ahead.read.Goals as goal

pub returns : goal.returns
returns c =
    let i = c.self.inside in
    subst (λ (a : Ahead). slice_get a.reads c.args.at ≡ Some c.of.result) c.self.view_is
    (read_at i.definers.now (site_in i.holder (site_of outside i.frames.now)) i.number i.variables.now c.args.at c.variable_at-slot.result c.of.result c.variable_at-slot.ensures
    (c.of.ensures ∙ ap (λ d. record { slot = c.variable_at-slot.result; definer = d }) c.definer_of-definer.ensures))
