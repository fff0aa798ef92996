use Rattle.std.proofs.Common.{◌≡◌, Some, List, sym, ap, subst, ◌∙◌}
use Rattle.std.specs.Prelude.{slice_get}
use Rattle.std.specs.Option.{option_copied}
use Rattle.mv_values.specs.declared.pred.Test.{Test}
use Rattle.mv_table.specs.Spans.{CoversAdmitted}
use Rattle.mv_repair.specs.Keys.{TableKeys}
use Rattle.mv_repair.proofs.Knowing.{none_of_table}
use Rattle.mv_repair.proofs.keys.Keys.admits_one.Goals as goal

pub returns : goal.returns
returns c =
    let all : List TableKeys = c.args.self.now in
    let there : Some c.in-Some.keys.now ≡ slice_get all c.args.pred.now.table =
    ap option_copied (sym c.in-Some.is)
    ∙ (c.item.ensures ∙ (ap (slice_get c.as_slice.result.now) c.table.ensures ∙ ap (λ (l : List TableKeys). slice_get l c.args.pred.now.table) (c.as_slice.ensures ∙ c.self.view_is))) in
    let covers : CoversAdmitted c.args.pred.now.tests c.in_ok-span.span = subst (λ (ts : List Test). CoversAdmitted ts c.in_ok-span.span) c.tests.ensures c.in_ok-span.ensures.covers in
    none_of_table all c.args.pred.now c.in-Some.keys.now c.in_ok-span.span c.admits_within.result there covers c.admits_within.ensures
