use Rattle.std.proofs.Common.{◌≡◌, ◌∙◌, sym, ap}
use Rattle.std.specs.Prelude.{◌||◌}
use Rattle.mv_values.specs.Patching.{patched}
use Rattle.mv_chain.specs.Having.{row_has, has_value}
use Rattle.mv_chain.specs.Versions.{newest, without}
use Rattle.mv_chain.proofs.Versions.{newest_is}
use Rattle.mv_chain.proofs.Going.{stamp_found}
use Rattle.mv_chain.proofs.history.History.has_stamped.Goals as goal

pub returns-then-patched_has : goal.returns-then-patched_has
returns-then-patched_has c m =
    let n = c.args.column in
    let v = c.args.value.now in
    let w = c.args.self.now in
    let patch = c.in-Some.patch.now in
    let is : c.patched_has.result ≡ row_has n v (patched patch (newest w)) =
    (rw c.as_ref.ensures.value at c.patched_has.ensures) ∙ ap (λ row. row_has n v (patched patch row)) (sym (newest_is c.self.inside.undos.items c.self.inside.row) ∙ ap newest c.self.view_is) in
    c.if-patched_has.true
    ∙ (sym (ap (λ b. b || has_value n v (record w { own = without c.args.call w.own })) (sym is ∙ c.if-patched_has.true)) ∙ stamp_found n v c.args.call m w patch (sym c.in-Some.ensures))

pub returns-else-patched_has : goal.returns-else-patched_has
returns-else-patched_has c m =
    let n = c.args.column in
    let v = c.args.value.now in
    let w = c.args.self.now in
    let patch = c.in-Some.patch.now in
    let is : c.patched_has.result ≡ row_has n v (patched patch (newest w)) =
    (rw c.as_ref.ensures.value at c.patched_has.ensures) ∙ ap (λ row. row_has n v (patched patch row)) (sym (newest_is c.self.inside.undos.items c.self.inside.row) ∙ ap newest c.self.view_is) in
    c.has_without.ensures
    ∙ (sym (ap (λ b. b || has_value n v (record w { own = without c.args.call w.own })) (sym is ∙ c.if-patched_has.false)) ∙ stamp_found n v c.args.call m w patch (sym c.in-Some.ensures))
