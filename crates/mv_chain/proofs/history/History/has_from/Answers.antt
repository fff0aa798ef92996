use Rattle.std.proofs.Common.{◌≡◌, ◌∙◌, sym, ap, drop}
use Rattle.std.specs.Prelude.{◌||◌}
use Rattle.std.proofs.lemmas.List.{take_rest}
use Rattle.mv_chain.specs.Having.{own_has, undone_have}
use Rattle.mv_chain.proofs.Going.{from_found}
use Rattle.mv_chain.proofs.history.History.has_from.Goals as goal

pub returns-then-undone_have : goal.returns-then-undone_have
returns-then-undone_have c =
    let us = c.self.inside.undos.items in
    let own = c.self.inside.own.items in
    let n = c.args.column in
    let v = c.args.value.now in
    let first = c.place_after-first.result in
    let is : c.undone_have.result ≡ undone_have n v (drop first us) c.self.inside.row = (rw (c.deref.ensures.value, c.as_ref.ensures.value) at c.undone_have.ensures) ∙ ap (λ l. undone_have n v l c.self.inside.row) (take_rest us first) in
    c.if-undone_have.true
    ∙ (sym (ap (λ b. b || own_has n v own) (sym is ∙ c.if-undone_have.true)) ∙ from_found n v c.args.low us c.self.inside.row own first c.args.self.now c.self.view_is c.self.invariant.0 (rw c.as_slice.ensures.value at c.place_after-first.ensures.later))

pub returns-else-undone_have : goal.returns-else-undone_have
returns-else-undone_have c =
    let us = c.self.inside.undos.items in
    let own = c.self.inside.own.items in
    let n = c.args.column in
    let v = c.args.value.now in
    let first = c.place_after-first.result in
    let is : c.undone_have.result ≡ undone_have n v (drop first us) c.self.inside.row = (rw (c.deref.ensures.value, c.as_ref.ensures.value) at c.undone_have.ensures) ∙ ap (λ l. undone_have n v l c.self.inside.row) (take_rest us first) in
    (rw c.as_slice-else-undone_have.ensures.value at c.own_has.ensures)
    ∙ (sym (ap (λ b. b || own_has n v own) (sym is ∙ c.if-undone_have.false)) ∙ from_found n v c.args.low us c.self.inside.row own first c.args.self.now c.self.view_is c.self.invariant.0 (rw c.as_slice.ensures.value at c.place_after-first.ensures.later))
