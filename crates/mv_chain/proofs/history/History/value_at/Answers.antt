use Rattle.std.proofs.Common.{◌≡◌, ◌∙◌, ◌-◌, ap, sym, take, drop, length}
use Rattle.std.specs.Option.{option_copied}
use Rattle.std.proofs.lemmas.List.{take_rest}
use Rattle.mv_chain.specs.Versions.{row_at}
use Rattle.mv_chain.specs.Undoing.{before, later}
use Rattle.mv_chain.proofs.Versions.{row_is}
use Rattle.mv_chain.proofs.Values.{value_is}
use Rattle.mv_chain.proofs.history.History.value_at.Goals as goal

pub returns : goal.returns
returns c =
    let us = c.self.inside.undos.items in
    let now = c.self.inside.row in
    let first : drop c.place_after-first.result us ≡ later c.args.n us = rw c.as_slice.ensures.value at c.place_after-first.ensures.later in
    let rest : before (take (length us - c.place_after-first.result) (drop c.place_after-first.result us)) now ≡ row_at c.args.self.now c.args.n =
    ap (λ l. before l now) (take_rest us c.place_after-first.result ∙ first) ∙ sym (row_is c.args.n us now) ∙ ap (λ v. row_at v c.args.n) c.self.view_is in
    value_is c.args.column (row_at c.args.self.now c.args.n) (option_copied c.value_before.result) (sym c.exists_at.ensures ∙ c.if-not-exists_at.false) c.requires
    (λ row is within. (rw (c.deref.ensures.value, c.as_ref.ensures.value) at c.value_before.ensures) row (rest ∙ is) within)
