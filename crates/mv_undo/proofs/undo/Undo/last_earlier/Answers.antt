use Rattle.std.proofs.Common.{List, subst, sym, ◌∙◌}
use Rattle.mv_undo.specs.Owned.{Owned}
use Rattle.mv_undo.specs.Owning.{before}
use Rattle.mv_undo.specs.Indexing.{IsLastOn}
use Rattle.mv_undo.proofs.undo.Undo.last_earlier.Goals as goal

pub last_on-last-requires : goal.last_on-last-requires
last_on-last-requires c =
    let all = c.items-items.ensures ∙ sym c.self.view_is in
    rw (all, c.order.ensures) c.self.invariant.indexed

pub last_before-requires-clause-linked : goal.last_before-requires-clause-linked
last_before-requires-clause-linked c =
    let all = c.items-items.ensures ∙ sym c.self.view_is in
    rw (all, c.links.ensures) c.self.invariant.linked

pub last_before-requires-clause-numbers : goal.last_before-requires-clause-numbers
last_before-requires-clause-numbers c =
    let all = c.items-items.ensures ∙ sym c.self.view_is in
    rw all c.self.invariant.numbers

pub returns : goal.returns
returns c =
    subst (λ (l : List Owned). IsLastOn (before c.args.number l) c.args.table c.args.key.now c.last_before.result) c.items-items.ensures
    (c.last_before.ensures c.args.table c.args.key.now c.last_on-last.ensures)
