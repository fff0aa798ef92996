use Rattle.std.proofs.Common.{◌≡◌, ◌∙◌, List, length, sym, take, subst}
use Rattle.mv_record.specs.Writes.{writes_on}
use Rattle.mv_undo.specs.Owning.{before, earlier}
use Rattle.mv_undo.specs.Owned.{Owned}
use Rattle.mv_undo.specs.Indexing.{DoesAll, IsComposed}
use Rattle.mv_undo.proofs.Linking.{kept_last, front_is, front_within}
use Rattle.mv_undo.proofs.undo.Undo.patch_on.Goals as goal

pub patch_up_to-requires-clause-composed : goal.patch_up_to-requires-clause-composed
patch_up_to-requires-clause-composed c =
    let all = c.items.ensures ∙ sym c.self.view_is in
    rw (all, c.composed.ensures) c.self.invariant.composed

pub patch_up_to-requires-clause-last : goal.patch_up_to-requires-clause-last
patch_up_to-requires-clause-last c = rw c.items.ensures (front_within c.args.number c.args.table c.args.key.now c.args.self.now c.last_earlier-last.result c.last_earlier-last.ensures)

pub returns : goal.returns
returns c =
    let S = c.items.result in
    let C = c.composed.result.now in
    let all = c.items.ensures ∙ sym c.self.view_is in
    let kept : IsComposed S C = rw (all, c.composed.ensures) c.self.invariant.composed in
    subst (λ p. DoesAll p (writes_on c.args.table c.args.key.now (earlier c.args.number c.args.self.now))) (sym c.patch_up_to.ensures)
    (kept_last S C (length (before c.args.number S)) (before c.args.number c.args.self.now) c.args.table c.args.key.now c.last_earlier-last.result kept
    (subst (λ (l : List Owned). before c.args.number l ≡ take (length (before c.args.number S)) S) c.items.ensures (front_is c.args.number S (rw all c.self.invariant.numbers)))
    c.last_earlier-last.ensures)
