-- An old record is named again.
use Rattle.std.proofs.Common.{◌≡◌, ◌++◌, ℕ, List, Some, length, take, drop, sym, ap, subst, ◌∙◌}
use Rattle.std.specs.Prelude.{map, slice_get}
use Rattle.std.proofs.lemmas.List.{length-take-le}
use Rattle.mv_values.specs.declared.patch.Write.{Write}
use Rattle.mv_values.proofs.Deciding.{always_err}
use Rattle.mv_undo.specs.Owned.{owned_by}
use Rattle.mv_undo.specs.Owning.{undo_of}
use Rattle.mv_undo.specs.Indexed.{Indexed, IsIndexOf}
use Rattle.mv_log.specs.declared.head.Head.{Head}
use Rattle.mv_log.specs.declared.head.Range.{Range}
use Rattle.mv_log.specs.declared.head.Side.{Side}
use Rattle.mv_log.specs.declared.log.Log.TheInside.{Inside}
use Rattle.mv_log.specs.Parts.{Fits}
use Rattle.mv_log.specs.Fitting.{HeadFits}
use Rattle.mv_log.specs.Logged.{Logged}
use Rattle.mv_log.specs.Heads.{side_of, record_at}
use Rattle.mv_log.specs.Expanding.{closed_sizes, expanded}
use Rattle.mv_log.proofs.Growing.{whole_sound}
use Rattle.mv_log.proofs.Closing.{adopted, adopted_whole, fits_got, kept_within, record_got, reindexed, writes_below, IsIndexKept}
use Rattle.mv_log.proofs.log.Log.adopt.Goals as goal

pub side-side-requires-clause-there : goal.side-side-requires-clause-there
side-side-requires-clause-there c =
    let p : Inside = c.self.inside in
    let k : Head = c.head_at-kept.result in
    let at : slice_get p.past c.args.old ≡ Some k = subst (λ hs. slice_get hs c.args.old ≡ Some k) c.as_slice.ensures c.head_at-kept.ensures in
    let fits : HeadFits (closed_sizes p) k = fits_got (closed_sizes p) p.past c.args.old k at c.self.invariant.past in
    fits.side

pub side-side-requires-clause-sound : goal.side-side-requires-clause-sound
side-side-requires-clause-sound c = whole_sound c.self.inside c.self.invariant

pub first-closed-requires : goal.first-closed-requires
first-closed-requires c = c.self.invariant.from.writes

pub push_head-requires-clause-index : goal.push_head-requires-clause-index
push_head-requires-clause-index c = subst (IsIndexOf c.self.inside.own) (sym c.first-closed.ensures) c.self.invariant.own.index

pub push_head-requires-clause-within : goal.push_head-requires-clause-within
push_head-requires-clause-within c =
    let p : Inside = c.self.inside in
    let k : Head = c.head_at-kept.result in
    let at : slice_get p.past c.args.old ≡ Some k = subst (λ hs. slice_get hs c.args.old ≡ Some k) c.as_slice.ensures c.head_at-kept.ensures in
    let fits : HeadFits (closed_sizes p) k = fits_got (closed_sizes p) p.past c.args.old k at c.self.invariant.past in
    let long : length c.first-closed.result.now ≡ p.from.writes = ap (λ (ws : List Write). length ws) c.first-closed.ensures ∙ length-take-le p.from.writes p.lists.writes c.self.invariant.from.writes in
    subst (λ (n : ℕ). Fits n c.side-side.result.writes) (sym long) (subst (λ (e : Side). Fits p.from.writes e.writes) (sym c.side-side.ensures.is) (kept_within p k fits c.self.invariant))

pub push_head-requires-clause-last : goal.push_head-requires-clause-last
push_head-requires-clause-last c = writes_below c.self.inside c.self.invariant

pub invariant_of-self : goal.invariant_of-self
invariant_of-self c =
    let p : Inside = c.self.inside in
    let j : Indexed = c.push_head.new.own in
    rw c.in_err-push_head.ensures.err.0 (reindexed p j (subst (IsIndexOf j) c.first-closed.ensures c.push_head.ensures.index) c.in_err-push_head.ensures.err.1 c.self.invariant)

pub returns-in_err-push_head-clause-err : goal.returns-in_err-push_head-clause-err
returns-in_err-push_head-clause-err c = always_err c.from_residual.result (expanded (let p = c.self.inside in record p { heads = c.push_head.new.heads; own = c.push_head.new.own }) ≡ c.args.self.now) (rw c.in_err-push_head.ensures.err.0 c.self.view_is)

pub invariant_of-self-2 : goal.invariant_of-self-2
invariant_of-self-2 c =
    let p : Inside = c.self.inside in
    let k : Head = c.head_at-kept.result in
    let j : Indexed = c.push_head.new.own in
    let at : slice_get p.past c.args.old ≡ Some k = subst (λ hs. slice_get hs c.args.old ≡ Some k) c.as_slice.ensures c.head_at-kept.ensures in
    let fits : HeadFits (closed_sizes p) k = fits_got (closed_sizes p) p.past c.args.old k at c.self.invariant.past in
    let r : Range = (side_of p.lists.sides k.side).writes in
    let found : IsIndexKept p k j = (
      subst (IsIndexOf j) c.first-closed.ensures c.push_head.ensures.index,
      subst (λ (ws : List Write). owned_by j.places ws ≡ owned_by p.own.places ws ++ undo_of (length p.heads) (drop r.from (take r.to ws))) c.first-closed.ensures
          (subst (λ (e : Side). let ws = c.first-closed.result.now in owned_by j.places ws ≡ owned_by p.own.places ws ++ undo_of (length p.heads) (drop e.writes.from (take e.writes.to ws))) c.side-side.ensures.is c.in_ok-push_head.ensures.own),
    ) in
    rw c.in_ok-push_head.ensures.heads (rw c.len.ensures (rw c.len-2.ensures (adopted_whole p c.args.statement c.args.parent c.args.old k j fits found c.self.invariant)))

pub returns-clause-ok : goal.returns-clause-ok
returns-clause-ok c = λ given e.
    let p : Inside = c.self.inside in
    let k : Head = c.head_at-kept.result in
    let at : slice_get p.past c.args.old ≡ Some k = subst (λ hs. slice_get hs c.args.old ≡ Some k) c.as_slice.ensures c.head_at-kept.ensures in
    let e2 : slice_get (map (record_at p.lists) p.past) c.args.old ≡ Some given = subst (λ (v : Logged). slice_get v.past c.args.old ≡ Some given) (sym c.self.view_is) e in
    rw c.in_ok-push_head.ensures.heads
    (rw c.len.ensures (rw c.len-2.ensures (rw (sym c.self.view_is) (adopted p c.args.statement c.args.parent c.args.old k c.push_head.new.own given (record_got p.lists p.past c.args.old k given at e2)))))
