use Rattle.std.proofs.Common.{◌+◌, ◌-◌, length, drop, ap, ◌∙◌, sym, subst, arith}
use Rattle.std.specs.Vec.{vec_capacity}
use Rattle.mv_changes.specs.Commits.{changes_in, AreNumbered}
use Rattle.mv_changes.proofs.Numbering.{kept_since, numbered_since, low_of}
use Rattle.mv_changes.proofs.recent.Recent.since.Goals as goal

pub returns-clause-changes : goal.returns-clause-changes
returns-clause-changes c =
    let i = c.self.inside in
    ap changes_in (c.from.ensures ∙ ap (drop (c.args.start - i.dropped)) c.as_slice.ensures.value)
    ∙ kept_since i.dropped i.low c.args.start (vec_capacity i.items - length i.items.items) i.items.items c.args.self.now c.self.invariant.0 c.self.view_is c.requires

pub returns-clause-numbers : goal.returns-clause-numbers
returns-clause-numbers c =
    let i = c.self.inside in
    let low = low_of i.dropped i.low (vec_capacity i.items - length i.items.items) i.items.items c.args.self.now c.self.view_is in
    subst (AreNumbered (c.args.start + 1)) (sym (c.from.ensures ∙ ap (drop (c.args.start - i.dropped)) c.as_slice.ensures.value))
    (numbered_since i.dropped c.args.start i.items.items (omega (arith, low, c.self.invariant.0, c.requires)) c.self.invariant.2)
