use Rattle.std.proofs.Common.{◌≡◌, ◌+◌, ◌-◌, length, drop, ap, ◌∙◌, sym, subst, arith}
use Rattle.std.specs.Vec.{vec_capacity}
use Rattle.mv_changes.specs.Commits.{changes_in, AreNumbered}
use Rattle.mv_changes.proofs.Numbering.{kept_since, numbered_since, low_of}
use Rattle.mv_changes.proofs.recent.Recent.trim.Goals as goal

pub invariant_of-self : goal.invariant_of-self
invariant_of-self c =
    let i = c.self.inside in
    let low = low_of i.dropped i.low (vec_capacity i.items - length i.items.items) i.items.items c.args.self.now c.self.view_is in
    (omega arith, omega arith, subst (AreNumbered (c.args.low + 1)) (sym c.drop_first.ensures.items) (numbered_since i.dropped c.args.low i.items.items (omega (arith, low, c.self.invariant.0, c.requires.rises)) c.self.invariant.2))

pub returns-then-passed-len-clause-commits : goal.returns-then-passed-len-clause-commits
returns-then-passed-len-clause-commits c =
    let i = c.self.inside in
    let none : c.args.low - c.args.low ≡ 0 = omega arith in
    ap (λ n. changes_in (drop n c.drop_first.new.items.items)) none
    ∙ (ap changes_in c.drop_first.ensures.items
    ∙ kept_since i.dropped i.low c.args.low (vec_capacity i.items - length i.items.items) i.items.items c.args.self.now c.self.invariant.0 c.self.view_is c.requires.rises)

pub returns-else-passed-len-clause-commits : goal.returns-else-passed-len-clause-commits
returns-else-passed-len-clause-commits c =
    let i = c.self.inside in
    kept_since i.dropped i.low c.args.low (vec_capacity i.items - length i.items.items) i.items.items c.args.self.now c.self.invariant.0 c.self.view_is c.requires.rises
