use Rattle.std.proofs.Common.{◌≡◌, ◌∙◌, ◌≤◌, ◌-◌, ap, arith, rules, length}
use Rattle.mv_chain.specs.Versions.{row_at, collected}
use Rattle.mv_chain.specs.Undoing.{later}
use Rattle.mv_chain.proofs.Versions.{shown, rises_later, collect_is, reads_are, left_is, fewer_later}
use Rattle.mv_chain.proofs.history.History.collect.Goals as goal

-- what is left are the later commits
left : (c : goal.After-truncate) → c.truncate.new.self.items ≡ later c.args.low c.self.inside.undos.items
left c =
    left_is c.self.inside.undos.items c.rotate_left.new.self.items c.truncate.new.self.items c.place_after-gone.result (c.len.result - c.place_after-gone.result) c.args.low
    (rw c.as_slice.ensures.value at c.place_after-gone.ensures.within) (rw c.as_slice.ensures.value at c.place_after-gone.ensures.later) c.rotate_left.ensures.items (search rules) c.truncate.ensures.items

pub invariant_of-self : goal.invariant_of-self
invariant_of-self c =
    let few : length (later c.args.low c.self.inside.undos.items) ≤ length c.self.inside.undos.items = fewer_later c.args.low c.self.inside.undos.items in
    rw (left c) (rises_later c.args.low c.self.inside.undos.items c.self.invariant.0, omega (arith, few, c.self.invariant.1, c.truncate.ensures.capacity, c.rotate_left.ensures.capacity))

pub returns-clause-versions : goal.returns-clause-versions
returns-clause-versions c =
    ap (λ us. shown us c.self.inside.row c.self.inside.own.items) (left c)
    ∙ collect_is c.args.low c.self.inside.undos.items c.self.inside.row c.self.inside.own.items c.self.invariant.0
    ∙ ap (collected c.args.low) c.self.view_is

pub returns-clause-reads : goal.returns-clause-reads
returns-clause-reads c n h =
    ap (λ us. row_at (shown us c.self.inside.row c.self.inside.own.items) n) (left c)
    ∙ reads_are c.args.low n c.self.inside.undos.items c.self.inside.row c.self.inside.own.items h
    ∙ ap (λ v. row_at v n) c.self.view_is
