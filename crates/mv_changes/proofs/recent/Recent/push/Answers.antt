use Rattle.std.proofs.Common.{◌-◌, length}
use Rattle.std.specs.Vec.{vec_capacity}
use Rattle.mv_changes.proofs.Numbering.{kept_more}
use Rattle.mv_changes.proofs.recent.Recent.push.Goals as goal

pub invariant_of-self-2 : goal.invariant_of-self-2
invariant_of-self-2 c =
    let i = c.self.inside in
    kept_more i.dropped i.low (vec_capacity i.items - length i.items.items) i.items.items c.push.new.self.items (record { commit = c.args.commit; changes = c.args.changes }) c.args.self.now
    c.self.invariant.0 c.self.invariant.1 c.self.invariant.2 c.self.view_is c.requires c.in_ok-push.ensures.items
