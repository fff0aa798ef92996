use Rattle.std.proofs.Common.{rules, ◌≡◌, ◌∷◌, ◌∙◌}
use Rattle.mv_exec.proofs.Changing.{set_step, room_step}
use Rattle.mv_exec.proofs.changes.set_all.Goals as goal

pub loop-change-preserved : goal.loop-change-preserved
loop-change-preserved c =
    let left : c.loop-change.change-iterator.rest.items ≡ c.in-Some.change ∷ c.next.new.self.rest.items = search rules in
    record {
      same = set_step c.loop-change.variables c.put.new.self c.loop-change.change-iterator.rest.items c.next.new.self.rest.items c.in-Some.change left c.loop-change.invariant.room c.put.ensures ∙ c.loop-change.invariant.same;
      room = room_step c.loop-change.variables c.put.new.self c.loop-change.change-iterator.rest.items c.next.new.self.rest.items c.in-Some.change left c.loop-change.invariant.room c.put.ensures;
    }
