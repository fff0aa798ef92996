use Rattle.mv_shards.proofs.Sights.{view_keeps, view_refused}
use Rattle.mv_shards.proofs.view.ReaderViewView.foremost.Goals as goal

pub invariant_of-self : goal.invariant_of-self
invariant_of-self g c =
    view_keeps g.N.Making.script g.N.Naming.word c.self.inside.start c.self.inside.last_low (g.P.Leave.shown c.self.inside.leave) (g.P.Leave.shown c.foremost_after.new.leave) c.self.inside.pass c.foremost_after.new.pass c.self.invariant c.foremost_after.ensures.grown c.foremost_after.ensures.shown

pub invariant_of-self-in-Err : goal.invariant_of-self-in-Err
invariant_of-self-in-Err g c =
    view_refused g.N.Making.script g.N.Naming.word c.self.inside.start c.self.inside.last_low c.count.new.last_low (g.P.Leave.shown c.self.inside.leave) (g.P.Leave.shown c.foremost_after.new.leave) c.self.inside.pass c.foremost_after.new.pass c.in-Err.refused c.self.invariant c.foremost_after.ensures.grown c.foremost_after.ensures.shown (c.in-Err.ensures.refused) c.count.ensures.low
