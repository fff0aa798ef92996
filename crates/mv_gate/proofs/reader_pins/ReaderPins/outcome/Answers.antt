use Rattle.std.proofs.Common.{length, refl, sym, arith}
use Rattle.mv_shards.specs.Leaves.{start_shown}
use Rattle.mv_gate.proofs.Pins.{may_admit, leave_at}
use Rattle.mv_gate.proofs.reader_pins.ReaderPins.outcome.Goals as goal

pub admit-last-requires : goal.admit-last-requires
admit-last-requires g c =
    may_admit g.N.Making.script g.N.Naming.word c.args.self.now.readers c.args.self.now.readers c.args.self.now.pins.items c.args.scheduler.schedule c.commits-commits.result c.requires.readers c.commits-commits.ensures.commits refl (omega arith)

pub outcome-requires-clause-last : goal.outcome-requires-clause-last
outcome-requires-clause-last g c = leave_at g.N.Making.script g.N.Naming.word (start_shown c.admit-last.result) c.commits-commits.result (length c.args.scheduler.schedule.order) (sym c.commits-commits.ensures.commits) c.admit-last.ensures.leave
