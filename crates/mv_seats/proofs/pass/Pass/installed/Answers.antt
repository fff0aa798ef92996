use Rattle.std.proofs.Common.{rules, ◌∙◌, ap, ℕ, slice_index}
use Rattle.atomic_table.specs.Table.{Me}
use Rattle.mv_seats.specs.Rule.{View}
use Rattle.mv_seats.proofs.Marks.{at_stepped}
use Rattle.mv_seats.proofs.Steps.{loads}
use Rattle.mv_seats.proofs.pass.Pass.installed.Goals as goal

pub load-requires : goal.load-requires
load-requires g c = (search rules, search rules, loads _ _ _ _ _ c.self.invariant.live)

pub returns-clause-found : goal.returns-clause-found
returns-clause-found g c = ap (λ (m : Me ℕ View). slice_index m.0.knows.marks c.args.shard) c.load.ensures.2.0 ∙ at_stepped c.args.shard c.load.result c.self.inside.seat.me.0.knows.marks
