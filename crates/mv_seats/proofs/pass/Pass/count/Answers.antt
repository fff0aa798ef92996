use Rattle.std.proofs.Common.{rules}
use mathlib.Core.Option.{none}
use Rattle.atomic_table.specs.Table.{step}
use Rattle.mv_seats.proofs.Steps.{counts}
use Rattle.mv_seats.proofs.pass.Pass.count.Goals as goal

pub load-requires : goal.load-requires
load-requires g c = (search rules, search rules, counts _ _ _ _ (step c.args.board.now.table.shared.table_id.slots 0 0 0 none) c.self.invariant.live)
