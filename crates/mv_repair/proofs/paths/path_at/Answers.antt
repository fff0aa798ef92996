use Rattle.mv_repair.proofs.Placing.{path_is_got}
use Rattle.mv_repair.proofs.paths.path_at.Goals as goal

pub returns : goal.returns
returns c =
    path_is_got c.args.records.now c.args.number c.get-record.result c.statement.result c.turns.result.now c.parent.result c.in_ok-path.path c.get-record.ensures c.statement.ensures c.turns.ensures c.parent.ensures c.in_ok-path.ensures
