use Rattle.mv_why.proofs.Placing.{path_next}
use Rattle.mv_why.proofs.paths.path_at.Goals as goal

pub returns : goal.returns
returns c =
    path_next c.args.records.now c.args.number c.get-record.result c.first.result c.args.known.now c.statement.result c.turns.result.now c.parent.result c.in_ok-path.path c.get-record.ensures c.first.ensures c.requires.known
    c.statement.ensures c.turns.ensures c.parent.ensures c.in_ok-path.ensures
