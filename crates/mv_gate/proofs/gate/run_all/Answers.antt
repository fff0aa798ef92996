use Rattle.mv_shards.specs.Scripts.{batch}
use Rattle.mv_gate.proofs.Serializing.{serializable_left}
use Rattle.mv_gate.proofs.gate.run_all.Goals as goal

pub returns-clause-serializable : goal.returns-clause-serializable
returns-clause-serializable g c = serializable_left (batch g.N.Making.script) c.finish.result c.finish.ensures.readers c.finish.ensures.outcome
