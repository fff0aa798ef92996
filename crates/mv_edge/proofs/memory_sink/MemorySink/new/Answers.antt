use Rattle.std.proofs.Common.{rules}
use Rattle.mv_edge.proofs.memory_sink.MemorySink.new.Goals as goal

pub returns-clause-room : goal.returns-clause-room
returns-clause-room c = search rules
