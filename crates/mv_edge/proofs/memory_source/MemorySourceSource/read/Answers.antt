use Rattle.std.proofs.Common.{refl, sym, ap, ◌∙◌, ◌+◌, drop, arith}
use Rattle.mv_edge.specs.Memory.{SourceState}
use Rattle.mv_edge.proofs.Steps.{next_of}
use Rattle.mv_edge.proofs.memory_source.MemorySourceSource.read.Goals as goal

pub returns-clause-bytes : goal.returns-clause-bytes
returns-clause-bytes c = λ h. (drop (c.self.inside.at + c.min-n.result) c.self.inside.bytes, refl, ap (λ (s : SourceState). s.left) (sym c.self.view_is) ∙ next_of c.self.inside.bytes c.copy_from_slice.new.self c.args.buffer.now c.self.inside.at c.min-n.result (omega arith) (rw c.as_slice.ensures at c.copy_from_slice.ensures.after))
