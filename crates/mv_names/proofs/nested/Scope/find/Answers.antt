use Rattle.std.proofs.Common.{sym, ◌∙◌}
use Rattle.mv_names.proofs.Indexing.{found_there, found_nowhere}
use Rattle.mv_names.proofs.nested.Scope.find.Goals as goal

pub returns-in-Some : goal.returns-in-Some
returns-in-Some g c = c.at.ensures ∙ found_there g.T.Named.name_of c.args.self.now c.args.name.now c.in-Some.place (sym (rw c.as_slice.ensures.bytes at c.seek.ensures) ∙ c.in-Some.is)

pub returns-in-None : goal.returns-in-None
returns-in-None g c = found_nowhere g.T.Named.name_of c.args.self.now c.args.name.now (sym (rw c.as_slice.ensures.bytes at c.seek.ensures) ∙ c.in-None.is)
