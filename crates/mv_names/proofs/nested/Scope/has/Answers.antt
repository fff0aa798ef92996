use Rattle.std.proofs.Common.{ap, ◌∙◌}
use Rattle.std.specs.Option.{is_some}
use Rattle.mv_names.proofs.Indexing.{has_place}
use Rattle.mv_names.proofs.nested.Scope.has.Goals as goal

pub returns : goal.returns
returns g c = c.is_some.ensures ∙ (ap is_some (rw c.as_slice.ensures.bytes at c.seek.ensures) ∙ has_place g.T.Named.name_of c.args.self.now c.args.name.now)
