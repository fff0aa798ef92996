use Rattle.std.proofs.Common.{ap, ◌∙◌}
use Rattle.std.specs.Option.{is_some}
use Rattle.mv_names.proofs.Indexing.{has_place}
use Rattle.mv_names.proofs.index.Index.has.Goals as goal

pub returns : goal.returns
returns g c = c.is_some.ensures ∙ (ap is_some c.seek.ensures ∙ has_place g.T.Named.name_of c.args.self.now c.args.name.now)
