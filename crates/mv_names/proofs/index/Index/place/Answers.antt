use Rattle.std.proofs.Common.{length, ap, sym, ◌∙◌}
use Rattle.mv_names.proofs.Indexing.{no_place}
use Rattle.mv_names.proofs.index.Index.place.Goals as goal

pub returns-in-None : goal.returns-in-None
returns-in-None g c = ap length c.self.view_is ∙ no_place g.T.Named.name_of c.args.self.now c.args.name.now (sym c.seek.ensures ∙ c.in-None.is)
