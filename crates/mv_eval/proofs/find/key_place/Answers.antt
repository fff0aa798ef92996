use Rattle.std.proofs.Common.{sym, ◌∙◌}
use Rattle.mv_eval.proofs.find.key_place.Goals as goal

pub returns-in-Some : goal.returns-in-Some
returns-in-Some c = sym c.in-Some.is ∙ c.place_in_key.ensures.place

pub returns-in-None : goal.returns-in-None
returns-in-None c = sym c.in-None.is ∙ c.place_in_key.ensures.place
