use Rattle.std.proofs.Common.{ap, ◌∙◌}
use Rattle.std.specs.Int.{w64, from_le_bytes, to_le_bytes}
use Rattle.mv_tpccgen.specs.Draws.{words_at, words_from}
use Rattle.mv_tpccgen.proofs.draws.words_from.Goals as goal

pub returns : goal.returns
unfolding words_from
returns c = ap words_at (c.from_seed.ensures ∙ ap (from_le_bytes w64) (c.to_le_bytes.ensures ∙ ap (to_le_bytes w64) c.from.ensures))
