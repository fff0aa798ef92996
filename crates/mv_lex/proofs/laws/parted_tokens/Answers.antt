use Rattle.mv_lex.proofs.Parted.{parted_longest}
use Rattle.mv_lex.proofs.laws.parted_tokens.Goals as goal

pub returns : goal.returns
returns c = parted_longest
