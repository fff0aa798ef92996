use Rattle.mv_script.proofs.Readers.{readers_are_quiet}
use Rattle.mv_script.proofs.laws.readers_are_quiet.Goals as goal

pub returns : goal.returns
returns c = readers_are_quiet
