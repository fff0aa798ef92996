use Rattle.mv_csvio.proofs.Again.{loads_again}
use Rattle.mv_csvio.proofs.laws.dumps_load_again.Goals as goal

pub returns : goal.returns
returns c = loads_again
