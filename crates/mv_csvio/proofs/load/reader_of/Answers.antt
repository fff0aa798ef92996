use Rattle.std.proofs.Common.{rules}
use Rattle.mv_csvio.proofs.load.reader_of.Goals as goal

pub returns : goal.returns
returns c = search rules
