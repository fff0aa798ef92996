use Rattle.std.proofs.Common.{length}
use Rattle.mv_words.proofs.reading.+has_escape.Given as goal

abbrev pub decreases-has_escape : goal.decreases-has_escape
decreases-has_escape l = length l.words.now
