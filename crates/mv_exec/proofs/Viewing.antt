-- A view over two spans of a run.
use Rattle.std.proofs.Common.{◌∙◌}
use Rattle.mv_view.specs.Viewing.{Sight}
use Rattle.mv_effect.specs.Looking.{IsSameView, WasNeverStale}

-- it stays the same over both
pub same_on : (a b c : Sight) → IsSameView b c → IsSameView a b → IsSameView a c
same_on a b c once so = record {
  database = once.database ∙ so.database;
  start = once.start ∙ so.start;
  may_be_stale = once.may_be_stale ∙ so.may_be_stale;
}

-- it never answers Stale over both
pub never_on : (a b c : Sight) → WasNeverStale b c → WasNeverStale a b → WasNeverStale a c
never_on a b c once so = record {
  answers = once.answers ∙ so.answers;
  last_low = once.last_low ∙ so.last_low;
}
