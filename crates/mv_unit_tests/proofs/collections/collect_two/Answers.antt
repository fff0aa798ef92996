use Rattle.std.proofs.Common.{ap, ◌∙◌}
use Rattle.mv_store.specs.Stored.{tables_from}
use Rattle.mv_unit_tests.proofs.collections.collect_two.Goals as goal

pub returns-clause-kept : goal.returns-clause-kept
returns-clause-kept c key a b c' d is = c.collect.ensures.raised.tables ∙ ap (tables_from 2) is

pub returns-clause-gone : goal.returns-clause-gone
returns-clause-gone c key a is = c.collect.ensures.raised.tables ∙ ap (tables_from 2) is
