use Rattle.std.proofs.Common.{rules}
use Rattle.mv_csvio.proofs.fields.is_text.Goals as goal

pub returns-then-field-most-clause-text : goal.returns-then-field-most-clause-text
returns-then-field-most-clause-text c = search rules
