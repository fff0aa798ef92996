use Rattle.std.proofs.Common.{refl}
use Rattle.mv_names.proofs.items.does_fit.Goals as goal

pub returns-in-Text-Text : goal.returns-in-Text-Text
returns-in-Text-Text c = rw (c.in-Text-Text.is-0, c.in-Text-Text.is-1, c.len.ensures) refl
