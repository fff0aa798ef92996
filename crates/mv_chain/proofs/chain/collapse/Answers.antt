use Rattle.std.proofs.Common.{◌∙◌, ap, sym, []}
use Rattle.std.specs.Prelude.{List, Option}
use Rattle.mv_values.specs.declared.value.Value.{Value}
use Rattle.mv_chain.specs.Versions.{Versions}
use Rattle.mv_chain.specs.Holding.{versions_of}
use Rattle.mv_chain.proofs.Blank.{row_alone}
use Rattle.mv_chain.proofs.chain.collapse.Goals as goal

abbrev only : Option (List Value) → Versions
only row = record { base = row; commits = []; own = [] }

pub returns-then-has_row_alone : goal.returns-then-has_row_alone
returns-then-has_row_alone c =
    c.held_of.ensures
    ∙ ap only c.take_newest.ensures
    ∙ row_alone (versions_of c.args.held.now) (sym c.has_row_alone.ensures ∙ c.if-has_row_alone.true)
