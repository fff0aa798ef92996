use Rattle.mv_catalog.specs.Statements.{IsWell}
use Rattle.mv_catalog.specs.declared.resolved.RStmt.{RStmt}
use Rattle.mv_recorded.proofs.Effects.{effect_known, columns_there}
use Rattle.mv_recorded.proofs.laws.effects_are_told.Goals as goal

pub returns-clause-effect : goal.returns-clause-effect
returns-clause-effect c = effect_known {X = RStmt}

pub returns-clause-well : goal.returns-clause-well
returns-clause-well c = λ tables. columns_there {X = RStmt} tables (λ s. s) (IsWell tables)
