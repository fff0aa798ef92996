-- Defines the changes of commits for validation. That a call is validated against the commits after its start is the
-- paper's (Dashti, Basil John, Shaikhha and Koch, SIGMOD 2017).
use Rattle.std.specs.Prelude.{◌≡◌, ◌+◌, ℕ, List, [], ◌∷◌, map}
use Rattle.mv_history.specs.declared.change.Change.{Change}
use Rattle.mv_changes.specs.declared.recent.Committed.{Committed}

-- the changes of each commit
abbrev pub changes_in : List Committed → List (List Change)
changes_in commits = map (λ c. c.changes) commits

-- the commits have consecutive numbers, from this one on
abbrev pub AreNumbered : ℕ → List Committed → Type 0
AreNumbered number [] = Unit {0}
AreNumbered number (c ∷ cs) = (c.commit ≡ number) × AreNumbered (number + 1) cs

-- the commits after the first `low`, each by its changes, and the room for more
pub record Window : Type 0 where
  pub low : ℕ
  pub commits : List (List Change)
  pub room : ℕ
