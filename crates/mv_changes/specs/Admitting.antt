-- Changes whose rows a predicate matches only under keys that it admits.
use Rattle.std.specs.Prelude.{◌≡◌, false, List, All, None}
use Rattle.mv_values.specs.declared.pred.Pred.{Pred}
use Rattle.mv_values.specs.Preds.{admits, matched}
use Rattle.mv_record.specs.declared.record.Record.{Record}
use Rattle.mv_history.specs.declared.change.Change.{Change}

-- the predicate matches neither row of a change of its table, if it doesn't admit the key
abbrev pub IsAdmitted : Pred → Change → Type 0
IsAdmitted p c = c.table ≡ p.table → admits p c.key ≡ false → (matched p c.before ≡ None) × (matched p c.after ≡ None)

-- so for each predicate of a record and each of these changes
abbrev pub AreAdmitted : List Change → Record → Type 0
AreAdmitted changes r = All (λ p. All (IsAdmitted p) changes) r.preds

-- so for each of these records and the changes of each commit
abbrev pub AllAdmitted : List (List Change) → List Record → Type 0
AllAdmitted commits rs = All (λ changes. All (AreAdmitted changes) rs) commits
