-- What holds of all changes since a start holds of those of each commit.
use Rattle.std.proofs.Common.{List, [], ◌∷◌, ◌++◌, All}
use Rattle.std.proofs.lemmas.List.Elements.{All-head, All-tail, All-nil, All-cons, All-weaker}
use Rattle.mv_values.specs.declared.pred.Pred.{Pred}
use Rattle.mv_record.specs.declared.record.Record.{Record}
use Rattle.mv_history.specs.declared.change.Change.{Change}
use Rattle.mv_changes.specs.declared.recent.Committed.{Committed}
use Rattle.mv_changes.specs.Admitting.{IsAdmitted, AreAdmitted}
use Rattle.mv_repair.specs.Repairing.{changes_since}

all_front : {X : Type 0} (P : X → Type 0) (xs ys : List X) → All P (xs ++ ys) → All P xs
all_front P [] ys h = All-nil P
all_front P (x ∷ xs) ys h = All-cons P x xs (All-head P x (xs ++ ys) h) (all_front P xs ys (All-tail P x (xs ++ ys) h))

all_back : {X : Type 0} (P : X → Type 0) (xs ys : List X) → All P (xs ++ ys) → All P ys
all_back P [] ys h = h
all_back P (x ∷ xs) ys h = all_back P xs ys (All-tail P x (xs ++ ys) h)

pub commits_admitted : (since : List Committed) (r : Record) → AreAdmitted (changes_since since) r → All (λ c. AreAdmitted c.changes r) since
commits_admitted [] r h = All-nil (λ c. AreAdmitted c.changes r)
commits_admitted (c ∷ cs) r h =
    All-cons (λ c. AreAdmitted c.changes r) c cs
    (All-weaker (λ (p : Pred). All (IsAdmitted p) (c.changes ++ changes_since cs)) (λ p. All (IsAdmitted p) c.changes) (λ p h. all_front (IsAdmitted p) c.changes (changes_since cs) h) r.preds h)
    (commits_admitted cs r (All-weaker (λ (p : Pred). All (IsAdmitted p) (c.changes ++ changes_since cs)) (λ p. All (IsAdmitted p) (changes_since cs)) (λ p h. all_back (IsAdmitted p) c.changes (changes_since cs) h) r.preds h))
