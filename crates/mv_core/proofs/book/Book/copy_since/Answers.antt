use Rattle.std.proofs.Common.{◌≡◌, ◌+◌, ◌++◌, [], List, ap, sym, subst, ◌∙◌}
use Rattle.mv_changes.specs.declared.recent.Committed.{Committed}
use Rattle.mv_changes.specs.Commits.{changes_in, AreNumbered}
use Rattle.mv_core.proofs.book.Book.copy_since.Goals as goal

are : (c : goal.In_ok-append_copies) → c.append_copies.new.list ≡ c.since.result.now
are c = c.in_ok-append_copies.ensures ∙ ap (λ (l : List Committed). l ++ c.since.result.now) c.new-commits.ensures

pub returns-clause-changes : goal.returns-clause-changes
returns-clause-changes c l live = ap changes_in (are c) ∙ c.since.ensures.changes l live

pub returns-clause-numbers : goal.returns-clause-numbers
returns-clause-numbers c l live = subst (AreNumbered (l.start + 1)) (sym (are c)) (c.since.ensures.numbers l live)
