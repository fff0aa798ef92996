-- What validation finds, and what it doesn't.
use Rattle.std.proofs.Common.{◌≡◌, ℕ, ◌+◌, Bool, true, false, not, ◌&&◌, ◌||◌, List, [], ◌∷◌, ◌++◌, Option, Some, None, length, if◌then◌else◌, refl, ap, ◌∙◌}
use Rattle.std.specs.List.{list_any, flat_map}
use Rattle.mv_record.specs.declared.record.Record.{Record}
use Rattle.mv_history.specs.declared.change.Change.{Change}
use Rattle.mv_history.specs.Hits.{hits, any_hits, is_unhit, first_commit, or_later, first_hit}

-- the changes of commits, in one list
abbrev pub all_of : List (List Change) → List Change
all_of commits = flat_map (λ changes. changes) commits

any_none : (p : Change → Bool) (xs ys : List Change) → list_any p xs ≡ false → list_any p ys ≡ false → list_any p (xs ++ ys) ≡ false
any_none p [] ys h k = k
any_none p (x ∷ xs) ys h k = by (p x) (λ e. any_none p xs ys e k) h
  where
    by : (b : Bool) → (list_any p xs ≡ false → list_any p (xs ++ ys) ≡ false) → (b || list_any p xs) ≡ false → (b || list_any p (xs ++ ys)) ≡ false
    by true go e = cc
    by false go e = go e

no_commit : (number : ℕ) (commits : List (List Change)) (before : List Record) (r : Record) → first_commit number commits before r ≡ None → any_hits (all_of commits) before r ≡ false
no_commit number [] before r h = refl
no_commit number (cs ∷ css) before r h = by (any_hits cs before r) refl h (no_commit (number + 1) css before r)
  where
    by : (b : Bool) → any_hits cs before r ≡ b → (if b then Some number else first_commit (number + 1) css before r) ≡ None → (first_commit (number + 1) css before r ≡ None → any_hits (all_of css) before r ≡ false) → any_hits (cs ++ all_of css) before r ≡ false
    by true e k go = cc
    by false e k go = any_none (hits before r) cs (all_of css) e (go k)

no_hit : (number : ℕ) (commits : List (List Change)) (before rs : List Record) → first_hit number commits before rs ≡ None → is_unhit (all_of commits) before rs ≡ true
no_hit number commits before [] h = refl
no_hit number commits before (r ∷ rs) h = by (first_commit number commits before r) refl h (no_hit number commits (before ++ r ∷ []) rs)
  where
    by : (o : Option ℕ) → first_commit number commits before r ≡ o → or_later (length before) o (first_hit number commits (before ++ r ∷ []) rs) ≡ None → (first_hit number commits (before ++ r ∷ []) rs ≡ None → is_unhit (all_of commits) (before ++ r ∷ []) rs ≡ true) → (not (any_hits (all_of commits) before r) && is_unhit (all_of commits) (before ++ r ∷ []) rs) ≡ true
    by (Some k) e g go = cc
    by None e g go = ap (λ b. not b && is_unhit (all_of commits) (before ++ r ∷ []) rs) (no_commit number commits before r e) ∙ go g

pub no_hit_is_unhit : (number : ℕ) (commits : List (List Change)) (rs : List Record) → first_hit number commits [] rs ≡ None → is_unhit (flat_map (λ changes. changes) commits) [] rs ≡ true
no_hit_is_unhit number commits rs h = no_hit number commits [] rs h
