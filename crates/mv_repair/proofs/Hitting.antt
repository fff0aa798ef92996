-- Which records changes hit, by the writes before them.
use Rattle.std.proofs.Common.{◌≡◌, ◌<◌, ◌≤◌, ◌+◌, ◌==◌, ℕ, Bool, true, false, length, drop, slice_index_or, List, [], ◌∷◌, ◌++◌, refl, sym, ap, ◌∙◌, append-nil, append_assoc}
use Rattle.std.specs.Prelude.{◌||◌, ◌&&◌}
use Rattle.std.specs.List.{list_any}
use Rattle.std.proofs.lemmas.List.{drop_all, drop_more}
use Rattle.std.proofs.lemmas.List.Folds.{list_any-append}
use Rattle.mv_values.specs.declared.pred.Pred.{Pred}
use Rattle.mv_values.specs.declared.patch.Write.{Write}
use Rattle.mv_record.specs.declared.record.Record.{Record}
use Rattle.mv_record.specs.Runs.{writes_in}
use Rattle.mv_history.specs.declared.change.Change.{Change}
use Rattle.mv_history.specs.Hits.{hits_predicate, hits, any_hits}
use Rattle.mv_changes.specs.declared.recent.Committed.{Committed}
use Rattle.mv_changes.specs.Hitting.{hits_pred}
use Rattle.mv_repair.specs.Repairing.{changes_since}
use Rattle.mv_repair.specs.Walking.{with_writes, is_hit_by, hits_in}

-- what was written before tells whether a change hits
pub all_writes : (ws : List Write) → ws ≡ writes_in (with_writes ws)
all_writes ws = sym (append-nil ws)

hits_by_writes : (before xs : List Record) (c : Change) (ps : List Pred) → writes_in xs ≡ writes_in before → list_any (hits_predicate xs c) ps ≡ list_any (hits_predicate before c) ps
hits_by_writes before xs c ps h = ap (λ ws. list_any (λ p. (c.table == p.table) && hits_pred ws c p) ps) h

same_hits : (before : List Record) (r : Record) (c : Change) → hits (with_writes (writes_in before)) r c ≡ hits before r c
same_hits before r c = hits_by_writes before (with_writes (writes_in before)) c r.preds (append-nil (writes_in before))

same_any : (before : List Record) (r : Record) (cs : List Change) → any_hits cs (with_writes (writes_in before)) r ≡ any_hits cs before r
same_any before r [] = refl
same_any before r (c ∷ cs) = ap (λ x. x || any_hits cs (with_writes (writes_in before)) r) (same_hits before r c) ∙ ap (λ x. hits before r c || x) (same_any before r cs)

pub commits_hit : (before : List Record) (r : Record) (since : List Committed) → is_hit_by (writes_in before) r since ≡ any_hits (changes_since since) before r
commits_hit before r [] = refl
commits_hit before r (c ∷ cs) =
    ap (λ x. x || is_hit_by (writes_in before) r cs) (same_any before r c.changes)
    ∙ (ap (λ x. any_hits c.changes before r || x) (commits_hit before r cs) ∙ sym (list_any-append (hits before r) c.changes (changes_since cs)))

-- a commit more is tried
commit_next : (ws : List Write) (r : Record) (since : List Committed) (i : ℕ) (c : Committed) → i < length since → c ≡ slice_index_or since i c
    → is_hit_by ws r (drop i since) ≡ (any_hits c.changes (with_writes ws) r || is_hit_by ws r (drop (i + 1) since))
commit_next ws r since i c lt at = ap (is_hit_by ws r) (drop_more since i c lt ∙ ap (λ x. x ∷ drop (i + 1) since) (sym at))

pub commit_hits_here : (ws : List Write) (r : Record) (since : List Committed) (i : ℕ) (c : Committed) (hit : Bool) → i < length since → c ≡ slice_index_or since i c → hit ≡ any_hits c.changes (with_writes ws) r → hit ≡ true
    → is_hit_by ws r (drop i since) ≡ is_hit_by ws r since → true ≡ is_hit_by ws r since
commit_hits_here ws r since i c hit lt at is here more = ap (λ b. b || is_hit_by ws r (drop (i + 1) since)) (sym here ∙ is) ∙ (sym (commit_next ws r since i c lt at) ∙ more)

pub commit_hits_later : (ws : List Write) (r : Record) (since : List Committed) (i : ℕ) (c : Committed) (hit : Bool) → i < length since → c ≡ slice_index_or since i c → hit ≡ any_hits c.changes (with_writes ws) r → hit ≡ false
    → is_hit_by ws r (drop i since) ≡ is_hit_by ws r since → is_hit_by ws r (drop (i + 1) since) ≡ is_hit_by ws r since
commit_hits_later ws r since i c hit lt at is missed more = ap (λ b. b || is_hit_by ws r (drop (i + 1) since)) (sym missed ∙ is) ∙ (sym (commit_next ws r since i c lt at) ∙ more)

pub none_hits : (ws : List Write) (r : Record) (since : List Committed) (i : ℕ) → length since ≤ i → is_hit_by ws r (drop i since) ≡ is_hit_by ws r since → false ≡ is_hit_by ws r since
none_hits ws r since i past more = ap (is_hit_by ws r) (sym (drop_all i since past)) ∙ more

-- one record more
pub hits_more : (cs : List Change) (before xs : List Record) (r : Record) → hits_in cs before (xs ++ r ∷ []) ≡ hits_in cs before xs ++ any_hits cs (before ++ xs) r ∷ []
hits_more cs before [] r = ap (λ l. any_hits cs l r ∷ []) (sym (append-nil before))
hits_more cs before (x ∷ xs) r =
    ap (λ l. any_hits cs before x ∷ l) (hits_more cs (before ++ x ∷ []) xs r ∙ ap (λ l. hits_in cs (before ++ x ∷ []) xs ++ any_hits cs l r ∷ []) (append_assoc before (x ∷ []) xs))

-- a flag more
pub flag_more : (cs : List Change) (xs : List Record) (r : Record) (ws : List Write) (since : List Committed) (hit : Bool) → cs ≡ changes_since since → hit ≡ is_hit_by ws r since → ws ≡ writes_in xs → hits_in cs [] xs ++ hit ∷ [] ≡ hits_in cs [] (xs ++ r ∷ [])
flag_more cs xs r ws since hit is h e =
    ap (λ b. hits_in cs [] xs ++ b ∷ []) (h ∙ (ap (λ l. is_hit_by l r since) e ∙ (commits_hit xs r since ∙ ap (λ l. any_hits l xs r) (sym is)))) ∙ sym (hits_more cs [] xs r)
