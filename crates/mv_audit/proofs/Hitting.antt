-- When changes hit records.
use Rattle.std.proofs.Common.{◌≡◌, ℕ, ◌+◌, Bool, true, false, not, List, [], ◌∷◌, ◌++◌, Option, Some, None, length, take, drop, get_or, ◌<◌, refl, sym, ap, ◌∙◌}
use Rattle.std.specs.Prelude.{◌↔◌, IsTrue, ◌&&◌, ◌||◌, if◌then◌else◌}
use Rattle.std.specs.List.{list_any, flat_map}
use Rattle.std.specs.Option.{is_some}
use Rattle.std.proofs.lemmas.List.{drop_more, take_more}
use Rattle.std.proofs.lemmas.List.Folds.{list_any-append}
use Rattle.mv_values.specs.declared.value.Value.{Value}
use Rattle.mv_record.specs.declared.record.Record.{Record}
use Rattle.mv_history.specs.declared.change.Change.{Change}
use Rattle.mv_history.specs.Changes.{is_same}
use Rattle.mv_history.specs.Hits.{any_hits, first_commit, or_later, first_hit}
use Rattle.mv_history.proofs.Listing.{same_is, same_itself}

false_is : IsTrue false → ⊥
false_is h = cc

-- a test that tells whether two rows are the same
pub tells_same : (b : Bool) (x y : Option (List Value)) → IsTrue b ↔ (x ≡ y) → b ≡ is_same x y
tells_same true x y h = sym (ap (λ z. is_same z y) (h.0 refl) ∙ same_itself y)
tells_same false x y h = by (is_same x y) refl
  where
    by : (s : Bool) → is_same x y ≡ s → false ≡ s
    by true e = absurd (false_is (h.1 (same_is x y e)))
    by false e = refl

-- what a change hits that the predicate doesn't see, and one that it sees
pub hit_unseen : (h named same : Bool) → same ≡ true → (named && h) ≡ (if h then named else not same)
hit_unseen true true same is = refl
hit_unseen true false same is = refl
hit_unseen false true same is = ap not (sym is)
hit_unseen false false same is = ap not (sym is)

pub hit_seen : (h named same : Bool) → same ≡ false → (named || not h) ≡ (if h then named else not same)
hit_seen true true same is = refl
hit_seen true false same is = refl
hit_seen false true same is = ap not (sym is)
hit_seen false false same is = ap not (sym is)

-- a test over lists, one after another
pub any_each : {X Y : Type 0} (p : Y → Bool) (f : X → List Y) (xs : List X) → list_any (λ x. list_any p (f x)) xs ≡ list_any p (flat_map f xs)
any_each p f [] = refl
any_each p f (x ∷ xs) = ap (λ b. list_any p (f x) || b) (any_each p f xs) ∙ sym (list_any-append p (f x) (flat_map f xs))

commit_hits : (n : ℕ) (commits : List (List Change)) (before : List Record) (r : Record) → is_some (first_commit n commits before r) ≡ list_any (λ changes. any_hits changes before r) commits
commit_hits n [] before r = refl
commit_hits n (changes ∷ later) before r = by (any_hits changes before r) (commit_hits (n + 1) later before r) where
  by : (b : Bool) → is_some (first_commit (n + 1) later before r) ≡ list_any (λ cs. any_hits cs before r) later → is_some (if b then Some n else first_commit (n + 1) later before r) ≡ (b || list_any (λ cs. any_hits cs before r) later)
  by true rest = refl
  by false rest = rest

-- the next record is hit, or a later one
pub next_hit : (n : ℕ) (commits : List (List Change)) (before : List Record) (r : Record) (rs : List Record)
    → is_some (first_hit n commits before (r ∷ rs)) ≡ (list_any (λ changes. any_hits changes before r) commits || is_some (first_hit n commits (before ++ r ∷ []) rs))
next_hit n commits before r rs = by (first_commit n commits before r) ∙ ap (λ b. b || is_some (first_hit n commits (before ++ r ∷ []) rs)) (commit_hits n commits before r) where
  by : (o : Option ℕ) → is_some (or_later (length before) o (first_hit n commits (before ++ r ∷ []) rs)) ≡ (is_some o || is_some (first_hit n commits (before ++ r ∷ []) rs))
  by None = refl
  by (Some c) = refl

-- the record at a place is hit, or a later one
pub hit_here : (n : ℕ) (commits : List (List Change)) (rs : List Record) (i : ℕ) (r : Record) (b : Bool) → i < length rs → r ≡ get_or rs i r → b ≡ list_any (λ changes. any_hits changes (take i rs) r) commits
    → is_some (first_hit n commits (take i rs) (drop i rs)) ≡ (b || is_some (first_hit n commits (take (i + 1) rs) (drop (i + 1) rs)))
hit_here n commits rs i r b lt is one =
    ap (λ xs. is_some (first_hit n commits (take i rs) xs)) (drop_more rs i r lt ∙ ap (λ (x : Record). x ∷ drop (i + 1) rs) (sym is))
    ∙ (next_hit n commits (take i rs) r (drop (i + 1) rs)
    ∙ (ap (λ x. x || is_some (first_hit n commits (take i rs ++ r ∷ []) (drop (i + 1) rs))) (sym one)
    ∙ ap (λ xs. b || is_some (first_hit n commits xs (drop (i + 1) rs))) (sym (take_more rs i r lt ∙ ap (λ (x : Record). take i rs ++ x ∷ []) (sym is)))))
