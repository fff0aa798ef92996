-- Commits with numbers one after another.
use Rattle.std.proofs.Common.{◌≡◌, ℕ, zero, suc, ◌+◌, ◌-◌, ◌<◌, ◌≤◌, List, [], ◌∷◌, ◌++◌, length, drop, slice_index_or, sym, ap, subst, ◌∙◌, arith, length-append}
use Rattle.std.proofs.lemmas.List.{drop-map, drop-drop, length-drop, length-map}
use Rattle.mv_changes.specs.declared.recent.Committed.{Committed}
use Rattle.mv_changes.specs.Commits.{Window, changes_in, AreNumbered}

pub numbered_at : (n : ℕ) (cs : List Committed) (i : ℕ) (d : Committed) → AreNumbered n cs → i < length cs → (slice_index_or cs i d).commit ≡ n + i
numbered_at n [] i d h lt = absurd (omega (arith, lt))
numbered_at n (c ∷ cs) zero d h lt = omega (arith, h.0)
numbered_at n (c ∷ cs) (suc i) d h lt = omega (arith, numbered_at (n + 1) cs i d h.1 (omega (arith, lt)))

pub numbered_push : (n : ℕ) (cs : List Committed) (c : Committed) → AreNumbered n cs → c.commit ≡ n + length cs → AreNumbered n (cs ++ c ∷ [])
numbered_push n [] c h e = (omega (arith, e), tt)
numbered_push n (x ∷ xs) c h e = (h.0, numbered_push (n + 1) xs c h.1 (omega (arith, e)))

pub numbered_drop : (n k : ℕ) (cs : List Committed) → AreNumbered n cs → AreNumbered (n + k) (drop k cs)
numbered_drop n zero cs h = subst (λ m. AreNumbered m cs) (omega arith) h
numbered_drop n (suc k) [] h = tt
numbered_drop n (suc k) (c ∷ cs) h = subst (λ m. AreNumbered m (drop k cs)) (omega arith) (numbered_drop (n + 1) k cs h.1)

-- The commits that are kept

abbrev kept_of : ℕ → ℕ → List Committed → ℕ → Window
kept_of dropped low items room = record { low = low; commits = changes_in (drop (low - dropped) items); room = room }

pub changes_dropped : (k : ℕ) (cs : List Committed) → changes_in (drop k cs) ≡ drop k (changes_in cs)
changes_dropped k cs = sym (drop-map (λ (c : Committed). c.changes) k cs)

pub kept_since : (dropped low start room : ℕ) (items : List Committed) (w : Window) → dropped ≤ low → kept_of dropped low items room ≡ w → w.low ≤ start
    → changes_in (drop (start - dropped) items) ≡ drop (start - w.low) w.commits
kept_since dropped low start room items w before is late =
    subst (λ (w : Window). w.low ≤ start → changes_in (drop (start - dropped) items) ≡ drop (start - w.low) w.commits) is
    (λ late. ap (λ n. changes_in (drop n items)) (omega (arith, before, late)) ∙ (ap changes_in (sym (drop-drop (start - low) (low - dropped) items)) ∙ changes_dropped (start - low) (drop (low - dropped) items))) late

pub numbered_since : (dropped start : ℕ) (items : List Committed) → dropped ≤ start → AreNumbered (dropped + 1) items → AreNumbered (start + 1) (drop (start - dropped) items)
numbered_since dropped start items late h = subst (λ n. AreNumbered n (drop (start - dropped) items)) (omega (arith, late)) (numbered_drop (dropped + 1) (start - dropped) items h)

pub low_of : (dropped low room : ℕ) (items : List Committed) (w : Window) → kept_of dropped low items room ≡ w → w.low ≡ low
low_of dropped low room items w is = ap (λ (w : Window). w.low) (sym is)

pub kept_count : (dropped low room : ℕ) (items : List Committed) (w : Window) → dropped ≤ low → low ≤ dropped + length items → kept_of dropped low items room ≡ w → w.low + length w.commits ≡ dropped + length items
kept_count dropped low room items w before within is =
    subst (λ (w : Window). w.low + length w.commits ≡ dropped + length items) is
    (omega (arith, before, within, length-map (drop (low - dropped) items) (λ (c : Committed). c.changes), length-drop (low - dropped) items))

pub kept_more : (dropped low room : ℕ) (items new : List Committed) (c : Committed) (w : Window) → dropped ≤ low → low ≤ dropped + length items → AreNumbered (dropped + 1) items → kept_of dropped low items room ≡ w
    → c.commit ≡ w.low + length w.commits + 1 → new ≡ items ++ c ∷ [] → (dropped ≤ low) × (low ≤ dropped + length new) × AreNumbered (dropped + 1) new
kept_more dropped low room items new c w before within numbers is next more =
    subst (λ l. (dropped ≤ low) × (low ≤ dropped + length l) × AreNumbered (dropped + 1) l) (sym more)
    (before, omega (arith, within, length-append items (c ∷ [])), numbered_push (dropped + 1) items c numbers (omega (arith, next, kept_count dropped low room items w before within is)))
