-- The paths of records, one record more.
use Rattle.std.proofs.Common.{◌≡◌, ℕ, zero, suc, ◌+◌, List, [], ◌∷◌, ◌++◌, Option, Some, None, map, length, take, drop, nat_lt, if◌then◌else◌, refl, sym, ap, ◌∙◌}
use Rattle.std.specs.Prelude.{slice_get}
use Rattle.std.specs.Option.{option_and_then}
use Rattle.std.proofs.lemmas.List.{map_push}
use Rattle.mv_record.specs.declared.record.Record.{Record}
use Rattle.mv_record.specs.declared.record.Spot.{Spot}
use Rattle.mv_record.specs.Paths.{Nest, path, inside, nest_of, nests_behind, paths}
use Rattle.mv_history.specs.Kept.{Path, Placed, with_paths, next_placed}
use Rattle.mv_soundness.proofs.Placing.{placed_paths, placed_more}
use Rattle.mv_why.specs.Walking.{path_behind}
use Rattle.mv_why.proofs.Lists.{got_there}

-- One record more

pub paths_more : (xs : List Record) (r : Record) → paths (xs ++ r ∷ []) ≡ paths xs ++ path_behind xs r.spot r.parent ∷ []
paths_more xs r =
    sym (placed_paths (xs ++ r ∷ []))
    ∙ (ap (map (λ (p : Placed). p.path)) (placed_more xs r)
    ∙ (map_push (λ (p : Placed). p.path) (with_paths xs) (next_placed xs r) ∙ ap (λ l. l ++ path_behind xs r.spot r.parent ∷ []) (placed_paths xs)))

-- the path of the record that was got
pub path_next : (rs : List Record) (n : ℕ) (r : Record) (before : List Record) (known : List Path) (statement : ℕ) (turns : List ℕ) (parent : Option ℕ) (p : Path) → slice_get rs n ≡ Some r → before ≡ take n rs → known ≡ paths (take n rs)
    → statement ≡ r.spot.statement → turns ≡ r.spot.turns → parent ≡ r.parent → p ≡ path_behind before (record { statement = statement; turns = turns }) parent → known ++ p ∷ [] ≡ paths (take (n + 1) rs)
path_next rs n r before known statement turns parent p there front all s t c is =
    ap (λ l. l ++ p ∷ []) all
    ∙ (ap (λ q. paths (take n rs) ++ q ∷ []) at
    ∙ (sym (paths_more (take n rs) r) ∙ ap paths (sym (got_there rs n r there))))
  where
    spot : (a : ℕ) (b : List ℕ) → Spot
    spot a b = record { statement = a; turns = b }

    at : p ≡ path_behind (take n rs) r.spot r.parent
    at = is
        ∙ (ap (λ (l : List Record). path_behind l (spot statement turns) parent) front
        ∙ (ap (λ a. path_behind (take n rs) (spot a turns) parent) s
        ∙ (ap (λ b. path_behind (take n rs) (spot r.spot.statement b) parent) t ∙ ap (path_behind (take n rs) r.spot) c)))

-- The path of one record

inside_at : (ns : List Nest) (rs : List Record) (n : ℕ) (p : Path) (r : Record) → slice_get (map path (nests_behind ns rs)) n ≡ Some p → slice_get rs n ≡ Some r
    → (nest : Nest) × (slice_get (nests_behind ns rs) n ≡ Some nest) × (p ≡ nest.around ++ r.spot.statement ∷ []) × (nest.spot ≡ r.spot)
inside_at ns [] n p r h k = cc
inside_at ns (x ∷ rs) zero p r h k =
    let same : x ≡ r = cc in
    let it : path (nest_of ns x) ≡ p = cc in
    (nest_of ns x, refl, sym it ∙ ap (λ (z : Record). (nest_of ns x).around ++ z.spot.statement ∷ []) same, ap (λ (z : Record). z.spot) same)
inside_at ns (x ∷ rs) (suc n) p r h k = inside_at (ns ++ nest_of ns x ∷ []) rs n p r h k

pub around_is : (rs : List Record) (n : ℕ) (p : Path) (r : Record) (known : List Path) (turns got : List ℕ) → known ≡ paths rs → slice_get known n ≡ Some p → slice_get rs n ≡ Some r
    → ((a : List ℕ) (m : ℕ) → p ≡ a ++ m ∷ [] → got ≡ (if nat_lt (length r.spot.turns) (length turns) then a ++ m ∷ drop (length r.spot.turns) turns else a))
    → got ≡ inside (option_and_then (slice_get (nests_behind [] rs)) (Some n)) turns
around_is rs n p r known turns got is hp hr f =
    let it = inside_at [] rs n p r (ap (λ l. slice_get l n) (sym is) ∙ hp) hr in
    let nest : Nest = it.0 in
    f nest.around r.spot.statement it.2
    ∙ (ap (λ (s : Spot). if nat_lt (length s.turns) (length turns) then nest.around ++ s.statement ∷ drop (length s.turns) turns else nest.around) (sym it.3)
    ∙ ap (λ o. inside o turns) (sym it.1))

pub none_around : (rs : List Record) (n : ℕ) (known : List Path) (turns : List ℕ) → known ≡ paths rs → slice_get known n ≡ None → [] ≡ inside (option_and_then (slice_get (nests_behind [] rs)) (Some n)) turns
none_around rs n known turns is h = ap (λ o. inside o turns) (sym (behind [] rs n (ap (λ l. slice_get l n) (sym is) ∙ h)))
  where
    behind : (ns : List Nest) (rs : List Record) (n : ℕ) → slice_get (map path (nests_behind ns rs)) n ≡ None → slice_get (nests_behind ns rs) n ≡ None
    behind ns [] n h = refl
    behind ns (x ∷ rs) zero h = cc
    behind ns (x ∷ rs) (suc n) h = behind (ns ++ nest_of ns x ∷ []) rs n h
