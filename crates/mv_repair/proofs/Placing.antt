-- The paths of records, one record more.
use Rattle.std.proofs.Common.{◌≡◌, ◌<◌, ◌≤◌, ℕ, zero, suc, ◌+◌, Bool, true, false, List, [], ◌∷◌, ◌++◌, Option, Some, length, take, drop, nat_lt, if◌then◌else◌, refl, sym, ap, ◌∙◌, arith, append-nil, append_assoc}
use Rattle.std.specs.Prelude.{slice_get}
use Rattle.std.specs.Option.{option_and_then, option_map}
use Rattle.std.proofs.lemmas.List.{take_all}
use Rattle.std.proofs.lemmas.Option.{slice_get_past, slice_get_within, slice_get-map}
use Rattle.mv_record.specs.declared.record.Record.{Record}
use Rattle.mv_record.specs.declared.record.Spot.{Spot}
use Rattle.mv_record.specs.Paths.{Nest, path, inside, nest_of, nests_behind, paths}
use Rattle.mv_recorded.proofs.Nesting.{many_nests}
use Rattle.mv_history.specs.Kept.{Path}
use Rattle.mv_repair.specs.Walking.{path_behind}

-- The path of one record

-- the nest of a record among the first ones
nest_got : (ns : List Nest) (rs : List Record) (before n : ℕ) (r : Record) → n < before → slice_get rs n ≡ Some r
    → slice_get (nests_behind ns (take before rs)) n ≡ Some (nest_of (ns ++ nests_behind ns (take n rs)) r)
nest_got ns [] before n r lt h = cc
nest_got ns (x ∷ rs) zero n r lt h = absurd (omega (arith, lt))
nest_got ns (x ∷ rs) (suc k) zero r lt h =
    let same : x ≡ r = cc in
    ap (λ (z : Record). Some (nest_of ns z)) same ∙ ap (λ l. Some (nest_of l r)) (sym (append-nil ns))
nest_got ns (x ∷ rs) (suc k) (suc n) r lt h =
    let it : Nest = nest_of ns x in
    nest_got (ns ++ it ∷ []) rs k n r (omega (arith, lt)) h
    ∙ ap (λ l. Some (nest_of l r)) (append_assoc ns (it ∷ []) (nests_behind (ns ++ it ∷ []) (take n rs)))

pub none_around : (rs : List Record) (before n : ℕ) (turns : List ℕ) → before ≤ n → [] ≡ inside (option_and_then (slice_get (nests_behind [] (take before rs))) (Some n)) turns
none_around rs before n turns le =
    let many = many_nests [] (take before rs) in
    let few : length (take before rs) ≤ before = short before rs in
    ap (λ o. inside o turns) (sym (slice_get_past (nests_behind [] (take before rs)) n (omega (arith, le, many, few))))
  where
    short : {A : Type 0} (n : ℕ) (xs : List A) → length (take n xs) ≤ n
    short zero xs = omega arith
    short (suc n) [] = omega arith
    short (suc n) (x ∷ xs) = let k = short n xs in omega (arith, k)

-- the part of a path that a statement around adds, behind the parts that those around it added
pub around_is : (rs : List Record) (before n : ℕ) (r : Record) (start mid new : List ℕ) (turns : List ℕ) → n < before → slice_get rs n ≡ Some r
    → mid ≡ start ++ inside (option_and_then (slice_get (nests_behind [] (take n rs))) r.parent) r.spot.turns
    → new ≡ (if nat_lt (length r.spot.turns) (length turns) then mid ++ r.spot.statement ∷ drop (length r.spot.turns) turns else mid)
    → new ≡ start ++ inside (option_and_then (slice_get (nests_behind [] (take before rs))) (Some n)) turns
around_is rs before n r start mid new turns lt there outer is =
    is
    ∙ (ap (λ m. if nat_lt (length r.spot.turns) (length turns) then m ++ r.spot.statement ∷ drop (length r.spot.turns) turns else m) outer
    ∙ (by (nat_lt (length r.spot.turns) (length turns)) (inside (option_and_then (slice_get (nests_behind [] (take n rs))) r.parent) r.spot.turns) (r.spot.statement ∷ drop (length r.spot.turns) turns)
    ∙ ap (λ o. start ++ inside o turns) (sym (nest_got [] rs before n r lt there))))
  where
    by : (b : Bool) (part own : List ℕ) → (if b then (start ++ part) ++ own else (start ++ part)) ≡ start ++ (if b then part ++ own else part)
    by true part own = append_assoc start part own
    by false part own = refl

-- the same of what `push_around` has
pub around_got : (rs : List Record) (before n : ℕ) (r : Record) (start mid new turns ts us : List ℕ) (statement : ℕ) (parent c : Option ℕ) → n < before → slice_get rs n ≡ Some r → c ≡ Some n → parent ≡ r.parent
    → ts ≡ r.spot.turns → us ≡ r.spot.turns → statement ≡ r.spot.statement → mid ≡ start ++ inside (option_and_then (slice_get (nests_behind [] (take n rs))) parent) ts
    → new ≡ (if nat_lt (length us) (length turns) then mid ++ statement ∷ drop (length us) turns else mid)
    → new ≡ start ++ inside (option_and_then (slice_get (nests_behind [] (take before rs))) c) turns
around_got rs before n r start mid new turns ts us statement parent c lt there holder above outside within number outer is =
    around_is rs before n r start mid new turns lt there mid_is new_is ∙ ap (λ o. start ++ inside (option_and_then (slice_get (nests_behind [] (take before rs))) o) turns) (sym holder)
  where
    mid_is : mid ≡ start ++ inside (option_and_then (slice_get (nests_behind [] (take n rs))) r.parent) r.spot.turns
    mid_is = outer
        ∙ (ap (λ o. start ++ inside (option_and_then (slice_get (nests_behind [] (take n rs))) o) ts) above
        ∙ ap (λ l. start ++ inside (option_and_then (slice_get (nests_behind [] (take n rs))) r.parent) l) outside)

    new_is : new ≡ (if nat_lt (length r.spot.turns) (length turns) then mid ++ r.spot.statement ∷ drop (length r.spot.turns) turns else mid)
    new_is = is
        ∙ (ap (λ m. if nat_lt (length us) (length turns) then mid ++ m ∷ drop (length us) turns else mid) number
        ∙ ap (λ l. if nat_lt (length l) (length turns) then mid ++ r.spot.statement ∷ drop (length l) turns else mid) within)

-- the path of the record with this number
pub path_got : (rs : List Record) (n : ℕ) (r : Record) → slice_get rs n ≡ Some r → slice_get (paths rs) n ≡ Some (path_behind (take n rs) r.spot r.parent)
path_got rs n r there =
    slice_get-map path (nests_behind [] rs) n
    ∙ ap (option_map path) (ap (λ l. slice_get (nests_behind [] l) n) (sym (take_all (length rs) rs (omega arith))) ∙ nest_got [] rs (length rs) n r (slice_get_within rs n r there) there)

pub path_is_got : (rs : List Record) (n : ℕ) (r : Record) (statement : ℕ) (turns : List ℕ) (parent : Option ℕ) (p : Path) → slice_get rs n ≡ Some r
    → statement ≡ r.spot.statement → turns ≡ r.spot.turns → parent ≡ r.parent → p ≡ path_behind (take n rs) (record { statement = statement; turns = turns }) parent → slice_get (paths rs) n ≡ Some p
path_is_got rs n r statement turns parent p there s t c is = path_got rs n r there ∙ ap (λ q. Some q) (sym at)
  where
    spot : (a : ℕ) (b : List ℕ) → Spot
    spot a b = record { statement = a; turns = b }

    at : p ≡ path_behind (take n rs) r.spot r.parent
    at = is
        ∙ (ap (λ a. path_behind (take n rs) (spot a turns) parent) s
        ∙ (ap (λ b. path_behind (take n rs) (spot r.spot.statement b) parent) t ∙ ap (path_behind (take n rs) r.spot) c))
