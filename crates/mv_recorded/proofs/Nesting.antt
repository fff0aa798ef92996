-- What stands around records: the numbers and turns of FORs, by the records before them.
use Rattle.std.proofs.Common.{◌≡◌, ℕ, ◌+◌, true, false, List, [], ◌∷◌, ◌++◌, Some, map, drop, length, nat_lt, slice_get, if◌then◌else◌, refl, sym, ap, subst, ◌∙◌, arith, length-append, append-nil, append_assoc}
use Rattle.std.proofs.Math.Seq.{drop-append_seam}
use Rattle.std.proofs.lemmas.Bool.Decides.{nat_tests}
use Rattle.std.specs.Option.{option_and_then}
use Rattle.mv_record.specs.declared.record.Record.{Record}
use Rattle.mv_record.specs.Paths.{Nest, path, inside, nest_of, nests_behind}
use Rattle.mv_recorded.specs.Recorded.{Site, in_turn, within, within_loop}

-- Nests behind nests

abbrev pub paths_behind : List Nest → List Record → List (List ℕ)
paths_behind nests rs = map path (nests_behind nests rs)

pub many_nests : (nests : List Nest) (rs : List Record) → length (nests_behind nests rs) ≡ length rs
many_nests nests [] = refl
many_nests nests (r ∷ rs) = let rest = many_nests (nests ++ nest_of nests r ∷ []) rs in omega (arith, rest)

pub paths_join : (nests : List Nest) (rs ss : List Record) → paths_behind nests (rs ++ ss) ≡ paths_behind nests rs ++ paths_behind (nests ++ nests_behind nests rs) ss
paths_join nests [] ss = ap (λ l. paths_behind l ss) (sym (append-nil nests))
paths_join nests (r ∷ rs) ss =
    let it : Nest = nest_of nests r in
    ap (λ l. path it ∷ l) (paths_join (nests ++ it ∷ []) rs ss
    ∙ ap (λ l. paths_behind (nests ++ it ∷ []) rs ++ paths_behind l ss) (append_assoc nests (it ∷ []) (nests_behind (nests ++ it ∷ []) rs)))

-- a nest for each record
abbrev pub AsMany : List Nest → List Record → Type 0
AsMany nests rs = length nests ≡ length rs

pub more_as_many : (nests : List Nest) (before these : List Record) → AsMany nests before → AsMany (nests ++ nests_behind nests these) (before ++ these)
more_as_many nests before these h = omega (arith, length-append nests (nests_behind nests these), length-append before these, many_nests nests these, h)

-- Sites

-- these numbers and turns stand around what stands at the site
abbrev pub IsNested : List Nest → Site → List ℕ → Type 0
IsNested nests site around = (more : List Nest) → inside (option_and_then (slice_get (nests ++ more)) site.parent) site.turns ≡ around

pub stands_on : (nests more : List Nest) (site : Site) (around : List ℕ) → IsNested nests site around → IsNested (nests ++ more) site around
stands_on nests more site around h others =
    ap (λ l. inside (option_and_then (slice_get l) site.parent) site.turns) (append_assoc nests more others) ∙ h (more ++ others)

found_at : (nests : List Nest) (it : Nest) (more : List Nest) → slice_get ((nests ++ it ∷ []) ++ more) (length nests) ≡ Some it
found_at [] it more = refl
found_at (n ∷ nests) it more = found_at nests it more

pub own_number : (nests : List Nest) (it : Nest) (more : List Nest) (number : ℕ) → number ≡ length nests → slice_get ((nests ++ it ∷ []) ++ more) number ≡ Some it
own_number nests it more number h = ap (slice_get ((nests ++ it ∷ []) ++ more)) h ∙ found_at nests it more

pub not_deeper : (it : Nest) (turns : List ℕ) → it.spot.turns ≡ turns → inside (Some it) turns ≡ it.around
not_deeper it turns h =
    let no : nat_lt (length it.spot.turns) (length turns) ≡ false = subst (λ l. nat_lt (length it.spot.turns) (length l) ≡ false) h (grind (arith, nat_tests)) in
    ap (λ b. if b then it.around ++ it.spot.statement ∷ drop (length it.spot.turns) turns else it.around) no

pub one_deeper : (it : Nest) (turns : List ℕ) (k : ℕ) → it.spot.turns ≡ turns → inside (Some it) (turns ++ k ∷ []) ≡ it.around ++ it.spot.statement ∷ k ∷ []
one_deeper it turns k h =
    let long : length (it.spot.turns ++ k ∷ []) ≡ length it.spot.turns + 1 = length-append it.spot.turns (k ∷ []) in
    let so : nat_lt (length it.spot.turns) (length (it.spot.turns ++ k ∷ [])) ≡ true = grind (arith, nat_tests) in
    subst (λ l. inside (Some it) (l ++ k ∷ []) ≡ it.around ++ it.spot.statement ∷ k ∷ []) h
    (ap (λ b. if b then it.around ++ it.spot.statement ∷ drop (length it.spot.turns) (it.spot.turns ++ k ∷ []) else it.around) so
    ∙ ap (λ l. it.around ++ it.spot.statement ∷ l) (drop-append_seam it.spot.turns (k ∷ [])))

-- the loops' numbers and turns are those of its site, with this turn
abbrev pub StandsInTurns : List Nest → Site → List ℕ → ℕ → Type 0
StandsInTurns nests site around m = (k : ℕ) → IsNested nests (in_turn k site) (around ++ m ∷ k ∷ [])

pub stands_here : (nests : List Nest) (site : Site) (around : List ℕ) → IsNested nests site around → inside (option_and_then (slice_get nests) site.parent) site.turns ≡ around
stands_here nests site around stands = ap (λ l. inside (option_and_then (slice_get l) site.parent) site.turns) (sym (append-nil nests)) ∙ stands []

-- in an IF nothing more stands around, in a FOR its number and the turn
pub stands_within : (nests : List Nest) (it : Nest) (site : Site) (number : ℕ) → number ≡ length nests → it.spot.turns ≡ site.turns → IsNested (nests ++ it ∷ []) (within number site) it.around
stands_within nests it site number h same more = ap (λ o. inside o site.turns) (own_number nests it more number h) ∙ not_deeper it site.turns same

pub stands_in_turns : (nests : List Nest) (it : Nest) (x : ℕ) (site : Site) (number : ℕ) → number ≡ length nests → it.spot.turns ≡ site.turns
    → StandsInTurns (nests ++ it ∷ []) (within_loop x number site) it.around it.spot.statement
stands_in_turns nests it x site number h same k more = ap (λ o. inside o (site.turns ++ k ∷ [])) (own_number nests it more number h) ∙ one_deeper it site.turns k same
