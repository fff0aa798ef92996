-- Lines of values, and answers that are made of values.
use Rattle.std.proofs.Common.{◌≡◌, ◌<◌, ◌≤◌, ℕ, zero, suc, Bool, true, false, List, [], ◌∷◌, ◌++◌, Ok, Err, ◌+◌, length, drop, get_or, refl, sym, ap, ◌∙◌, arith, append_assoc, append-nil}
use Rattle.std.specs.Prelude.{Result}
use Rattle.mv_values.specs.declared.value.Value.{Value}
use Rattle.mv_values.specs.declared.calls.End.{End}
use Rattle.mv_values.proofs.Deciding.{from_place}
use Rattle.mv_catalog.specs.declared.resolved.RExpr.{RExpr}
use Rattle.mv_eval.specs.declared.state.Env.{Env}
use Rattle.mv_eval.specs.declared.state.Stop.{Stop}
use Rattle.mv_eval.specs.declared.state.Stop.TheVariants.{Memory, Ended}
use Rattle.mv_eval.specs.Results.{then_do, Fails, IsMadeOf}
use Rattle.mv_eval.specs.Line.{line_of, item_of, printed_after}
use Rattle.mv_eval.specs.Value.{value_of, values_of}

-- what these values add to a line, which has values already or not
abbrev pub rest_of : Bool → List Value → List ℕ
rest_of false vs = line_of vs
rest_of true vs = printed_after vs

-- an answer that is made of a value
pub made_from : {A B : Type 0} (make : A → B) (meant : Result A End) (answer : B) → then_do meant (λ v. Ok (make v)) ≡ Ok answer → IsMadeOf make meant answer
made_from {A} {B} make (Ok v) answer e = let same : make v ≡ answer = cc in record { value = v; is = refl; made = same }
made_from {A} {B} make (Err x) answer e = absurd cc

-- what stops an answer stops its value
made_stops : {A B : Type 0} (make : A → B) (meant : Result A End) (x : End) → then_do meant (λ v. Ok (make v)) ≡ Err x → meant ≡ Err x
made_stops {A} {B} make (Ok v) x e = cc
made_stops {A} {B} make (Err y) x e = let same : y ≡ x = cc in ap Err same

first_item : (more : Bool) (v : Value) (vs : List Value) → item_of more v ++ rest_of true vs ≡ rest_of more (v ∷ vs)
first_item false v vs = refl
first_item true v vs = refl

nothing_left : (line : List ℕ) (more : Bool) → line ++ rest_of more [] ≡ line
nothing_left line false = append-nil line
nothing_left line true = append-nil line

-- a list of values after its first one
after_first : (line : List ℕ) (more : Bool) (v : Value) (r : Result (List Value) End) → then_do r (λ vs. Ok ((line ++ item_of more v) ++ rest_of true vs)) ≡ then_do (then_do r (λ vs. Ok (v ∷ vs))) (λ vs. Ok (line ++ rest_of more vs))
after_first line more v (Ok vs) = ap Ok (append_assoc line (item_of more v) (rest_of true vs) ∙ ap (λ l. line ++ l) (first_item more v vs))
after_first line more v (Err x) = refl

-- the line with one more value
pub line_more : (env : Env) (exprs : List RExpr) (i : ℕ) (e : RExpr) (line new : List ℕ) (more : Bool) (v : Value) (meant : Result (List ℕ) End) → i < length exprs → e ≡ get_or exprs i e → value_of e env [] ≡ Ok v
    → new ≡ line ++ item_of more v → then_do (values_of (drop i exprs) env) (λ vs. Ok (line ++ rest_of more vs)) ≡ meant
    → then_do (values_of (drop (i + 1) exprs) env) (λ vs. Ok (new ++ rest_of true vs)) ≡ meant
line_more env exprs i e line new more v meant within is value added so_far =
    let rest : Result (List Value) End = values_of (drop (i + 1) exprs) env in
    ap (λ l. then_do rest (λ vs. Ok (l ++ rest_of true vs))) added
    ∙ (after_first line more v rest
    ∙ (sym (ap (λ r. then_do (then_do r (λ w. then_do rest (λ vs. Ok (w ∷ vs)))) (λ vs. Ok (line ++ rest_of more vs))) value)
    ∙ (ap (λ es. then_do (values_of es env) (λ vs. Ok (line ++ rest_of more vs))) (sym (from_place exprs i e within is)) ∙ so_far)))

-- the line after the last value
pub line_end : (env : Env) (exprs : List RExpr) (i : ℕ) (line : List ℕ) (more : Bool) (meant : Result (List ℕ) End) → length exprs ≤ i → then_do (values_of (drop i exprs) env) (λ vs. Ok (line ++ rest_of more vs)) ≡ meant → meant ≡ Ok line
line_end env [] zero line more meant h e = sym e ∙ ap Ok (nothing_left line more)
line_end env [] (suc i) line more meant h e = sym e ∙ ap Ok (nothing_left line more)
line_end env (x ∷ xs) zero line more meant h e = absurd (omega (arith, h))
line_end env (x ∷ xs) (suc i) line more meant h e = line_end env xs i line more meant (omega (arith, h)) e

-- a value that stops, stops the line
pub line_stops : (env : Env) (exprs : List RExpr) (i : ℕ) (e : RExpr) (line : List ℕ) (more : Bool) (s : Stop) → i < length exprs → e ≡ get_or exprs i e → Fails s (value_of e env [])
    → then_do (values_of (drop i exprs) env) (λ vs. Ok (line ++ rest_of more vs)) ≡ then_do (values_of exprs env) (λ vs. Ok (line_of vs)) → Fails s (values_of exprs env)
line_stops env exprs i e line more Memory within is stops so_far = tt
line_stops env exprs i e line more (Ended x) within is stops so_far =
    let rest : Result (List Value) End = values_of (drop (i + 1) exprs) env in
    made_stops line_of (values_of exprs env) x (
    sym so_far
    ∙ (ap (λ es. then_do (values_of es env) (λ vs. Ok (line ++ rest_of more vs))) (from_place exprs i e within is)
    ∙ ap (λ r. then_do (then_do r (λ w. then_do rest (λ vs. Ok (w ∷ vs)))) (λ vs. Ok (line ++ rest_of more vs))) stops))
