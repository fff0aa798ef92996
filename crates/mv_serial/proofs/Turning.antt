-- One statement or one row further in a list of them.
use Rattle.std.proofs.Common.{◌≡◌, ◌<◌, ℕ, ◌+◌, List, Ok, Err, ap, sym, ◌∙◌, length, drop, get_or}
use Rattle.std.specs.Prelude.{Result}
use Rattle.mv_values.specs.declared.calls.End.{End}
use Rattle.mv_values.specs.declared.value.Value.{Value}
use Rattle.mv_values.specs.declared.schema.TableInfo.{TableInfo}
use Rattle.mv_values.proofs.Deciding.{from_place}
use Rattle.mv_catalog.specs.declared.resolved.RStmt.{RStmt}
use Rattle.mv_eval.specs.declared.state.State.{State}
use Rattle.mv_eval.specs.declared.state.Content.TheVariants.{Turn}
use Rattle.mv_eval.specs.declared.state.Stop.{Stop}
use Rattle.mv_eval.specs.declared.state.Stop.TheVariants.{Memory, Ended}
use Rattle.mv_eval.specs.Results.{then_do, Fails}
use Rattle.mv_eval.specs.Env.{with_held}
use Rattle.mv_eval.specs.Alone.{Does, does, alone, each_turn}

pub next_statement : (tables : List TableInfo) (ss : List RStmt) (k : ℕ) (s : RStmt) (st next : State) (all : Result State End) → k < length ss → s ≡ get_or ss k s
    → does tables s st ≡ Ok next → alone tables (drop k ss) st ≡ all → alone tables (drop (k + 1) ss) next ≡ all
next_statement tables ss k s st next all h is e i =
    sym (ap (λ r. then_do r (alone tables (drop (k + 1) ss))) e) ∙ (ap (λ r. alone tables r st) (sym (from_place ss k s h is)) ∙ i)

pub next_turn : (x : ℕ) (body : Does) (rows : List (List Value)) (k : ℕ) (row : List Value) (st next : State) (all : Result State End) → k < length rows → row ≡ get_or rows k row
    → body (record st { env = with_held st.env x (Turn row) }) ≡ Ok next → each_turn x body (drop k rows) st ≡ all → each_turn x body (drop (k + 1) rows) next ≡ all
next_turn x body rows k row st next all h is e i =
    sym (ap (λ r. then_do r (each_turn x body (drop (k + 1) rows))) e) ∙ (ap (λ r. each_turn x body r st) (sym (from_place rows k row h is)) ∙ i)

-- a loop over rows that are fixed first
pub fixed_first : {A B C : Type 0} (r : Result A End) (f : A → B) (go : B → Result C End) (b : B) → then_do r (λ a. Ok (f a)) ≡ Ok b → then_do r (λ a. go (f a)) ≡ go b
fixed_first {A} {B} {C} (Ok a) f go b h = let same : f a ≡ b = cc in ap go same
fixed_first {A} {B} {C} (Err e) f go b h = cc

pub fixed_fails : {A B C : Type 0} (r : Result A End) (f : A → B) (go : B → Result C End) (s : Stop) → Fails s (then_do r (λ a. Ok (f a))) → Fails s (then_do r (λ a. go (f a)))
fixed_fails (Ok a) f go Memory h = tt
fixed_fails (Ok a) f go (Ended e) h = cc
fixed_fails (Err e) f go Memory h = tt
fixed_fails (Err e) f go (Ended d) h = let same : e ≡ d = cc in ap Err same
