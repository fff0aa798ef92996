-- One statement or one row further in a list of them.
use Rattle.std.proofs.Common.{◌≡◌, ◌<◌, ℕ, ◌+◌, List, Ok, ap, sym, ◌∙◌, length, drop, get_or}
use Rattle.std.specs.Prelude.{Result}
use Rattle.mv_values.specs.declared.calls.End.{End}
use Rattle.mv_values.specs.declared.value.Value.{Value}
use Rattle.mv_values.specs.declared.schema.TableInfo.{TableInfo}
use Rattle.mv_values.proofs.Deciding.{from_place}
use Rattle.mv_catalog.specs.declared.resolved.RStmt.{RStmt}
use Rattle.mv_eval.specs.declared.state.State.{State}
use Rattle.mv_eval.specs.declared.state.Content.TheVariants.{Turn}
use Rattle.mv_eval.specs.Results.{then_do}
use Rattle.mv_eval.specs.Env.{with_held}
use Rattle.mv_eval.specs.Alone.{Does, does, alone, each_turn}

pub done_statement : (tables : List TableInfo) (ss : List RStmt) (k : ℕ) (s : RStmt) (st next : State) (all : Result State End) → k < length ss → s ≡ get_or ss k s
    → does tables s st ≡ Ok next → alone tables (drop k ss) st ≡ all → alone tables (drop (k + 1) ss) next ≡ all
done_statement tables ss k s st next all h is e i =
    sym (ap (λ r. then_do r (alone tables (drop (k + 1) ss))) e) ∙ (ap (λ r. alone tables r st) (sym (from_place ss k s h is)) ∙ i)

pub done_turn : (x : ℕ) (body : Does) (rows : List (List Value)) (k : ℕ) (row : List Value) (st next : State) (all : Result State End) → k < length rows → row ≡ get_or rows k row
    → body (record st { env = with_held st.env x (Turn row) }) ≡ Ok next → each_turn x body (drop k rows) st ≡ all → each_turn x body (drop (k + 1) rows) next ≡ all
done_turn x body rows k row st next all h is e i =
    sym (ap (λ r. then_do r (each_turn x body (drop (k + 1) rows))) e) ∙ (ap (λ r. each_turn x body r st) (sym (from_place rows k row h is)) ∙ i)
