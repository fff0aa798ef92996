-- The records of small procedures that go through a table are those that were worked out by hand.
use Rattle.std.proofs.Common.{◌≡◌, ℕ, pos, List, [], ◌∷◌, refl, ap, ◌∙◌}
use Rattle.mv_values.specs.declared.value.Value.TheVariants.{Int, Text}
use Rattle.mv_values.specs.declared.rows.Keyed.{Keyed}
use Rattle.mv_ast.specs.declared.tree.TwoOp.TheVariants.{Div}
use Rattle.mv_catalog.specs.declared.resolved.RStmt.{RStmt, roll-RStmt}
use Rattle.mv_eval.specs.declared.state.State.{State}
use Rattle.mv_eval.specs.declared.state.Content.{Content}
use Rattle.mv_eval.specs.declared.state.Content.TheVariants.{Turn}
use Rattle.mv_record.specs.Samples.{account}
use Rattle.mv_recorded.specs.Examples.{var, constant, acc, delete_found, over_accounts, sum_up_balances, open_account, for_record, deleted, sum_record, opened, Closes, read_twice, ReadsTwice, delete_wrong, DividesByZero}
use Rattle.mv_recorded.specs.Recorded.{tell_statements, outside}
use Rattle.mv_recorded.proofs.Unrolled.{value_var, value_two, value_field, value_constant, variables_var, variables_two, variables_field, variables_constant, told_first, tell_is, does_is, size_is}
use Rattle.mv_recorded.proofs.Examples.{scalar, with_accounts, turn}

-- close

abbrev at_close : ℕ → ℕ → List Content → List Keyed → State
at_close n found held rows = with_accounts (scalar 50 ∷ scalar n ∷ scalar found ∷ held) 2 rows

abbrev turn_of : ℕ → List Content
turn_of a = Turn (Int (pos a) ∷ []) ∷ []

abbrev begins : State
begins = at_close 0 0 [] (account 0 7 ∷ account 1 100 ∷ account 2 200 ∷ [])

abbrev first : State
first = at_close 0 1 (turn_of 2) (account 0 7 ∷ account 1 100 ∷ account 2 200 ∷ [])

abbrev second : State
second = at_close 0 1 (turn_of 1) (account 0 7 ∷ account 1 100 ∷ [])

abbrev third : State
third = at_close 0 1 (turn_of 1) (account 0 7 ∷ [])

abbrev fourth : State
fourth = at_close 7 1 (turn_of 1) (account 0 7 ∷ [])

goes_through : (ss : List RStmt) → tell_statements acc 1 (roll-RStmt over_accounts ∷ ss) 1 outside [] begins
    ≡ for_record ∷ deleted 1 2 ∷ deleted 2 1 ∷ tell_statements acc 1 ss 3 outside (for_record ∷ deleted 1 2 ∷ deleted 2 1 ∷ []) third
goes_through ss = told_first acc 1 over_accounts ss 1 outside [] begins
    ∙ rw (
      value_var 0 begins.env [],
      variables_var 0,
      size_is delete_found,
      tell_is acc 1 delete_found 2 (turn 1) (for_record ∷ []) first,
      does_is acc delete_found first,
      value_field 3 0 first.env [],
      variables_field 3 0,
      tell_is acc 1 delete_found 2 (turn 2) (for_record ∷ deleted 1 2 ∷ []) second,
      does_is acc delete_found second,
      value_field 3 0 second.env [],
      variables_field 3 0,
    ) refl

sums_up : (ss : List RStmt) → tell_statements acc 1 (roll-RStmt sum_up_balances ∷ ss) 3 outside (for_record ∷ deleted 1 2 ∷ deleted 2 1 ∷ []) third
    ≡ sum_record ∷ tell_statements acc 1 ss 4 outside (for_record ∷ deleted 1 2 ∷ deleted 2 1 ∷ sum_record ∷ []) fourth
sums_up ss = told_first acc 1 sum_up_balances ss 3 outside (for_record ∷ deleted 1 2 ∷ deleted 2 1 ∷ []) third

opens : tell_statements acc 1 (roll-RStmt open_account ∷ []) 4 outside (for_record ∷ deleted 1 2 ∷ deleted 2 1 ∷ sum_record ∷ []) fourth ≡ opened ∷ []
opens = told_first acc 1 open_account [] 4 outside (for_record ∷ deleted 1 2 ∷ deleted 2 1 ∷ sum_record ∷ []) fourth
    ∙ rw (
      value_constant (Int (pos 9)) fourth.env [],
      value_var 1 fourth.env [],
      value_constant (Text (120 ∷ [])) fourth.env [],
      variables_constant (Int (pos 9)),
      variables_var 1,
      variables_constant (Text (120 ∷ [])),
    ) refl

pub closes : Closes
closes = goes_through (roll-RStmt sum_up_balances ∷ roll-RStmt open_account ∷ [])
    ∙ (ap (λ rs. for_record ∷ deleted 1 2 ∷ deleted 2 1 ∷ rs) (sums_up (roll-RStmt open_account ∷ []))
    ∙ ap (λ rs. for_record ∷ deleted 1 2 ∷ deleted 2 1 ∷ sum_record ∷ rs) opens)

-- second

abbrev at_second : State
at_second = with_accounts (scalar 1 ∷ scalar 0 ∷ []) 1 (account 0 7 ∷ account 1 100 ∷ account 2 200 ∷ [])

pub reads_twice : ReadsTwice
reads_twice = told_first acc 0 read_twice [] 1 outside [] at_second ∙ rw (value_var 0 at_second.env [], variables_var 0) refl

-- wrong

abbrev at_wrong : State
at_wrong = with_accounts (scalar 1 ∷ scalar 0 ∷ []) 1 (account 0 0 ∷ account 1 100 ∷ account 2 100 ∷ [])

pub divides_by_zero : DividesByZero
divides_by_zero = told_first acc 1 delete_wrong [] 1 outside [] at_wrong
    ∙ rw (
      value_two Div (var 0) (constant (Int (pos 0))) at_wrong.env [],
      value_var 0 at_wrong.env [],
      value_constant (Int (pos 0)) at_wrong.env [],
      variables_two Div (var 0) (constant (Int (pos 0))),
      variables_var 0,
      variables_constant (Int (pos 0)),
    ) refl
