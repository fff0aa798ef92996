-- The records of small procedures are those that were worked out by hand.
use Rattle.std.proofs.Common.{◌≡◌, ℕ, pos, List, [], ◌∷◌, refl, ap, ◌∙◌}
use Rattle.std.specs.Fmt.{digits}
use Rattle.mv_values.specs.declared.value.Value.TheVariants.{Int}
use Rattle.mv_values.specs.declared.op.Op.TheVariants.{Lt}
use Rattle.mv_values.specs.declared.rows.Keyed.{Keyed}
use Rattle.mv_ast.specs.declared.tree.TwoOp.TheVariants.{Add, Sub, Compare}
use Rattle.mv_ast.specs.Texts.{greatest}
use Rattle.mv_catalog.specs.declared.resolved.RStmt.{RStmt, roll-RStmt}
use Rattle.mv_catalog.specs.declared.resolved.RStmt.TheOpen.{Rollback}
use Rattle.mv_eval.specs.declared.state.State.{State}
use Rattle.mv_eval.specs.declared.state.Content.{Content}
use Rattle.mv_eval.specs.declared.state.Content.TheVariants.{Scalar, Turns, Turn}
use Rattle.mv_record.specs.Samples.{account}
use Rattle.mv_recorded.specs.Examples.{var, col, field, constant, acc, add_amount, set_balance, tell_balance, read_balance, add_read, add_sum, add_write, add_line, AddsFive, add_overflow, AddOverflows, raise_balance, UpdateOverflows, tell_found, look_read, look_line, LooksInVain, no_funds, look_at_funds, take_amount, give_amount, take_fee, read_first, looked, rolled_back, debited, given, fee_taken, Transfers, TransferRollsBack, add_line_amount, over_lines, lines, loop_record, first_turn, AddsUp}
use Rattle.mv_recorded.specs.Recorded.{Site, tell_statements, outside, within, within_loop, in_turn}
use Rattle.mv_recorded.proofs.Unrolled.{value_var, value_two, value_col, value_field, value_constant, variables_var, variables_two, variables_col, variables_field, variables_constant, columns_var, columns_two, columns_col, columns_constant, told_first, tell_is, does_is, size_is}

abbrev pub scalar : ℕ → Content
scalar n = Scalar (Int (pos n))

abbrev pub with_accounts : List Content → ℕ → List Keyed → State
with_accounts held found rows = record { env = record { held = held; found = found }; tables = rows ∷ []; lines = [] }

-- add

abbrev at_add : ℕ → ℕ → ℕ → ℕ → State
at_add x b found bal = with_accounts (scalar 1 ∷ scalar x ∷ scalar b ∷ scalar found ∷ []) 3 (account 0 0 ∷ account 1 bal ∷ account 2 100 ∷ [])

reads_first : (x : ℕ) (ss : List RStmt) → tell_statements acc 2 (roll-RStmt (read_balance 2) ∷ ss) 1 outside [] (at_add x 0 0 100) ≡ add_read ∷ tell_statements acc 2 ss 2 outside (add_read ∷ []) (at_add x 100 1 100)
reads_first x ss = told_first acc 2 (read_balance 2) ss 1 outside [] (at_add x 0 0 100) ∙ rw (value_var 0 (at_add x 0 0 100).env [], variables_var 0) refl

adds_then : (ss : List RStmt) → tell_statements acc 2 (roll-RStmt add_amount ∷ ss) 2 outside (add_read ∷ []) (at_add 5 100 1 100)
    ≡ add_sum ∷ tell_statements acc 2 ss 3 outside (add_read ∷ add_sum ∷ []) (at_add 5 105 1 100)
adds_then ss = told_first acc 2 add_amount ss 2 outside (add_read ∷ []) (at_add 5 100 1 100)
    ∙ rw (value_two Add (var 2) (var 1) (at_add 5 100 1 100).env [], value_var 2 (at_add 5 100 1 100).env [], value_var 1 (at_add 5 100 1 100).env [], variables_two Add (var 2) (var 1), variables_var 2, variables_var 1) refl

writes_then : (ss : List RStmt) → tell_statements acc 2 (roll-RStmt set_balance ∷ ss) 3 outside (add_read ∷ add_sum ∷ []) (at_add 5 105 1 100)
    ≡ add_write ∷ tell_statements acc 2 ss 4 outside (add_read ∷ add_sum ∷ add_write ∷ []) (at_add 5 105 1 105)
writes_then ss = told_first acc 2 set_balance ss 3 outside (add_read ∷ add_sum ∷ []) (at_add 5 105 1 100)
    ∙ rw (value_var 0 (at_add 5 105 1 100).env [], value_var 2 (at_add 5 105 1 100).env (account 1 100).row, variables_var 0, variables_var 2, columns_var 2) refl

tells_then : tell_statements acc 2 (roll-RStmt tell_balance ∷ []) 4 outside (add_read ∷ add_sum ∷ add_write ∷ []) (at_add 5 105 1 105) ≡ add_line ∷ []
unfolding digits
tells_then = told_first acc 2 tell_balance [] 4 outside (add_read ∷ add_sum ∷ add_write ∷ []) (at_add 5 105 1 105)
    ∙ rw (value_var 2 (at_add 5 105 1 105).env [], variables_var 2) refl

pub adds_five : AddsFive
adds_five = reads_first 5 (roll-RStmt add_amount ∷ roll-RStmt set_balance ∷ roll-RStmt tell_balance ∷ [])
    ∙ (ap (λ rs. add_read ∷ rs) (adds_then (roll-RStmt set_balance ∷ roll-RStmt tell_balance ∷ []))
    ∙ (ap (λ rs. add_read ∷ add_sum ∷ rs) (writes_then (roll-RStmt tell_balance ∷ []))
    ∙ ap (λ rs. add_read ∷ add_sum ∷ add_write ∷ rs) tells_then))

overflows_then : (ss : List RStmt) → tell_statements acc 2 (roll-RStmt add_amount ∷ ss) 2 outside (add_read ∷ []) (at_add greatest 100 1 100) ≡ add_overflow ∷ []
overflows_then ss = told_first acc 2 add_amount ss 2 outside (add_read ∷ []) (at_add greatest 100 1 100)
    ∙ rw (
      value_two Add (var 2) (var 1) (at_add greatest 100 1 100).env [],
      value_var 2 (at_add greatest 100 1 100).env [],
      value_var 1 (at_add greatest 100 1 100).env [],
      variables_two Add (var 2) (var 1),
      variables_var 2,
      variables_var 1,
    ) refl

pub add_overflows : AddOverflows
add_overflows = reads_first greatest (roll-RStmt add_amount ∷ roll-RStmt set_balance ∷ roll-RStmt tell_balance ∷ [])
    ∙ ap (λ rs. add_read ∷ rs) (overflows_then (roll-RStmt set_balance ∷ roll-RStmt tell_balance ∷ []))

-- raise

abbrev at_raise : State
at_raise = with_accounts (scalar 1 ∷ scalar greatest ∷ scalar 0 ∷ []) 2 (account 0 0 ∷ account 1 100 ∷ account 2 100 ∷ [])

pub update_overflows : UpdateOverflows
update_overflows = told_first acc 2 raise_balance [] 1 outside [] at_raise
    ∙ rw (
      value_var 0 at_raise.env [],
      value_two Add (col 1) (var 1) at_raise.env (account 1 100).row,
      value_col 1 at_raise.env (account 1 100).row,
      value_var 1 at_raise.env (account 1 100).row,
      variables_var 0,
      variables_two Add (col 1) (var 1),
      variables_col 1,
      variables_var 1,
      columns_two Add (col 1) (var 1),
      columns_col 1,
      columns_var 1,
    ) refl

-- look

abbrev at_look : State
at_look = with_accounts (scalar 7 ∷ scalar 0 ∷ scalar 0 ∷ []) 2 (account 0 0 ∷ account 1 100 ∷ account 2 100 ∷ [])

finds_none : (ss : List RStmt) → tell_statements acc 1 (roll-RStmt (read_balance 1) ∷ ss) 1 outside [] at_look ≡ look_read ∷ tell_statements acc 1 ss 2 outside (look_read ∷ []) at_look
finds_none ss = told_first acc 1 (read_balance 1) ss 1 outside [] at_look ∙ rw (value_var 0 at_look.env [], variables_var 0) refl

tells_none : tell_statements acc 1 (roll-RStmt tell_found ∷ []) 2 outside (look_read ∷ []) at_look ≡ look_line ∷ []
unfolding digits
tells_none = told_first acc 1 tell_found [] 2 outside (look_read ∷ []) at_look
    ∙ rw (value_var 1 at_look.env [], value_var 2 at_look.env [], variables_var 1, variables_var 2) refl

pub looks_in_vain : LooksInVain
looks_in_vain = finds_none (roll-RStmt tell_found ∷ []) ∙ ap (λ rs. look_read ∷ rs) tells_none

-- transfer

abbrev at_transfer : ℕ → ℕ → ℕ → ℕ → ℕ → ℕ → State
at_transfer x b found fee from to = with_accounts (scalar 1 ∷ scalar 2 ∷ scalar x ∷ scalar b ∷ scalar found ∷ []) 4 (account 0 fee ∷ account 1 from ∷ account 2 to ∷ [])

transfer_reads : (x : ℕ) (ss : List RStmt) → tell_statements acc 3 (roll-RStmt (read_balance 3) ∷ ss) 1 outside [] (at_transfer x 0 0 0 100 100)
    ≡ read_first ∷ tell_statements acc 3 ss 2 outside (read_first ∷ []) (at_transfer x 100 1 0 100 100)
transfer_reads x ss = told_first acc 3 (read_balance 3) ss 1 outside [] (at_transfer x 0 0 0 100 100) ∙ rw (value_var 0 (at_transfer x 0 0 0 100 100).env [], variables_var 0) refl

looks_then : (ss : List RStmt) → tell_statements acc 3 (roll-RStmt look_at_funds ∷ ss) 2 outside (read_first ∷ []) (at_transfer 10 100 1 0 100 100)
    ≡ looked ∷ tell_statements acc 3 ss 4 outside (read_first ∷ looked ∷ []) (at_transfer 10 100 1 0 100 100)
looks_then ss = told_first acc 3 look_at_funds ss 2 outside (read_first ∷ []) (at_transfer 10 100 1 0 100 100)
    ∙ rw (
      value_two (Compare Lt) (var 3) (var 2) (at_transfer 10 100 1 0 100 100).env [],
      value_var 3 (at_transfer 10 100 1 0 100 100).env [],
      value_var 2 (at_transfer 10 100 1 0 100 100).env [],
      variables_two (Compare Lt) (var 3) (var 2),
      variables_var 3,
      variables_var 2,
      size_is (Rollback no_funds),
    ) refl

takes_then : (ss : List RStmt) → tell_statements acc 3 (roll-RStmt take_amount ∷ ss) 4 outside (read_first ∷ looked ∷ []) (at_transfer 10 100 1 0 100 100)
    ≡ debited ∷ tell_statements acc 3 ss 5 outside (read_first ∷ looked ∷ debited ∷ []) (at_transfer 10 100 1 0 90 100)
takes_then ss = told_first acc 3 take_amount ss 4 outside (read_first ∷ looked ∷ []) (at_transfer 10 100 1 0 100 100)
    ∙ rw (
      value_var 0 (at_transfer 10 100 1 0 100 100).env [],
      value_two Sub (col 1) (var 2) (at_transfer 10 100 1 0 100 100).env (account 1 100).row,
      value_col 1 (at_transfer 10 100 1 0 100 100).env (account 1 100).row,
      value_var 2 (at_transfer 10 100 1 0 100 100).env (account 1 100).row,
      variables_two Sub (col 1) (var 2),
      variables_col 1,
      variables_var 2,
      variables_var 0,
      columns_two Sub (col 1) (var 2),
      columns_col 1,
      columns_var 2,
    ) refl

gives_then : (ss : List RStmt) → tell_statements acc 3 (roll-RStmt give_amount ∷ ss) 5 outside (read_first ∷ looked ∷ debited ∷ []) (at_transfer 10 100 1 0 90 100)
    ≡ given ∷ tell_statements acc 3 ss 6 outside (read_first ∷ looked ∷ debited ∷ given ∷ []) (at_transfer 10 100 1 0 90 110)
gives_then ss = told_first acc 3 give_amount ss 5 outside (read_first ∷ looked ∷ debited ∷ []) (at_transfer 10 100 1 0 90 100)
    ∙ rw (
      value_var 1 (at_transfer 10 100 1 0 90 100).env [],
      value_two Add (col 1) (var 2) (at_transfer 10 100 1 0 90 100).env (account 2 100).row,
      value_col 1 (at_transfer 10 100 1 0 90 100).env (account 2 100).row,
      value_var 2 (at_transfer 10 100 1 0 90 100).env (account 2 100).row,
      variables_two Add (col 1) (var 2),
      variables_col 1,
      variables_var 2,
      variables_var 1,
      columns_two Add (col 1) (var 2),
      columns_col 1,
      columns_var 2,
    ) refl

takes_fee : tell_statements acc 3 (roll-RStmt take_fee ∷ []) 6 outside (read_first ∷ looked ∷ debited ∷ given ∷ []) (at_transfer 10 100 1 0 90 110) ≡ fee_taken ∷ []
takes_fee = told_first acc 3 take_fee [] 6 outside (read_first ∷ looked ∷ debited ∷ given ∷ []) (at_transfer 10 100 1 0 90 110)
    ∙ rw (
      value_constant (Int (pos 0)) (at_transfer 10 100 1 0 90 110).env [],
      value_two Add (col 1) (constant (Int (pos 1))) (at_transfer 10 100 1 0 90 110).env (account 0 0).row,
      value_col 1 (at_transfer 10 100 1 0 90 110).env (account 0 0).row,
      value_constant (Int (pos 1)) (at_transfer 10 100 1 0 90 110).env (account 0 0).row,
      variables_two Add (col 1) (constant (Int (pos 1))),
      variables_col 1,
      variables_constant (Int (pos 1)),
      variables_constant (Int (pos 0)),
      columns_two Add (col 1) (constant (Int (pos 1))),
      columns_col 1,
      columns_constant (Int (pos 1)),
    ) refl

pub transfers : Transfers
transfers = transfer_reads 10 (roll-RStmt look_at_funds ∷ roll-RStmt take_amount ∷ roll-RStmt give_amount ∷ roll-RStmt take_fee ∷ [])
    ∙ (ap (λ rs. read_first ∷ rs) (looks_then (roll-RStmt take_amount ∷ roll-RStmt give_amount ∷ roll-RStmt take_fee ∷ []))
    ∙ (ap (λ rs. read_first ∷ looked ∷ rs) (takes_then (roll-RStmt give_amount ∷ roll-RStmt take_fee ∷ []))
    ∙ (ap (λ rs. read_first ∷ looked ∷ debited ∷ rs) (gives_then (roll-RStmt take_fee ∷ []))
    ∙ ap (λ rs. read_first ∷ looked ∷ debited ∷ given ∷ rs) takes_fee)))

rolls_back_then : (ss : List RStmt) → tell_statements acc 3 (roll-RStmt look_at_funds ∷ ss) 2 outside (read_first ∷ []) (at_transfer 150 100 1 0 100 100) ≡ looked ∷ rolled_back ∷ []
rolls_back_then ss = told_first acc 3 look_at_funds ss 2 outside (read_first ∷ []) (at_transfer 150 100 1 0 100 100)
    ∙ rw (
      value_two (Compare Lt) (var 3) (var 2) (at_transfer 150 100 1 0 100 100).env [],
      value_var 3 (at_transfer 150 100 1 0 100 100).env [],
      value_var 2 (at_transfer 150 100 1 0 100 100).env [],
      variables_two (Compare Lt) (var 3) (var 2),
      variables_var 3,
      variables_var 2,
      tell_is acc 3 (Rollback no_funds) 3 (within 1 outside) (read_first ∷ looked ∷ []) (at_transfer 150 100 1 0 100 100),
      does_is acc (Rollback no_funds) (at_transfer 150 100 1 0 100 100),
    ) refl

pub transfer_rolls_back : TransferRollsBack
transfer_rolls_back = (
  transfer_reads 150 (roll-RStmt look_at_funds ∷ roll-RStmt take_amount ∷ roll-RStmt give_amount ∷ roll-RStmt take_fee ∷ [])
      ∙ ap (λ rs. read_first ∷ rs) (rolls_back_then (roll-RStmt take_amount ∷ roll-RStmt give_amount ∷ roll-RStmt take_fee ∷ [])),
  refl,
)

-- total

abbrev in_loop : ℕ → List Content → State
in_loop n held = record { env = record { held = Turns lines ∷ scalar n ∷ scalar 1 ∷ held; found = 2 }; tables = []; lines = [] }

abbrev pub turn : ℕ → Site
turn k = in_turn k (within_loop 3 0 outside)

abbrev first_env : State
first_env = in_loop 0 (Turn (Int (pos 5) ∷ []) ∷ [])

abbrev second_env : State
second_env = in_loop 5 (Turn (Int (pos 7) ∷ []) ∷ [])

abbrev at_total : State
at_total = record { env = record { held = Turns lines ∷ scalar 0 ∷ scalar 0 ∷ []; found = 2 }; tables = []; lines = [] }

pub adds_up : AddsUp
adds_up = (
  told_first [] 1 over_lines [] 1 outside [] at_total
      ∙ rw (
        tell_is [] 1 add_line_amount 2 (turn 1) (loop_record ∷ []) first_env,
        does_is [] add_line_amount first_env,
        value_two Add (var 1) (field 3 0) first_env.env [],
        value_var 1 first_env.env [],
        value_field 3 0 first_env.env [],
        variables_two Add (var 1) (field 3 0),
        variables_var 1,
        variables_field 3 0,
        tell_is [] 1 add_line_amount 2 (turn 2) (loop_record ∷ first_turn ∷ []) second_env,
        does_is [] add_line_amount second_env,
        value_two Add (var 1) (field 3 0) second_env.env [],
        value_var 1 second_env.env [],
        value_field 3 0 second_env.env [],
        variables_two Add (var 1) (field 3 0),
        variables_var 1,
        variables_field 3 0,
      ) refl,
  refl,
)
