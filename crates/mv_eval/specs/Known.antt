-- Values that an expression lends. This project's own.
use Rattle.std.specs.Prelude.{◌≡◌, ℤ, Bool, true, false, Result, Ok, Err}
use Rattle.mv_values.specs.declared.value.Value.{Value}
use Rattle.mv_values.specs.declared.value.Value.TheVariants.{Int, Text}
use Rattle.mv_values.specs.declared.calls.End.{End}
use Rattle.mv_values.specs.declared.calls.End.TheVariants as end
use Rattle.mv_values.specs.Columns.{number}
use Rattle.mv_ast.specs.declared.tree.TwoOp.{TwoOp}
use Rattle.mv_ast.specs.declared.tree.TwoOp.TheVariants.{Join, Compare, Left, Contains}
use Rattle.mv_eval.specs.declared.state.Stop.{Stop}
use Rattle.mv_eval.specs.declared.state.Stop.TheVariants as stop
use Rattle.mv_eval.specs.declared.known.EvalFault.{EvalFault}
use Rattle.mv_eval.specs.declared.known.EvalFault.TheVariants.{Memory, Overflow, ZeroDivisor, TooLong}
use Rattle.mv_eval.specs.declared.known.Known.{Known}
use Rattle.mv_eval.specs.declared.known.Known.TheVariants as known
use Rattle.mv_eval.specs.Results.{Fails, IsMadeOf}

-- the value that is lent or made
abbrev pub seen : Known → Value
seen (known.Int n) = Int n
seen (known.Text t) = Text t.now
seen (known.Made t) = Text t

-- why a statement stops if its expression does
abbrev pub stop_of : EvalFault → Stop
stop_of Memory = stop.Memory
stop_of Overflow = stop.Ended end.Overflow
stop_of ZeroDivisor = stop.Ended end.ZeroDivisor
stop_of TooLong = stop.Ended end.TooLong

-- the answer is the value that is meant, unless memory ran out
abbrev pub Tells : Result Known EvalFault → Result Value End → Type 0
Tells (Ok v) meant = meant ≡ Ok (seen v)
Tells (Err fault) meant = Fails (stop_of fault) meant

-- the answer is the number that is meant, unless memory ran out
abbrev pub TellsInt : Result ℤ EvalFault → Result Value End → Type 0
TellsInt (Ok n) meant = meant ≡ Ok (Int n)
TellsInt (Err fault) meant = Fails (stop_of fault) meant

-- the answer is the number of the value that is meant, unless memory ran out
abbrev pub Counts : Result ℤ EvalFault → Result Value End → Type 0
Counts (Ok n) meant = IsMadeOf number meant n
Counts (Err fault) meant = Fails (stop_of fault) meant

-- the operators to which only the numbers of both sides matter
abbrev pub takes_numbers : TwoOp → Bool
takes_numbers Join = false
takes_numbers (Compare op) = false
takes_numbers Left = false
takes_numbers Contains = false
takes_numbers op = true
