-- The value of an expression: numbers are exact in 64 bits, texts have at most 4,000 bytes. This project's own.
use Rattle.std.specs.Prelude.{ℕ, ℤ, pos, negsuc, ◌+ℤ◌, ◌-ℤ◌, ◌*ℤ◌, neg_ℤ, int_div, int_rem, int_lt, int_le, ◌-◌, ◌^◌, Bool, true, not, ◌&&◌, ◌||◌, List, [], ◌∷◌, ◌++◌, Result, Ok, Err, length, take, nat_le, if◌then◌else◌}
use Rattle.std.specs.Ordering.{int_eq}
use Rattle.std.specs.Fmt.{signed_decimal}
use Rattle.std.specs.Str.{bytes_eq}
use Rattle.mv_values.specs.declared.value.Value.{Value}
use Rattle.mv_values.specs.declared.value.Value.TheVariants.{Int, Text}
use Rattle.mv_values.specs.declared.calls.End.{End}
use Rattle.mv_values.specs.declared.calls.End.TheVariants.{Overflow, ZeroDivisor, TooLong}
use Rattle.mv_values.specs.Comparing.{op_holds}
use Rattle.mv_values.specs.Order.{value_order}
use Rattle.mv_values.specs.Columns.{column_of, number}
use Rattle.mv_ast.specs.declared.tree.OneOp.{OneOp}
use Rattle.mv_ast.specs.declared.tree.OneOp.TheVariants.{Neg, Not, TextOf}
use Rattle.mv_ast.specs.declared.tree.TwoOp.{TwoOp}
use Rattle.mv_ast.specs.declared.tree.TwoOp.TheVariants.{Add, Sub, Mul, Div, Rem, Join, Compare, And, Or, Left, Contains}
use Rattle.mv_catalog.specs.declared.resolved.RExpr.{RExpr, RExpr-F, fold-RExpr}
use Rattle.mv_catalog.specs.declared.resolved.RExprKind.TheOpen.{RExprKind-F, Const, Var, Field, Col, One, Two}
use Rattle.mv_eval.specs.declared.state.Env.{Env}
use Rattle.mv_eval.specs.Results.{then_do}
use Rattle.mv_eval.specs.Env.{scalar_at, turn_at, truth}

-- the bytes of a TEXT
abbrev pub text : Value → List ℕ
text (Int z) = []
text (Text t) = t

-- an INT other than 0 is true
abbrev pub is_so : Value → Bool
is_so v = not (int_eq (number v) (pos 0))

-- a number that fits in 64 bits, or an overflow
abbrev pub fitted : ℤ → Result Value End
fitted z = if int_le (negsuc (2 ^ 63 - 1)) z && int_lt z (pos (2 ^ 63)) then Ok (Int z) else Err Overflow

-- the quotient without its fraction
abbrev pub quotient : ℤ → ℤ → Result Value End
quotient a b = if int_eq b (pos 0) then Err ZeroDivisor else fitted (int_div a b)

-- the remainder, with the sign of the left side
abbrev pub remainder : ℤ → ℤ → Result Value End
remainder a b = if int_eq b (pos 0) then Err ZeroDivisor else Ok (Int (int_rem a b))

-- a text that has at most 4,000 bytes, or a text too long
abbrev pub joined : List ℕ → Result Value End
joined t = if nat_le (length t) 4000 then Ok (Text t) else Err TooLong

-- the first n bytes, none if n is negative
abbrev pub left_of : List ℕ → ℤ → List ℕ
left_of t (pos n) = take n t
left_of t (negsuc n) = []

-- t begins with u
abbrev pub begins : List ℕ → List ℕ → Bool
begins t u = bytes_eq (take (length u) t) u

-- t contains u
abbrev pub contains : List ℕ → List ℕ → Bool
contains [] u = begins [] u
contains (b ∷ t) u = begins (b ∷ t) u || contains t u

abbrev pub one_of : OneOp → Value → Result Value End
one_of Neg v = fitted (neg_ℤ (number v))
one_of Not v = Ok (truth (not (is_so v)))
one_of TextOf v = Ok (Text (signed_decimal (number v)))

-- an operator whose sides are both evaluated
abbrev pub both_of : TwoOp → Value → Value → Result Value End
both_of Add v w = fitted (number v +ℤ number w)
both_of Sub v w = fitted (number v -ℤ number w)
both_of Mul v w = fitted (number v *ℤ number w)
both_of Div v w = quotient (number v) (number w)
both_of Rem v w = remainder (number v) (number w)
both_of Join v w = joined (text v ++ text w)
both_of (Compare op) v w = Ok (truth (op_holds op (value_order v w)))
both_of And v w = Ok (truth (is_so v && is_so w))
both_of Or v w = Ok (truth (is_so v || is_so w))
both_of Left v w = Ok (Text (left_of (text v) (number w)))
both_of Contains v w = Ok (truth (contains (text v) (text w)))

-- AND and OR need the right side only if it decides
abbrev pub needs_right : TwoOp → Value → Bool
needs_right And v = is_so v
needs_right Or v = not (is_so v)
needs_right op v = true

-- from left to right; if the right side isn't needed, the left one is the answer
abbrev pub two_of : TwoOp → Result Value End → Result Value End → Result Value End
two_of op a b = then_do a (λ v. if needs_right op v then then_do b (λ w. both_of op v w) else Ok (truth (is_so v)))

-- the value of an expression for the variables and the row of an UPDATE
abbrev pub Evaluation : Type 0
Evaluation = Env → List Value → Result Value End

abbrev pub kind_step : RExprKind-F Evaluation Evaluation → Evaluation
kind_step (Const v) env row = Ok v
kind_step (Var x) env row = Ok (scalar_at env x)
kind_step (Field x c) env row = Ok (column_of (turn_at env x) c)
kind_step (Col c) env row = Ok (column_of row c)
kind_step (One op a) env row = then_do (a env row) (λ v. one_of op v)
kind_step (Two op a b) env row = two_of op (a env row) (b env row)

abbrev pub expr_step : RExpr-F Evaluation Evaluation → Evaluation
expr_step e env row = e.kind env row

-- the value of an expression, or its fault
abbrev pub value_of : RExpr → Evaluation
value_of = fold-RExpr Evaluation Evaluation kind_step expr_step

-- the values of expressions in order, up to the first fault
abbrev pub values_of : List RExpr → Env → Result (List Value) End
values_of [] env = Ok []
values_of (e ∷ es) env = then_do (value_of e env []) (λ v. then_do (values_of es env) (λ vs. Ok (v ∷ vs)))
