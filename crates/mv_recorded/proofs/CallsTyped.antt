-- The variables that a call begins with hold values of their types.
use Rattle.std.proofs.Common.{◌≡◌, ℕ, zero, suc, ◌+◌, List, [], ◌∷◌, ◌++◌, Some, refl, subst, map, length, slice_get, slice_index_or, arith, length-append}
use Rattle.std.proofs.lemmas.List.{length-map}
use Rattle.std.proofs.lemmas.List.Elements.{All-weaker}
use Rattle.std.proofs.lemmas.Slice.Zip.{AllZip-long}
use Rattle.std.specs.List.{AllZip}
use Rattle.mv_values.specs.declared.value.Value.{Value}
use Rattle.mv_values.specs.declared.calls.Argument.{Argument}
use Rattle.mv_values.specs.declared.calls.Argument.TheVariants as argument
use Rattle.mv_values.specs.declared.calls.Call.{Call}
use Rattle.mv_catalog.specs.declared.resolved.ParamInfo.{ParamInfo}
use Rattle.mv_catalog.specs.declared.resolved.ParamInfo.TheVariants as param
use Rattle.mv_catalog.specs.declared.resolved.ProcInfo.{ProcInfo}
use Rattle.mv_catalog.specs.Types.{int, Var, fixed, declared, kind_of_value, kind_of_column}
use Rattle.mv_catalog.specs.Text.{IsRow, param_var, own_vars, vars_of, Suits}
use Rattle.mv_eval.specs.declared.state.Content.{Content}
use Rattle.mv_eval.specs.declared.state.Content.TheVariants.{Scalar}
use Rattle.mv_eval.specs.Env.{unset}
use Rattle.mv_eval.specs.TableAfter.{argument_held, entered}
use Rattle.mv_recorded.specs.Typed.{OfKinds, Holds, IsEnvOf}
use Rattle.mv_recorded.proofs.RowsTyped.{kind_is, row_kinds}

zip_append : {A B : Type 0} (R : A → B → Type 0) (xs xs' : List A) (ys ys' : List B) → AllZip R xs ys → AllZip R xs' ys' → AllZip R (xs ++ xs') (ys ++ ys')
zip_append R [] xs' [] ys' h k = k
zip_append R [] xs' (y ∷ ys) ys' h k = absurd h
zip_append R (x ∷ xs) xs' [] ys' h k = absurd h
zip_append R (x ∷ xs) xs' (y ∷ ys) ys' h k = (h.0, zip_append R xs xs' ys ys' h.1 k)

last_at : {A : Type 0} (xs : List A) (x : A) → slice_get (xs ++ x ∷ []) (length xs) ≡ Some x
last_at [] x = refl
last_at (y ∷ ys) x = last_at ys x

argument_holds : (q : ParamInfo) (a : Argument) → Suits q a → Holds (param_var q) (argument_held a)
argument_holds (param.One type) (argument.One v) h = kind_is type v h
argument_holds (param.One type) (argument.Many all) h = absurd h
argument_holds (param.Many types) (argument.One v) h = absurd h
argument_holds (param.Many types) (argument.Many all) h = All-weaker (IsRow types) (OfKinds (map kind_of_column types)) (row_kinds types) all h

arguments_hold : (qs : List ParamInfo) (as' : List Argument) → AllZip Suits qs as' → AllZip Holds (map param_var qs) (map argument_held as')
arguments_hold [] [] h = tt
arguments_hold [] (a ∷ as') h = absurd h
arguments_hold (q ∷ qs) [] h = absurd h
arguments_hold (q ∷ qs) (a ∷ as') h = (argument_holds q a h.0, arguments_hold qs as' h.1)

defaults_hold : (vs : List Value) → AllZip Holds (map (λ v. declared (kind_of_value v)) vs) (map Scalar vs)
defaults_hold [] = tt
defaults_hold (v ∷ vs) = (refl, defaults_hold vs)

holds_at : (vs : List Var) (hs : List Content) → AllZip Holds vs hs → (x : ℕ) (v : Var) → slice_get vs x ≡ Some v → Holds v (slice_index_or hs x unset)
holds_at [] hs h x v at = cc
holds_at (w ∷ ws) [] h x v at = absurd h
holds_at (w ∷ ws) (g ∷ gs) h zero v at = let same : w ≡ v = cc in subst (λ u. Holds u g) same h.0
holds_at (w ∷ ws) (g ∷ gs) h (suc x) v at = holds_at ws gs h.1 x v at

module _ (proc : ProcInfo) (call : Call) (suits : AllZip Suits proc.params call.arguments) where
  params : List Var
  params = map param_var proc.params

  declareds : List Var
  declareds = map (λ v. declared (kind_of_value v)) proc.defaults

  all_hold : AllZip Holds (own_vars proc) (entered proc call).held
  all_hold =
      zip_append Holds (map param_var proc.params ++ map (λ v. declared (kind_of_value v)) proc.defaults) (fixed int ∷ []) (map argument_held call.arguments ++ map Scalar proc.defaults) (unset ∷ [])
      (zip_append Holds (map param_var proc.params) (map (λ v. declared (kind_of_value v)) proc.defaults) (map argument_held call.arguments) (map Scalar proc.defaults)
      (arguments_hold proc.params call.arguments suits) (defaults_hold proc.defaults)) (refl, tt)

  found_place : length (params ++ declareds) ≡ length call.arguments + length proc.defaults
  unfolding params declareds
  found_place =
      omega (arith, length-append params declareds, length-map proc.params param_var, length-map proc.defaults (λ v. declared (kind_of_value v)), AllZip-long Suits proc.params call.arguments suits)

  pub entered_fits : IsEnvOf (vars_of proc) (entered proc call)
  unfolding params declareds
  entered_fits = record {
    holds = holds_at (own_vars proc) (entered proc call).held all_hold;
    found = subst (λ n. slice_get (own_vars proc) n ≡ Some (fixed int)) found_place (last_at (params ++ declareds) (fixed int));
  }
