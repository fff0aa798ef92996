-- Statements that are stopped, and what these have asked.
use Rattle.std.proofs.Common.{◌≡◌, ℕ, ℤ, Bool, List, [], ◌∷◌, Option, Result, Ok, Err, OnOk, sym, ap, subst, ◌∙◌}
use Rattle.std.specs.Result.{result_err}
use Rattle.mv_values.specs.declared.memory.NoMemory.{NoMemory}
use Rattle.mv_values.specs.declared.patch.Write.{Write}
use Rattle.mv_values.specs.declared.value.Value.{Value}
use Rattle.mv_values.specs.declared.rows.Keyed.{Keyed}
use Rattle.mv_values.specs.declared.schema.TableInfo.{TableInfo}
use Rattle.mv_values.specs.declared.pred.Pred.{Pred}
use Rattle.mv_values.specs.declared.calls.End.{End}
use Rattle.mv_values.specs.Columns.{number}
use Rattle.mv_catalog.specs.declared.resolved.RCond.{RCond}
use Rattle.mv_catalog.specs.declared.resolved.RExpr.{RExpr}
use Rattle.mv_catalog.specs.declared.resolved.RSort.{RSort}
use Rattle.mv_catalog.specs.declared.resolved.RStmt.TheOpen.{Select}
use Rattle.mv_eval.specs.declared.state.Env.{Env}
use Rattle.mv_eval.specs.declared.state.Stop.{Stop}
use Rattle.mv_eval.specs.declared.state.Stop.TheVariants.{Memory, Ended}
use Rattle.mv_eval.specs.Results.{Fails, then_do}
use Rattle.mv_eval.specs.Alone.{offset_of}
use Rattle.mv_log.specs.Logged.{Logged}
use Rattle.mv_record.specs.declared.effect.Effect.{Effect}
use Rattle.mv_effect.specs.Logging.{IsBlank, without_effect}
use Rattle.mv_effect.specs.Stops.{EndsBy, GivesOrEnds}
use Rattle.mv_recorded.specs.Asking.{on, with_sorts}
use Rattle.mv_recorded.specs.Effects.{IsEffect, asks, effect_after, effect_of_writes, effect_unless, pred_with, row_number, only_end}
use Rattle.mv_recorded.proofs.Chosen.{select_unasked}

-- a statement goes on with a value
pub goes_on : {A : Type 0} (pred : Pred) (meant : Result A End) (go : A → Effect) (x : A) (old new made : Logged) (r : Result (Unit {0}) NoMemory)
    → meant ≡ Ok x → OnOk r (new ≡ made) → made ≡ record old { effect = go x } → OnOk r (new ≡ record old { effect = effect_after pred meant go })
goes_on pred meant go x old new made (Err n) is h same = tt
goes_on pred meant go x old new made (Ok u) is h same = h ∙ (same ∙ sym (ap (λ m. record old { effect = effect_after pred m go }) is))

-- it ends where there is none
pub ends_there : {A : Type 0} (pred : Pred) (meant : Result A End) (go : A → Effect) (so : Effect) (old asked new : Logged) (stop : Stop) (r : Result (Unit {0}) NoMemory)
    → asked ≡ record old { effect = so } → so.preds ≡ pred ∷ [] → OnOk r (EndsBy asked.effect.preds stop asked new) → Fails stop meant → OnOk r (new ≡ record old { effect = effect_after pred meant go })
ends_there pred meant go so old asked new stop (Err n) is has ends h = tt
ends_there pred meant go so old asked new Memory (Ok u) is has ends h = absurd ends
ends_there pred meant go so old asked new (Ended d) (Ok u) is has ends h =
    ends
    ∙ (ap (λ (l : Logged). record l { effect = only_end l.effect.preds d }) is
    ∙ (ap (λ ps. record old { effect = only_end ps d }) has ∙ sym (ap (λ m. record old { effect = effect_after pred m go }) h)))

-- an UPDATE that asks for no parent
pub plain_after : (pred : Pred) (r : Result (List Write) End) (o : Option End) (ps : List Pred) (found : Bool) (env : Env) → ps ≡ [] → o ≡ result_err r
    → effect_after pred r (λ ws. effect_of_writes (pred ∷ []) found ws env) ≡ effect_unless o (pred ∷ ps) found (on r (λ ws. ws)) env
plain_after pred (Ok ws) o ps found env none is = ap (λ qs. effect_of_writes (pred ∷ qs) found ws env) (sym none) ∙ ap (λ u. effect_unless u (pred ∷ ps) found ws env) (sym is)
plain_after pred (Err e) o ps found env none is = ap (λ qs. only_end (pred ∷ qs) e) (sym none) ∙ ap (λ u. effect_unless u (pred ∷ ps) found [] env) (sym is)

-- where WHERE is stopped it ends so
pub unasked : (r : Result Pred End) (o : Result ℤ End) (stop : Stop) → Fails stop r → GivesOrEnds {A = Pred × ℤ} (Err stop) (pred_with r o)
unasked r o Memory h = tt
unasked r o (Ended d) h = ap (λ q. pred_with q o) h

-- where OFFSET is stopped too
pub row_unasked : (r : Result Pred End) (pred : Pred) (offset : Option RExpr) (env : Env) (stop : Stop) → r ≡ Ok pred → Fails stop (offset_of offset env) → GivesOrEnds {A = Pred × ℤ} (Err stop) (pred_with r (row_number offset env))
row_unasked r pred offset env Memory is h = tt
row_unasked r pred offset env (Ended d) is h =
    ap (λ q. pred_with q (row_number offset env)) is ∙ ap (λ (o : Result Value End). pred_with (Ok pred) (then_do o (λ v. Ok (number v)))) h

-- a statement that is stopped before it asked anything
pub ends_unasked : (stop : Stop) (old new : Logged) → IsBlank old → EndsBy old.effect.preds stop old new → EndsBy [] stop old new
ends_unasked Memory old new blank h = h
ends_unasked (Ended d) old new blank h = h ∙ ap (λ (e : Effect). record old { effect = only_end e.preds d }) blank.effect

-- a SELECT that is stopped before it asks
pub select_ends : (tables : List TableInfo) (cs xs : List ℕ) (t : ℕ) (conds : List RCond) (sorts : List RSort) (offset : Option RExpr) (env : Env) (db : List (List Keyed)) (stop : Stop) (old new : Logged)
    → GivesOrEnds {A = Pred × ℤ} (Err stop) (pred_with (asks tables t conds (with_sorts cs sorts) env) (row_number offset env)) → EndsBy [] stop old new → IsEffect tables (Select cs xs t conds sorts offset) env db new.effect
select_ends tables cs xs t conds sorts offset env db Memory old new h ends = absurd ends
select_ends tables cs xs t conds sorts offset env db (Ended d) old new h ends =
    subst (IsEffect tables (Select cs xs t conds sorts offset) env db) (sym (ap (λ (l : Logged). l.effect) ends)) (select_unasked tables cs xs t conds sorts offset env db (only_end [] d) (sym h))

-- where only the open effect changed
pub effect_alone : (old new : Logged) (e : Effect) → new ≡ record old { effect = e } → new ≡ record old { effect = new.effect }
effect_alone old new e is = is ∙ ap (λ f. record old { effect = f }) (sym (ap (λ (l : Logged). l.effect) is))

-- without its open effect the log is as before
pub taken_back : (old mid new : Logged) → IsBlank old → without_effect mid ≡ without_effect old → new ≡ without_effect mid → new ≡ old
taken_back old mid new blank is so =
    so
    ∙ (is
    ∙ (ap (λ e. record old { effect = e; tests = []; columns = [] }) (sym blank.effect) ∙ (ap (λ l. record old { tests = l; columns = [] }) (sym blank.tests) ∙ ap (λ l. record old { columns = l }) (sym blank.columns))))
