-- Statements that ask one predicate.
use Rattle.std.proofs.Common.{◌≡◌, ◌<◌, ℕ, List, [], ◌∷◌, ◌++◌, Result, Ok, Err, OnOk, OnErr, All, length, refl, sym, ap, subst, ◌∙◌}
use Rattle.std.specs.Prelude.{IfOk}
use Rattle.mv_values.specs.declared.pred.Pred.{Pred}
use Rattle.mv_values.specs.declared.pred.Test.{Test}
use Rattle.mv_values.specs.declared.calls.End.{End}
use Rattle.mv_values.specs.declared.schema.TableInfo.{TableInfo}
use Rattle.mv_values.specs.Tables.{key_columns}
use Rattle.mv_catalog.specs.declared.resolved.RCond.{RCond}
use Rattle.mv_eval.specs.declared.state.Env.{Env}
use Rattle.mv_eval.specs.declared.state.Stop.{Stop}
use Rattle.mv_eval.specs.declared.state.Stop.TheVariants.{Memory, Ended}
use Rattle.mv_eval.specs.Results.{Fails, then_do}
use Rattle.mv_eval.specs.Rows.{tests_of, IsPlaced}
use Rattle.mv_log.specs.Logged.{Logged, no_effect}
use Rattle.mv_record.specs.declared.effect.Effect.{Effect}
use Rattle.mv_record.specs.declared.record.Slot.{Slot}
use Rattle.mv_recorded.specs.Asking.{KnowsKey, pred_of}
use Rattle.mv_recorded.specs.Effects.{asks, only_asks, only_end}
use Rattle.mv_effect.specs.Asking.{asked, asking, AsksOne, all_once, with_columns}
use Rattle.mv_effect.specs.Logging.{IsBlank, with_sets, without_effect}
use Rattle.mv_effect.specs.Stops.{EndsBy, leaving}
use Rattle.mv_effect.proofs.Columns.{all_are, all_then}
use Rattle.mv_effect.proofs.Checking.{asking_only}
use Rattle.mv_effect.proofs.Ends.{taken_back}

-- what a step leaves, and its result
pub on_leaving : {A B : Type 0} (P : B → Type 0) (r : Result A Stop) (x : B) → IfOk (leaving r x) P → OnOk r (P x)
on_leaving P (Ok a) x h = h
on_leaving P (Err s) x h = tt

-- where a right side of WHERE is stopped nothing is asked
pub unasked_tests : (tables : List TableInfo) (t : ℕ) (conds : List RCond) (cs : List ℕ) (env : Env) (stop : Stop) → Fails stop (tests_of (key_columns tables t) conds env) → Fails stop (asks tables t conds cs env)
unasked_tests tables t conds cs env Memory h = tt
unasked_tests tables t conds cs env (Ended e) h = ap (λ (r : Result (List Test) End). then_do r (λ tests. Ok (pred_of t tests cs))) h

-- the log that the predicate was pushed to, after its tests and its columns
pub pushed : (tables : List TableInfo) (t : ℕ) (conds : List RCond) (cs : List ℕ) (env : Env) (old tested columned new : Logged) → IsBlank old → tests_of (key_columns tables t) conds env ≡ Ok tested.tests → tested ≡ record old { tests = tested.tests }
    → columned ≡ with_columns tested (all_once tested.columns cs) → new ≡ asking columned (record { table = t; tests = columned.tests; columns = columned.columns }) → new ≡ asking old (pred_of t tested.tests cs)
pushed tables t conds cs env old tested columned new blank gives is more so =
    so
    ∙ (ap (λ (l : Logged). asking l (record { table = t; tests = l.tests; columns = l.columns })) more
    ∙ (ap (λ (l : Logged). asking l (record { table = t; tests = tested.tests; columns = all_once l.columns cs })) is
    ∙ ap (λ (l : List ℕ). asking old (record { table = t; tests = tested.tests; columns = l })) (ap (λ l. all_once l cs) blank.columns ∙ all_are cs)))

pub pushed_asks : (tables : List TableInfo) (t : ℕ) (conds : List RCond) (cs : List ℕ) (env : Env) (tests : List Test) (old new : Logged) → tests_of (key_columns tables t) conds env ≡ Ok tests → new ≡ asking old (pred_of t tests cs)
    → asks tables t conds cs env ≡ Ok (asked new)
pushed_asks tables t conds cs env tests old new gives is = ap (λ (r : Result (List Test) End). then_do r (λ tests. Ok (pred_of t tests cs))) gives ∙ ap (λ (l : Logged). Ok (asked l)) (sym is)

pub pushed_one : (old new : Logged) (pred : Pred) → new ≡ asking old pred → AsksOne new
pushed_one old new pred is = subst AsksOne (sym is) (record { effect = refl; tests = refl; columns = refl })

pub pushed_rest : (old new : Logged) (pred : Pred) → IsBlank old → new ≡ asking old pred → new ≡ record old { effect = new.effect }
pushed_rest old new pred blank is =
    is
    ∙ (ap (λ l. record old { effect = only_asks pred; tests = l; columns = [] }) (sym blank.tests)
    ∙ (ap (λ l. record old { effect = only_asks pred; columns = l }) (sym blank.columns) ∙ ap (λ e. record old { effect = e }) (sym (ap (λ (l : Logged). l.effect) is))))

pub pushed_knows : (tables : List TableInfo) (t : ℕ) (cs : List ℕ) (tests : List Test) (old new : Logged) → t < length tables → All (IsPlaced (key_columns tables t)) tests → new ≡ asking old (pred_of t tests cs) → KnowsKey tables (asked new)
pushed_knows tables t cs tests old new there places is = subst (λ (l : Logged). KnowsKey tables (asked l)) (sym is) (record { table = there; places = places })

-- the open effect still has nothing while tests and columns are added
pub still_nothing : (old tested columned : Logged) (cs : List ℕ) → IsBlank old → tested ≡ record old { tests = tested.tests } → columned ≡ with_columns tested cs → columned.effect ≡ no_effect
still_nothing old tested columned cs blank is more = ap (λ (l : Logged). l.effect) more ∙ (ap (λ (l : Logged). l.effect) is ∙ blank.effect)

-- without its open effect it is as before
pub tests_alone : (old tested : Logged) → tested ≡ record old { tests = tested.tests } → without_effect tested ≡ without_effect old
tests_alone old tested is = ap without_effect is

pub columns_alone : (old columned : Logged) (cs : List ℕ) → columned ≡ with_columns old cs → without_effect columned ≡ without_effect old
columns_alone old columned cs is = ap without_effect is

-- a statement that is stopped while it asks
pub ends_after : (stop : Stop) (old mid new : Logged) → IsBlank old → without_effect mid ≡ without_effect old → EndsBy [] stop (without_effect mid) new → EndsBy [] stop old new
ends_after stop old mid new blank is ends = subst (λ (l : Logged). EndsBy [] stop l new) (taken_back old mid (without_effect mid) blank is refl) ends

-- what it asked, and what it sets behind
pub sets_asked : (log : Logged) (slots : List Slot) → AsksOne log → with_sets log slots ≡ record log { effect = (let so : Effect = only_asks (asked log) in record so { sets = slots }) }
sets_asked log slots one = ap (λ (e : Effect). record log { effect = record e { sets = slots } }) one.effect

-- where only the open effect changed, twice
pub effect_alone_then : (old mid new : Logged) (e : Effect) → mid ≡ record old { effect = mid.effect } → new ≡ record mid { effect = e } → new ≡ record old { effect = new.effect }
effect_alone_then old mid new e rest is = is ∙ (ap (λ (l : Logged). record l { effect = e }) rest ∙ ap (λ f. record old { effect = f }) (sym (ap (λ (l : Logged). l.effect) is)))

pub without_alone : (old mid : Logged) → mid ≡ record old { effect = mid.effect } → without_effect mid ≡ without_effect old
without_alone old mid is = ap without_effect is

pub ended_rest : (stop : Stop) (old mid new : Logged) → IsBlank old → without_effect mid ≡ without_effect old → EndsBy [] stop (without_effect mid) new → new ≡ record old { effect = new.effect }
ended_rest Memory old mid new blank is ends = absurd ends
ended_rest (Ended e) old mid new blank is ends =
    ends
    ∙ (ap (λ (l : Logged). record l { effect = only_end [] e }) (taken_back old mid (without_effect mid) blank is refl) ∙ ap (λ f. record old { effect = f }) (sym (ap (λ (l : Logged). l.effect) ends)))

pub err_then : {A E : Type 0} (r : Result A E) (old mid new : Logged) → OnErr r (without_effect new ≡ without_effect mid) → without_effect mid ≡ without_effect old → OnErr r (without_effect new ≡ without_effect old)
err_then (Ok x) old mid new h is = tt
err_then (Err e) old mid new h is = h ∙ is

-- the log asks one predicate alone
pub asks_alone : (log : Logged) → AsksOne log → log ≡ asking_only log (asked log ∷ [])
asks_alone log one = ap (λ (e : Effect). record log { effect = e }) one.effect

-- what holds anyway holds where a step fails
pub in_error : {A E P : Type 0} (r : Result A E) → P → OnErr r P
in_error (Ok x) h = tt
in_error (Err e) h = h

-- columns that were added, and then more of them
pub columns_then : (old mid new : Logged) (xs ys : List ℕ) → mid ≡ with_columns old (all_once old.columns xs) → new ≡ with_columns mid (all_once mid.columns ys) → new ≡ with_columns old (all_once old.columns (xs ++ ys))
columns_then old mid new xs ys first last = last ∙ (ap (λ (l : Logged). with_columns l (all_once l.columns ys)) first ∙ ap (λ cs. with_columns old cs) (all_then old.columns xs ys))
