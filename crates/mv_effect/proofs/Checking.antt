-- Checks that are run one after another, up to the first that fails.
use Rattle.std.proofs.Common.{◌≡◌, ◌≤◌, ◌+◌, ◌*◌, ℕ, Bool, List, [], ◌∷◌, ◌++◌, Option, Some, None, length, refl, sym, ap, subst, ◌∙◌, arith, append_assoc, append-nil, length-append, add-mul}
use Rattle.std.specs.Option.{option_or}
use Rattle.mv_values.specs.declared.patch.Write.{Write}
use Rattle.mv_values.specs.declared.pred.Pred.{Pred}
use Rattle.mv_values.specs.declared.calls.End.{End}
use Rattle.mv_values.specs.declared.schema.TableInfo.{TableInfo}
use Rattle.mv_values.specs.Patching.{applied}
use Rattle.mv_values.specs.Tables.{Tables}
use Rattle.mv_catalog.specs.declared.resolved.RStmt.{RStmt}
use Rattle.mv_catalog.specs.declared.resolved.RStmt.TheOpen.{RStmt-F}
use Rattle.mv_eval.specs.declared.state.Env.{Env}
use Rattle.mv_eval.specs.Env.{with_found}
use Rattle.mv_record.specs.declared.effect.Effect.{Effect}
use Rattle.mv_recorded.specs.Asking.{Check, fault_of, first_fault, asked_in, if_none, preds_up_to}
use Rattle.mv_recorded.specs.Effects.{IsEffect, only_end, effect_unless, slots_behind}
use Rattle.mv_log.specs.Logged.{Logged, no_effect}
use Rattle.mv_view.specs.Viewing.{Sight}
use Rattle.mv_effect.specs.Logging.{IsBlank, with_preds, with_sets, with_writes}
use Rattle.mv_effect.specs.Looking.{IsSameView, WasNeverStale, AskedBy, AskedFor, different}
use Rattle.mv_effect.proofs.Asked.{asked_by}
use Rattle.mv_effect.proofs.OwnKeys.{same_then, never_then}

-- What was run so far

-- of these checks some are left; those before them passed, and their predicates were asked and added
pub record HasPassed (cs rest : List Check) (db : Tables) (ws : List Write) (old now : Logged) (before after : Sight) : Type 0 where
  pub same : IsSameView before after
  pub stale : WasNeverStale before after
  pub log : now ≡ with_preds old now.effect.preds
  pub fault : first_fault rest db ≡ first_fault cs db
  pub preds : now.effect.preds ++ preds_up_to rest db ≡ old.effect.preds ++ preds_up_to cs db
  pub for_rows : after.rows_calls + length (preds_up_to rest db) ≤ before.rows_calls + length (preds_up_to cs db)
  pub for_row : after.row_calls + length (preds_up_to rest db) * different ws ≤ before.row_calls + length (preds_up_to cs db) * different ws

pub none_passed : (cs : List Check) (db : Tables) (ws : List Write) (log : Logged) (at : Sight) → HasPassed cs cs db ws log log at at
none_passed cs db ws log at = record {
  same = record { database = refl; start = refl; may_be_stale = refl };
  stale = record { answers = refl; last_low = refl };
  log = refl;
  fault = refl;
  preds = refl;
  for_rows = omega arith;
  for_row = omega arith;
}

-- the predicates of a check that passes, and of those after it
asked_then : (c : Check) (rest : List Check) (db : Tables) → fault_of c db ≡ None → preds_up_to (c ∷ rest) db ≡ asked_in c ++ preds_up_to rest db
asked_then c rest db none = ap (λ o. asked_in c ++ if_none o (preds_up_to rest db)) none

asked_last : (c : Check) (rest : List Check) (db : Tables) (e : End) → fault_of c db ≡ Some e → preds_up_to (c ∷ rest) db ≡ asked_in c
asked_last c rest db e some = ap (λ o. asked_in c ++ if_none o (preds_up_to rest db)) some ∙ append-nil (asked_in c)

with_preds_twice : (old now : Logged) (ps : List Pred) → now ≡ with_preds old now.effect.preds → with_preds now ps ≡ with_preds old ps
with_preds_twice old now ps is = ap (λ (l : Logged). with_preds l ps) is

preds_of_with : (now next : Logged) (ps : List Pred) → next ≡ with_preds now ps → next.effect.preds ≡ ps
preds_of_with now next ps is = ap (λ (l : Logged). l.effect.preds) is

-- one check more passes
pub one_passed : (cs : List Check) (c : Check) (rest : List Check) (db : Tables) (ws : List Write) (old now next : Logged) (before at after : Sight) → HasPassed cs (c ∷ rest) db ws old now before at → fault_of c db ≡ None
    → next ≡ with_preds now (now.effect.preds ++ asked_in c) → IsSameView at after → WasNeverStale at after → AskedFor (asked_in c) ws at after → HasPassed cs rest db ws old next before after
one_passed cs c rest db ws old now next before at after h none is same stale asked =
    let d : ℕ = different ws in
    let whole : preds_up_to (c ∷ rest) db ≡ asked_in c ++ preds_up_to rest db = asked_then c rest db none in
    let has : next.effect.preds ≡ now.effect.preds ++ asked_in c = preds_of_with now next (now.effect.preds ++ asked_in c) is in
    let long : length (preds_up_to (c ∷ rest) db) ≡ length (asked_in c) + length (preds_up_to rest db) = ap length whole ∙ length-append (asked_in c) (preds_up_to rest db) in
    let times : length (preds_up_to (c ∷ rest) db) * d ≡ length (asked_in c) * d + length (preds_up_to rest db) * d = ap (λ n. n * d) long ∙ add-mul (length (asked_in c)) (length (preds_up_to rest db)) d in
    record {
      same = same_then before at after h.same same;
      stale = never_then before at after h.stale stale;
      log = is ∙ (with_preds_twice old now (now.effect.preds ++ asked_in c) h.log ∙ ap (with_preds old) (sym has));
      fault = sym (ap (λ o. option_or o (first_fault rest db)) none) ∙ h.fault;
      preds =
          ap (λ ps. ps ++ preds_up_to rest db) has
          ∙ (append_assoc now.effect.preds (asked_in c) (preds_up_to rest db) ∙ (ap (λ ps. now.effect.preds ++ ps) (sym whole) ∙ h.preds));
      for_rows = omega (arith, h.for_rows, long, asked.for_rows);
      for_row = omega (arith, h.for_row, times, asked.for_row);
    }

-- Where it ends

-- no check is left
pub all_fault : (cs : List Check) (db : Tables) (ws : List Write) (old now : Logged) (before after : Sight) → HasPassed cs [] db ws old now before after → None ≡ first_fault cs db
all_fault cs db ws old now before after h = h.fault

pub all_asked : (cs : List Check) (db : Tables) (ws : List Write) (old now : Logged) (before after : Sight) → HasPassed cs [] db ws old now before after → now ≡ with_preds old (old.effect.preds ++ preds_up_to cs db)
all_asked cs db ws old now before after h = h.log ∙ ap (with_preds old) (sym (append-nil now.effect.preds) ∙ h.preds)

pub all_looked : (cs : List Check) (db : Tables) (ws : List Write) (old now : Logged) (before after : Sight) → HasPassed cs [] db ws old now before after → AskedFor (preds_up_to cs db) ws before after
all_looked cs db ws old now before after h = record { for_rows = omega (arith, h.for_rows); for_row = omega (arith, h.for_row) }

-- a check fails
pub one_fault : (cs : List Check) (c : Check) (rest : List Check) (db : Tables) (ws : List Write) (old now : Logged) (before after : Sight) (e : End) → HasPassed cs (c ∷ rest) db ws old now before after → fault_of c db ≡ Some e
    → Some e ≡ first_fault cs db
one_fault cs c rest db ws old now before after e h some = sym (ap (λ o. option_or o (first_fault rest db)) some) ∙ h.fault

pub one_asked : (cs : List Check) (c : Check) (rest : List Check) (db : Tables) (ws : List Write) (old now next : Logged) (before after : Sight) (e : End) → HasPassed cs (c ∷ rest) db ws old now before after → fault_of c db ≡ Some e
    → next ≡ with_preds now (now.effect.preds ++ asked_in c) → next ≡ with_preds old (old.effect.preds ++ preds_up_to cs db)
one_asked cs c rest db ws old now next before after e h some is =
    is
    ∙ (with_preds_twice old now (now.effect.preds ++ asked_in c) h.log
    ∙ ap (with_preds old) (ap (λ ps. now.effect.preds ++ ps) (sym (asked_last c rest db e some)) ∙ h.preds))

-- no more was asked than the predicates of all, whatever becomes of the next check
pub one_looked : (cs : List Check) (c : Check) (rest : List Check) (db : Tables) (ws : List Write) (old now : Logged) (before at after : Sight) → HasPassed cs (c ∷ rest) db ws old now before at → AskedFor (asked_in c) ws at after
    → AskedFor (preds_up_to cs db) ws before after
one_looked cs c rest db ws old now before at after h asked =
    let d : ℕ = different ws in
    let later : List Pred = if_none (fault_of c db) (preds_up_to rest db) in
    let long : length (preds_up_to (c ∷ rest) db) ≡ length (asked_in c) + length later = length-append (asked_in c) later in
    let times : length (preds_up_to (c ∷ rest) db) * d ≡ length (asked_in c) * d + length later * d = ap (λ n. n * d) long ∙ add-mul (length (asked_in c)) (length later) d in
    record { for_rows = omega (arith, h.for_rows, long, asked.for_rows); for_row = omega (arith, h.for_row, times, asked.for_row) }

-- No checks

pub none_fault : (cs : List Check) (db : Tables) → cs ≡ [] → None ≡ first_fault cs db
none_fault cs db none = ap (λ l. first_fault l db) (sym none)

pub none_added : (cs : List Check) (db : Tables) (log : Logged) → cs ≡ [] → log ≡ with_preds log (log.effect.preds ++ preds_up_to cs db)
none_added cs db log none = ap (with_preds log) (sym (append-nil log.effect.preds) ∙ ap (λ l. log.effect.preds ++ preds_up_to l db) (sym none))

-- The effect of a statement behind its checks

-- the log with these as all that its open effect has
abbrev pub asking_only : Logged → List Pred → Logged
asking_only log preds = let none : Effect = no_effect in record log { effect = record none { preds = preds } }

pub asks_nothing : (log : Logged) → IsBlank log → log ≡ asking_only log []
asks_nothing log blank = ap (λ (e : Effect). record log { effect = e }) blank.effect

asked_all : (first old mid : Logged) (ps : List Pred) (cs : List Check) (db : Tables) → old ≡ asking_only first ps → mid ≡ with_preds old (old.effect.preds ++ preds_up_to cs db) → mid ≡ asking_only first (ps ++ preds_up_to cs db)
asked_all first old mid ps cs db begins is = is ∙ ap (λ (l : Logged). with_preds l (l.effect.preds ++ preds_up_to cs db)) begins

-- it only ends where a check failed
pub checked_ends : (first old mid new : Logged) (ps : List Pred) (cs : List Check) (db : Tables) (e : End) (found : Bool) (ws : List Write) (env : Env) → old ≡ asking_only first ps → mid ≡ with_preds old (old.effect.preds ++ preds_up_to cs db)
    → Some e ≡ first_fault cs db → new ≡ record mid { effect = only_end mid.effect.preds e } → new ≡ record first { effect = effect_unless (first_fault cs db) (ps ++ preds_up_to cs db) found ws env }
checked_ends first old mid new ps cs db e found ws env begins is fault ends =
    ends
    ∙ (ap (λ (l : Logged). record l { effect = only_end l.effect.preds e }) (asked_all first old mid ps cs db begins is)
    ∙ ap (λ o. record first { effect = effect_unless o (ps ++ preds_up_to cs db) found ws env }) fault)

-- and goes on where all passed
pub checked_passes : (first old mid new : Logged) (ps : List Pred) (cs : List Check) (db : Tables) (found : Bool) (ws : List Write) (env : Env) → old ≡ asking_only first ps → mid ≡ with_preds old (old.effect.preds ++ preds_up_to cs db)
    → None ≡ first_fault cs db → new ≡ with_sets (with_writes mid ws) (slots_behind (with_found env found) (env.found ∷ [])) → new ≡ record first { effect = effect_unless (first_fault cs db) (ps ++ preds_up_to cs db) found ws env }
checked_passes first old mid new ps cs db found ws env begins is fault goes =
    goes
    ∙ (ap (λ (l : Logged). with_sets (with_writes l ws) (slots_behind (with_found env found) (env.found ∷ []))) (asked_all first old mid ps cs db begins is)
    ∙ ap (λ o. record first { effect = effect_unless o (ps ++ preds_up_to cs db) found ws env }) fault)

-- before it writes, its open effect has no writes and sets nothing
pub no_writes : (first old mid : Logged) (ps : List Pred) (cs : List Check) (db : Tables) → old ≡ asking_only first ps → mid ≡ with_preds old (old.effect.preds ++ preds_up_to cs db) → mid.effect.writes ≡ []
no_writes first old mid ps cs db begins is = ap (λ (l : Logged). l.effect.writes) (asked_all first old mid ps cs db begins is)

pub no_sets : (first old mid : Logged) (ps : List Pred) (cs : List Check) (db : Tables) → old ≡ asking_only first ps → mid ≡ with_preds old (old.effect.preds ++ preds_up_to cs db) → mid.effect.sets ≡ []
no_sets first old mid ps cs db begins is = ap (λ (l : Logged). l.effect.sets) (asked_all first old mid ps cs db begins is)

pub unless_preds : (o : Option End) (ps : List Pred) (found : Bool) (ws : List Write) (env : Env) → (effect_unless o ps found ws env).preds ≡ ps
unless_preds None ps found ws env = refl
unless_preds (Some e) ps found ws env = refl

-- a statement that ends where a check fails
pub asked_unless : (tables : List TableInfo) (s : RStmt-F RStmt) (env : Env) (ws : List Write) (before after : Sight) (o : Option End) (ps : List Pred) (found : Bool) (vs : List Write)
    → IsEffect tables s env (applied ws before.database) (effect_unless o ps found vs env) → AskedFor ps ws before after → AskedBy tables s env ws before after
asked_unless tables s env ws before after o ps found vs is h =
    asked_by tables s env ws before after (effect_unless o ps found vs env) is (subst (λ qs. AskedFor qs ws before after) (sym (unless_preds o ps found vs env)) h)
