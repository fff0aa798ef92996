-- A law of runs that holds of each statement itself, and of one run after another, holds of full runs.
use Rattle.std.proofs.Common.{◌≡◌, ℕ, ◌+◌, Bool, true, false, List, [], ◌∷◌, ◌++◌, Result, Ok, Err, map, length, if◌then◌else◌, refl, sym, ap, subst, append-nil}
use Rattle.mv_values.specs.Tables.{key_columns}
use Rattle.mv_values.specs.declared.pred.Test.{Test}
use Rattle.mv_values.specs.declared.value.Value.{Value}
use Rattle.mv_values.specs.declared.schema.TableInfo.{TableInfo}
use Rattle.mv_values.specs.declared.calls.End.{End}
use Rattle.mv_catalog.specs.declared.resolved.RStmt.{RStmt, roll-RStmt, map-RStmt, ind-RStmt, fold-roll-RStmt, para-roll-RStmt}
use Rattle.mv_catalog.specs.declared.resolved.RStmt.TheOpen.{RStmt-F, Assign, Select, Total, ForSelect, ForRows, Branch, Insert, Update, Delete, Print, Rollback}
use Rattle.mv_eval.specs.declared.state.Env.{Env}
use Rattle.mv_eval.specs.declared.state.State.{State}
use Rattle.mv_eval.specs.declared.state.Content.TheVariants.{Turn}
use Rattle.mv_eval.specs.Results.{then_do}
use Rattle.mv_eval.specs.Env.{with_found, with_held, turns_at}
use Rattle.mv_eval.specs.Value.{value_of, is_so}
use Rattle.mv_eval.specs.Rows.{tests_of}
use Rattle.mv_eval.specs.Alone.{Does, alone, does, stmt_step, each_turn, loop_over, fixed, matching_in, is_turn}
use Rattle.mv_record.specs.declared.record.Record.{Record}
use Rattle.mv_recorded.specs.Asking.{on}
use Rattle.mv_recorded.specs.Doing.{itself, before_turns}
use Rattle.mv_catalog.specs.Statements.{size}
use Rattle.mv_recorded.specs.Recorded.{Recorder, Site, tell, tell_step, tell_turns, tell_loop, own_record, in_turn, within_loop, tell_statements}

pub firsts : {B : Type 0} (f : RStmt → B) (ss : List RStmt) → map (λ (s : RStmt × B). s.0) (map (λ s. (s, f s)) ss) ≡ ss
firsts f [] = refl
firsts f (s ∷ ss) = ap (λ l. s ∷ l) (firsts f ss)

-- what may be said of a run: the state that it began with, its records, and the state or the end that it came to
abbrev pub Claim : Type 1
Claim = State → List Record → Result State End → Type 0

pub record IsLaw (R : Claim) : Type 0 where
  pub none : (st : State) → R st [] (Ok st)
  pub more : (st next : State) (rs ss : List Record) (out : Result State End) → R st rs (Ok next) → R next ss out → R st (rs ++ ss) out
  pub enters : (st : State) (env : Env) (rs : List Record) (out : Result State End) → R (record st { env = env }) rs out → R st rs out
  pub own : (tables : List TableInfo) (params : ℕ) (y : RStmt-F (RStmt × Recorder)) (n : ℕ) (site : Site) (before : List Record) (st : State)
      → R st (own_record tables params y n site before st ∷ []) (itself tables y st)

-- the law holds of what is told of a statement
abbrev pub Follows : Claim → Recorder → Does → Type 0
Follows R tells body = (n : ℕ) (site : Site) (before : List Record) (st : State) → R st (tells n site before st) (body st)

then_follows : (R : Claim) → IsLaw R → (st : State) (rs : List Record) (out : Result State End) (go : State → List Record) (next : Does)
    → R st rs out → ((s : State) → R s (go s) (next s)) → R st (rs ++ on out go) (then_do out next)
then_follows R law st rs (Ok s) go next h k = law.more st s rs (go s) (next s) h (k s)
then_follows R law st rs (Err e) go next h k = subst (λ ss. R st ss (Err e)) (sym (append-nil rs)) h

turns_follow : (R : Claim) → IsLaw R → (x : ℕ) (body : Does) (tells : Recorder) → Follows R tells body → (rows : List (List Value)) (k : ℕ)
    → Follows R (tell_turns x body tells rows k) (each_turn x body rows)
turns_follow R law x body tells h [] k n site before st = law.none st
turns_follow R law x body tells h (row ∷ rows) k n site before st =
    let next : State = record st { env = with_held st.env x (Turn row) } in
    let these : List Record = tells n (in_turn k site) before next in
    law.enters st (with_held st.env x (Turn row)) (these ++ on (body next) (tell_turns x body tells rows (k + 1) n site (before ++ these))) (then_do (body next) (each_turn x body rows))
    (then_follows R law next these (body next) (tell_turns x body tells rows (k + 1) n site (before ++ these)) (each_turn x body rows)
    (h n (in_turn k site) before next) (turns_follow R law x body tells h rows (k + 1) n site (before ++ these)))

-- the turns of a loop behind its own record
loop_follows : (R : Claim) → IsLaw R → (x : ℕ) (body : Does) (tells : Recorder) → Follows R tells body → (rows : List (List Value)) (own : Record) (n : ℕ) (site : Site) (before : List Record) (st : State)
    → R st (own ∷ []) (Ok (record st { env = with_found st.env (is_turn rows) })) → R st (own ∷ tell_loop x body tells rows n site before st) (loop_over x body rows st)
loop_follows R law x body tells h rows own n site before st k =
    let next : State = record st { env = with_found st.env (is_turn rows) } in
    law.more st next (own ∷ []) (tell_turns x body tells rows 1 n site before next) (each_turn x body rows next) k (turns_follow R law x body tells h rows 1 n site before next)

fixed_follow : (R : Claim) → IsLaw R → (x : ℕ) (body : Does) (tells : Recorder) → Follows R tells body → (tests : Result (List Test) End) (rows : List Test → List (List Value))
    → (own : Record) (n : ℕ) (site : Site) (before : List Record) (st : State)
    → R st (own ∷ []) (before_turns (then_do tests (λ c. Ok (rows c))) st)
    → R st (own ∷ on (then_do tests (λ c. Ok (rows c))) (λ all. tell_loop x body tells all n site before st)) (then_do tests (λ c. loop_over x body (rows c) st))
fixed_follow R law x body tells h (Ok c) rows own n site before st k = loop_follows R law x body tells h (rows c) own n site before st k
fixed_follow R law x body tells h (Err e) rows own n site before st k = k

either_follows : (R : Claim) (b : Bool) (st : State) (rs ss : List Record) (a c : Result State End) → R st rs a → R st ss c → R st (if b then rs else ss) (if b then a else c)
either_follows R true st rs ss a c h k = h
either_follows R false st rs ss a c h k = k

if_follows : (R : Claim) → IsLaw R → (test : Result Value End) (own : Record) (st : State) (ys ns : List Record) (a c : Result State End) → R st ys a → R st ns c
    → R st (own ∷ []) (then_do test (λ v. Ok st)) → R st (own ∷ on test (λ v. if is_so v then ys else ns)) (then_do test (λ v. if is_so v then a else c))
if_follows R law (Ok v) own st ys ns a c h k o =
    law.more st st (own ∷ []) (if is_so v then ys else ns) (if is_so v then a else c) o (either_follows R (is_so v) st ys ns a c h k)
if_follows R law (Err e) own st ys ns a c h k o = o

-- a statement of which the law holds
abbrev Known : Claim → List TableInfo → ℕ → Type 0
Known R tables params = (s : RStmt) × Follows R (tell tables params s) (does tables s)

all_follow : (R : Claim) → IsLaw R → (tables : List TableInfo) (params : ℕ) (known : List (Known R tables params)) → Follows R (tell_statements tables params (map (λ k. k.0) known)) (alone tables (map (λ k. k.0) known))
all_follow R law tables params [] n site before st = law.none st
all_follow R law tables params (k ∷ ks) n site before st =
    let these : List Record = tell tables params k.0 n site before st in
    then_follows R law st these (does tables k.0 st) (tell_statements tables params (map (λ k. k.0) ks) (n + size k.0) site (before ++ these)) (alone tables (map (λ k. k.0) ks))
    (k.1 n site before st) (all_follow R law tables params ks (n + size k.0) site (before ++ these))

-- a statement, with what those that it holds leave
abbrev telling : (R : Claim) (tables : List TableInfo) (params : ℕ) → RStmt-F (Known R tables params) → RStmt-F (RStmt × Recorder)
telling R tables params y = map-RStmt RStmt (RStmt × Recorder) (λ s. (s, tell tables params s)) (map-RStmt (Known R tables params) RStmt (λ k. k.0) y)

pub body_is : (tables : List TableInfo) (params : ℕ) (ss : List RStmt) → alone tables (map (λ (s : RStmt × Recorder). s.0) (map (λ s. (s, tell tables params s)) ss)) ≡ alone tables ss
body_is tables params ss = ap (alone tables) (firsts (tell tables params) ss)

step_follows : (R : Claim) → IsLaw R → (tables : List TableInfo) (params : ℕ) (y : RStmt-F (Known R tables params))
    → Follows R (tell_step tables params (telling R tables params y)) (stmt_step tables (map-RStmt RStmt Does (does tables) (map-RStmt (Known R tables params) RStmt (λ k. k.0) y)))
step_follows R law tables params (Assign x e) n site before st = law.own tables params (Assign x e) n site before st
step_follows R law tables params (Select cs xs t conds sorts offset) n site before st = law.own tables params (Select cs xs t conds sorts offset) n site before st
step_follows R law tables params (Total agg x t conds) n site before st = law.own tables params (Total agg x t conds) n site before st
step_follows R law tables params (ForSelect x once cs t conds sorts body) n site before st =
    let ss : List RStmt = map (λ k. k.0) body in
    let own : Record = own_record tables params (telling R tables params (ForSelect x once cs t conds sorts body)) n site before st in
    subst (λ b. R st (own ∷ on (then_do (tests_of (key_columns tables t) conds st.env) (λ tests. Ok (fixed once cs sorts (matching_in t tests st)))) (λ all. tell_loop x b (tell_statements tables params ss) all (n + 1) (within_loop x (length before) site) (before ++ own ∷ []) st))
    (then_do (tests_of (key_columns tables t) conds st.env) (λ tests. loop_over x (alone tables ss) (fixed once cs sorts (matching_in t tests st)) st))) (sym (body_is tables params ss))
    (fixed_follow R law x (alone tables ss) (tell_statements tables params ss) (all_follow R law tables params body) (tests_of (key_columns tables t) conds st.env) (λ tests. fixed once cs sorts (matching_in t tests st)) own (n + 1) _ _ st
    (law.own tables params (telling R tables params (ForSelect x once cs t conds sorts body)) n site before st))
step_follows R law tables params (ForRows x y body) n site before st =
    let ss : List RStmt = map (λ k. k.0) body in
    let own : Record = own_record tables params (telling R tables params (ForRows x y body)) n site before st in
    subst (λ b. R st (own ∷ tell_loop x b (tell_statements tables params ss) (turns_at st.env y) (n + 1) (within_loop x (length before) site) (before ++ own ∷ []) st)
    (loop_over x (alone tables ss) (turns_at st.env y) st)) (sym (body_is tables params ss))
    (loop_follows R law x (alone tables ss) (tell_statements tables params ss) (all_follow R law tables params body) (turns_at st.env y) own (n + 1) _ _ st
    (law.own tables params (telling R tables params (ForRows x y body)) n site before st))
step_follows R law tables params (Branch e ys ns) n site before st =
    let own : Record = own_record tables params (telling R tables params (Branch e ys ns)) n site before st in
    if_follows R law (value_of e st.env []) own st _ _ _ _ (all_follow R law tables params ys _ _ _ st) (all_follow R law tables params ns _ _ _ st)
    (law.own tables params (telling R tables params (Branch e ys ns)) n site before st)
step_follows R law tables params (Insert t es) n site before st = law.own tables params (Insert t es) n site before st
step_follows R law tables params (Update t items conds) n site before st = law.own tables params (Update t items conds) n site before st
step_follows R law tables params (Delete t conds) n site before st = law.own tables params (Delete t conds) n site before st
step_follows R law tables params (Print es) n site before st = law.own tables params (Print es) n site before st
step_follows R law tables params (Rollback reason) n site before st = law.own tables params (Rollback reason) n site before st

pub statement_follows : (R : Claim) → IsLaw R → (tables : List TableInfo) (params : ℕ) (s : RStmt) → Follows R (tell tables params s) (does tables s)
statement_follows R law tables params = ind-RStmt (λ s. Follows R (tell tables params s) (does tables s)) (λ x y is.
    subst (λ z. Follows R (tell tables params (roll-RStmt z)) (does tables (roll-RStmt z))) is (λ n site before st.
    let z : RStmt-F RStmt = map-RStmt (Known R tables params) RStmt (λ k. k.0) y in
    subst (λ rs. R st rs (does tables (roll-RStmt z) st)) (sym (ap (λ f. f n site before st) (para-roll-RStmt Recorder (tell_step tables params) z)))
    (subst (λ out. R st (tell_step tables params (telling R tables params y) n site before st) out) (sym (ap (λ f. f st) (fold-roll-RStmt Does (stmt_step tables) z)))
    (step_follows R law tables params y n site before st))))

known_firsts : (R : Claim) (law : IsLaw R) (tables : List TableInfo) (params : ℕ) (ss : List RStmt) → map (λ (k : Known R tables params). k.0) (map (λ s. (s, statement_follows R law tables params s)) ss) ≡ ss
known_firsts R law tables params [] = refl
known_firsts R law tables params (s ∷ ss) = ap (λ l. s ∷ l) (known_firsts R law tables params ss)

-- the law holds of a list of statements
pub told_follows : (R : Claim) → IsLaw R → (tables : List TableInfo) (params : ℕ) (ss : List RStmt) → Follows R (tell_statements tables params ss) (alone tables ss)
told_follows R law tables params ss = subst (λ ts. Follows R (tell_statements tables params ts) (alone tables ts)) (known_firsts R law tables params ss)
    (all_follow R law tables params (map (λ s. (s, statement_follows R law tables params s)) ss))
