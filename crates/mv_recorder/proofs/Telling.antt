-- The records of statements and of turns, one after another.
use Rattle.std.proofs.Common.{◌≡◌, ◌<◌, ℕ, ◌+◌, List, ◌++◌, Result, Ok, Err, length, drop, get_or, sym, ap, subst, ◌∙◌, append_assoc, append-nil}
use Rattle.mv_values.specs.declared.value.Value.{Value}
use Rattle.mv_values.specs.declared.schema.TableInfo.{TableInfo}
use Rattle.mv_values.specs.declared.calls.End.{End}
use Rattle.mv_values.specs.Tables.{Tables}
use Rattle.mv_values.proofs.Deciding.{from_place}
use Rattle.mv_catalog.specs.declared.resolved.RStmt.{RStmt}
use Rattle.mv_catalog.specs.Statements.{size}
use Rattle.mv_eval.specs.declared.state.Content.{Content}
use Rattle.mv_eval.specs.declared.state.Env.{Env}
use Rattle.mv_eval.specs.declared.state.State.{State}
use Rattle.mv_eval.specs.declared.state.Content.TheVariants.{Turn}
use Rattle.mv_eval.specs.declared.state.Stop.{Stop}
use Rattle.mv_eval.specs.declared.state.Stop.TheVariants.{Memory, Ended}
use Rattle.mv_eval.specs.Env.{with_held}
use Rattle.mv_eval.specs.Results.{Fails}
use Rattle.mv_eval.specs.Alone.{Does, does}
use Rattle.mv_record.specs.declared.record.Record.{Record}
use Rattle.mv_recorded.specs.Asking.{on}
use Rattle.mv_recorded.specs.Recorded.{Recorder, Site, in_turn, tell, tell_statements, tell_turns}
use Rattle.mv_recorder.specs.Running.{Leave}
use Rattle.mv_recorder.specs.Scenes.{IsSound}

-- records, and after them those of a statement that goes on
goes : (recs these new : List Record) (out : Result State End) (next : State) (go : List Record → State → List Record) → new ≡ recs ++ these → out ≡ Ok next
    → new ++ go new next ≡ recs ++ (these ++ on out (go (recs ++ these)))
goes recs these new out next go is e =
    ap (λ l. l ++ go l next) is ∙ (append_assoc recs these (go (recs ++ these) next) ∙ ap (λ o. recs ++ (these ++ on o (go (recs ++ these)))) (sym e))

-- and those of one that doesn't
ends : (recs these new : List Record) (out : Result State End) (stop : Stop) (go : State → List Record) → Leave {A = Unit {0}} (Err stop) new (recs ++ these) → Fails stop out
    → Leave {A = Unit {0}} (Err stop) new (recs ++ (these ++ on out go))
ends recs these new out Memory go is e = tt
ends recs these new out (Ended d) go is e = is ∙ (ap (λ l. recs ++ l) (sym (append-nil these)) ∙ ap (λ o. recs ++ (these ++ on o go)) (sym e))

-- Statements

pub next_told : (tables : List TableInfo) (params : ℕ) (ss : List RStmt) (k : ℕ) (s : RStmt) (n : ℕ) (site : Site) (recs new all : List Record) (st next : State) → k < length ss → s ≡ get_or ss k s
    → new ≡ recs ++ tell tables params s n site recs st → does tables s st ≡ Ok next → recs ++ tell_statements tables params (drop k ss) n site recs st ≡ all
    → new ++ tell_statements tables params (drop (k + 1) ss) (n + size s) site new next ≡ all
next_told tables params ss k s n site recs new all st next lt at is e told =
    goes recs (tell tables params s n site recs st) new (does tables s st) next (tell_statements tables params (drop (k + 1) ss) (n + size s) site) is e
    ∙ (sym (ap (λ l. recs ++ tell_statements tables params l n site recs st) (from_place ss k s lt at)) ∙ told)

pub stop_told : (tables : List TableInfo) (params : ℕ) (ss : List RStmt) (k : ℕ) (s : RStmt) (n : ℕ) (site : Site) (recs new all : List Record) (st : State) (stop : Stop) → k < length ss → s ≡ get_or ss k s
    → Leave {A = Unit {0}} (Err stop) new (recs ++ tell tables params s n site recs st) → Fails stop (does tables s st) → recs ++ tell_statements tables params (drop k ss) n site recs st ≡ all
    → Leave {A = Unit {0}} (Err stop) new all
stop_told tables params ss k s n site recs new all st stop lt at is e told =
    subst (λ l. Leave {A = Unit {0}} (Err stop) new l) (sym (ap (λ l. recs ++ tell_statements tables params l n site recs st) (from_place ss k s lt at)) ∙ told)
    (ends recs (tell tables params s n site recs st) new (does tables s st) stop (tell_statements tables params (drop (k + 1) ss) (n + size s) site (recs ++ tell tables params s n site recs st)) is e)

-- Turns

abbrev pub entered : ℕ → List Value → State → State
entered x row st = record st { env = with_held st.env x (Turn row) }

pub next_turn : (x : ℕ) (body : Does) (tells : Recorder) (rows : List (List Value)) (k : ℕ) (row : List Value) (n : ℕ) (site : Site) (recs new all : List Record) (st next : State) → k < length rows → row ≡ get_or rows k row
    → new ≡ recs ++ tells n (in_turn (k + 1) site) recs (entered x row st) → body (entered x row st) ≡ Ok next → recs ++ tell_turns x body tells (drop k rows) (k + 1) n site recs st ≡ all
    → new ++ tell_turns x body tells (drop (k + 1) rows) (k + 1 + 1) n site new next ≡ all
next_turn x body tells rows k row n site recs new all st next lt at is e told =
    goes recs (tells n (in_turn (k + 1) site) recs (entered x row st)) new (body (entered x row st)) next (tell_turns x body tells (drop (k + 1) rows) (k + 1 + 1) n site) is e
    ∙ (sym (ap (λ l. recs ++ tell_turns x body tells l (k + 1) n site recs st) (from_place rows k row lt at)) ∙ told)

pub stop_turn : (x : ℕ) (body : Does) (tells : Recorder) (rows : List (List Value)) (k : ℕ) (row : List Value) (n : ℕ) (site : Site) (recs new all : List Record) (st : State) (stop : Stop) → k < length rows → row ≡ get_or rows k row
    → Leave {A = Unit {0}} (Err stop) new (recs ++ tells n (in_turn (k + 1) site) recs (entered x row st)) → Fails stop (body (entered x row st))
    → recs ++ tell_turns x body tells (drop k rows) (k + 1) n site recs st ≡ all → Leave {A = Unit {0}} (Err stop) new all
stop_turn x body tells rows k row n site recs new all st stop lt at is e told =
    subst (λ l. Leave {A = Unit {0}} (Err stop) new l) (sym (ap (λ l. recs ++ tell_turns x body tells l (k + 1) n site recs st) (from_place rows k row lt at)) ∙ told)
    (ends recs (tells n (in_turn (k + 1) site) recs (entered x row st)) new (body (entered x row st)) stop (tell_turns x body tells (drop (k + 1) rows) (k + 1 + 1) n site (recs ++ tells n (in_turn (k + 1) site) recs (entered x row st))) is e)

-- a variable that is set leaves the number of `:found`
pub held_sound : (tables : List TableInfo) (env : Env) (db : Tables) (x : ℕ) (h : Content) → IsSound tables env db → IsSound tables (with_held env x h) db
held_sound tables env db x h sound = record { tables = sound.tables; found = sound.found }
