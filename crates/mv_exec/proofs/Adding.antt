-- What is left behind a record.
use Rattle.std.proofs.Common.{◌≡◌, ℕ, zero, suc, ◌+◌, ◌-◌, ◌<◌, Bool, List, [], ◌∷◌, ◌++◌, Option, Some, None, Result, Ok, Err, option_to_list, length, drop, slice_get, refl, sym, ap, subst, ◌∙◌, arith, append-nil, append_assoc}
use Rattle.std.specs.Result.{result_err}
use Rattle.std.proofs.lemmas.Grind.{flat_map-append}
use Rattle.std.proofs.lemmas.Bool.{lt-ltb}
use Rattle.std.proofs.lemmas.Option.{slice_get_within}
use Rattle.mv_catalog.specs.Statements.{size}
use Rattle.mv_values.specs.declared.calls.End.{End}
use Rattle.mv_values.specs.declared.patch.Write.{Write}
use Rattle.mv_values.specs.declared.schema.TableInfo.{TableInfo}
use Rattle.mv_values.specs.Patching.{applied, written}
use Rattle.mv_values.specs.Tables.{Tables}
use Rattle.mv_catalog.specs.declared.resolved.ProcInfo.{ProcInfo}
use Rattle.mv_catalog.specs.declared.resolved.RStmt.{RStmt, out-RStmt, roll-RStmt, roll-out-RStmt}
use Rattle.mv_catalog.specs.declared.resolved.RStmt.TheOpen.{RStmt-F}
use Rattle.mv_eval.specs.declared.state.Env.{Env}
use Rattle.mv_eval.specs.declared.state.State.{State}
use Rattle.mv_record.specs.declared.record.Record.{Record}
use Rattle.mv_record.specs.Runs.{lines_in, writes_in}
use Rattle.mv_record.specs.Writes.{AreRising}
use Rattle.mv_record.proofs.Patching.{rising_applied}
use Rattle.mv_recorded.specs.Asking.{on}
use Rattle.mv_recorded.specs.Doing.{itself}
use Rattle.mv_recorded.specs.Recorded.{Site, own_record, outside, within_loop}
use Rattle.mv_recorded.specs.Effect.{with_slots, behind, EndsOnly, TellsEffect, HasColumns}
use Rattle.mv_recorded.specs.Own.{rows_of}
use Rattle.mv_recorded.proofs.Effects.{effect_known}
use Rattle.mv_exec.specs.declared.frames.Holder.{Holder}
use Rattle.mv_exec.specs.declared.frames.Holder.TheVariants as by
use Rattle.mv_effect.specs.Choosing.{Chooses}
use Rattle.mv_exec.specs.declared.frames.Frame.{Frame}
use Rattle.mv_exec.specs.declared.task.Task.{Task}
use Rattle.mv_exec.specs.Left.{Job, run, left, inside}
use Rattle.mv_exec.specs.Frames.{block_of, statement_before, holder_of, site_in, site_of, some_run, some_turns, turns_of, jobs_here, jobs_of, jobs_left, HoldsFrame}
use Rattle.mv_exec.specs.Moves.{inner_frames, after_empty_loop, frame_after}
use Rattle.mv_exec.specs.Tasks.{frames_of, state_of, left_of, IsTask, IsHeldBefore, AreHeldBefore}
use Rattle.mv_exec.proofs.Leaving.{statement_first}
use Rattle.mv_exec.proofs.Framing.{jobs_more, holding_more, site_more}
use Rattle.mv_exec.proofs.Going.{same_all_behind, same_run}
use Rattle.mv_exec.proofs.Turning.{FirstOf, first_of, held_last, held_outer}
use Rattle.mv_exec.proofs.Inside.{inner_jobs, inside_left, inner_left}

-- Records behind others

get_front : (rs : List Record) (r : Record) (n : ℕ) → n < length rs → slice_get (rs ++ r ∷ []) n ≡ slice_get rs n
get_front [] r n lt = absurd (omega (arith, lt))
get_front (q ∷ rs) r zero lt = refl
get_front (q ∷ rs) r (suc n) lt = get_front rs r n (omega (arith, lt))

pub get_last : (rs : List Record) (r : Record) → slice_get (rs ++ r ∷ []) (length rs) ≡ Some r
get_last [] r = refl
get_last (q ∷ rs) r = get_last rs r

-- the turns that are left don't look at later records
same_turns_of : (rs : List Record) (r : Record) (site : Site) (block : List RStmt) (first : ℕ) (h : Holder) → IsHeldBefore (length rs) h
    → turns_of (rs ++ r ∷ []) site block first h ≡ turns_of rs site block first h
same_turns_of rs r site block first by.Procedure lt = refl
same_turns_of rs r site block first (by.Branch number b) lt = refl
same_turns_of rs r site block first (by.Loop number x k) lt =
    ap (λ o. some_turns (within_loop x number site) first x block (drop k (rows_of o)) (k + 1)) (get_front rs r number lt)

same_jobs : (proc : ProcInfo) (rs : List Record) (r : Record) (s : Option RStmt) (site : Site) (ps : List Frame) → AreHeldBefore (length rs) ps
    → jobs_of proc (rs ++ r ∷ []) s site ps ≡ jobs_of proc rs s site ps
same_jobs proc rs r s site [] h = refl
same_jobs proc rs r s site (p ∷ ps) h =
    ap (λ js. js ++ jobs_here (rs ++ r ∷ []) (block_of proc s p) site p) (same_jobs proc rs r (statement_before proc s p) (site_in p.holder site) ps h.1)
    ∙ ap (λ ts. jobs_of proc rs (statement_before proc s p) (site_in p.holder site) ps ++ (some_run (site_in p.holder site) p.number (drop p.at (block_of proc s p)) ++ ts))
    (same_turns_of rs r site (block_of proc s p) p.first p.holder h.0)

-- The state behind a record

pub applied_both : (vs ws : List Write) (db : Tables) → applied (vs ++ ws) db ≡ applied ws (applied vs db)
applied_both [] ws db = refl
applied_both (v ∷ vs) ws db = applied_both vs ws (written v db)

pub writes_more : (rs : List Record) (r : Record) → writes_in (rs ++ r ∷ []) ≡ writes_in rs ++ r.writes
writes_more rs r = flat_map-append (λ r. r.writes) rs (r ∷ []) ∙ ap (λ ws. writes_in rs ++ ws) (append-nil r.writes)

lines_more : (rs : List Record) (r : Record) → lines_in (rs ++ r ∷ []) ≡ lines_in rs ++ option_to_list r.line
lines_more rs r = flat_map-append (λ r. option_to_list r.line) rs (r ∷ []) ∙ ap (λ ls. lines_in rs ++ ls) (append-nil (option_to_list r.line))

-- the state with these variables behind records
abbrev pub state_with : List Record → Env → Tables → State
state_with rs env db = record { env = env; tables = applied (writes_in rs) db; lines = lines_in rs }

state_more : (rs : List Record) (r : Record) (was env : Env) (db : Tables) → (let b : State = behind r (state_with rs was db) in record b { env = env }) ≡ state_with (rs ++ r ∷ []) env db
state_more rs r was env db =
    ap (λ t. let b : State = behind r (state_with rs was db) in record b { env = env; tables = t }) (sym (ap (λ ws. applied ws db) (writes_more rs r) ∙ applied_both (writes_in rs) r.writes db))
    ∙ ap (λ ls. let b : State = state_with (rs ++ r ∷ []) env db in record b { lines = ls }) (sym (lines_more rs r))

-- The next statement

first_is : (tables : List TableInfo) (params : ℕ) (y : RStmt-F RStmt) (s : RStmt) (site : Site) (n : ℕ) (ss : List RStmt) (js : List Job) (before : List Record) (st : State)
    → roll-RStmt y ≡ s
    → left tables params (run site n (s ∷ ss) ∷ js) before st
    ≡ own_record tables params y n site before st ∷ on (itself tables y st) (left tables params (inside tables (length before) y n site st ++ run site (n + size s) ss ∷ js) (before ++ own_record tables params y n site before st ∷ []))
first_is tables params y s site n ss js before st e =
    subst (λ s. left tables params (run site n (s ∷ ss) ∷ js) before st
    ≡ own_record tables params y n site before st ∷ on (itself tables y st) (left tables params (inside tables (length before) y n site st ++ run site (n + size s) ss ∷ js) (before ++ own_record tables params y n site before st ∷ []))) e
    (statement_first tables params y site n ss js before st)

some_is : {A : Type 0} (a b : A) (o : Option A) → o ≡ Some a → o ≡ Some b → a ≡ b
some_is a b o h k = cc

pub from_first : {A : Type 0} (xs : List A) (n : ℕ) (x : A) → slice_get xs n ≡ Some x → drop n xs ≡ x ∷ drop (n + 1) xs
from_first xs n x h =
    let f : FirstOf _ xs n = first_of xs n (lt-ltb n (length xs) (slice_get_within xs n x h)) in
    f.rest ∙ ap (λ (y : _). y ∷ drop (n + 1) xs) (some_is f.it x (slice_get xs n) f.there h)

-- what a task will leave: the next statement's own record, and what comes behind it
pub left_next : (proc : ProcInfo) (tables : List TableInfo) (task : Task) (db : Tables) (outer : List Frame) (p : Frame) (s : RStmt) → HoldsFrame proc (frames_of task) outer p s
    → let site : Site = site_of outside outer in
    let st : State = state_of task db in
    let own : Record = own_record tables task.parameters (out-RStmt s) p.number (site_in p.holder site) task.log.records st in
    left_of proc tables task db
    ≡ own ∷ on (itself tables (out-RStmt s) st) (left tables task.parameters
    (inside tables (length task.log.records) (out-RStmt s) p.number (site_in p.holder site) st ++ run (site_in p.holder site) (p.number + size s) (drop (p.at + 1) (block_of proc (holder_of proc None outer) p))
    ∷ (turns_of task.log.records site (block_of proc (holder_of proc None outer) p) p.first p.holder ++ jobs_left proc task.log.records outer)) (task.log.records ++ own ∷ []))
left_next proc tables task db outer p s at =
    let block : List RStmt = block_of proc (holder_of proc None outer) p in
    let site : Site = site_of outside outer in
    let st : State = state_of task db in
    let ts : List Job = turns_of task.log.records site block p.first p.holder in
    let js : List Job = jobs_left proc task.log.records outer in
    ap (λ ps. left tables task.parameters (jobs_left proc task.log.records ps) task.log.records st) at.are
    ∙ (ap (λ is. left tables task.parameters is task.log.records st) (jobs_more proc task.log.records None outside outer p)
    ∙ (ap (λ ss. left tables task.parameters ((some_run (site_in p.holder site) p.number ss ++ ts) ++ js) task.log.records st) (from_first block p.at s at.stands)
    ∙ first_is tables task.parameters (out-RStmt s) s (site_in p.holder site) p.number (drop (p.at + 1) block) (ts ++ js) task.log.records st (roll-out-RStmt s)))

-- Where a record has been added

-- the statement that the innermost frame has passed
pub held_statement : (proc : ProcInfo) (ps outer : List Frame) (p : Frame) (s : RStmt) (m : ℕ) → HoldsFrame proc ps outer p s → holder_of proc None (outer ++ frame_after m p ∷ []) ≡ Some s
held_statement proc ps outer p s m at =
    holding_more proc None outer (frame_after m p)
    ∙ (ap (slice_get (block_of proc (holder_of proc None outer) p)) (let e : p.at + 1 - 1 ≡ p.at = omega arith in e) ∙ at.stands)

new_jobs : (proc : ProcInfo) (task : Task) (r : Record) (outer : List Frame) (p : Frame) (s : RStmt) (b : Bool) → IsTask proc task → HoldsFrame proc (frames_of task) outer p s
    → let site : Site = site_of outside outer in
    let block : List RStmt = block_of proc (holder_of proc None outer) p in
    jobs_left proc (task.log.records ++ r ∷ []) ((outer ++ frame_after (size s) p ∷ []) ++ inner_frames (length task.log.records) p.number b (out-RStmt s))
    ≡ inner_jobs (length task.log.records) p.number b (site_in p.holder site) r.rows (out-RStmt s)
    ++ (some_run (site_in p.holder site) (p.number + size s) (drop (p.at + 1) block) ++ (turns_of task.log.records site block p.first p.holder ++ jobs_left proc task.log.records outer))
new_jobs proc task r outer p s b t at =
    let rs : List Record = task.log.records ++ r ∷ [] in
    let number : ℕ = length task.log.records in
    let q : Frame = frame_after (size s) p in
    let site : Site = site_of outside outer in
    let block : List RStmt = block_of proc (holder_of proc None outer) p in
    let runs : List Job = some_run (site_in p.holder site) (p.number + size s) (drop (p.at + 1) block) in
    let holders : AreHeldBefore number (outer ++ p ∷ []) = subst (AreHeldBefore number) at.are t.holders in
    inner_left proc rs (outer ++ q ∷ []) s (out-RStmt s) number p.number b (held_statement proc (frames_of task) outer p s (size s) at) refl
    ∙ (ap (λ o. inner_jobs number p.number b (site_of outside (outer ++ q ∷ [])) (rows_of o) (out-RStmt s) ++ jobs_left proc rs (outer ++ q ∷ [])) (get_last task.log.records r)
    ∙ (ap (λ i. inner_jobs number p.number b i r.rows (out-RStmt s) ++ jobs_left proc rs (outer ++ q ∷ [])) (site_more outside outer q)
    ∙ ap (λ js. inner_jobs number p.number b (site_in p.holder site) r.rows (out-RStmt s) ++ js)
    (jobs_more proc rs None outside outer q
    ∙ (ap (λ ts. (runs ++ ts) ++ jobs_left proc rs outer) (same_turns_of task.log.records r site block p.first p.holder (held_last number outer p holders))
    ∙ (ap (λ js. (runs ++ turns_of task.log.records site block p.first p.holder) ++ js) (same_jobs proc task.log.records r None outside outer (held_outer number outer p holders))
    ∙ append_assoc runs (turns_of task.log.records site block p.first p.holder) (jobs_left proc task.log.records outer))))))

-- what is left behind a record that doesn't end the call
abbrev Goes : ProcInfo → List TableInfo → Task → Tables → Record → List Record → List Frame → Frame → RStmt → Bool → Type 0
Goes proc tables task db r tail outer p s b =
    left tables task.parameters (jobs_left proc (task.log.records ++ r ∷ []) ((outer ++ frame_after (size s) p ∷ []) ++ inner_frames (length task.log.records) p.number b (out-RStmt s)))
    (task.log.records ++ r ∷ []) (state_with (task.log.records ++ r ∷ []) (after_empty_loop (out-RStmt s) r.rows (with_slots r.sets task.variables.env)) db) ≡ tail

-- two lists with one first record
pub first_same : (r q : Record) (rs qs : List Record) → r ∷ rs ≡ q ∷ qs → (r ≡ q) × (rs ≡ qs)
first_same r q rs qs h = (cc, cc)

own_goes : (proc : ProcInfo) (tables : List TableInfo) (task : Task) (db : Tables) (tail : List Record) (outer : List Frame) (p : Frame) (s : RStmt) (b : Bool) (next : State)
    → IsTask proc task → HoldsFrame proc (frames_of task) outer p s → Chooses task.variables.env b (out-RStmt s)
    → let site : Site = site_in p.holder (site_of outside outer) in
    let st : State = state_of task db in
    let own : Record = own_record tables task.parameters (out-RStmt s) p.number site task.log.records st in
    itself tables (out-RStmt s) st ≡ Ok next → next ≡ behind own st
    → on (itself tables (out-RStmt s) st) (left tables task.parameters
    (inside tables (length task.log.records) (out-RStmt s) p.number site st ++ run site (p.number + size s) (drop (p.at + 1) (block_of proc (holder_of proc None outer) p))
    ∷ (turns_of task.log.records (site_of outside outer) (block_of proc (holder_of proc None outer) p) p.first p.holder ++ jobs_left proc task.log.records outer)) (task.log.records ++ own ∷ [])) ≡ tail
    → Goes proc tables task db own tail outer p s b
own_goes proc tables task db tail outer p s b next t at chosen ok is tails =
    let params : ℕ = task.parameters in
    let y : RStmt-F RStmt = out-RStmt s in
    let number : ℕ = length task.log.records in
    let site : Site = site_in p.holder (site_of outside outer) in
    let st : State = state_of task db in
    let own : Record = own_record tables params y p.number site task.log.records st in
    let rs : List Record = task.log.records ++ own ∷ [] in
    let block : List RStmt = block_of proc (holder_of proc None outer) p in
    let rest : List RStmt = drop (p.at + 1) block in
    let more : List Job = turns_of task.log.records (site_of outside outer) block p.first p.holder ++ jobs_left proc task.log.records outer in
    let inner : List Job = inner_jobs number p.number b site own.rows y in
    let to : State = behind own st in
    let walk : State = record to { env = after_empty_loop y own.rows to.env } in
    ap (λ js. left tables params js rs (state_with rs (after_empty_loop y own.rows (with_slots own.sets task.variables.env)) db)) (new_jobs proc task own outer p s b t at)
    ∙ (ap (left tables params (inner ++ (some_run site (p.number + size s) rest ++ more)) rs) (sym (state_more task.log.records own task.variables.env (after_empty_loop y own.rows (with_slots own.sets task.variables.env)) db))
    ∙ (sym (same_all_behind tables params inner (run site (p.number + size s) rest ∷ more) (some_run site (p.number + size s) rest ++ more) (same_run tables params site (p.number + size s) rest more) rs walk)
    ∙ (sym (inside_left tables params y number p.number site b (run site (p.number + size s) rest ∷ more) rs st next to ok chosen)
    ∙ (ap (left tables params (inside tables number y p.number site st ++ run site (p.number + size s) rest ∷ more) rs) (sym is)
    ∙ (sym (ap (λ out. on out (left tables params (inside tables number y p.number site st ++ run site (p.number + size s) rest ∷ more) rs)) ok) ∙ tails)))))

-- a record that is the next one leads to where the rest is left
pub goes_on : (proc : ProcInfo) (tables : List TableInfo) (task : Task) (db : Tables) (r : Record) (tail : List Record) (outer : List Frame) (p : Frame) (s : RStmt) (b : Bool)
    → IsTask proc task → HoldsFrame proc (frames_of task) outer p s → Chooses task.variables.env b (out-RStmt s) → HasColumns (out-RStmt s) → AreRising db
    → left_of proc tables task db ≡ r ∷ tail → r.end ≡ None → Goes proc tables task db r tail outer p s b
goes_on proc tables task db r tail outer p s b t at chosen has rise leaves ends = by (itself tables y st) refl
  where
    y : RStmt-F RStmt
    y = out-RStmt s

    site : Site
    site = site_in p.holder (site_of outside outer)

    st : State
    st = state_of task db

    own : Record
    own = own_record tables task.parameters y p.number site task.log.records st

    more : List Record
    more = on (itself tables y st) (left tables task.parameters
        (inside tables (length task.log.records) y p.number site st ++ run site (p.number + size s) (drop (p.at + 1) (block_of proc (holder_of proc None outer) p))
        ∷ (turns_of task.log.records (site_of outside outer) (block_of proc (holder_of proc None outer) p) p.first p.holder ++ jobs_left proc task.log.records outer)) (task.log.records ++ own ∷ []))

    both : (own ≡ r) × (more ≡ tail)
    both = first_same own r more tail (sym (left_next proc tables task db outer p s at) ∙ leaves)

    known : TellsEffect own st (itself tables y st)
    known = effect_known tables task.parameters y p.number site task.log.records st has (rising_applied (writes_in task.log.records) db rise)

    by : (out : Result State End) → itself tables y st ≡ out → Goes proc tables task db r tail outer p s b
    by (Ok next) ok =
        let tells : TellsEffect own st (Ok next) = subst (TellsEffect own st) ok known in
        subst (λ q. Goes proc tables task db q tail outer p s b) both.0 (own_goes proc tables task db tail outer p s b next t at chosen ok tells.1 both.1)
    by (Err e) err =
        let tells : EndsOnly e own = subst (TellsEffect own st) err known in
        let some : r.end ≡ Some e = ap (λ (q : Record). q.end) (sym both.0) ∙ tells.end in
        cc

-- behind a record that ends the call nothing is left
pub ends_all : (proc : ProcInfo) (tables : List TableInfo) (task : Task) (db : Tables) (r : Record) (tail : List Record) (outer : List Frame) (p : Frame) (s : RStmt) (e : End)
    → HoldsFrame proc (frames_of task) outer p s → left_of proc tables task db ≡ r ∷ tail → r.end ≡ Some e → tail ≡ []
ends_all proc tables task db r tail outer p s e at leaves ends = by (itself tables (out-RStmt s) (state_of task db)) (ap (λ (q : Record). q.end) both.0 ∙ ends) both.1
  where
    site : Site
    site = site_in p.holder (site_of outside outer)

    st : State
    st = state_of task db

    own : Record
    own = own_record tables task.parameters (out-RStmt s) p.number site task.log.records st

    rest : State → List Record
    rest = left tables task.parameters
        (inside tables (length task.log.records) (out-RStmt s) p.number site st ++ run site (p.number + size s) (drop (p.at + 1) (block_of proc (holder_of proc None outer) p))
        ∷ (turns_of task.log.records (site_of outside outer) (block_of proc (holder_of proc None outer) p) p.first p.holder ++ jobs_left proc task.log.records outer)) (task.log.records ++ own ∷ [])

    both : (own ≡ r) × (on (itself tables (out-RStmt s) st) rest ≡ tail)
    both = first_same own r (on (itself tables (out-RStmt s) st) rest) tail (sym (left_next proc tables task db outer p s at) ∙ leaves)

    by : (out : Result State End) → result_err out ≡ Some e → on out rest ≡ tail → tail ≡ []
    by (Ok next) some none = cc
    by (Err f) some none = sym none
