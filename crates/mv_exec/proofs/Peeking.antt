-- What is ahead is what the next record has, and how a call comes to the frame at which it goes on.
use Rattle.std.proofs.Common.{◌≡◌, ℕ, Bool, true, false, not, List, [], ◌∷◌, ◌++◌, Option, Some, map, length, refl, sym, ap, subst, ◌∙◌}
use Rattle.std.specs.Prelude.{slice_get}
use Rattle.std.specs.Option.{option_map, option_or}
use Rattle.std.proofs.lemmas.Option.{slice_get-map}
use Rattle.mv_values.specs.declared.schema.TableInfo.{TableInfo}
use Rattle.mv_values.specs.Tables.{Tables}
use Rattle.mv_catalog.specs.declared.resolved.ProcInfo.{ProcInfo}
use Rattle.mv_catalog.specs.declared.resolved.RStmt.{RStmt, out-RStmt}
use Rattle.mv_catalog.specs.declared.resolved.RStmt.TheOpen.{RStmt-F}
use Rattle.mv_record.specs.declared.record.Read.{Read}
use Rattle.mv_record.specs.declared.record.Record.{Record}
use Rattle.mv_recorded.specs.Reading.{Loop, loop_of, last_place, sets_variable, reads_of, expressions, read_variables}
use Rattle.mv_recorded.specs.Recorded.{Site, outside}
use Rattle.mv_log.specs.Logged.{Logged}
use Rattle.mv_graph.specs.declared.graph.Step.{Step}
use Rattle.mv_graph.specs.Steps.{TellsOf}
use Rattle.mv_exec.specs.declared.frames.Frame.{Frame}
use Rattle.mv_exec.specs.declared.task.Task.{Task}
use Rattle.mv_exec.specs.Env.{CallVariables}
use Rattle.mv_exec.specs.Frames.{site_in, site_of, next_turn, frame_due, with_next_row, HoldsFrame, IsFrameAt}
use Rattle.mv_exec.specs.Tasks.{frames_of, left_of, definer_in, in_turn_at, task_at, IsTask, StandsAsBefore}
use Rattle.mv_exec.specs.Running.{Peeks}
use Rattle.mv_exec.specs.Ahead.{IsNextFrame, ahead_at, PeeksLeft}
use Rattle.mv_exec.specs.Steps.{with_log}
use Rattle.mv_exec.proofs.Logs.{before_both, logged_before, logged_task}
use Rattle.mv_exec.proofs.Turning.{IsDue, standing_live, after_turn, turned_task, turned_before}
use Rattle.mv_exec.proofs.Adding.{left_next}

map_same : {A B : Type 0} (f g : A → B) → ((a : A) → f a ≡ g a) → (xs : List A) → map f xs ≡ map g xs
map_same f g h [] = refl
map_same f g h (x ∷ xs) = ap (λ y. y ∷ map f xs) (h x) ∙ ap (λ l. g x ∷ l) (map_same f g h xs)

-- its reads, by the numbers that are kept
reads_same : (params : ℕ) (loops : List Loop) (records : List Record) (definers : List (Option ℕ)) (y : RStmt-F RStmt)
    → ((x : ℕ) → definer_in definers x ≡ last_place (sets_variable x) 0 records)
    → reads_of params loops records (expressions y) ≡ map (λ x. record { slot = x; definer = option_or (loop_of x loops) (definer_in definers x) }) (read_variables params (expressions y))
reads_same params loops records definers y h =
    map_same (λ x. record { slot = x; definer = option_or (loop_of x loops) (last_place (sets_variable x) 0 records) })
    (λ x. record { slot = x; definer = option_or (loop_of x loops) (definer_in definers x) })
    (λ x. ap (λ d. record { slot = x; definer = option_or (loop_of x loops) d }) (sym (h x))) (read_variables params (expressions y))

-- one of them
pub read_at : (definers : List (Option ℕ)) (site : Site) (n : ℕ) (xs : List ℕ) (i x : ℕ) (r : Read) → slice_get xs i ≡ Some x
    → r ≡ record { slot = x; definer = option_or (loop_of x site.loops) (definer_in definers x) } → slice_get (ahead_at definers site n xs).reads i ≡ Some r
read_at definers site n xs i x r there is =
    slice_get-map (λ y. record { slot = y; definer = option_or (loop_of y site.loops) (definer_in definers y) }) xs i
    ∙ (ap (option_map (λ y. record { slot = y; definer = option_or (loop_of y site.loops) (definer_in definers y) })) there ∙ ap Some (sym is))

-- at the frame at which a call goes on, whatever its variables are there
peeks_at : (proc : ProcInfo) (task : Task) (variables : CallVariables) (ps : List Frame) (ended : Bool) (outer : List Frame) (p : Frame) (s : RStmt) (xs : List ℕ) → IsTask proc task
    → let then : Task = record task { variables = variables; frames = ps; ended = ended } in
    ((tables : List TableInfo) (db : Tables) → left_of proc tables then db ≡ left_of proc tables task db) → HoldsFrame proc (frames_of then) outer p s
    → xs ≡ read_variables task.parameters (expressions (out-RStmt s)) → PeeksLeft proc task (Some (ahead_at task.definers (site_in p.holder (site_of outside outer)) p.number xs))
peeks_at proc task variables ps ended outer p s xs t left at are tables db =
    let then : Task = record task { variables = variables; frames = ps; ended = ended } in
    let site : Site = site_in p.holder (site_of outside outer) in
    subst (Peeks (Some (ahead_at task.definers site p.number xs))) (sym (left_next proc tables then db outer p s at) ∙ left tables db) (
      refl,
      refl,
      reads_same task.parameters site.loops task.log.records task.definers (out-RStmt s) t.definers
          ∙ ap (map (λ x. record { slot = x; definer = option_or (loop_of x site.loops) (definer_in task.definers x) })) (sym are),
    )

-- the turn that is due
pub due_turn : (proc : ProcInfo) (task : Task) (frame : Frame) (s : RStmt) (turn : Bool) → task.ended ≡ false → (go : IsNextFrame proc task frame s turn) → turn ≡ true → IsDue proc (frames_of task) go.outer go.last
due_turn proc task frame s turn live go e = record { are = standing_live task.ended task.frames live ∙ go.are; none = go.due ∙ ap not e }

pub in_turn : (proc : ProcInfo) (task : Task) (frame : Frame) (s : RStmt) (turn : Bool) (go : IsNextFrame proc task frame s turn) → turn ≡ true → next_turn go.last ≡ frame
in_turn proc task frame s turn go e = sym (go.is ∙ ap (λ b. frame_due b go.last) e)

pub stands_here : (proc : ProcInfo) (task : Task) (frame : Frame) (s : RStmt) (turn : Bool) → task.ended ≡ false → (go : IsNextFrame proc task frame s turn) → turn ≡ false → HoldsFrame proc (frames_of task) go.outer frame s
stands_here proc task frame s turn live go e = record {
  are = standing_live task.ended task.frames live ∙ (go.are ∙ ap (λ q. go.outer ++ q ∷ []) (sym (go.is ∙ ap (λ b. frame_due b go.last) e)));
  stands = go.stands;
}

-- what is ahead is as the step of the statement tells
pub peeks : (proc : ProcInfo) (task : Task) (frame : Frame) (s : RStmt) (turn : Bool) (step : Step) → IsTask proc task → task.ended ≡ false → task.parameters ≡ length proc.params
    → (go : IsNextFrame proc task frame s turn) → TellsOf proc s step → PeeksLeft proc task (Some (ahead_at task.definers (site_in frame.holder (site_of outside go.outer)) frame.number step.reads))
peeks proc task frame s turn step t live params go tells = by turn refl
  where
    reads : step.reads ≡ read_variables task.parameters (expressions (out-RStmt s))
    reads = tells.reads ∙ ap (λ n. read_variables n (expressions (out-RStmt s))) (sym params)

    by : (b : Bool) → turn ≡ b → PeeksLeft proc task (Some (ahead_at task.definers (site_in frame.holder (site_of outside go.outer)) frame.number step.reads))
    by true e =
        let due : IsDue proc (frames_of task) go.outer go.last = due_turn proc task frame s turn live go e in
        let before : StandsAsBefore proc task (after_turn task go.outer go.last) = turned_before proc task go.outer go.last t due in
        let was = task.variables in
        peeks_at proc task (record was { env = with_next_row task.log.records go.last.holder was.env }) (go.outer ++ next_turn go.last ∷ []) false go.outer frame s step.reads t before.left
        (record { are = ap (λ q. go.outer ++ q ∷ []) (in_turn proc task frame s turn go e); stands = go.stands }) reads
    by false e =
        peeks_at proc task task.variables task.frames task.ended go.outer frame s step.reads t (λ tables db. refl) (stands_here proc task frame s turn live go e) reads

-- The frame at which a call goes on

-- the same call, come to this frame and statement
pub record IsCome (proc : ProcInfo) (old new : Task) (frame : Frame) (s : RStmt) : Type 0 where
  pub whole : IsTask proc new
  pub same : StandsAsBefore proc old new
  pub at : IsFrameAt proc (frames_of new) frame s

turned_come : (proc : ProcInfo) (task : Task) (frame : Frame) (s : RStmt) (go : IsNextFrame proc task frame s true) → IsTask proc task → task.ended ≡ false
    → IsCome proc task (in_turn_at task go.outer go.last frame) frame s
turned_come proc task frame s go t live =
    let due : IsDue proc (frames_of task) go.outer go.last = due_turn proc task frame s true live go refl in
    let last : Frame = go.last in
    let then : Task = after_turn task go.outer last in
    let was = task.variables in
    let is : in_turn_at task go.outer last frame ≡ then =
    ap (λ q. record task { variables = record was { env = with_next_row task.log.records last.holder was.env }; frames = go.outer ++ q ∷ [] }) (sym (in_turn proc task frame s true go refl))
    ∙ ap (λ b. record then { ended = b }) live in
    subst (λ u. IsCome proc task u frame s) (sym is)
    (record {
      whole = turned_task proc task go.outer last t due;
      same = turned_before proc task go.outer last t due;
      at = (go.outer, record { are = ap (λ q. go.outer ++ q ∷ []) (in_turn proc task frame s true go refl); stands = go.stands });
    })

here_come : (proc : ProcInfo) (task : Task) (frame : Frame) (s : RStmt) (go : IsNextFrame proc task frame s false) → IsTask proc task → task.ended ≡ false → IsCome proc task task frame s
here_come proc task frame s go t live = record {
  whole = t;
  same = record { parameters = refl; records = refl; executed = refl; beginning = refl; left = λ tables db. refl };
  at = (go.outer, stands_here proc task frame s false live go refl);
}

pub come : (proc : ProcInfo) (task : Task) (frame : Frame) (s : RStmt) (turn : Bool) (new : Task) → IsTask proc task → task.ended ≡ false → (go : IsNextFrame proc task frame s turn)
    → new ≡ task_at task go.outer go.last frame turn → IsCome proc task new frame s
come proc task frame s true new t live go is = subst (λ u. IsCome proc task u frame s) (sym is) (turned_come proc task frame s go t live)
come proc task frame s false new t live go is = subst (λ u. IsCome proc task u frame s) (sym is) (here_come proc task frame s go t live)

-- the same where the record of the statement was begun before
pub come_logged : (proc : ProcInfo) (task : Task) (log : Logged) (frame : Frame) (s : RStmt) (turn : Bool) (new : Task) → IsTask proc task → task.ended ≡ false → (go : IsNextFrame proc task frame s turn)
    → log.records ≡ task.log.records → new ≡ task_at (with_log task log) go.outer go.last frame turn → IsCome proc task new frame s
come_logged proc task log frame s turn new t live go same is =
    let mid : Task = with_log task log in
    let next : IsNextFrame proc mid frame s turn = record { outer = go.outer; last = go.last; are = go.are; due = go.due; is = go.is; stands = go.stands } in
    let it : IsCome proc mid new frame s = come proc mid frame s turn new (logged_task proc task log same t) live next is in
    record { whole = it.whole; same = before_both proc task mid new (logged_before proc task log same) it.same; at = it.at }
