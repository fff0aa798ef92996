-- Where a call goes on there is a statement, which has a step.
use Rattle.std.proofs.Common.{◌≡◌, ◌+◌, ◌-◌, ◌<◌, ◌≤◌, ◌^◌, Bool, true, false, not, nat_lt, List, [], ◌∷◌, ◌++◌, Some, None, length, drop, slice_get, refl, sym, ap, subst, ◌∙◌, arith}
use Rattle.std.proofs.lemmas.Bool.{lt-ltb, not-false, not-true}
use Rattle.mv_catalog.specs.Statements.{size_of}
use Rattle.mv_catalog.specs.declared.resolved.ProcInfo.{ProcInfo}
use Rattle.mv_catalog.specs.declared.resolved.RStmt.{RStmt}
use Rattle.mv_graph.specs.declared.graph.Graph.{Graph}
use Rattle.mv_graph.specs.declared.graph.Step.{Step}
use Rattle.mv_graph.specs.Nodes.{IsGraph}
use Rattle.mv_graph.specs.Steps.{HasText, TellsOf}
use Rattle.mv_graph.proofs.Texts.{StepAt, step_of_text, text_fits}
use Rattle.mv_record.specs.declared.record.Record.{Record}
use Rattle.mv_exec.specs.declared.frames.Frame.{Frame}
use Rattle.mv_exec.specs.declared.task.Task.{Task}
use Rattle.mv_exec.specs.Frames.{block_of, holder_of, has_turn, next_turn, frame_due, AreFilled, IsNumbered, AreNumbered}
use Rattle.mv_exec.specs.Tasks.{frames_of, IsTask}
use Rattle.mv_exec.specs.Ahead.{IsNextFrame, IsNextStep}
use Rattle.mv_exec.proofs.Turning.{FirstOf, first_of, every_last, standing_live, turn_owed, turned_task, same_block, filled_last}
use Rattle.mv_exec.proofs.Numbering.{text_next}
use Rattle.mv_exec.proofs.Lists.{left_by_number}
use Rattle.mv_exec.proofs.Peeking.{due_turn, in_turn, stands_here}

-- a call that hasn't ended is somewhere
pub some_frame : (proc : ProcInfo) (task : Task) (ps : List Frame) → IsTask proc task → ps ≡ task.frames → ps ≡ [] → ⊥
some_frame proc task ps t is none = let l : length task.frames ≡ 0 = ap length (sym is ∙ none) in absurd (omega (arith, t.some, l))

-- a turn that is due is there
pub turn_there : (proc : ProcInfo) (task : Task) (rs : List Record) (ps outer : List Frame) (last : Frame) (block : List RStmt) (b : Bool) → IsTask proc task → task.ended ≡ false → ps ≡ task.frames
    → rs ≡ task.log.records → ps ≡ outer ++ last ∷ [] → block ≡ block_of proc (holder_of proc None outer) last → b ≡ nat_lt last.at (length block) → not b ≡ true → has_turn rs last.holder ≡ true
turn_there proc task rs ps outer last block b t live same records are is at due =
    turn_owed proc task rs ps outer last t live same records are
    (ap (λ (bl : List RStmt). nat_lt last.at (length bl)) (sym is) ∙ (sym at ∙ not-true b due))

filled_here : (proc : ProcInfo) (task : Task) (outer : List Frame) (last : Frame) → IsTask proc task → task.ended ≡ false → task.frames ≡ outer ++ last ∷ []
    → 0 < length (block_of proc (holder_of proc None outer) last)
filled_here proc task outer last t live are = filled_last proc None outer last (subst (AreFilled proc None) (standing_live task.ended task.frames live ∙ are) t.filled)

-- a statement is at the frame
within_block : (proc : ProcInfo) (task : Task) (outer : List Frame) (last frame : Frame) (block : List RStmt) (b turn : Bool) → IsTask proc task → task.ended ≡ false → task.frames ≡ outer ++ last ∷ []
    → block ≡ block_of proc (holder_of proc None outer) last → b ≡ nat_lt last.at (length block) → turn ≡ not b → frame ≡ frame_due turn last → nat_lt frame.at (length block) ≡ true
within_block proc task outer last frame block b true t live are is at due where_is =
    ap (λ (p : Frame). nat_lt p.at (length block)) where_is
    ∙ lt-ltb 0 (length block) (subst (λ (bl : List RStmt). 0 < length bl) (sym is) (filled_here proc task outer last t live are))
within_block proc task outer last frame block b false t live are is at due where_is =
    ap (λ (p : Frame). nat_lt p.at (length block)) where_is ∙ (sym at ∙ not-false b (sym due))

due_block : (proc : ProcInfo) (outer : List Frame) (last frame : Frame) (turn : Bool) → frame ≡ frame_due turn last
    → block_of proc (holder_of proc None outer) frame ≡ block_of proc (holder_of proc None outer) last
due_block proc outer last frame true e = ap (block_of proc (holder_of proc None outer)) e ∙ same_block proc (holder_of proc None outer) last.holder
due_block proc outer last frame false e = ap (block_of proc (holder_of proc None outer)) e

twice_not : (b c : Bool) → c ≡ not b → b ≡ not c
twice_not true c e = sym (ap not e)
twice_not false c e = sym (ap not e)

goes_on : (proc : ProcInfo) (task : Task) (ps outer : List Frame) (last frame : Frame) (block : List RStmt) (s : RStmt) (b turn : Bool) → ps ≡ task.frames → ps ≡ outer ++ last ∷ []
    → block ≡ block_of proc (holder_of proc None outer) last → b ≡ nat_lt last.at (length block) → turn ≡ not b → frame ≡ frame_due turn last → Some s ≡ slice_get block frame.at
    → IsNextFrame proc task frame s turn
goes_on proc task ps outer last frame block s b turn same are is at due where_is found = record {
  outer = outer;
  last = last;
  are = sym same ∙ are;
  due = ap (λ (bl : List RStmt). nat_lt last.at (length bl)) (sym is) ∙ (sym at ∙ twice_not b turn due);
  is = where_is;
  stands = ap (λ bl. slice_get bl frame.at) (due_block proc outer last frame turn where_is ∙ sym is) ∙ sym found;
}

-- the list of the innermost frame is of the text
pub numbered_here : (proc : ProcInfo) (task : Task) (outer : List Frame) (last : Frame) → IsTask proc task → task.ended ≡ false → task.frames ≡ outer ++ last ∷ []
    → IsNumbered proc (block_of proc (holder_of proc None outer) last) last
numbered_here proc task outer last t live are = every_last (IsNumbered proc) proc None outer last (subst (AreNumbered proc None) (standing_live task.ended task.frames live ∙ are) t.numbers)

-- whether a statement is left at the innermost frame, told of any list in which it may lie
pub left_here : (proc : ProcInfo) (task : Task) (ps outer : List Frame) (last : Frame) (b : Bool) → IsTask proc task → task.ended ≡ false → ps ≡ task.frames → ps ≡ outer ++ last ∷ []
    → ((block : List RStmt) → IsNumbered proc block last → 0 < length block → b ≡ nat_lt last.at (length block)) → b ≡ nat_lt last.at (length (block_of proc (holder_of proc None outer) last))
left_here proc task ps outer last b t live same are tells =
    tells (block_of proc (holder_of proc None outer) last) (numbered_here proc task outer last t live (sym same ∙ are)) (filled_here proc task outer last t live (sym same ∙ are))

-- a statement is next
pub record NextThere (proc : ProcInfo) (task : Task) (frame : Frame) (turn : Bool) : Type 0 where
  pub s : RStmt
  pub is : IsNextFrame proc task frame s turn

pub next_there : (proc : ProcInfo) (task : Task) (ps outer : List Frame) (last frame : Frame) (b turn : Bool) → IsTask proc task → task.ended ≡ false → ps ≡ task.frames
    → ps ≡ outer ++ last ∷ [] → b ≡ nat_lt last.at (length (block_of proc (holder_of proc None outer) last)) → turn ≡ not b → frame ≡ frame_due turn last → NextThere proc task frame turn
next_there proc task ps outer last frame b turn t live same are at due where_is =
    let block : List RStmt = block_of proc (holder_of proc None outer) last in
    let f : FirstOf RStmt block frame.at = first_of block frame.at (within_block proc task outer last frame block b turn t live (sym same ∙ are) refl at due where_is) in
    record { s = f.it; is = goes_on proc task ps outer last frame block f.it b turn same are refl at due where_is (sym f.there) }

-- The step of the statement

pub text_there : (proc : ProcInfo) (task : Task) (frame : Frame) (s : RStmt) (turn : Bool) → IsTask proc task → task.ended ≡ false → (go : IsNextFrame proc task frame s turn)
    → HasText proc frame.number (s ∷ drop (frame.at + 1) (block_of proc (holder_of proc None go.outer) frame))
text_there proc task frame s turn t live go = by turn refl
  where
    by : (b : Bool) → turn ≡ b → HasText proc frame.number (s ∷ drop (frame.at + 1) (block_of proc (holder_of proc None go.outer) frame))
    by true e =
        let then : IsTask proc _ = turned_task proc task go.outer go.last t (due_turn proc task frame s turn live go e) in
        text_next proc (go.outer ++ next_turn go.last ∷ []) go.outer frame s then.numbers
        (record { are = ap (λ q. go.outer ++ q ∷ []) (in_turn proc task frame s turn go e); stands = go.stands })
    by false e = text_next proc (frames_of task) go.outer frame s t.numbers (stands_here proc task frame s turn live go e)

step_there : (g : Graph) (task : Task) (frame : Frame) (turn : Bool) → IsTask g.procedure task → task.ended ≡ false → (n : NextThere g.procedure task frame turn)
    → StepAt g.procedure frame.number n.s (drop (frame.at + 1) (block_of g.procedure (holder_of g.procedure None n.is.outer) frame))
step_there g task frame turn t live n =
    step_of_text g.procedure frame.number n.s (drop (frame.at + 1) (block_of g.procedure (holder_of g.procedure None n.is.outer) frame)) (text_there g.procedure task frame n.s turn t live n.is)

pub some_step : (g : Graph) (task : Task) (frame : Frame) (turn : Bool) → IsGraph g → IsTask g.procedure task → task.ended ≡ false → NextThere g.procedure task frame turn
    → None ≡ slice_get g.steps (frame.number - 1) → ⊥
some_step g task frame turn is t live n none =
    let it = step_there g task frame turn t live n in
    let there : None ≡ Some it.step = none ∙ (ap (λ ss. slice_get ss (frame.number - 1)) is.steps ∙ it.there) in
    cc

pub next_step : (g : Graph) (task : Task) (frame : Frame) (turn : Bool) (step : Step) → IsGraph g → IsTask g.procedure task → task.ended ≡ false → NextThere g.procedure task frame turn
    → Some step ≡ slice_get g.steps (frame.number - 1) → IsNextStep g.procedure task frame step turn
next_step g task frame turn step is t live n found =
    let it = step_there g task frame turn t live n in
    let there : Some step ≡ Some it.step = found ∙ (ap (λ ss. slice_get ss (frame.number - 1)) is.steps ∙ it.there) in
    let same : it.step ≡ step = cc in
    record { s = n.s; is = n.is; tells = subst (TellsOf g.procedure n.s) same it.is.tells }

-- its number
pub small_here : (proc : ProcInfo) (task : Task) (frame : Frame) (s : RStmt) (turn : Bool) → IsTask proc task → task.ended ≡ false → IsNextFrame proc task frame s turn → size_of proc.body ≤ 1000
    → frame.number < 2 ^ 16
small_here proc task frame s turn t live go short =
    omega (arith, text_fits proc frame.number (s ∷ drop (frame.at + 1) (block_of proc (holder_of proc None go.outer) frame)) (text_there proc task frame s turn t live go), short)

-- Whether a statement is left at a frame

pub tells_end : (g : Graph) (frame : Frame) (step : Step) (block : List RStmt) → IsGraph g → Some step ≡ slice_get g.steps (frame.first - 1) → IsNumbered g.procedure block frame → 0 < length block
    → nat_lt (frame.number - frame.first) step.left ≡ nat_lt frame.at (length block)
tells_end g frame step [] is found h some = absurd (omega (arith, some))
tells_end g frame step (s ∷ ss) is found h some =
    let it : StepAt g.procedure frame.first s ss = step_of_text g.procedure frame.first s ss h.0 in
    let there : Some step ≡ Some it.step = found ∙ (ap (λ l. slice_get l (frame.first - 1)) is.steps ∙ it.there) in
    let same : step ≡ it.step = cc in
    ap (nat_lt (frame.number - frame.first)) (ap (λ (k : Step). k.left) same ∙ it.is.left) ∙ left_by_number (s ∷ ss) frame.at frame.first frame.number h.1

pub none_ends : (g : Graph) (frame : Frame) (block : List RStmt) → IsGraph g → None ≡ slice_get g.steps (frame.first - 1) → IsNumbered g.procedure block frame → 0 < length block
    → false ≡ nat_lt frame.at (length block)
none_ends g frame [] is none h some = absurd (omega (arith, some))
none_ends g frame (s ∷ ss) is none h some =
    let it : StepAt g.procedure frame.first s ss = step_of_text g.procedure frame.first s ss h.0 in
    let there : None ≡ Some it.step = none ∙ (ap (λ l. slice_get l (frame.first - 1)) is.steps ∙ it.there) in
    cc
