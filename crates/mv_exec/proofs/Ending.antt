-- A call has ended exactly where nothing is left of it.
use Rattle.std.proofs.Common.{◌≡◌, ◌<◌, Bool, true, false, nat_lt, List, [], ◌∷◌, ◌++◌, None, length, refl, sym, ap, subst, ◌∙◌, arith}
use Rattle.mv_values.specs.declared.schema.TableInfo.{TableInfo}
use Rattle.mv_values.specs.Tables.{Tables}
use Rattle.mv_catalog.specs.declared.resolved.ProcInfo.{ProcInfo}
use Rattle.mv_catalog.specs.declared.resolved.RStmt.{RStmt}
use Rattle.mv_exec.specs.declared.frames.Frame.{Frame}
use Rattle.mv_exec.specs.declared.task.Task.{Task}
use Rattle.mv_exec.specs.Frames.{block_of, holder_of, next_turn, HoldsFrame}
use Rattle.mv_exec.specs.Tasks.{frames_of, left_of, IsTask, StandsAsBefore, TellsEnd}
use Rattle.mv_exec.proofs.Turning.{FirstOf, first_of, IsDue, standing_live, after_turn, turned_before, turned_first}
use Rattle.mv_exec.proofs.Adding.{left_next}

-- a statement that stands at the innermost frame is left
stands_left : (proc : ProcInfo) (tables : List TableInfo) (task : Task) (db : Tables) (outer : List Frame) (p : Frame) (s : RStmt) → HoldsFrame proc (frames_of task) outer p s
    → left_of proc tables task db ≡ [] → ⊥
stands_left proc tables task db outer p s at none = let e = sym (left_next proc tables task db outer p s at) ∙ none in cc

-- at the innermost frame a statement stands, or a turn is due
either_left : (proc : ProcInfo) (tables : List TableInfo) (task : Task) (db : Tables) (outer : List Frame) (p : Frame) → IsTask proc task → frames_of task ≡ outer ++ p ∷ []
    → left_of proc tables task db ≡ [] → (b : Bool) → nat_lt p.at (length (block_of proc (holder_of proc None outer) p)) ≡ b → ⊥
either_left proc tables task db outer p t are none true e =
    let f : FirstOf RStmt (block_of proc (holder_of proc None outer) p) p.at = first_of (block_of proc (holder_of proc None outer) p) p.at e in
    stands_left proc tables task db outer p f.it (record { are = are; stands = f.there }) none
either_left proc tables task db outer p t are none false e =
    let due : IsDue proc (frames_of task) outer p = record { are = are; none = e } in
    let before : StandsAsBefore proc task (after_turn task outer p) = turned_before proc task outer p t due in
    let block : List RStmt = block_of proc (holder_of proc None outer) (next_turn p) in
    let f : FirstOf RStmt block 0 = first_of block 0 (turned_first proc task outer p t due) in
    stands_left proc tables (after_turn task outer p) db outer (next_turn p) f.it (record { are = refl; stands = f.there }) (before.left tables db ∙ none)

last_of : (ps : List Frame) → 0 < length ps → (outer : List Frame) × ((p : Frame) × (ps ≡ outer ++ p ∷ []))
last_of [] lt = absurd (omega (arith, lt))
last_of (p ∷ []) lt = ([], (p, refl))
last_of (p ∷ q ∷ ps) lt = let l : (outer : List Frame) × ((r : Frame) × (q ∷ ps ≡ outer ++ r ∷ [])) = last_of (q ∷ ps) (omega arith) in (p ∷ l.0, (l.1.0, ap (λ rest. p ∷ rest) l.1.1))

none_left : (proc : ProcInfo) (tables : List TableInfo) (task : Task) (db : Tables) → task.ended ≡ true → left_of proc tables task db ≡ []
none_left proc tables task db e = subst (λ b. left_of proc tables (record task { ended = b }) db ≡ []) (sym e) refl

some_left : (proc : ProcInfo) (tables : List TableInfo) (task : Task) (db : Tables) → IsTask proc task → left_of proc tables task db ≡ [] → (b : Bool) → task.ended ≡ b → b ≡ true
some_left proc tables task db t none true e = refl
some_left proc tables task db t none false e =
    let l : (outer : List Frame) × ((p : Frame) × (task.frames ≡ outer ++ p ∷ [])) = last_of task.frames t.some in
    absurd (either_left proc tables task db l.0 l.1.0 t (standing_live task.ended task.frames e ∙ l.1.1) none (nat_lt l.1.0.at (length (block_of proc (holder_of proc None l.0) l.1.0))) refl)

pub ends_exactly : (proc : ProcInfo) (task : Task) → IsTask proc task → TellsEnd proc task task.ended
ends_exactly proc task t tables db = (none_left proc tables task db, λ none. some_left proc tables task db t none task.ended refl)
