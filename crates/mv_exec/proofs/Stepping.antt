-- A call behind one record more.
use Rattle.std.proofs.Common.{◌≡◌, ◌≢◌, ℕ, ◌+◌, ◌<◌, ◌≤◌, Bool, true, false, List, [], ◌∷◌, ◌++◌, Option, Some, None, length, take, slice_set, if◌then◌else◌, ◌==◌, refl, sym, ap, subst, ◌∙◌, arith, append-nil}
use Rattle.std.specs.List.{list_any}
use Rattle.std.specs.Option.{is_some}
use Rattle.std.proofs.lemmas.List.{length_push}
use Rattle.mv_catalog.specs.Statements.{size, size_of}
use Rattle.mv_values.specs.declared.calls.End.{End}
use Rattle.mv_values.specs.declared.schema.TableInfo.{TableInfo}
use Rattle.mv_catalog.specs.declared.resolved.ProcInfo.{ProcInfo}
use Rattle.mv_catalog.specs.declared.resolved.RStmt.{RStmt, out-RStmt}
use Rattle.mv_catalog.specs.declared.resolved.RStmt.TheOpen.{RStmt-F, Assign, Select, Total, ForSelect, ForRows, Branch, Insert, Update, Delete, Print, Rollback}
use Rattle.mv_record.specs.declared.record.Record.{Record}
use Rattle.mv_record.specs.declared.record.Slot.{Slot}
use Rattle.mv_log.specs.Logged.{Logged}
use Rattle.mv_recorded.specs.Effect.{HasColumns}
use Rattle.mv_recorded.specs.Reading.{last_place, sets_variable}
use Rattle.mv_values.specs.Patching.{applied}
use Rattle.mv_values.specs.Tables.{KeysStand, Tables}
use Rattle.mv_record.specs.Runs.{writes_in}
use Rattle.mv_exec.specs.declared.frames.Holder.{Holder}
use Rattle.mv_exec.specs.declared.frames.Holder.TheVariants as by
use Rattle.mv_effect.specs.Choosing.{Chooses}
use Rattle.mv_exec.specs.declared.frames.Frame.{Frame}
use Rattle.mv_exec.specs.declared.recording.Origin.{Origin}
use Rattle.mv_exec.specs.declared.recording.Origin.TheVariants.{Executed}
use Rattle.mv_exec.specs.declared.task.Task.{Task}
use Rattle.mv_exec.specs.Left.{left}
use Rattle.mv_exec.specs.Keeping.{with_room, define, slot_room}
use Rattle.mv_exec.specs.Moves.{branch_frame, loop_frame, inner_frames, frame_after}
use Rattle.mv_exec.specs.Frames.{body_in, branch_in, block_in, holder_of, AreFilled, IsNumbered, AreNumbered, HoldsFrame}
use Rattle.mv_exec.specs.Tasks.{none_in, frames_of, beginning, state_of, left_of, definer_in, IsTask, IsHeldBefore, AreHeldBefore, IsTrimmed}
use Rattle.mv_exec.specs.Recording.{closed}
use Rattle.mv_exec.specs.Steps.{with_log, changed_by, with_record, HasFronts, IsWidened, HasAddedRecord}
use Rattle.mv_exec.proofs.Ending.{ends_exactly}
use Rattle.mv_exec.proofs.Found.{record_found}
use Rattle.mv_exec.proofs.Kept.{keys_after}
use Rattle.mv_exec.proofs.Framing.{no_last}
use Rattle.mv_exec.proofs.Turning.{filled_last, filled_outer, filled_more, held_last, held_outer, held_more}
use Rattle.mv_exec.proofs.Trimming.{every_front, filled_front, held_front}
use Rattle.mv_exec.proofs.Numbering.{numbered_on}
use Rattle.mv_exec.proofs.Defining.{define_at, room_same, room_long, last_more}
use Rattle.mv_exec.proofs.Adding.{held_statement, goes_on, ends_all}

-- Lists

-- an item of a list with others around it
pub set_between : {A : Type 0} (xs ys : List A) (x y : A) → slice_set ((xs ++ x ∷ []) ++ ys) (length xs) y ≡ (xs ++ y ∷ []) ++ ys
set_between [] ys x y = refl
set_between (z ∷ zs) ys x y = ap (λ l. z ∷ l) (set_between zs ys x y)

-- Where a call stands behind a record

-- the frames behind a statement: the one behind it, and the one inside it
abbrev pub going : ℕ → List Frame → Frame → RStmt → Bool → List Frame
going number outer p s b = (outer ++ frame_after (size s) p ∷ []) ++ inner_frames number p.number b (out-RStmt s)

entered_filled : (proc : ProcInfo) (os : List Frame) (number : ℕ) (b : Bool) (first : ℕ) (block : List RStmt) → block_in proc (by.Branch number b) (holder_of proc None os) ≡ block
    → AreFilled proc None os → AreFilled proc None (os ++ branch_frame (by.Branch number b) first block)
entered_filled proc os number b first [] e h = subst (AreFilled proc None) (sym (append-nil os)) h
entered_filled proc os number b first (s ∷ ss) e h =
    filled_more proc None os (record { holder = by.Branch number b; first = first; at = 0; number = first }) h (subst (λ (bl : List RStmt). 0 < length bl) (sym e) (omega arith))

looped_filled : (proc : ProcInfo) (os : List Frame) (number x first : ℕ) (body : List RStmt) → block_in proc (by.Loop number x 0) (holder_of proc None os) ≡ body
    → AreFilled proc None os → AreFilled proc None (os ++ loop_frame number x first body)
looped_filled proc os number x first [] e h = subst (AreFilled proc None) (sym (append-nil os)) h
looped_filled proc os number x first (s ∷ ss) e h =
    filled_more proc None os (record { holder = by.Loop number x 0; first = first; at = size_of (s ∷ ss); number = first + size_of (s ∷ ss) }) h (subst (λ (bl : List RStmt). 0 < length bl) (sym e) (omega arith))

-- a frame inside a statement lies in a list that isn't empty
inner_filled : (proc : ProcInfo) (os : List Frame) (s : RStmt) (y : RStmt-F RStmt) (number n : ℕ) (b : Bool) → holder_of proc None os ≡ Some s → out-RStmt s ≡ y
    → AreFilled proc None os → AreFilled proc None (os ++ inner_frames number n b y)
inner_filled proc os s (Assign x e) number n b at is h = subst (AreFilled proc None) (sym (append-nil os)) h
inner_filled proc os s (Select cs xs t conds sorts offset) number n b at is h = subst (AreFilled proc None) (sym (append-nil os)) h
inner_filled proc os s (Total agg x t conds) number n b at is h = subst (AreFilled proc None) (sym (append-nil os)) h
inner_filled proc os s (ForSelect x once cs t conds sorts body) number n b at is h = looped_filled proc os number x (n + 1) body (ap (block_in proc (by.Loop number x 0)) at ∙ ap body_in is) h
inner_filled proc os s (ForRows x y body) number n b at is h = looped_filled proc os number x (n + 1) body (ap (block_in proc (by.Loop number x 0)) at ∙ ap body_in is) h
inner_filled proc os s (Branch e ys ns) number n true at is h = entered_filled proc os number true (n + 1) ys (ap (block_in proc (by.Branch number true)) at ∙ ap (branch_in true) is) h
inner_filled proc os s (Branch e ys ns) number n false at is h = entered_filled proc os number false (n + 1 + size_of ys) ns (ap (block_in proc (by.Branch number false)) at ∙ ap (branch_in false) is) h
inner_filled proc os s (Insert t es) number n b at is h = subst (AreFilled proc None) (sym (append-nil os)) h
inner_filled proc os s (Update t items conds) number n b at is h = subst (AreFilled proc None) (sym (append-nil os)) h
inner_filled proc os s (Delete t conds) number n b at is h = subst (AreFilled proc None) (sym (append-nil os)) h
inner_filled proc os s (Print es) number n b at is h = subst (AreFilled proc None) (sym (append-nil os)) h
inner_filled proc os s (Rollback reason) number n b at is h = subst (AreFilled proc None) (sym (append-nil os)) h

holder_later : (n : ℕ) (h : Holder) → IsHeldBefore n h → IsHeldBefore (n + 1) h
holder_later n by.Procedure h = tt
holder_later n (by.Branch number b) h = omega (arith, h)
holder_later n (by.Loop number x k) h = omega (arith, h)

held_later : (n : ℕ) (ps : List Frame) → AreHeldBefore n ps → AreHeldBefore (n + 1) ps
held_later n [] h = tt
held_later n (p ∷ ps) h = (holder_later n p.holder h.0, held_later n ps h.1)

entered_held : (n : ℕ) (os : List Frame) (b : Bool) (first : ℕ) (block : List RStmt) → AreHeldBefore (n + 1) os → AreHeldBefore (n + 1) (os ++ branch_frame (by.Branch n b) first block)
entered_held n os b first [] h = subst (AreHeldBefore (n + 1)) (sym (append-nil os)) h
entered_held n os b first (s ∷ ss) h = held_more (n + 1) os (record { holder = by.Branch n b; first = first; at = 0; number = first }) h (omega arith)

looped_held : (n : ℕ) (os : List Frame) (x first : ℕ) (body : List RStmt) → AreHeldBefore (n + 1) os → AreHeldBefore (n + 1) (os ++ loop_frame n x first body)
looped_held n os x first [] h = subst (AreHeldBefore (n + 1)) (sym (append-nil os)) h
looped_held n os x first (s ∷ ss) h = held_more (n + 1) os (record { holder = by.Loop n x 0; first = first; at = size_of (s ∷ ss); number = first + size_of (s ∷ ss) }) h (omega arith)

-- a frame inside a statement is held by its record
inner_held : (n : ℕ) (os : List Frame) (m : ℕ) (b : Bool) (y : RStmt-F RStmt) → AreHeldBefore (n + 1) os → AreHeldBefore (n + 1) (os ++ inner_frames n m b y)
inner_held n os m b (Assign x e) h = subst (AreHeldBefore (n + 1)) (sym (append-nil os)) h
inner_held n os m b (Select cs xs t conds sorts offset) h = subst (AreHeldBefore (n + 1)) (sym (append-nil os)) h
inner_held n os m b (Total agg x t conds) h = subst (AreHeldBefore (n + 1)) (sym (append-nil os)) h
inner_held n os m b (ForSelect x once cs t conds sorts body) h = looped_held n os x (m + 1) body h
inner_held n os m b (ForRows x y body) h = looped_held n os x (m + 1) body h
inner_held n os m true (Branch e ys ns) h = entered_held n os true (m + 1) ys h
inner_held n os m false (Branch e ys ns) h = entered_held n os false (m + 1 + size_of ys) ns h
inner_held n os m b (Insert t es) h = subst (AreHeldBefore (n + 1)) (sym (append-nil os)) h
inner_held n os m b (Update t items conds) h = subst (AreHeldBefore (n + 1)) (sym (append-nil os)) h
inner_held n os m b (Delete t conds) h = subst (AreHeldBefore (n + 1)) (sym (append-nil os)) h
inner_held n os m b (Print es) h = subst (AreHeldBefore (n + 1)) (sym (append-nil os)) h
inner_held n os m b (Rollback reason) h = subst (AreHeldBefore (n + 1)) (sym (append-nil os)) h

going_filled : (proc : ProcInfo) (number : ℕ) (ps outer : List Frame) (p : Frame) (s : RStmt) (b : Bool) → HoldsFrame proc ps outer p s → AreFilled proc None ps → AreFilled proc None (going number outer p s b)
going_filled proc number ps outer p s b at h =
    let were : AreFilled proc None (outer ++ p ∷ []) = subst (AreFilled proc None) at.are h in
    inner_filled proc (outer ++ frame_after (size s) p ∷ []) s (out-RStmt s) number p.number b (held_statement proc ps outer p s (size s) at) refl
    (filled_more proc None outer (frame_after (size s) p) (filled_outer proc None outer p were) (filled_last proc None outer p were))

going_held : (proc : ProcInfo) (number : ℕ) (ps outer : List Frame) (p : Frame) (s : RStmt) (b : Bool) → HoldsFrame proc ps outer p s → AreHeldBefore number ps → AreHeldBefore (number + 1) (going number outer p s b)
going_held proc number ps outer p s b at h =
    let were : AreHeldBefore (number + 1) (outer ++ p ∷ []) = held_later number (outer ++ p ∷ []) (subst (AreHeldBefore number) at.are h) in
    inner_held number (outer ++ frame_after (size s) p ∷ []) p.number b (out-RStmt s)
    (held_more (number + 1) outer (frame_after (size s) p) (held_outer (number + 1) outer p were) (held_last (number + 1) outer p were))

going_some : (number : ℕ) (outer : List Frame) (p : Frame) (s : RStmt) (b : Bool) → 0 < length (going number outer p s b)
going_some number [] p s b = omega arith
going_some number (q ∷ outer) p s b = omega arith

-- What a call keeps

-- what it keeps wherever it stands
pub record IsTaskKept (proc : ProcInfo) (task : Task) : Type 0 where
  pub filled : AreFilled proc None task.frames
  pub numbers : AreNumbered proc None task.frames
  pub holders : AreHeldBefore (length task.log.records) task.frames
  pub some : 0 < length task.frames
  pub empty : task.empty ≡ none_in proc.body
  pub definers : (x : ℕ) → definer_in task.definers x ≡ last_place (sets_variable x) 0 task.log.records
  pub counted : task.executed ≤ length task.log.records

-- the call behind a record, before frames are dropped
abbrev pub behind_record : Task → Origin → Record → List Frame → Frame → RStmt → Bool → Task
behind_record task origin r outer p s b = with_record task origin s r (going (length task.log.records) outer p s b)

definers_then : (ds : List (Option ℕ)) (rs : List Record) (r : Record) → ((x : ℕ) → definer_in ds x ≡ last_place (sets_variable x) 0 rs)
    → (x : ℕ) → definer_in (define (with_room (slot_room r.sets) ds) r.sets (length rs)) x ≡ last_place (sets_variable x) 0 (rs ++ r ∷ [])
definers_then ds rs r h x =
    define_at (with_room (slot_room r.sets) ds) r.sets (length rs) x (room_long (slot_room r.sets) ds)
    ∙ (ap (λ d. if list_any (λ (s : Slot). s.slot == x) r.sets then Some (length rs) else d) (room_same (slot_room r.sets) ds x ∙ h x)
    ∙ (ap (λ n. if list_any (λ (s : Slot). s.slot == x) r.sets then Some n else last_place (sets_variable x) 0 rs) (let e : length rs ≡ 0 + length rs = omega arith in e)
    ∙ sym (last_more (sets_variable x) 0 rs r)))

pub going_kept : (proc : ProcInfo) (task : Task) (origin : Origin) (r : Record) (outer : List Frame) (p : Frame) (s : RStmt) (b : Bool) → IsTask proc task → HoldsFrame proc (frames_of task) outer p s
    → IsTaskKept proc (behind_record task origin r outer p s b)
going_kept proc task origin r outer p s b t at = record {
  filled = going_filled proc (length task.log.records) (frames_of task) outer p s b at t.filled;
  numbers = numbered_on proc (frames_of task) outer p s (length task.log.records) b t.numbers at;
  holders = subst (λ n. AreHeldBefore n (going (length task.log.records) outer p s b)) (sym (length_push task.log.records r)) (going_held proc (length task.log.records) (frames_of task) outer p s b at t.holders);
  some = going_some (length task.log.records) outer p s b;
  empty = t.empty;
  definers = definers_then task.definers task.log.records r t.definers;
  counted = omega (arith, t.counted, length_push task.log.records r);
}

trimmed_task : (proc : ProcInfo) (mid new : Task) → IsTaskKept proc mid → IsTrimmed proc mid new → IsTask proc new
trimmed_task proc mid new k t = subst (IsTask proc) (sym t.rest) (record {
  filled = subst (AreFilled proc None) (sym t.front) (filled_front proc None t.stay mid.frames k.filled);
  numbers = subst (AreNumbered proc None) (sym t.front) (every_front (IsNumbered proc) proc None t.stay mid.frames k.numbers);
  ends = t.ends;
  holders = subst (AreHeldBefore (length mid.log.records)) (sym t.front) (held_front (length mid.log.records) t.stay mid.frames k.holders);
  some = t.some k.some;
  empty = k.empty;
  definers = k.definers;
  counted = k.counted;
})

ended_task : (proc : ProcInfo) (mid : Task) → IsTaskKept proc mid → IsTask proc (record mid { ended = true })
ended_task proc mid k = record {
  filled = tt;
  numbers = tt;
  ends = λ outer p e. absurd (no_last outer p (sym e));
  holders = tt;
  some = k.some;
  empty = k.empty;
  definers = k.definers;
  counted = k.counted;
}

-- What is left

trimmed_added : (proc : ProcInfo) (task : Task) (origin : Origin) (r : Record) (outer : List Frame) (p : Frame) (s : RStmt) (b : Bool) (new : Task)
    → IsTask proc task → HoldsFrame proc (frames_of task) outer p s → Chooses task.variables.env b (out-RStmt s) → HasColumns (out-RStmt s) → r.end ≡ None
    → IsTrimmed proc (behind_record task origin r outer p s b) new → HasAddedRecord proc task r new
trimmed_added proc task origin r outer p s b new t at chosen has ends trim =
    let mid : Task = behind_record task origin r outer p s b in
    record {
      parameters = ap (λ (u : Task). u.parameters) trim.rest;
      records = ap (λ (u : Task). u.log.records) trim.rest;
      beginning = ap beginning trim.rest;
      left = λ tables db tail rise leaves.
          ap (λ u. left_of proc tables u db) trim.rest
          ∙ (ap (λ js. left tables task.parameters js mid.log.records (state_of mid db)) trim.left
          ∙ goes_on proc tables task db r tail outer p s b t at chosen has rise leaves ends);
      keys = λ tables db tail rise leaves keys.
          subst (λ (rs : List Record). KeysStand tables (applied (writes_in rs) db)) (sym (ap (λ (u : Task). u.log.records) trim.rest))
          (keys_after proc tables task db r tail outer p s at has rise leaves keys);
    }

ended_added : (proc : ProcInfo) (task : Task) (origin : Origin) (r : Record) (outer : List Frame) (p : Frame) (s : RStmt) (b : Bool) (e : End)
    → HoldsFrame proc (frames_of task) outer p s → HasColumns (out-RStmt s) → r.end ≡ Some e
    → HasAddedRecord proc task r (let mid : Task = behind_record task origin r outer p s b in record mid { ended = true })
ended_added proc task origin r outer p s b e at has ends = record {
  parameters = refl;
  records = refl;
  beginning = refl;
  left = λ tables db tail rise leaves. sym (ends_all proc tables task db r tail outer p s e at leaves ends);
  keys = λ tables db tail rise leaves keys. keys_after proc tables task db r tail outer p s at has rise leaves keys;
}

-- Something is left

-- of a call that hasn't ended, whatever the database is
pub some_left : (proc : ProcInfo) (task : Task) → IsTask proc task → task.ended ≡ false → (tables : List TableInfo) (db : Tables) → left_of proc tables task db ≢ []
some_left proc task t live tables db none = let ended : task.ended ≡ true = (ends_exactly proc task t tables db).1 none in cc

-- The whole step

-- that a record was added to this call at this statement, up to its end or the dropping of frames
pub record IsPast (proc : ProcInfo) (task : Task) (origin : Origin) (r : Record) (outer : List Frame) (p : Frame) (s : RStmt) (b : Bool) (mid new : Task) (ends : Bool) : Type 0 where
  pub stands : HoldsFrame proc (frames_of task) outer p s
  pub is : mid ≡ behind_record task origin r outer p s b
  pub ended : ends ≡ true → new ≡ record mid { ended = true }
  pub trimmed : ends ≡ false → IsTrimmed proc mid new

pub past_task : (proc : ProcInfo) (task : Task) (origin : Origin) (r : Record) (outer : List Frame) (p : Frame) (s : RStmt) (b : Bool) (mid new : Task) (ends : Bool) → IsTask proc task
    → IsPast proc task origin r outer p s b mid new ends → IsTask proc new
past_task proc task origin r outer p s b mid new ends t past = by ends refl
  where
    kept : IsTaskKept proc mid
    kept = subst (IsTaskKept proc) (sym past.is) (going_kept proc task origin r outer p s b t past.stands)

    by : (e : Bool) → ends ≡ e → IsTask proc new
    by true e = subst (IsTask proc) (sym (past.ended e)) (ended_task proc mid kept)
    by false e = trimmed_task proc mid new kept (past.trimmed e)

pub past_added : (proc : ProcInfo) (task : Task) (origin : Origin) (r : Record) (outer : List Frame) (p : Frame) (s : RStmt) (b : Bool) (mid new : Task) (end : Option End) (ends : Bool) → IsTask proc task
    → Chooses task.variables.env b (out-RStmt s) → HasColumns (out-RStmt s) → r.end ≡ end → ends ≡ is_some end → IsPast proc task origin r outer p s b mid new ends → HasAddedRecord proc task r new
past_added proc task origin r outer p s b mid new None ends t chosen has end are past =
    trimmed_added proc task origin r outer p s b new t past.stands chosen has end (subst (λ m. IsTrimmed proc m new) past.is (past.trimmed are))
past_added proc task origin r outer p s b mid new (Some e) ends t chosen has end are past =
    subst (HasAddedRecord proc task r) (sym (past.ended are ∙ ap (λ (m : Task). record m { ended = true }) past.is)) (ended_added proc task origin r outer p s b e past.stands has end)

pub past_found : (proc : ProcInfo) (task : Task) (origin : Origin) (r : Record) (outer : List Frame) (p : Frame) (s : RStmt) (b : Bool) (mid new : Task) (ends : Bool)
    → IsPast proc task origin r outer p s b mid new ends → new.variables.env.found ≡ task.variables.env.found
past_found proc task origin r outer p s b mid new ends past = by ends refl
  where
    behind : mid.variables.env.found ≡ task.variables.env.found
    behind = ap (λ (u : Task). u.variables.env.found) past.is ∙ record_found (out-RStmt s) r.rows r.sets task.variables.env

    by : (e : Bool) → ends ≡ e → new.variables.env.found ≡ task.variables.env.found
    by true e = ap (λ (u : Task). u.variables.env.found) (past.ended e) ∙ behind
    by false e = ap (λ (u : Task). u.variables.env.found) (past.trimmed e).rest ∙ behind

-- nothing was executed
pub past_executed : (proc : ProcInfo) (task : Task) (origin : Origin) (r : Record) (outer : List Frame) (p : Frame) (s : RStmt) (b : Bool) (mid new : Task) (ends : Bool)
    → IsPast proc task origin r outer p s b mid new ends → new.executed ≡ task.executed
past_executed proc task origin r outer p s b mid new ends past = by ends refl
  where
    before : mid.executed ≡ task.executed
    before = ap (λ (u : Task). u.executed) past.is

    by : (e : Bool) → ends ≡ e → new.executed ≡ task.executed
    by true e = ap (λ (u : Task). u.executed) (past.ended e) ∙ before
    by false e = ap (λ (u : Task). u.executed) (past.trimmed e).rest ∙ before

-- the log has the record
pub past_log : (proc : ProcInfo) (task : Task) (origin : Origin) (r : Record) (outer : List Frame) (p : Frame) (s : RStmt) (b : Bool) (mid new : Task) (ends : Bool)
    → IsPast proc task origin r outer p s b mid new ends → new.log ≡ closed task.log origin r
past_log proc task origin r outer p s b mid new ends past = by ends refl
  where
    before : mid.log ≡ closed task.log origin r
    before = ap (λ (u : Task). u.log) past.is

    by : (e : Bool) → ends ≡ e → new.log ≡ closed task.log origin r
    by true e = ap (λ (u : Task). u.log) (past.ended e) ∙ before
    by false e = ap (λ (u : Task). u.log) (past.trimmed e).rest ∙ before

-- the call with the changes of a record, and then with another frame, is the call behind the record
pub parts_behind : (task : Task) (origin : Origin) (r : Record) (outer : List Frame) (p : Frame) (s : RStmt) (b : Bool) (held : Task) (inner : List Frame) (behind : Frame) (at : ℕ) (frames : List Frame)
    → held ≡ changed_by (with_log task (closed task.log origin r)) (length task.log.records) s r inner → task.frames ≡ outer ++ p ∷ []
    → inner ≡ inner_frames (length task.log.records) p.number b (out-RStmt s) → behind ≡ frame_after (size s) p → at ≡ length outer
    → ((o i : List Frame) (q : Frame) → held.frames ≡ (o ++ q ∷ []) ++ i → at ≡ length o → frames ≡ (o ++ behind ∷ []) ++ i)
    → record held { frames = frames } ≡ behind_record task origin r outer p s b
parts_behind task origin r outer p s b held inner behind at frames h are inside moved top put =
    let was : held.frames ≡ (outer ++ p ∷ []) ++ inner = ap (λ (u : Task). u.frames) h ∙ ap (λ ps. ps ++ inner) are in
    let put_is : frames ≡ going (length task.log.records) outer p s b =
    put outer inner p was top ∙ (ap (λ q. (outer ++ q ∷ []) ++ inner) moved ∙ ap (λ is. (outer ++ frame_after (size s) p ∷ []) ++ is) inside) in
    ap (λ (u : Task). record u { frames = frames }) h ∙ ap (with_record task origin s r) put_is

-- The call where memory ran out

-- what was added is taken back
pub undone : (origin : Origin) (old : Task) (first log : Logged) (fallen : Task) (frames : List Frame)
    → HasFronts (with_log old first) fallen → log.records ≡ old.log.records → log.past ≡ old.log.past → (origin ≡ Executed → log.kept ≡ old.log.kept) → frames ≡ take (length old.frames) fallen.frames
    → IsWidened origin old (record fallen { log = log; frames = frames })
undone origin old first log fallen frames f records past kept ps = record {
  rest = ap (λ (u : Task). record u { log = log; frames = frames }) f.rest ∙ ap (λ v. record old { log = log; definers = fallen.definers; frames = v }) (ps ∙ f.frames);
  records = records;
  past = past;
  kept = kept;
  same = f.definers;
}
