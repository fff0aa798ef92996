use Rattle.std.proofs.Common.{arith, ◌≡◌, ◌++◌, ◌∷◌, [], length, slice_get, option_to_list, refl, sym, ap, subst, ◌∙◌, length-append}
use Rattle.std.specs.Option.{is_some}
use Rattle.mv_catalog.specs.declared.resolved.RStmt.{out-RStmt}
use Rattle.mv_log.specs.Logged.{Logged}
use Rattle.mv_record.specs.declared.record.Record.{Record}
use Rattle.mv_recorded.specs.Effect.{HasColumns}
use Rattle.mv_effect.specs.Choosing.{Chooses}
use Rattle.mv_exec.specs.declared.task.Task.{Task}
use Rattle.mv_exec.specs.Moves.{inner_frames, frame_after}
use Rattle.mv_exec.specs.Recording.{IsRecordOf, kept_after}
use Rattle.mv_exec.specs.Tasks.{frames_of}
use Rattle.mv_exec.proofs.Adding.{get_last}
use Rattle.mv_exec.proofs.Held.{chooses_told}
use Rattle.mv_exec.proofs.Logs.{some_record}
use Rattle.mv_exec.proofs.Numbering.{small_next}
use Rattle.mv_exec.proofs.Stepping.{IsTaskKept, going_kept, behind_record, parts_behind, IsPast, past_task, past_added, past_found, past_executed, past_log}
use Rattle.mv_exec.proofs.Turning.{standing_live}
use Rattle.mv_exec.proofs.Wellness.{columns_at}
use Rattle.mv_exec.proofs.add.add.Goals as goal
use Rattle.mv_exec.proofs.add.add.Goals.{After-end_or_trim, After-put_frame}

pub inner_frame-inner-requires : goal.inner_frame-inner-requires
inner_frame-inner-requires c = omega (arith, (small_next c.args.graph.now.procedure (frames_of c.args.task.now) c.requires.at.at.0 c.args.position.frame c.requires.at.s c.requires.task.numbers c.requires.at.at.1 c.requires.sound.procedure.short).0)

pub frame_after-requires-clause-number : goal.frame_after-requires-clause-number
frame_after-requires-clause-number c = omega (arith, (small_next c.args.graph.now.procedure (frames_of c.args.task.now) c.requires.at.at.0 c.args.position.frame c.requires.at.s c.requires.task.numbers c.requires.at.at.1 c.requires.sound.procedure.short).0)

pub frame_after-requires-clause-at : goal.frame_after-requires-clause-at
frame_after-requires-clause-at c = (small_next c.args.graph.now.procedure (frames_of c.args.task.now) c.requires.at.at.0 c.args.position.frame c.requires.at.s c.requires.task.numbers c.requires.at.at.1 c.requires.sound.procedure.short).1

-- Before frames are dropped

were : (c : After-put_frame) → c.args.task.now.frames ≡ c.requires.at.at.0 ++ c.args.position.frame ∷ []
were c = sym (standing_live c.args.task.now.ended c.args.task.now.frames c.requires.live) ∙ c.requires.at.at.1.are

parts : (c : After-put_frame) (r : Record) → IsRecordOf c.args.task.now.log c.args.at c.args.origin r
    → (let t : Task = c.push_record.new.task in record t { frames = c.put_frame.new.frames }) ≡ behind_record c.args.task.now c.args.origin r c.requires.at.at.0 c.args.position.frame c.requires.at.s c.args.yes
parts c r is =
    parts_behind c.args.task.now c.args.origin r c.requires.at.at.0 c.args.position.frame c.requires.at.s c.args.yes c.push_record.new.task (option_to_list c.inner_frame-inner.result) c.frame_after.result
    c.saturating_sub.result c.put_frame.new.frames (c.in_ok-push_record.ensures.ok c.args.graph.now.procedure c.requires.at.s r c.requires.at.tells is) (were c)
    (c.inner_frame-inner.ensures c.args.graph.now.procedure c.requires.at.s c.requires.at.tells ∙ ap (λ n. inner_frames n c.args.position.frame.number c.args.yes (out-RStmt c.requires.at.s)) c.len-number.ensures)
    (c.frame_after.ensures ∙ ap (λ n. frame_after n c.args.position.frame) c.requires.at.tells.size)
    (let l : length c.args.task.now.frames ≡ length (c.requires.at.at.0 ++ c.args.position.frame ∷ []) = ap length (were c) in
    omega (arith, l, c.saturating_sub.ensures, c.len-depth.ensures, length-append c.requires.at.at.0 (c.args.position.frame ∷ [])))
    c.put_frame.ensures

kept : (c : After-put_frame) → IsTaskKept c.args.graph.now.procedure (let t : Task = c.push_record.new.task in record t { frames = c.put_frame.new.frames })
kept c =
    let some = some_record c.args.task.now.log c.args.at c.args.origin c.requires.origin in
    subst (IsTaskKept c.args.graph.now.procedure) (sym (parts c some.0 some.1))
    (going_kept c.args.graph.now.procedure c.args.task.now c.args.origin some.0 c.requires.at.at.0 c.args.position.frame c.requires.at.s c.args.yes c.requires.task c.requires.at.at.1)

pub end_or_trim-requires-clause-live : goal.end_or_trim-requires-clause-live
end_or_trim-requires-clause-live c =
    let some = some_record c.args.task.now.log c.args.at c.args.origin c.requires.origin in
    ap (λ (u : Task). u.ended) (parts (goal.at.end_or_trim-requires-clause-live c).After-put_frame some.0 some.1) ∙ c.requires.live

pub end_or_trim-requires-clause-filled : goal.end_or_trim-requires-clause-filled
end_or_trim-requires-clause-filled c = (kept (goal.at.end_or_trim-requires-clause-filled c).After-put_frame).filled

pub end_or_trim-requires-clause-numbers : goal.end_or_trim-requires-clause-numbers
end_or_trim-requires-clause-numbers c = (kept (goal.at.end_or_trim-requires-clause-numbers c).After-put_frame).numbers

-- After that

are : (c : After-end_or_trim) → c.args.task.now.frames ≡ c.requires.at.at.0 ++ c.args.position.frame ∷ []
are c = sym (standing_live c.args.task.now.ended c.args.task.now.frames c.requires.live) ∙ c.requires.at.at.1.are

parts_then : (c : After-end_or_trim) (r : Record) → IsRecordOf c.args.task.now.log c.args.at c.args.origin r
    → (let t : Task = c.push_record.new.task in record t { frames = c.put_frame.new.frames }) ≡ behind_record c.args.task.now c.args.origin r c.requires.at.at.0 c.args.position.frame c.requires.at.s c.args.yes
parts_then c r is =
    parts_behind c.args.task.now c.args.origin r c.requires.at.at.0 c.args.position.frame c.requires.at.s c.args.yes c.push_record.new.task (option_to_list c.inner_frame-inner.result) c.frame_after.result
    c.saturating_sub.result c.put_frame.new.frames (c.in_ok-push_record.ensures.ok c.args.graph.now.procedure c.requires.at.s r c.requires.at.tells is) (are c)
    (c.inner_frame-inner.ensures c.args.graph.now.procedure c.requires.at.s c.requires.at.tells ∙ ap (λ n. inner_frames n c.args.position.frame.number c.args.yes (out-RStmt c.requires.at.s)) c.len-number.ensures)
    (c.frame_after.ensures ∙ ap (λ n. frame_after n c.args.position.frame) c.requires.at.tells.size)
    (let l : length c.args.task.now.frames ≡ length (c.requires.at.at.0 ++ c.args.position.frame ∷ []) = ap length (are c) in
    omega (arith, l, c.saturating_sub.ensures, c.len-depth.ensures, length-append c.requires.at.at.0 (c.args.position.frame ∷ [])))
    c.put_frame.ensures

past : (c : After-end_or_trim) (r : Record) → IsRecordOf c.args.task.now.log c.args.at c.args.origin r
    → IsPast c.args.graph.now.procedure c.args.task.now c.args.origin r c.requires.at.at.0 c.args.position.frame c.requires.at.s c.args.yes
    (let t : Task = c.push_record.new.task in record t { frames = c.put_frame.new.frames }) c.end_or_trim.new.task c.ends_call-ends.result
past c r is = record {
  stands = c.requires.at.at.1;
  is = parts_then c r is;
  ended = c.end_or_trim.ensures.ends;
  trimmed = c.end_or_trim.ensures.trims;
}

ended : (c : After-end_or_trim) (r : Record) → IsRecordOf c.args.task.now.log c.args.at c.args.origin r → c.ends_call-ends.result ≡ is_some r.end
ended c r is =
    c.ends_call-ends.ensures r
    (ap (λ rs. slice_get rs c.len-number.result) c.records.ensures
    ∙ (ap (λ (u : Task). slice_get u.log.records c.len-number.result) (parts_then c r is)
    ∙ (ap (slice_get (c.args.task.now.log.records ++ r ∷ [])) c.len-number.ensures ∙ get_last c.args.task.now.log.records r)))

pub returns-clause-task : goal.returns-clause-task
returns-clause-task c =
    let some = some_record c.args.task.now.log c.args.at c.args.origin c.requires.origin in
    past_task c.args.graph.now.procedure c.args.task.now c.args.origin some.0 c.requires.at.at.0 c.args.position.frame c.requires.at.s c.args.yes _ c.end_or_trim.new.task c.ends_call-ends.result c.requires.task
    (past c some.0 some.1)

chooses : (c : After-end_or_trim) → Chooses c.args.task.now.variables.env c.args.yes (out-RStmt c.requires.at.s)
chooses c = chooses_told c.args.graph.now.procedure c.requires.at.s c.args.position.step.now c.args.task.now.variables.env c.args.yes c.requires.at.tells c.requires.branch

columns : (c : After-end_or_trim) → HasColumns (out-RStmt c.requires.at.s)
columns c = columns_at c.args.graph.now.tables c.args.graph.now.procedure (frames_of c.args.task.now) c.args.position.frame c.requires.at.s c.requires.sound.procedure c.requires.at.at

pub returns-clause-added : goal.returns-clause-added
returns-clause-added c = λ r is.
    past_added c.args.graph.now.procedure c.args.task.now c.args.origin r c.requires.at.at.0 c.args.position.frame c.requires.at.s c.args.yes _ c.end_or_trim.new.task r.end c.ends_call-ends.result
    c.requires.task (chooses c) (columns c) refl (ended c r is) (past c r is)

pub returns-clause-log : goal.returns-clause-log
returns-clause-log c = λ r is.
    past_log c.args.graph.now.procedure c.args.task.now c.args.origin r c.requires.at.at.0 c.args.position.frame c.requires.at.s c.args.yes _ c.end_or_trim.new.task c.ends_call-ends.result (past c r is)

pub returns-clause-past : goal.returns-clause-past
returns-clause-past c =
    let some = some_record c.args.task.now.log c.args.at c.args.origin c.requires.origin in
    ap (λ (l : Logged). l.past) (returns-clause-log c some.0 some.1)

pub returns-clause-kept : goal.returns-clause-kept
returns-clause-kept c = λ none.
    let some = some_record c.args.task.now.log c.args.at c.args.origin c.requires.origin in
    ap (λ (l : Logged). l.kept) (returns-clause-log c some.0 some.1) ∙ ap (kept_after c.args.task.now.log.kept) none

pub returns-in_err-push_record-clause-kept : goal.returns-in_err-push_record-clause-kept
returns-in_err-push_record-clause-kept c = c.in_err-push_record.ensures.err.kept

pub returns-clause-executed : goal.returns-clause-executed
returns-clause-executed c =
    let some = some_record c.args.task.now.log c.args.at c.args.origin c.requires.origin in
    past_executed c.args.graph.now.procedure c.args.task.now c.args.origin some.0 c.requires.at.at.0 c.args.position.frame c.requires.at.s c.args.yes _ c.end_or_trim.new.task c.ends_call-ends.result (past c some.0 some.1)

pub returns-clause-found : goal.returns-clause-found
returns-clause-found c =
    let some = some_record c.args.task.now.log c.args.at c.args.origin c.requires.origin in
    past_found c.args.graph.now.procedure c.args.task.now c.args.origin some.0 c.requires.at.at.0 c.args.position.frame c.requires.at.s c.args.yes _ c.end_or_trim.new.task c.ends_call-ends.result (past c some.0 some.1)
