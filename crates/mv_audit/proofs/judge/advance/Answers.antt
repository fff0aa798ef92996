use Rattle.std.proofs.Common.{◌≡◌, ◌≤◌, ◌+◌, None, length, subst}
use Rattle.mv_journal.specs.declared.event.Event.TheVariants as an
use Rattle.mv_lawful.specs.Lawful.{refusal, after}
use Rattle.mv_audit.specs.Schedules.{audited, schedule_of}
use Rattle.mv_audit.proofs.Scheduling.{calls_few, ok_by}
use Rattle.mv_audit.proofs.Refusing.{is_live_call, next_call}
use Rattle.mv_audit.proofs.judge.advance.Goals as goal

pub begin-requires-clause-allowed : goal.begin-requires-clause-allowed
begin-requires-clause-allowed c =
    let w = audited c.args.program.now c.args.rounds in
    let s = schedule_of c.args.schedule in
    let free = subst (λ e. refusal w s e ≡ None) c.in-B.is c.requires.allowed in
    subst (λ n. refusal w s (an.B n) ≡ None) (next_call w c.args.schedule c.in-B.field-0 free) free

pub again-requires-clause-allowed : goal.again-requires-clause-allowed
again-requires-clause-allowed c = subst (λ e. refusal (audited c.args.program.now c.args.rounds) (schedule_of c.args.schedule) e ≡ None) c.in-A.is c.requires.allowed

pub again-requires-clause-live : goal.again-requires-clause-live
again-requires-clause-live c = is_live_call c.args.schedule c.in-A.call _ (subst (λ e. refusal (audited c.args.program.now c.args.rounds) (schedule_of c.args.schedule) e ≡ None) c.in-A.is c.requires.allowed)

pub again-requires-in-M-clause-live : goal.again-requires-in-M-clause-live
again-requires-in-M-clause-live c = is_live_call c.args.schedule c.in-M.call _ (subst (λ e. refusal (audited c.args.program.now c.args.rounds) (schedule_of c.args.schedule) e ≡ None) c.in-M.is c.requires.allowed)

pub commit-requires-clause-live : goal.commit-requires-clause-live
commit-requires-clause-live c = is_live_call c.args.schedule c.in-C.call _ (subst (λ e. refusal (audited c.args.program.now c.args.rounds) (schedule_of c.args.schedule) e ≡ None) c.in-C.is c.requires.allowed)

pub commit-requires-in-X-clause-live : goal.commit-requires-in-X-clause-live
commit-requires-in-X-clause-live c = is_live_call c.args.schedule c.in-X.call _ (subst (λ e. refusal (audited c.args.program.now c.args.rounds) (schedule_of c.args.schedule) e ≡ None) c.in-X.is c.requires.allowed)

pub answer-requires-clause-live : goal.answer-requires-clause-live
answer-requires-clause-live c = is_live_call c.args.schedule c.in-R.call _ (subst (λ e. refusal (audited c.args.program.now c.args.rounds) (schedule_of c.args.schedule) e ≡ None) c.in-R.is c.requires.allowed)

pub returns-in-B-clause-more : goal.returns-in-B-clause-more
returns-in-B-clause-more c =
    let w = audited c.args.program.now c.args.rounds in
    let s = c.args.schedule in
    ok_by c.begin.result (λ next. schedule_of next ≡ after w (schedule_of s) (an.B (length s.calls))) (λ next. length next.calls ≤ length s.calls + 1) (λ next is. calls_few w s next (an.B (length s.calls)) is) c.begin.ensures.after

pub returns-in-A-clause-more : goal.returns-in-A-clause-more
returns-in-A-clause-more c =
    let w = audited c.args.program.now c.args.rounds in
    let s = c.args.schedule in
    ok_by c.again.result (λ next. schedule_of next ≡ after w (schedule_of s) (an.A c.in-A.call)) (λ next. length next.calls ≤ length s.calls + 1) (λ next is. calls_few w s next (an.A c.in-A.call) is) c.again.ensures.after

pub returns-in-C-clause-more : goal.returns-in-C-clause-more
returns-in-C-clause-more c =
    let w = audited c.args.program.now c.args.rounds in
    let s = c.args.schedule in
    ok_by c.commit.result (λ next. schedule_of next ≡ after w (schedule_of s) (an.C c.in-C.call)) (λ next. length next.calls ≤ length s.calls + 1) (λ next is. calls_few w s next (an.C c.in-C.call) is) c.commit.ensures.after

pub returns-in-X-clause-more : goal.returns-in-X-clause-more
returns-in-X-clause-more c =
    let w = audited c.args.program.now c.args.rounds in
    let s = c.args.schedule in
    ok_by c.commit-in-X.result (λ next. schedule_of next ≡ after w (schedule_of s) (an.X c.in-X.call)) (λ next. length next.calls ≤ length s.calls + 1) (λ next is. calls_few w s next (an.X c.in-X.call) is) c.commit-in-X.ensures.after

pub returns-in-R-clause-more : goal.returns-in-R-clause-more
returns-in-R-clause-more c =
    let w = audited c.args.program.now c.args.rounds in
    let s = c.args.schedule in
    ok_by c.answer.result (λ next. schedule_of next ≡ after w (schedule_of s) (an.R c.in-R.call)) (λ next. length next.calls ≤ length s.calls + 1) (λ next is. calls_few w s next (an.R c.in-R.call) is) c.answer.ensures.after
