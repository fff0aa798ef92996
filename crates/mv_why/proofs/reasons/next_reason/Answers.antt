use Rattle.std.proofs.Common.{Some, length, sym, ap, subst, ◌∙◌, arith}
use Rattle.mv_why.specs.declared.run.Runs.{Runs}
use Rattle.mv_why.specs.declared.walk.Walk.{Walk}
use Rattle.mv_why.specs.Causes.{why_reason}
use Rattle.mv_why.specs.Walking.{IsOn}
use Rattle.mv_why.proofs.Deciding.{Decision, decided, may_keep, gone_on, none_is, longer}
use Rattle.mv_soundness.proofs.Placing.{many_paths}
use Rattle.mv_why.proofs.reasons.next_reason.Goals as goal

pub path_at-requires : goal.path_at-requires
path_at-requires c =
    let many = ap length c.requires.sound.fresh ∙ many_paths c.args.runs.now.fresh.records in
    omega (arith, c.len-number.ensures, c.requires.more, many)

pub reason_of_record-requires-clause-within : goal.reason_of_record-requires-clause-within
reason_of_record-requires-clause-within c = omega (arith, c.len-number.ensures, c.requires.more)

pub reason_of_record-requires-clause-paths : goal.reason_of_record-requires-clause-paths
reason_of_record-requires-clause-paths c =
    let many = ap length c.requires.sound.fresh ∙ many_paths c.args.runs.now.fresh.records in
    omega (arith, c.len-number.ensures, c.requires.more, many)

pub go_on-requires : goal.go_on-requires
go_on-requires c kept =
    let runs : Runs = c.args.runs.now in
    let number = c.len-number.result in
    let d : Decision runs c.pass.new.self number c.in_ok-reason.reason =
    decided runs c.args.walk.now c.pass.new.self number c.as_slice-path.result.now c.in_ok-reason.reason c.requires.sound c.requires.on c.len-number.ensures (c.path_at.ensures ∙ ap Some (sym c.as_slice-path.ensures))
    c.in_ok-pass.ensures.passed c.in_ok-pass.ensures.stops c.in_ok-reason.ensures in
    may_keep runs c.pass.new.self number c.in_ok-reason.reason c.requires.sound d (none_is c.in_ok-reason.reason c.is_none.result c.is_none.ensures ∙ kept)

pub returns-clause-on : goal.returns-clause-on
returns-clause-on c =
    let runs : Runs = c.args.runs.now in
    let number = c.len-number.result in
    let d : Decision runs c.pass.new.self number c.in_ok-reason.reason =
    decided runs c.args.walk.now c.pass.new.self number c.as_slice-path.result.now c.in_ok-reason.reason c.requires.sound c.requires.on c.len-number.ensures (c.path_at.ensures ∙ ap Some (sym c.as_slice-path.ensures))
    c.in_ok-pass.ensures.passed c.in_ok-pass.ensures.stops c.in_ok-reason.ensures in
    subst (IsOn runs) (sym c.in_ok-go_on.ensures)
    (gone_on runs c.pass.new.self number c.in_ok-reason.reason c.is_none.result c.requires.sound d (none_is c.in_ok-reason.reason c.is_none.result c.is_none.ensures))

pub returns-clause-more : goal.returns-clause-more
returns-clause-more c =
    ap (λ (w : Walk). length w.kept) c.in_ok-go_on.ensures
    ∙ longer c.args.runs.now.fresh.records c.len-number.result c.is_none.result c.args.walk.now c.pass.new.self c.in_ok-pass.ensures.passed.kept

pub returns-clause-reason : goal.returns-clause-reason
returns-clause-reason c =
    let runs : Runs = c.args.runs.now in
    let number = c.len-number.result in
    let d : Decision runs c.pass.new.self number c.in_ok-reason.reason =
    decided runs c.args.walk.now c.pass.new.self number c.as_slice-path.result.now c.in_ok-reason.reason c.requires.sound c.requires.on c.len-number.ensures (c.path_at.ensures ∙ ap Some (sym c.as_slice-path.ensures))
    c.in_ok-pass.ensures.passed c.in_ok-pass.ensures.stops c.in_ok-reason.ensures in
    d.told ∙ ap (why_reason runs.old.records runs.fresh.records runs.since.now) c.len-number.ensures
