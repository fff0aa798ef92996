use Rattle.std.proofs.Common.{◌≡◌, ◌<◌, ◌∙◌, true, false, List, Some, refl, sym, subst, length, arith}
use Rattle.std.specs.Prelude.{slice_get}
use Rattle.mv_record.specs.declared.record.Record.{Record}
use Rattle.mv_exec.specs.Running.{HasRun}
use Rattle.mv_exec.proofs.Fronts.{both}
use Rattle.mv_repair.specs.Walking.{any_write, writes_of, left_behind, renewed, HasCaughtUp}
use Rattle.mv_repair.specs.Stepping.{HasStepped}
use Rattle.mv_repair.proofs.Stepping.{known_old, known_new, caught_way, caught_step, has_decided, kept_step, renewed_step, met_within, stays_within}
use Rattle.mv_repair.proofs.repair.step.Goals as goal

pub stays-requires-clause-old : goal.stays-requires-clause-old
stays-requires-clause-old g c =
    known_old c.args.graph.now (g.V.View.sight c.args.view.now).database c.args.task.now c.args.old.now c.pass.new.self c.args.new.now (Some c.in-Some.ahead) c.in-Some.ahead
    c.requires.on_way c.in-Some.ensures.next refl c.in_ok-is_there.ensures.passed c.in_ok-is_there.ensures.stops c.in_ok-is_there.ensures.all

pub stays-requires-clause-new : goal.stays-requires-clause-new
stays-requires-clause-new g c =
    known_new c.args.graph.now (g.V.View.sight c.args.view.now).database c.args.task.now c.args.old.now c.args.new.now c.catch_up.new.self c.requires.on_way
    (subst (λ (rs : List Record). HasCaughtUp rs c.args.new.now c.catch_up.new.self) c.records.ensures c.in_ok-catch_up.ensures)

pub keep-requires-clause-there : goal.keep-requires-clause-there
keep-requires-clause-there g c =
    stays_within c.args.task.now.log.past c.pass.new.self c.catch_up.new.self c.args.task.now.log.records c.in-Some.ahead c.in_ok-keeps.keeps c.in_ok-keeps.ensures c.if-keeps.true

pub keep-requires-clause-rises : goal.keep-requires-clause-rises
keep-requires-clause-rises g c = omega (arith, c.requires.on_way.underway.rises, c.in_ok-is_there.ensures.on)

pub leave-requires : goal.leave-requires
leave-requires g c = λ yes.
    subst (λ (rs : List Record). c.pass.new.self.at < length rs) (sym c.past.ensures)
    (met_within c.args.task.now.log.past c.pass.new.self.at c.in-Some.ahead.spot (sym c.in_ok-is_there.ensures.at ∙ yes))

pub returns-then-keeps-clause-stepped : goal.returns-then-keeps-clause-stepped
returns-then-keeps-clause-stepped g c =
    let graph = c.args.graph.now in
    let task = c.args.task.now in
    let now = g.V.View.sight c.args.view.now in
    let caught = subst (λ (rs : List Record). HasCaughtUp rs c.args.new.now c.catch_up.new.self) c.records.ensures c.in_ok-catch_up.ensures in
    caught_step graph now.database task c.args.old.now c.args.new.now c.catch_up.new.self c.keep.new.task c.keep.new.old c.keep.new.new now now caught
    (kept_step graph now.database task c.args.old.now c.pass.new.self c.catch_up.new.self c.in-Some.ahead c.keep.new.task c.keep.new.old c.keep.new.new now
    (record {
      decided =
          has_decided graph task c.args.old.now c.pass.new.self c.catch_up.new.self (Some c.in-Some.ahead) c.in-Some.ahead c.in_ok-keeps.keeps true
          c.in-Some.ensures.next refl c.in_ok-is_there.ensures.passed c.in_ok-is_there.ensures.stops c.in_ok-keeps.ensures c.if-keeps.true;
      same = c.keep.ensures.call;
      kept = c.in_ok-keep.ensures.kept;
    })
    (caught_way graph now.database task c.args.old.now c.args.new.now c.catch_up.new.self caught c.requires.on_way))

pub returns-clause-stepped : goal.returns-clause-stepped
returns-clause-stepped g c =
    let graph = c.args.graph.now in
    let task = c.args.task.now in
    let before = g.V.View.sight c.args.view.now in
    let after = g.V.View.sight c.renew.new.view in
    let caught = subst (λ (rs : List Record). HasCaughtUp rs c.args.new.now c.catch_up.new.self) c.records.ensures c.in_ok-catch_up.ensures in
    both c.renew.result (HasRun task c.renew.new.task before after) (c.renew.new.new ≡ renewed (length task.log.records) (any_write (writes_of (slice_get c.renew.new.task.log.records (length task.log.records)))) c.catch_up.new.self)
    (HasStepped graph before.database task c.args.old.now c.args.new.now c.renew.new.task c.leave.new.self c.renew.new.new before after)
    (λ ran new_is. caught_step graph before.database task c.args.old.now c.args.new.now c.catch_up.new.self c.renew.new.task c.leave.new.self c.renew.new.new before after caught
    (renewed_step graph before.database task c.args.old.now c.pass.new.self c.catch_up.new.self c.in-Some.ahead c.in_ok-is_there.is_there c.renew.new.task c.leave.new.self c.renew.new.new before after
    (record {
      decided =
          has_decided graph task c.args.old.now c.pass.new.self c.catch_up.new.self (Some c.in-Some.ahead) c.in-Some.ahead c.in_ok-keeps.keeps false
          c.in-Some.ensures.next refl c.in_ok-is_there.ensures.passed c.in_ok-is_there.ensures.stops c.in_ok-keeps.ensures c.if-keeps.false;
      met_is = c.in_ok-is_there.ensures.at;
      old_is = subst (λ (rs : List Record). c.leave.new.self ≡ left_behind c.in_ok-is_there.is_there rs c.pass.new.self) c.past.ensures c.in_ok-leave.ensures;
      same = c.renew.ensures.call;
      goes_on = c.renew.ensures.goes_on;
      ran = ran;
      past = c.renew.ensures.past;
      kept = c.renew.ensures.kept;
      on = c.in_ok-is_there.ensures.on;
      new_is = new_is;
    })
    (caught_way graph before.database task c.args.old.now c.args.new.now c.catch_up.new.self caught c.requires.on_way))) c.renew.ensures.ran c.renew.ensures.new
