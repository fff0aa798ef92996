use Rattle.std.proofs.Common.{rules, arith, ◌∙◌, List, length, refl, sym, ap, subst}
use Rattle.std.proofs.lemmas.List.{length_push}
use Rattle.mv_values.specs.declared.schema.TableInfo.{TableInfo}
use Rattle.mv_values.specs.Patching.{applied}
use Rattle.mv_catalog.specs.declared.resolved.RStmt.{out-RStmt}
use Rattle.mv_eval.specs.declared.state.Env.{Env}
use Rattle.mv_log.specs.Logged.{Logged, owned}
use Rattle.mv_undo.specs.Owning.{earlier}
use Rattle.mv_recorded.specs.Effects.{IsEffect}
use Rattle.mv_effect.specs.Looking.{IsExecutable}
use Rattle.mv_recorded.proofs.WellNamed.{well_named}
use Rattle.mv_exec.specs.declared.recording.Origin.TheVariants.{Executed}
use Rattle.mv_exec.specs.Recording.{peeked}
use Rattle.mv_exec.specs.Tasks.{frames_of}
use Rattle.mv_exec.proofs.Executing.{asked_ahead, counts_one, executed_next, record_in, as_peeked, added_effect}
use Rattle.mv_exec.proofs.Held.{effect_told, names_told}
use Rattle.mv_exec.proofs.Logs.{closed_rests, logged_task}
use Rattle.mv_exec.proofs.Wellness.{well_at, columns_at}
use Rattle.mv_exec.proofs.Writing.{keys_before}
use Rattle.mv_exec.proofs.execute.execute.Goals as goal

pub effect-requires : goal.effect-requires
effect-requires g c = λ k. (
  (refl, tt),
  (
    (let well = well_at c.args.graph.now.tables c.args.graph.now.procedure c.requires.at.at.0 c.args.position.frame c.requires.at.s c.requires.sound.procedure c.requires.at.at.1.stands in
        subst (λ (e : Env). IsExecutable c.as_slice.result.now c.args.position.step.now.statement e (earlier c.len-number.result (owned c.args.task.now.log)) (g.V.View.sight c.args.view.now).database) (sym c.env.ensures)
        (subst (λ (ts : List TableInfo). IsExecutable ts c.args.position.step.now.statement c.args.task.now.variables.env (earlier c.len-number.result (owned c.args.task.now.log)) (g.V.View.sight c.args.view.now).database) (sym c.as_slice.ensures)
        (subst (λ n. IsExecutable c.args.graph.now.tables c.args.position.step.now.statement c.args.task.now.variables.env (earlier n (owned c.args.task.now.log)) (g.V.View.sight c.args.view.now).database) (sym c.len-number.ensures)
        (record {
          stands = record {
            few = c.requires.sound.few;
            each = c.requires.sound.tables;
            parents = c.requires.sound.parents;
            database = c.requires.database;
            behind = keys_before c.args.graph.now.tables c.args.task.now (g.V.View.sight c.args.view.now).database c.requires.keys;
          };
          names = names_told c.args.graph.now.tables c.args.graph.now.procedure c.requires.at.s c.args.position.step.now c.requires.at.tells (well_named c.args.graph.now.tables c.requires.at.s well.0 well.1);
          found = c.requires.found;
        })))),
    search rules,
  ),
)

pub add-requires-clause-task : goal.add-requires-clause-task
add-requires-clause-task g c = logged_task c.args.graph.now.procedure c.args.task.now c.effect.new.log (ap (λ (l : Logged). l.records) c.in_ok-holds.ensures.rest) c.requires.task

pub overflow_sub-task : goal.overflow_sub-task
overflow_sub-task g c =
    omega (
      arith,
      ap (λ (l : Logged). length l.records) (c.in_ok-stepped.ensures.log (record_in c.effect.new.log c.args.at) refl),
      length_push c.effect.new.log.records (record_in c.effect.new.log c.args.at),
      ap (λ (l : Logged). length l.records) c.in_ok-holds.ensures.rest,
      c.len.ensures,
      c.len-number.ensures,
    )

pub returns-clause-executed : goal.returns-clause-executed
returns-clause-executed g c =
    executed_next c.args.graph.now.procedure c.args.graph.now.tables c.args.task.now c.add.new.task (g.V.View.sight c.args.view.now) (g.V.View.sight c.effect.new.view) _
    c.requires.at.at.0 c.args.position.frame c.requires.at.s (peeked c.args.task.now.log c.args.at) c.effect.new.log.effect (record_in c.effect.new.log c.args.at) c.requires.task c.requires.at.at.1
    (columns_at c.args.graph.now.tables c.args.graph.now.procedure (frames_of c.args.task.now) c.args.position.frame c.requires.at.s c.requires.sound.procedure c.requires.at.at)
    c.requires.database.rising c.requires.next
    (effect_told c.args.graph.now.tables c.args.graph.now.procedure c.requires.at.s c.args.position.step.now c.args.task.now.variables.env (applied (earlier (length c.args.task.now.log.records) (owned c.args.task.now.log)) (g.V.View.sight c.args.view.now).database) c.effect.new.log.effect c.requires.at.tells
    (subst (λ (ts : List TableInfo). IsEffect ts (out-RStmt c.args.position.step.now.statement) c.args.task.now.variables.env (applied (earlier (length c.args.task.now.log.records) (owned c.args.task.now.log)) (g.V.View.sight c.args.view.now).database) c.effect.new.log.effect)
    c.as_slice.ensures
    (subst (λ n. IsEffect c.as_slice.result.now (out-RStmt c.args.position.step.now.statement) c.args.task.now.variables.env (applied (earlier n (owned c.args.task.now.log)) (g.V.View.sight c.args.view.now).database) c.effect.new.log.effect)
    c.len-number.ensures
    (subst (λ (e : Env). IsEffect c.as_slice.result.now (out-RStmt c.args.position.step.now.statement) e (applied (earlier c.len-number.result (owned c.args.task.now.log)) (g.V.View.sight c.args.view.now).database) c.effect.new.log.effect)
    c.env.ensures c.in_ok-holds.ensures.effect))))
    (asked_ahead c.args.graph.now c.args.task.now (g.V.View.sight c.args.view.now) (g.V.View.sight c.effect.new.view) c.requires.at.at.0 c.args.position.frame c.requires.at.s c.args.position.step.now _ _ _
    c.requires.task c.requires.at.at.1 c.requires.at.tells c.as_slice.ensures c.env.ensures c.len-number.ensures c.effect.ensures.looks)
    (as_peeked c.args.task.now.log c.effect.new.log c.args.at c.in_ok-holds.ensures.rest)
    (added_effect c.args.graph.now.procedure c.args.task.now c.effect.new.log c.args.at c.add.new.task c.in_ok-holds.ensures.rest c.in_ok-stepped.ensures.added)

pub returns-clause-bounded : goal.returns-clause-bounded
returns-clause-bounded g c =
    asked_ahead c.args.graph.now c.args.task.now (g.V.View.sight c.args.view.now) (g.V.View.sight c.effect.new.view) c.requires.at.at.0 c.args.position.frame c.requires.at.s c.args.position.step.now _ _ _
    c.requires.task c.requires.at.at.1 c.requires.at.tells c.as_slice.ensures c.env.ensures c.len-number.ensures c.effect.ensures.looks

pub returns-in_err-holds-clause-bounded : goal.returns-in_err-holds-clause-bounded
returns-in_err-holds-clause-bounded g c =
    asked_ahead c.args.graph.now c.args.task.now (g.V.View.sight c.args.view.now) (g.V.View.sight c.effect.new.view) c.requires.at.at.0 c.args.position.frame c.requires.at.s c.args.position.step.now _ _ _
    c.requires.task c.requires.at.at.1 c.requires.at.tells c.as_slice.ensures c.env.ensures c.len-number.ensures c.effect.ensures.looks

pub returns-in_err-stepped-clause-bounded : goal.returns-in_err-stepped-clause-bounded
returns-in_err-stepped-clause-bounded g c =
    asked_ahead c.args.graph.now c.args.task.now (g.V.View.sight c.args.view.now) (g.V.View.sight c.effect.new.view) c.requires.at.at.0 c.args.position.frame c.requires.at.s c.args.position.step.now _ _ _
    c.requires.task c.requires.at.at.1 c.requires.at.tells c.as_slice.ensures c.env.ensures c.len-number.ensures c.effect.ensures.looks

pub returns-clause-counted : goal.returns-clause-counted
returns-clause-counted g c =
    counts_one c.args.graph.now.procedure c.args.task.now (record_in c.effect.new.log c.args.at) c.add.new.task c.len.result c.len-number.result
    (added_effect c.args.graph.now.procedure c.args.task.now c.effect.new.log c.args.at c.add.new.task c.in_ok-holds.ensures.rest c.in_ok-stepped.ensures.added)
    c.in_ok-stepped.ensures.executed c.len.ensures c.len-number.ensures

pub returns-clause-rest : goal.returns-clause-rest
returns-clause-rest g c =
    closed_rests c.effect.new.log c.add.new.task.log Executed (record_in c.effect.new.log c.args.at) (c.in_ok-stepped.ensures.log (record_in c.effect.new.log c.args.at) refl)

pub returns-clause-kept : goal.returns-clause-kept
returns-clause-kept g c = c.add.ensures.kept refl ∙ ap (λ (l : Logged). l.kept) c.in_ok-holds.ensures.rest

pub returns-in_err-stepped-clause-kept : goal.returns-in_err-stepped-clause-kept
returns-in_err-stepped-clause-kept g c = c.add.ensures.kept refl ∙ ap (λ (l : Logged). l.kept) c.in_ok-holds.ensures.rest
