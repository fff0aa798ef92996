use Rattle.std.proofs.Common.{◌≡◌, ℕ, List, length, subst}
use Rattle.std.proofs.lemmas.Result.{IfOk-weaker}
use Rattle.mv_values.specs.declared.schema.TableInfo.{TableInfo}
use Rattle.mv_journal.specs.declared.outcome.Outcome.{Outcome}
use Rattle.mv_lawful.specs.Batch.{Batch}
use Rattle.mv_report.specs.Text.{text_of}
use Rattle.mv_report.specs.History.{batch_of}
use Rattle.mv_top.specs.Workers.{IsLeftBy}
use Rattle.mv_top.specs.Answers.{IsTextOfWorkers}
use Rattle.mv_top.proofs.Texts.{text_left}
use Rattle.mv_top.proofs.workers.run_text.Goals as goal

pub returns : goal.returns
returns g c =
    let left : Outcome = c.in_ok-outcome.outcome in
    let by : IsLeftBy c.args.crew.threads (batch_of c.args.program c.args.crew.options) (length c.args.program.resolved.calls) left =
    subst (λ (n : ℕ). IsLeftBy c.args.crew.threads (batch_of c.args.program c.args.crew.options) n left) c.in_ok-script.ensures.count
    (subst (λ (w : Batch). IsLeftBy c.args.crew.threads w (length c.in_ok-script.field-0.script.calls) left) c.in_ok-script.ensures.batch c.in_ok-outcome.ensures) in
    IfOk-weaker c.render.result (λ bytes. bytes ≡ text_of c.in_ok-script.field-0.tables left) (IsTextOfWorkers c.args.crew.threads c.args.crew.options c.args.program)
    (λ bytes is. text_left c.args.program c.args.crew.options c.args.crew.threads bytes left by (subst (λ (ts : List TableInfo). bytes ≡ text_of ts left) c.in_ok-script.ensures.tables is)) c.render.ensures
