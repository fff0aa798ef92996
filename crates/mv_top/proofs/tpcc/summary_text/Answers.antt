use Rattle.std.proofs.Common.{◌≡◌, ℕ, length, subst}
use Rattle.std.proofs.lemmas.Result.{IfOk-weaker}
use Rattle.mv_journal.specs.declared.outcome.Outcome.{Outcome}
use Rattle.mv_lawful.specs.Batch.{Batch}
use Rattle.mv_tpccsum.specs.Summary.{summary}
use Rattle.mv_report.specs.History.{batch_of}
use Rattle.mv_top.specs.Workers.{IsLeftBy}
use Rattle.mv_top.specs.Tpcc.{IsSummary}
use Rattle.mv_top.proofs.Summaries.{summary_left}
use Rattle.mv_top.proofs.tpcc.summary_text.Goals as goal

pub returns : goal.returns
returns g c =
    let left : Outcome = c.in_ok-outcome.outcome in
    let by : IsLeftBy c.args.crew.threads (batch_of c.args.program c.args.crew.options) (length c.args.program.resolved.calls) left =
    subst (λ (n : ℕ). IsLeftBy c.args.crew.threads (batch_of c.args.program c.args.crew.options) n left) c.in_ok-script.ensures.count
    (subst (λ (w : Batch). IsLeftBy c.args.crew.threads w (length c.in_ok-script.script.calls) left) c.in_ok-script.ensures.batch c.in_ok-outcome.ensures) in
    IfOk-weaker c.summary.result (λ bytes. bytes ≡ summary c.args.load.now c.args.program.resolved left) (IsSummary c.args.load.now c.args.program c.args.crew.options)
    (λ bytes is. summary_left c.args.load.now c.args.program c.args.crew.options c.args.crew.threads bytes left by is) c.summary.ensures
