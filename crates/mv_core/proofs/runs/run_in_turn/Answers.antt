use Rattle.std.proofs.Common.{Result, Ok, Err}
use Rattle.std.specs.Prelude.{IfOk}
use Rattle.mv_values.specs.declared.memory.NoMemory.{NoMemory}
use Rattle.mv_journal.specs.declared.outcome.Outcome.{Outcome}
use Rattle.mv_core.proofs.Turning.{turned_shut, turned_outcome}
use Rattle.mv_core.proofs.runs.run_in_turn.Goals as goal

pub outcome-requires : goal.outcome-requires
outcome-requires c = turned_shut c.in_ok-core.core.book c.run_calls.new.core.book c.in_ok-core.ensures.schedule c.in_ok-run_calls.ensures

if_ok : {P Q : Outcome → Type 0} (r : Result Outcome NoMemory) → IfOk r P → ((o : Outcome) → P o → Q o) → IfOk r Q
if_ok (Ok o) p f = f o p
if_ok (Err e) p f = tt

pub returns : goal.returns
returns c =
    if_ok c.outcome.result c.outcome.ensures.outcome
    (λ o is. turned_outcome c.args.script c.in_ok-core.core.book c.run_calls.new.core.book o c.in_ok-run_calls.ensures c.in_ok-core.ensures.script c.in_ok-core.ensures.journal is)
