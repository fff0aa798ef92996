use Rattle.std.proofs.Common.{◌≡◌, subst, take}
use Rattle.std.specs.Option.{ForSome}
use Rattle.std.proofs.lemmas.Result.{IfOk-weaker}
use Rattle.mv_edge.specs.declared.reading.TheConstants.{MOST}
use Rattle.mv_top.specs.Inputs.{IsReader, input_of, IsTaken}
use Rattle.mv_top.proofs.Answering.{is_reader, taken_by_reader}
use Rattle.mv_top.proofs.input.take_input.Goals as goal

pub returns-in_ok-workload-in-Tpcc-clause-rest : goal.returns-in_ok-workload-in-Tpcc-clause-rest
returns-in_ok-workload-in-Tpcc-clause-rest g c = λ reads. absurd (subst IsReader c.in-Tpcc.is reads)

pub returns-in_default-clause-taken : goal.returns-in_default-clause-taken
returns-in_default-clause-taken g c =
    IfOk-weaker c.read_all.result (λ bytes. ForSome (g.S.Source.left c.args.source.now) (λ all. bytes ≡ take MOST all))
    (λ bytes. ForSome (input_of c.args.command.now (g.S.Source.left c.args.source.now)) (λ all. IsTaken all bytes))
    (λ bytes read. taken_by_reader c.args.command.now (g.S.Source.left c.args.source.now) bytes (is_reader c.args.command.now c.in_default.not-Tpcc) read) c.read_all.ensures.bytes

pub returns-in_default-clause-rest : goal.returns-in_default-clause-rest
returns-in_default-clause-rest g c = λ reads. c.read_all.ensures.rest

pub returns-in_default-clause-unread : goal.returns-in_default-clause-unread
returns-in_default-clause-unread g c = λ other. absurd (other (is_reader c.args.command.now c.in_default.not-Tpcc))

pub returns-in_default-clause-untried : goal.returns-in_default-clause-untried
returns-in_default-clause-untried g c = λ other. absurd (other (is_reader c.args.command.now c.in_default.not-Tpcc))
