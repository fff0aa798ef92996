use Rattle.std.proofs.Common.{ap, ◌∙◌, take, length, arith}
use Rattle.std.proofs.lemmas.List.{take_all}
use Rattle.mv_record.specs.Runs.{writes_in}
use Rattle.mv_gate.proofs.Bringing.{writes_none, writes_all}
use Rattle.mv_gate.proofs.output.counted.Goals as goal

pub returns-in-Some : goal.returns-in-Some
returns-in-Some c = ap writes_in c.first.ensures ∙ writes_none c.args.records.now c.args.reply.now c.in-Some.field-0 c.requires c.in-Some.is

pub returns-in-None : goal.returns-in-None
returns-in-None c =
    ap writes_in (c.first-in-None.ensures ∙ (ap (λ n. take n c.args.records.now) c.len.ensures ∙ take_all (length c.args.records.now) c.args.records.now (omega arith))) ∙ writes_all c.args.records.now c.args.reply.now c.requires c.in-None.is
