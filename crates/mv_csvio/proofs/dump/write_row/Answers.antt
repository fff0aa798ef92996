use Rattle.std.proofs.Common.{map, arith}
use Rattle.std.proofs.lemmas.List.{take_all}
use Rattle.mv_csvio.specs.Csv.{field_of}
use Rattle.mv_csvio.proofs.Steps.{record_more}
use Rattle.mv_csvio.proofs.dump.write_row.Goals as goal

pub returns : goal.returns
returns c = λ before h.
    let e = c.in-Ok.ensures in
    let whole = take_all c.loop-value.value-index c.args.row.now (omega (arith, c.loop-value-test.false)) in
    record_more c.loop-value.writer c.end_record.new.self before (map field_of c.args.row.now) (rw whole at (c.loop-value.invariant before h)) e.bytes e.same e.fields e.wrote
