use Rattle.mv_csvio.proofs.Reading.{read_one}
use Rattle.mv_csvio.proofs.load.has_read.Goals as goal

pub returns : goal.returns
returns c = λ at' bytes h.
    let e = c.in-Ok.ensures in
    read_one c.args.reader.now c.read_byte_record.new.self c.in-Ok.found c.read_byte_record.new.row at' bytes h (e.reads h.trim h.ready) (e.ready h.trim)
