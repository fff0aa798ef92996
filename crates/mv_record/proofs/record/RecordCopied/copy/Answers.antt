use Rattle.mv_record.proofs.record.RecordCopied.copy.Goals as goal

pub returns : goal.returns
returns c =
    rw (c.in_ok-spot.ensures, c.in_ok-reads.ensures, c.in_ok-preds.ensures, c.in_ok-sets.ensures, c.in_ok-rows.ensures, c.in_ok-writes.ensures, c.in_ok-line.ensures, c.in_ok-end.ensures)
