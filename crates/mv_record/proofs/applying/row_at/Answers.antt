use Rattle.mv_record.proofs.Patching.{row_found, row_lacking}
use Rattle.mv_record.proofs.applying.row_at.Goals as goal

pub returns-in-Ok : goal.returns-in-Ok
returns-in-Ok c = λ key place. rw c.as_slice.ensures.items (row_found c.args.rows.now key c.args.place c.in-Ok.at c.index-as_slice-at.result c.as_slice.ensures.rising c.in-Ok.is place)

pub returns-in-Err : goal.returns-in-Err
returns-in-Err c = λ key place. row_lacking c.args.rows.now key c.args.place c.in-Err.field-0 c.in-Err.is place
