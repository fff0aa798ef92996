use Rattle.mv_csvio.proofs.Steps.{field_more, quotes_where_needed}
use Rattle.mv_csvio.proofs.dump.write_field.Goals as goal

pub returns : goal.returns
returns c = λ before fields fits h.
    let e = c.in-Ok.ensures in
    let style = quotes_where_needed c.args.writer.now h.setup in
    field_more c.args.writer.now c.write_field.new.self before fields c.args.field.now fits h (e.text style) e.same e.count (λ w. e.wrote w style) e.stays
