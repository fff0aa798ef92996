use Rattle.std.proofs.Common.{◌∙◌, refl}
use Rattle.mv_csvio.proofs.dump.csv_of.Goals as goal

pub loop-item-init : goal.loop-item-init
unfolding Rattle.csv.specs.Writing.is_blank
loop-item-init c =
    let e = c.from_writer-writer.ensures in
    record {
      setup = e.cfg ∙ (rw c.new.ensures at c.flexible.ensures);
      text = rw (e.wtr, e.empty, c.new-2.ensures.items) refl;
      count = e.fields;
      blank = rw e.wrote refl;
    }
