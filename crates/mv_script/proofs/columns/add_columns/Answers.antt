use Rattle.std.specs.List.{list_any}
use Rattle.std.proofs.lemmas.Result.{on_ok_weaker}
use Rattle.mv_values.specs.Testing.{are_tested}
use Rattle.mv_script.specs.Columns.{is_indexed_by, is_for_children}
use Rattle.mv_script.proofs.Choosing.{then_children}
use Rattle.mv_script.proofs.columns.add_columns.Goals as goal

pub returns : goal.returns
returns c = on_ok_weaker c.add_children.result (λ is t n few lt.
    then_children (are_tested c.args.all.now t n) (are_tested c.add_tested.new.all t n) (are_tested c.add_children.new.all t n) (list_any (is_indexed_by c.args.graph.now.tables t n) c.args.graph.now.tested) (is_for_children c.args.graph.now t n) (c.in_ok-add_tested.ensures t n) (is t n few lt)) c.add_children.ensures
