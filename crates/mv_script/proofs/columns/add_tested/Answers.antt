use Rattle.std.proofs.Common.{◌≡◌, subst}
use Rattle.std.specs.Prelude.{◌||◌}
use Rattle.std.specs.List.{list_any}
use Rattle.std.proofs.lemmas.Result.{on_ok_weaker}
use Rattle.mv_values.specs.Testing.{are_tested}
use Rattle.mv_script.specs.Columns.{is_indexed_by}
use Rattle.mv_script.proofs.columns.add_tested.Goals as goal

pub returns : goal.returns
returns c = on_ok_weaker c.add_all.result (λ is t n.
    subst (λ columns. are_tested c.add_all.new.all t n ≡ (are_tested c.args.all.now t n || list_any (is_indexed_by c.args.graph.now.tables t n) columns)) c.tested.ensures
    (subst (λ tables. are_tested c.add_all.new.all t n ≡ (are_tested c.args.all.now t n || list_any (is_indexed_by tables t n) c.tested.result.now)) c.as_slice.ensures (is t n))) c.add_all.ensures
