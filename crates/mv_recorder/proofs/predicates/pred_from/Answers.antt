use Rattle.std.proofs.Common.{◌<◌, length, sym, subst, ◌∙◌}
use Rattle.std.specs.List.{All}
use Rattle.mv_values.specs.Tables.{key_columns}
use Rattle.mv_eval.specs.Rows.{IsPlaced}
use Rattle.mv_recorder.proofs.Few.{bytes_of, once_few}
use Rattle.mv_recorder.proofs.predicates.pred_from.Goals as goal

pub narrow_all-requires : goal.narrow_all-requires
narrow_all-requires c =
    subst (All (λ n. n < 256)) (sym (c.as_slice.ensures ∙ c.in_ok-once.ensures)) (once_few c.args.columns.now (bytes_of (λ x. x) c.args.tables.now c.args.table c.args.columns.now c.requires.each c.requires.columns))

pub returns-clause-knows : goal.returns-clause-knows
returns-clause-knows c = record {
  table = subst (λ t. t < length c.args.tables.now) (sym c.narrow.ensures) c.requires.tests.table;
  places = subst (λ t. All (IsPlaced (key_columns c.args.tables.now t)) c.in_ok-tests.tests) (sym c.narrow.ensures) c.in_ok-tests.ensures.places;
}
