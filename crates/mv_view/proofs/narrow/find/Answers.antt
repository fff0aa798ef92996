use Rattle.std.proofs.Common.{◌≡◌, sym, subst}
use Rattle.std.specs.Prelude.{IfOk}
use Rattle.std.proofs.lemmas.List.Kept.{AllPairs-filter}
use Rattle.mv_values.specs.Keys.{IsRising, IsBelow}
use Rattle.mv_values.specs.Preds.{matches}
use Rattle.mv_table.specs.Spans.{is_within, CoversAdmitted}
use Rattle.mv_view.proofs.narrow.find.Goals as goal

pub copy_matches-requires : goal.copy_matches-requires
copy_matches-requires c =
    subst IsRising (sym c.part.ensures.part) (AllPairs-filter (λ a b. IsBelow b.key a) (λ item. is_within c.in_ok-span.span item.key) c.args.rows.now c.requires.rising)

pub returns : goal.returns
returns c =
    let covers = subst (λ tests. CoversAdmitted tests c.in_ok-span.span) c.tests.ensures c.in_ok-span.ensures.covers in
    subst (λ rows. IfOk c.copy_matches.result (λ found. found ≡ rows)) (c.part.ensures.finds c.args.pred.now.tests covers (λ item. matches c.args.pred.now item.row) c.requires.admitted) c.copy_matches.ensures
