use Rattle.std.proofs.Common.{rules, ◌≡◌, map, ap, sym, subst, ◌∙◌}
use Rattle.std.specs.List.{filter}
use Rattle.std.proofs.lemmas.Fn.{filter_same}
use Rattle.std.proofs.lemmas.List.Kept.{AllPairs-filter}
use Rattle.mv_values.specs.Preds.{meets}
use Rattle.mv_values.specs.Keys.{IsRising, IsBelow}
use Rattle.mv_table.specs.Entries.{seen}
use Rattle.mv_table.proofs.Covering.{covered}
use Rattle.mv_eval.specs.Rows.{matching}
use Rattle.mv_eval.proofs.Spanning.{filter_seen}
use Rattle.mv_eval.proofs.find.matches_of.Goals as goal

pub returns-clause-rows : goal.returns-clause-rows
returns-clause-rows c =
    let tests = c.args.tests.now in
    let found = c.in_ok-found.found.items in
    let kept : c.retain.new.self.items ≡ filter (λ e. meets tests (seen e).row) found = filter_same _ (λ e. meets tests (seen e).row) _ (λ x b f r. search rules) _ _ c.retain.ensures.filtered in
    ap (λ es. map seen es) kept
    ∙ (filter_seen seen (λ item. meets tests item.row) found
    ∙ (ap (matching tests) c.in_ok-found.ensures.rows ∙ covered c.args.tests.now c.in_ok-span.span c.args.table.now c.in_ok-span.ensures.covers (λ item. meets tests item.row) c.requires))

pub returns-clause-rising : goal.returns-clause-rising
returns-clause-rising c =
    let tests = c.args.tests.now in
    subst IsRising (sym (returns-clause-rows c)) (AllPairs-filter (λ a b. IsBelow b.key a) (λ item. meets tests item.row) c.args.table.now c.in_ok-found.ensures.rising)
