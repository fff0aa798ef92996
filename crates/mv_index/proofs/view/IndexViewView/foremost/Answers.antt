use Rattle.std.proofs.Common.{rules, refl, ◌≡◌, sym, ap, subst, ◌∙◌}
use Rattle.std.specs.Prelude.{IfOk}
use Rattle.mv_values.specs.Patching.{found_by}
use Rattle.mv_table.specs.Scans.{foremost}
use Rattle.mv_view.specs.Narrowing.{outside}
use Rattle.mv_values.specs.Tables.{rows_at}
use Rattle.mv_values.specs.Counts.{one_more}
use Rattle.mv_record.specs.Admitting.{Admitted}
use Rattle.mv_record.specs.Writes.{AreRising}
use Rattle.mv_view.specs.Viewing.{Sight, with_rows_call, answered, MayAnswer}
use Rattle.mv_index.specs.Indexing.{Covers}
use Rattle.mv_index.specs.Asking.{Indexed, sight_of, LooksUp}
use Rattle.mv_index.proofs.Asked.{counted, indexed, same_database, seen_through, stale_through}
use Rattle.mv_index.proofs.view.IndexViewView.foremost.Goals as goal

pub find_foremost-requires : goal.find_foremost-requires
find_foremost-requires g c =
    let alike = (g.met.V.Indexable c.lifetimes (search rules)).alike in
    let here = sym (alike c.self.inside.inner.now) in
    λ k. (
      (refl, tt),
      (
        subst (λ (s : Sight). Covers c.self.inside.index.now s.database) here c.self.invariant.0,
        (
          subst (λ (s : Sight). AreRising s.database) here c.self.invariant.1,
          subst (λ (s : Sight). Admitted c.args.pred.now (rows_at s.database c.args.pred.now.table)) here (subst (λ (v : Indexed). Admitted c.args.pred.now (rows_at v.inner.database c.args.pred.now.table)) (sym c.self.view_is) c.requires),
        ),
      ),
    )

pub invariant_of-self : goal.invariant_of-self
invariant_of-self g c =
    let alike = (g.met.V.Indexable c.lifetimes (search rules)).alike in
    let passed = same_database c.find_foremost.result (g.V.View.sight c.self.inside.inner.now) (g.V.View.sight c.find_foremost.new.view) c.find_foremost.ensures.looks.passes_on in
    let same = ap (λ (s : Sight). s.database) (sym (alike c.find_foremost.new.view)) ∙ (passed ∙ ap (λ (s : Sight). s.database) (alike c.self.inside.inner.now)) in
    (subst (Covers c.self.inside.index.now) (sym same) c.self.invariant.0, subst AreRising (sym same) c.self.invariant.1)

pub returns-clause-found : goal.returns-clause-found
returns-clause-found g c =
    let alike = (g.met.V.Indexable c.lifetimes (search rules)).alike in
    let was = ap (indexed c.self.inside.index.now c.self.inside.rows_calls c.self.inside.row_calls) (alike c.self.inside.inner.now) ∙ c.self.view_is in
    subst (λ (v : Indexed). IfOk c.find_foremost.result (λ found. found ≡ foremost c.args.direction (outside (g.K.KeySet.has c.args.passed.now) (found_by c.args.pred.now v.inner.database)))) was c.find_foremost.ensures.found

pub returns-clause-counts : goal.returns-clause-counts
returns-clause-counts g c =
    let alike = (g.met.V.Indexable c.lifetimes (search rules)).alike in
    let after = g.V.View.sight c.find_foremost.new.view in
    let was = ap (indexed c.self.inside.index.now c.self.inside.rows_calls c.self.inside.row_calls) (alike c.self.inside.inner.now) ∙ c.self.view_is in
    subst (λ s. counted s c.saturating_add-self-inside.result c.self.inside.row_calls ≡ answered c.find_foremost.result (with_rows_call (sight_of c.args.self.now))) (alike c.find_foremost.new.view)
    (subst (λ (v : Indexed). counted after c.saturating_add-self-inside.result c.self.inside.row_calls ≡ answered c.find_foremost.result (with_rows_call (sight_of v))) was
    (ap (λ n. counted after n c.self.inside.row_calls) c.saturating_add-self-inside.ensures ∙ seen_through c.find_foremost.result (g.V.View.sight c.self.inside.inner.now) after (one_more c.self.inside.rows_calls) c.self.inside.row_calls c.find_foremost.ensures.looks.passes_on))

pub returns-clause-stale : goal.returns-clause-stale
returns-clause-stale g c =
    let alike = (g.met.V.Indexable c.lifetimes (search rules)).alike in
    let after = g.V.View.sight c.find_foremost.new.view in
    let was = ap (indexed c.self.inside.index.now c.self.inside.rows_calls c.self.inside.row_calls) (alike c.self.inside.inner.now) ∙ c.self.view_is in
    subst (λ s. MayAnswer (sight_of c.args.self.now) (counted s c.saturating_add-self-inside.result c.self.inside.row_calls) c.find_foremost.result) (alike c.find_foremost.new.view)
    (subst (λ (v : Indexed). MayAnswer (sight_of v) (counted after c.saturating_add-self-inside.result c.self.inside.row_calls) c.find_foremost.result) was
    (stale_through c.find_foremost.result (g.V.View.sight c.self.inside.inner.now) after c.self.inside.rows_calls c.self.inside.row_calls c.saturating_add-self-inside.result c.self.inside.row_calls c.find_foremost.ensures.looks.passes_on))

pub returns-clause-index : goal.returns-clause-index
returns-clause-index g c = ap (λ (v : Indexed). v.index) c.self.view_is

pub returns-clause-looks : goal.returns-clause-looks
returns-clause-looks g c =
    let alike = (g.met.V.Indexable c.lifetimes (search rules)).alike in
    let was = ap (indexed c.self.inside.index.now c.self.inside.rows_calls c.self.inside.row_calls) (alike c.self.inside.inner.now) ∙ c.self.view_is in
    subst (λ s. LooksUp c.args.self.now.index c.args.pred.now c.args.self.now.inner s c.find_foremost.result) (alike c.find_foremost.new.view) (subst (λ (v : Indexed). LooksUp v.index c.args.pred.now v.inner (g.V.View.sight c.find_foremost.new.view) c.find_foremost.result) was c.find_foremost.ensures.looks)
