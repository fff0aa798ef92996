use Rattle.std.proofs.Common.{rules, ◌≡◌, sym, ap, subst, ◌∙◌}
use Rattle.std.specs.Prelude.{IfOk}
use Rattle.mv_values.specs.Patching.{row_of}
use Rattle.mv_values.specs.Preds.{matched}
use Rattle.mv_values.specs.Tables.{rows_at}
use Rattle.mv_values.specs.Counts.{one_more}
use Rattle.mv_record.specs.Writes.{AreRising}
use Rattle.mv_view.specs.Viewing.{Sight, with_rows_call, answered, MayAnswer}
use Rattle.mv_index.specs.Indexing.{Covers}
use Rattle.mv_index.specs.Asking.{Indexed, sight_of, AskedAtMost, PassesOn}
use Rattle.mv_index.proofs.Asked.{counted, indexed, same_database, seen_through, stale_through}
use Rattle.mv_index.proofs.view.IndexViewView.match_under.Goals as goal

pub invariant_of-self : goal.invariant_of-self
invariant_of-self g c =
    let alike = (g.met.V.Indexable c.lifetimes (search rules)).alike in
    let passed = same_database c.match_at.result (g.V.View.sight c.self.inside.inner.now) (g.V.View.sight c.match_at.new.view) c.match_at.ensures.passes_on in
    let same = ap (λ (s : Sight). s.database) (sym (alike c.match_at.new.view)) ∙ (passed ∙ ap (λ (s : Sight). s.database) (alike c.self.inside.inner.now)) in
    (subst (Covers c.self.inside.index.now) (sym same) c.self.invariant.0, subst AreRising (sym same) c.self.invariant.1)

pub returns-clause-found : goal.returns-clause-found
returns-clause-found g c =
    let alike = (g.met.V.Indexable c.lifetimes (search rules)).alike in
    let was = ap (indexed c.self.inside.index.now c.self.inside.rows_calls c.self.inside.row_calls) (alike c.self.inside.inner.now) ∙ c.self.view_is in
    subst (λ (v : Indexed). IfOk c.match_at.result (λ found. found ≡ matched c.args.pred.now (row_of (rows_at v.inner.database c.args.pred.now.table) c.args.key.now))) was c.match_at.ensures.found

pub returns-clause-counts : goal.returns-clause-counts
returns-clause-counts g c =
    let alike = (g.met.V.Indexable c.lifetimes (search rules)).alike in
    let after = g.V.View.sight c.match_at.new.view in
    let was = ap (indexed c.self.inside.index.now c.self.inside.rows_calls c.self.inside.row_calls) (alike c.self.inside.inner.now) ∙ c.self.view_is in
    subst (λ s. counted s c.saturating_add-self-inside.result c.self.inside.row_calls ≡ answered c.match_at.result (with_rows_call (sight_of c.args.self.now))) (alike c.match_at.new.view)
    (subst (λ (v : Indexed). counted after c.saturating_add-self-inside.result c.self.inside.row_calls ≡ answered c.match_at.result (with_rows_call (sight_of v))) was
    (ap (λ n. counted after n c.self.inside.row_calls) c.saturating_add-self-inside.ensures ∙ seen_through c.match_at.result (g.V.View.sight c.self.inside.inner.now) after (one_more c.self.inside.rows_calls) c.self.inside.row_calls c.match_at.ensures.passes_on))

pub returns-clause-stale : goal.returns-clause-stale
returns-clause-stale g c =
    let alike = (g.met.V.Indexable c.lifetimes (search rules)).alike in
    let after = g.V.View.sight c.match_at.new.view in
    let was = ap (indexed c.self.inside.index.now c.self.inside.rows_calls c.self.inside.row_calls) (alike c.self.inside.inner.now) ∙ c.self.view_is in
    subst (λ s. MayAnswer (sight_of c.args.self.now) (counted s c.saturating_add-self-inside.result c.self.inside.row_calls) c.match_at.result) (alike c.match_at.new.view)
    (subst (λ (v : Indexed). MayAnswer (sight_of v) (counted after c.saturating_add-self-inside.result c.self.inside.row_calls) c.match_at.result) was
    (stale_through c.match_at.result (g.V.View.sight c.self.inside.inner.now) after c.self.inside.rows_calls c.self.inside.row_calls c.saturating_add-self-inside.result c.self.inside.row_calls c.match_at.ensures.passes_on))

pub returns-clause-index : goal.returns-clause-index
returns-clause-index g c = ap (λ (v : Indexed). v.index) c.self.view_is

pub returns-clause-asks : goal.returns-clause-asks
returns-clause-asks g c =
    let alike = (g.met.V.Indexable c.lifetimes (search rules)).alike in
    let was = ap (indexed c.self.inside.index.now c.self.inside.rows_calls c.self.inside.row_calls) (alike c.self.inside.inner.now) ∙ c.self.view_is in
    subst (λ s. AskedAtMost 0 1 c.args.self.now.inner s) (alike c.match_at.new.view) (subst (λ (v : Indexed). AskedAtMost 0 1 v.inner (g.V.View.sight c.match_at.new.view)) was c.match_at.ensures.asked)

pub returns-clause-passes_on : goal.returns-clause-passes_on
returns-clause-passes_on g c =
    let alike = (g.met.V.Indexable c.lifetimes (search rules)).alike in
    let was = ap (indexed c.self.inside.index.now c.self.inside.rows_calls c.self.inside.row_calls) (alike c.self.inside.inner.now) ∙ c.self.view_is in
    subst (λ s. PassesOn c.args.self.now.inner s c.match_at.result) (alike c.match_at.new.view) (subst (λ (v : Indexed). PassesOn v.inner (g.V.View.sight c.match_at.new.view) c.match_at.result) was c.match_at.ensures.passes_on)
