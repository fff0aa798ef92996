use Rattle.std.proofs.Common.{rules, ◌≡◌, sym, ap, subst, ◌∙◌}
use Rattle.std.specs.Prelude.{IfOk}
use Rattle.mv_values.specs.Patching.{row_of}
use Rattle.mv_values.specs.Tables.{rows_at}
use Rattle.mv_values.specs.Counts.{one_more}
use Rattle.mv_record.specs.Writes.{AreRising}
use Rattle.mv_view.specs.Viewing.{Sight, with_row_call, answered, MayAnswer}
use Rattle.mv_index.specs.Indexing.{Covers}
use Rattle.mv_index.specs.Asking.{Indexed, sight_of, AskedAtMost, PassesOn}
use Rattle.mv_index.proofs.Asked.{counted, indexed, same_database, seen_through, stale_through, row_passes, row_asked}
use Rattle.mv_index.proofs.view.IndexViewView.row.Goals as goal

pub invariant_of-self : goal.invariant_of-self
invariant_of-self g c =
    let alike = (g.met.V.Indexable c.lifetimes (search rules)).alike in
    let passed = same_database c.row.result (g.V.View.sight c.self.inside.inner.now) (g.V.View.sight c.row.new.self) (row_passes c.row.result (g.V.View.sight c.self.inside.inner.now) (g.V.View.sight c.row.new.self) c.row.ensures.counts c.row.ensures.stale) in
    let same = ap (λ (s : Sight). s.database) (sym (alike c.row.new.self)) ∙ (passed ∙ ap (λ (s : Sight). s.database) (alike c.self.inside.inner.now)) in
    (subst (Covers c.self.inside.index.now) (sym same) c.self.invariant.0, subst AreRising (sym same) c.self.invariant.1)

pub returns-clause-found : goal.returns-clause-found
returns-clause-found g c =
    let alike = (g.met.V.Indexable c.lifetimes (search rules)).alike in
    let was = ap (indexed c.self.inside.index.now c.self.inside.rows_calls c.self.inside.row_calls) (alike c.self.inside.inner.now) ∙ c.self.view_is in
    subst (λ (v : Indexed). IfOk c.row.result (λ found. found ≡ row_of (rows_at v.inner.database c.args.table) c.args.key.now)) was c.row.ensures.found

pub returns-clause-counts : goal.returns-clause-counts
returns-clause-counts g c =
    let alike = (g.met.V.Indexable c.lifetimes (search rules)).alike in
    let after = g.V.View.sight c.row.new.self in
    let was = ap (indexed c.self.inside.index.now c.self.inside.rows_calls c.self.inside.row_calls) (alike c.self.inside.inner.now) ∙ c.self.view_is in
    subst (λ s. counted s c.self.inside.rows_calls c.saturating_add-self-inside.result ≡ answered c.row.result (with_row_call (sight_of c.args.self.now))) (alike c.row.new.self)
    (subst (λ (v : Indexed). counted after c.self.inside.rows_calls c.saturating_add-self-inside.result ≡ answered c.row.result (with_row_call (sight_of v))) was
    (ap (λ n. counted after c.self.inside.rows_calls n) c.saturating_add-self-inside.ensures ∙ seen_through c.row.result (g.V.View.sight c.self.inside.inner.now) after c.self.inside.rows_calls (one_more c.self.inside.row_calls) (row_passes c.row.result (g.V.View.sight c.self.inside.inner.now) (g.V.View.sight c.row.new.self) c.row.ensures.counts c.row.ensures.stale)))

pub returns-clause-stale : goal.returns-clause-stale
returns-clause-stale g c =
    let alike = (g.met.V.Indexable c.lifetimes (search rules)).alike in
    let after = g.V.View.sight c.row.new.self in
    let was = ap (indexed c.self.inside.index.now c.self.inside.rows_calls c.self.inside.row_calls) (alike c.self.inside.inner.now) ∙ c.self.view_is in
    subst (λ s. MayAnswer (sight_of c.args.self.now) (counted s c.self.inside.rows_calls c.saturating_add-self-inside.result) c.row.result) (alike c.row.new.self)
    (subst (λ (v : Indexed). MayAnswer (sight_of v) (counted after c.self.inside.rows_calls c.saturating_add-self-inside.result) c.row.result) was
    (stale_through c.row.result (g.V.View.sight c.self.inside.inner.now) after c.self.inside.rows_calls c.self.inside.row_calls c.self.inside.rows_calls c.saturating_add-self-inside.result (row_passes c.row.result (g.V.View.sight c.self.inside.inner.now) (g.V.View.sight c.row.new.self) c.row.ensures.counts c.row.ensures.stale)))

pub returns-clause-index : goal.returns-clause-index
returns-clause-index g c = ap (λ (v : Indexed). v.index) c.self.view_is

pub returns-clause-asks : goal.returns-clause-asks
returns-clause-asks g c =
    let alike = (g.met.V.Indexable c.lifetimes (search rules)).alike in
    let was = ap (indexed c.self.inside.index.now c.self.inside.rows_calls c.self.inside.row_calls) (alike c.self.inside.inner.now) ∙ c.self.view_is in
    subst (λ s. AskedAtMost 0 1 c.args.self.now.inner s) (alike c.row.new.self) (subst (λ (v : Indexed). AskedAtMost 0 1 v.inner (g.V.View.sight c.row.new.self)) was (row_asked c.row.result (g.V.View.sight c.self.inside.inner.now) (g.V.View.sight c.row.new.self) c.row.ensures.counts))

pub returns-clause-passes_on : goal.returns-clause-passes_on
returns-clause-passes_on g c =
    let alike = (g.met.V.Indexable c.lifetimes (search rules)).alike in
    let was = ap (indexed c.self.inside.index.now c.self.inside.rows_calls c.self.inside.row_calls) (alike c.self.inside.inner.now) ∙ c.self.view_is in
    subst (λ s. PassesOn c.args.self.now.inner s c.row.result) (alike c.row.new.self) (subst (λ (v : Indexed). PassesOn v.inner (g.V.View.sight c.row.new.self) c.row.result) was (row_passes c.row.result (g.V.View.sight c.self.inside.inner.now) (g.V.View.sight c.row.new.self) c.row.ensures.counts c.row.ensures.stale))
