use Rattle.std.proofs.Common.{sym, ap}
use Rattle.mv_store.proofs.Views.{may_answer}
use Rattle.mv_store.proofs.view.StoreViewView.match_under.Goals as goal

pub returns-in-Err-clause-stale : goal.returns-in-Err-clause-stale
returns-in-Err-clause-stale c =
    may_answer c.in-Err.refused c.self.inside.start c.self.inside.store.now.low c.args.self.now _ c.count.new.self c.in-Err.ensures.stale c.in-Err.ensures.fresh
    (ap (λ s. s.may_be_stale) (sym c.self.view_is)) (ap (λ s. s.start) (sym c.self.view_is)) (ap (λ s. s.stale_answers) c.self.view_is) c.count.ensures.fits c.count.ensures.row
