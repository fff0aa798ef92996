use Rattle.std.proofs.Common.{arith, ◌≡◌, ◌+◌, ap, subst, ◌∙◌}
use Rattle.mv_lawful.specs.Batch.{since}
use Rattle.mv_changes.specs.Commits.{AreNumbered}
use Rattle.mv_core.specs.Books.{batch_in}
use Rattle.mv_core.proofs.Recents.{recent_seen, recent_since, fresh_kept}
use Rattle.mv_core.proofs.book.Book.since.Goals as goal

pub since-requires : goal.since-requires
since-requires c =
    let live = c.requires.live in
    let start : c.start.result ≡ live.0.start = c.start.ensures.value live.0 live.1 in
    let le = fresh_kept c.self.inside c.args.self.now c.args.call live.0 c.self.view_is c.self.invariant.recent live.1 (c.requires.fresh live.0 live.1) in
    omega (arith, start, le)

pub returns-clause-changes : goal.returns-clause-changes
returns-clause-changes c l live =
    let k = recent_seen c.self.inside c.args.self.now c.self.view_is c.self.invariant.recent in
    let start : c.start.result ≡ l.start = c.start.ensures.value l live in
    let le = fresh_kept c.self.inside c.args.self.now c.args.call l c.self.view_is c.self.invariant.recent live (c.requires.fresh l live) in
    c.since.ensures.changes
    ∙ (recent_since (batch_in c.args.self.now) c.args.self.now.schedule c.start.result c.self.inside.recent k (omega (arith, start, le))
    ∙ ap (since (batch_in c.args.self.now) c.args.self.now.schedule.order) start)

pub returns-clause-numbers : goal.returns-clause-numbers
returns-clause-numbers c l live = subst (λ n. AreNumbered (n + 1) c.since.result.now) (c.start.ensures.value l live) c.since.ensures.numbers
