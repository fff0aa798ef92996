use Rattle.std.proofs.Common.{◌≡◌, ◌<◌, length, map, sym, subst, List}
use Rattle.std.specs.Prelude.{All}
use Rattle.mv_core.specs.declared.progress.Progress.{Progress}
use Rattle.mv_core.specs.Calls.{live_of}
use Rattle.mv_core.specs.Lives.{live_numbers, least_start}
use Rattle.mv_core.proofs.Keeping.{live_within}
use Rattle.mv_core.proofs.Lows.{oldest_told}
use Rattle.mv_core.proofs.book.Book.oldest_start.Goals as goal

pub oldest_start-requires : goal.oldest_start-requires
oldest_start-requires c =
    subst (All (λ d. d < length c.as_slice.result.now)) (sym c.self.invariant.live)
    (subst (λ (ps : List Progress). All (λ d. d < length ps) (live_numbers (map live_of c.self.inside.calls.items))) (sym c.as_slice.ensures.value) (live_within c.self.inside.calls.items))

pub returns : goal.returns
returns c =
    let least : c.oldest_start.result ≡ least_start c.commits.result (map live_of c.self.inside.calls.items) c.self.inside.live =
    subst (λ (ps : List Progress). c.oldest_start.result ≡ least_start c.commits.result (map live_of ps) c.self.inside.live) c.as_slice.ensures.value c.oldest_start.ensures in
    oldest_told c.self.inside c.args.self.now c.commits.result c.oldest_start.result c.self.view_is c.self.invariant.live c.commits.ensures least
