use Rattle.std.proofs.Common.{subst}
use Rattle.mv_store.specs.Stored.{Versioned, database_at, IsLike}
use Rattle.mv_store.proofs.Laws.{like_is}
use Rattle.mv_store.proofs.store.Store.last.Goals as goal

pub returns-clause-like : goal.returns-clause-like
returns-clause-like c n =
    let s : Versioned = record { tables = c.self.inside.tables.items; last = c.self.inside.last; low = c.self.inside.low } in
    subst (λ v. IsLike v (database_at v n)) c.self.view_is (like_is s n c.self.invariant.0.rising)
