use Rattle.std.proofs.Common.{subst}
use Rattle.std.specs.Prelude.{◌↔◌, IsTrue}
use Rattle.mv_chain.specs.Versions.{IsAboveAll}
use Rattle.mv_chain.proofs.history.History.is_next.Goals as goal

pub returns : goal.returns
returns c = subst (λ v. IsTrue c.are_below.result ↔ IsAboveAll c.args.n v) c.self.view_is (rw c.as_slice.ensures.value at (c.are_below.ensures c.self.inside.row))
