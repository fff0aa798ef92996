use Rattle.std.proofs.Common.{◌≡◌, subst}
use Rattle.std.specs.Prelude.{IfOk}
use Rattle.mv_core.proofs.Ending.{replies_told}
use Rattle.mv_core.proofs.book.Book.replies.Goals as goal

pub returns : goal.returns
returns c = subst (λ all. IfOk c.replies_of.result (λ replies. replies ≡ all)) (replies_told c.self.inside c.args.self c.self.view_is c.self.invariant.kept c.requires) c.replies_of.ensures
