use Rattle.std.proofs.Common.{length, ap, ◌+◌, ◌∙◌}
use Rattle.std.specs.Prelude.{nat_le}
use Rattle.mv_lawful.specs.Lawful.{used, has_round}
use Rattle.mv_script.specs.declared.script.CompiledScript.{CompiledScript}
use Rattle.mv_core.specs.Books.{Booked, batch_in}
use Rattle.mv_core.proofs.Keeping.{here_at, rounds_used}
use Rattle.mv_core.proofs.Taking.{one_live}
use Rattle.mv_core.proofs.Changed.{may_more}
use Rattle.mv_core.proofs.book.Book.has_round.Goals as goal

pub returns : goal.returns
returns c l live =
    let here = here_at c.self.inside c.args.self.now c.args.call c.index.result.now c.self.view_is (l, live) c.index.ensures in
    let one = one_live c.args.self.now.schedule c.args.call here.0 l here.1 live in
    let many = rounds_used c.self.inside c.args.call c.index.result.now c.self.invariant.kept here.2.at ∙ ap (λ x. used x + 1) (here.2.is ∙ one) in
    ap (λ (s : CompiledScript). nat_le c.len.result s.options.rounds) c.get.ensures
    ∙ (ap (λ n. nat_le n c.self.inside.script.options.rounds) c.len.ensures
    ∙ (may_more (length c.index.result.now.rounds.items) (used l) c.self.inside.script.options.rounds many ∙ ap (λ (b : Booked). has_round (batch_in b) l) c.self.view_is))
