use Rattle.std.proofs.Common.{rules}
use Rattle.std.specs.Prelude.{not, ◌==◌}
use Rattle.std.proofs.lemmas.Fn.{filter_same}
use Rattle.mv_chain.proofs.history.forget.Goals as goal

pub returns : goal.returns
returns c = filter_same _ (λ p. not (p.call == c.args.call)) _ (λ x b f r. (search (rules, r), search (rules, r))) c.args.own.now.items c.retain.new.self.items c.retain.ensures.filtered
