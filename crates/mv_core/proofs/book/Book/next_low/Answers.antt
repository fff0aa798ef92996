use Rattle.std.proofs.Common.{rules, ◌≡◌, max, ap, ◌∙◌}
use Rattle.mv_lawful.specs.Lawful.{floor}
use Rattle.mv_script.specs.declared.script.CompiledScript.{CompiledScript}
use Rattle.mv_core.proofs.Lows.{low_told}
use Rattle.mv_core.proofs.book.Book.next_low.Goals as goal

pub returns : goal.returns
returns c =
    let most : c.max.result ≡ max c.oldest_start.result c.floor_of-floor.result = search (rules, c.max.ensures) in
    let all : c.max-2.result ≡ max c.self.inside.low c.max.result = search (rules, c.max-2.ensures) in
    low_told c.self.inside c.args.self.now c.commits.result c.oldest_start.result c.floor_of-floor.result c.max.result c.max-2.result c.self.view_is c.commits.ensures c.oldest_start.ensures (c.floor_of-floor.ensures ∙ ap (λ (s : CompiledScript). floor c.commits.result s.options.horizon) c.get.ensures) most all
