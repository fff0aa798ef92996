use Rattle.std.proofs.Common.{◌≡◌, ◌∙◌, ap, subst, List, [], ℕ}
use Rattle.mv_script.proofs.Databases.{tables_rise}
use Rattle.mv_shards.specs.Scripts.{script_in}
use Rattle.mv_shards.specs.Parts.{eight}
use Rattle.mv_shards.specs.Histories.{tables_at}
use Rattle.mv_shards.specs.Reads.{gathered}
use Rattle.mv_shards.proofs.Reading.{gathered_all}
use Rattle.mv_shards.proofs.reads.gathered_rows.Goals as goal

pub returns-clause-found : goal.returns-clause-found
returns-clause-found g c =
    let db = tables_at g.N.Making.script c.args.pass.now.seen c.args.n in
    let all : c.gather.new.found ≡ gathered eight c.args.pred.now db [] = subst (λ (qs : List ℕ). c.gather.new.found ≡ gathered qs c.args.pred.now db []) c.requires.all (c.in_ok-gather.ensures.found ∙ ap (gathered g.L.ShardList.numbers c.args.pred.now db) c.new-found.ensures) in
    c.in_ok-rows.ensures ∙ (all ∙ gathered_all c.args.pred.now db (tables_rise (script_in g.N.Making.script) c.args.pass.now.seen c.args.n c.requires.may.script))
