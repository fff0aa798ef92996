use Rattle.std.proofs.Common.{◌≡◌, ◌<◌, ◌++◌, ◌∷◌, [], length, rules}
use Rattle.std.proofs.lemmas.Option.{get_or_from_slice_get}
use Rattle.mv_chain.proofs.Columns.{one_added}
use Rattle.mv_chain.proofs.commit.add_items.Goals as goal

pub loop-at-preserved : goal.loop-at-preserved
loop-at-preserved c =
    let within : c.loop-at.at < length c.args.more = search rules in
    let pushed : c.push.new.self ≡ c.loop-at.items ++ c.replace-item.result ∷ [] = search rules in
    one_added c.args.items.now c.args.more c.loop-at.at c.loop-at.more c.loop-at.items c.replace-item.new.self c.push.new.self c.replace-item.result c.placeholder.result c.loop-at.invariant within
    (get_or_from_slice_get c.loop-at.more c.loop-at.at c.replace-item.result c.replace-item.result c.replace-item.ensures.back) c.replace-item.ensures.items pushed
