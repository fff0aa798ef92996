use Rattle.std.proofs.Common.{◌≡◌, ◌∷◌, ◌++◌, ◌∙◌, [], rules}
use Rattle.std.proofs.lemmas.List.{length-set}
use Rattle.mv_opening.proofs.Opened.{handed_more}
use Rattle.mv_opening.proofs.opening.into_database.Goals as goal

pub loop-place-preserved : goal.loop-place-preserved
loop-place-preserved c =
    let inv = c.loop-place.invariant in
    let tables = c.loop-place.tables in
    let place = c.loop-place.place in
    let set = c.replace-joining.ensures.items in
    let made : c.push.new.self ≡ c.loop-place.database ++ c.replace-joining.result ∷ [] = search rules in
    rw set
    (length-set tables place _ ∙ inv.0, handed_more c.args.tables c.loop-place.database c.push.new.self tables place c.replace-joining.result _ inv.1 c.replace-joining.ensures.back made)
