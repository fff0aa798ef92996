use Rattle.std.proofs.Common.{◌++◌, codes}
use Rattle.mv_svg.specs.Shapes.{pair_text}
use Rattle.mv_svg.proofs.Chains.{joined, joined_by}
use Rattle.mv_svg.proofs.picture.write_view.Goals as goal

pub returns : goal.returns
returns c =
    let before = c.args.text.now in
    let front = codes " viewBox=\"0 0 " in
    let pair = pair_text c.args.width c.args.height in
    let both = joined before c.append.new.self c.write_pair.new.text front pair c.in_ok-append.ensures.ok c.in_ok-write_pair.ensures in
    joined_by c.push.result before c.write_pair.new.text c.push.new.self (front ++ pair) (codes "\"") both c.push.ensures.ok
