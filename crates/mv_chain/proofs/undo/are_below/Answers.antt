use Rattle.std.proofs.Common.{◌<◌, ◌-◌, length, get_or, rules}
use Rattle.mv_chain.proofs.Versions.{next_is}
use Rattle.mv_chain.proofs.undo.are_below.Goals as goal

pub returns-else-is_empty : goal.returns-else-is_empty
returns-else-is_empty c now =
    let us = c.args.undos.now in
    let some : 0 < length us = search rules in
    let e = next_is c.args.n us now c.index-undos-undos.result c.requires some in (
      (λ t. let last : (get_or us (length us - 1) c.index-undos-undos.result).commit < c.args.n = search (rules, t) in e.0 last),
      (λ all. let last : (get_or us (length us - 1) c.index-undos-undos.result).commit < c.args.n = e.1 all in search (rules, last)),
    )
