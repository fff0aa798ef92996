use Rattle.std.proofs.lemmas.Result.{on_ok_weaker}
use Rattle.mv_tpccsum.specs.Summary.{load_line}
use Rattle.mv_tpccsum.proofs.Writing.{grew}
use Rattle.mv_tpccsum.proofs.summary.write_load.Goals as goal

pub returns : goal.returns
unfolding load_line
returns c =
    let text = c.args.text.now in
    let calls = grew text c.write_named.new.text c.write_named-2.new.text _ _ c.in_ok-write_named.ensures c.in_ok-write_named-2.ensures in
    let seed = grew text c.write_named-2.new.text c.write_named-3.new.text _ _ calls c.in_ok-write_named-3.ensures in
    on_ok_weaker c.push.result (λ e. grew text c.write_named-3.new.text c.push.new.self _ _ seed e) c.push.ensures.ok
