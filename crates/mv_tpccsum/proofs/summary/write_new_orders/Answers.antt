use Rattle.std.proofs.Common.{◌∙◌, ◌++◌, List, ap}
use Rattle.std.specs.Prelude.{codes, decimal}
use Rattle.std.proofs.lemmas.Result.{on_ok_weaker}
use Rattle.mv_values.specs.declared.calls.Reply.{Reply}
use Rattle.mv_tpccsum.specs.Calls.{ends_of}
use Rattle.mv_tpccsum.specs.Summary.{new_order_line}
use Rattle.mv_tpccsum.proofs.Writing.{grew}
use Rattle.mv_tpccsum.proofs.summary.write_new_orders.Goals as goal

pub returns : goal.returns
unfolding new_order_line
returns c =
    let text = c.args.text.now in
    let calls = c.in_ok-write_named.ensures ∙ ap (λ n. text ++ (codes "new_order " ++ decimal n)) c.calls_of.ensures in
    let ends = c.in_ok-write_named-2.ensures ∙ ap (λ n. c.write_named.new.text ++ (codes " rolled back " ++ decimal n)) (c.ends_of-ends.ensures ∙ ap (λ (replies : List Reply). ends_of c.args.resolved.now replies (codes "new_order")) c.as_slice.ensures) in
    let both = grew text c.write_named.new.text c.write_named-2.new.text _ _ calls ends in
    on_ok_weaker c.push.result (λ e. grew text c.write_named-2.new.text c.push.new.self _ _ both e) c.push.ensures.ok
