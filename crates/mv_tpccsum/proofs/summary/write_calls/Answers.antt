use Rattle.std.proofs.lemmas.Result.{on_ok_weaker}
use Rattle.mv_tpccsum.specs.Summary.{calls_text}
use Rattle.mv_tpccsum.proofs.Writing.{grew}
use Rattle.mv_tpccsum.proofs.summary.write_calls.Goals as goal

pub returns : goal.returns
unfolding calls_text
returns c =
    let text = c.args.text.now in
    let payment = grew text c.write_new_orders.new.text c.write_calls_of.new.text _ _ c.in_ok-write_new_orders.ensures c.in_ok-write_calls_of.ensures in
    let order_status = grew text c.write_calls_of.new.text c.write_calls_of-2.new.text _ _ payment c.in_ok-write_calls_of-2.ensures in
    let delivery = grew text c.write_calls_of-2.new.text c.write_calls_of-3.new.text _ _ order_status c.in_ok-write_calls_of-3.ensures in
    on_ok_weaker c.write_calls_of-4.result (λ e. grew text c.write_calls_of-3.new.text c.write_calls_of-4.new.text _ _ delivery e) c.write_calls_of-4.ensures
