use Rattle.mv_tpccsum.proofs.consistent.Orders.of.Goals as goal

pub returns : goal.returns
returns c = record {
  bound = (c.in_ok-orders.ensures.0, c.in_ok-new_orders.ensures.0, c.in_ok-counts.ensures.0, c.in_ok-lines.ensures.0);
  orders = c.in_ok-orders.ensures.1;
  new_orders = c.in_ok-new_orders.ensures.1;
  counts = c.in_ok-counts.ensures.1;
  lines = c.in_ok-lines.ensures.1;
}
