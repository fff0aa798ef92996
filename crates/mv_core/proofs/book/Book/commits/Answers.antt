use Rattle.std.proofs.Common.{rules, ◌<◌, ◌^◌, length}
use Rattle.mv_core.proofs.Keeping.{few_inside}
use Rattle.mv_core.proofs.book.Book.commits.Goals as goal

pub overflow_cast-result : goal.overflow_cast-result
overflow_cast-result c = let few : length c.self.inside.order.items < 2 ^ 32 = few_inside c.self.inside c.self.invariant.kept in search (rules, few, c.len.ensures)
