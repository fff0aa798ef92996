use Rattle.std.proofs.Common.{Some, None, cond, sym, ap, ◌∙◌}
use Rattle.std.specs.Prelude.{◌&&◌}
use Rattle.mv_index.specs.Indexing.{is_indexed, keys_under}
use Rattle.mv_index.proofs.index.Index.keys_for.Goals as goal

pub returns-then-is_equality : goal.returns-then-is_equality
returns-then-is_equality c =
    let t = c.args.table in
    let test = c.args.test.now in
    c.keys_in.ensures ∙ ap (λ b. cond (b && is_indexed c.args.self.now t test.column) (Some (keys_under c.args.self.now t test.column test.value)) None) (sym (sym c.is_equality.ensures ∙ c.if-is_equality.true))

pub returns-else-is_equality : goal.returns-else-is_equality
returns-else-is_equality c =
    let t = c.args.table in
    let test = c.args.test.now in
    ap (λ b. cond (b && is_indexed c.args.self.now t test.column) (Some (keys_under c.args.self.now t test.column test.value)) None) (sym (sym c.is_equality.ensures ∙ c.if-is_equality.false))
