use Rattle.std.proofs.Common.{rules, None, Some, sym, ap, ◌≡◌, ◌∙◌}
use Rattle.mv_store.proofs.Found.{found_in, free_there, free_later, free_behind}
use Rattle.mv_store.proofs.find.foremost_match.Goals as goal

pub returns-in-Some-2 : goal.returns-in-Some-2
returns-in-Some-2 g c =
    ap (λ item. Some item) c.lent.ensures
    ∙ free_there (g.K.KeySet.has c.args.passed.now) (found_in c.args.n c.args.pred.now) c.args.direction c.in-Some.key.now c.in-Some.chain.now c.loop-key.left c.take_next.new.range c.in-Some-2.row _ c.in-Some.ensures (search rules)
    (sym c.in_ok-row.ensures ∙ c.in-Some-2.is) c.loop-key.invariant

pub loop-key-preserved : goal.loop-key-preserved
loop-key-preserved g c =
    let none : c.in_ok-row.field-0 ≡ None = c.in_default-2.is in
    free_later (g.K.KeySet.has c.args.passed.now) (found_in c.args.n c.args.pred.now) c.args.direction c.in-Some.key.now c.in-Some.chain.now c.loop-key.left c.take_next.new.range _ c.in-Some.ensures (search rules)
    (sym c.in_ok-row.ensures ∙ none) c.loop-key.invariant

pub loop-key-preserved-then-contains : goal.loop-key-preserved-then-contains
loop-key-preserved-then-contains g c =
    free_behind (g.K.KeySet.has c.args.passed.now) (found_in c.args.n c.args.pred.now) c.args.direction c.in-Some.key.now c.in-Some.chain.now c.loop-key.left c.take_next.new.range _ c.in-Some.ensures (search rules)
    c.loop-key.invariant
