use Rattle.std.proofs.Common.{cond, None, Some, ap, ◌∙◌, arith}
use Rattle.std.specs.Ordering.{is_eq}
use Rattle.mv_values.specs.Order.{key_order}
use Rattle.mv_table.specs.Entries.{item_of, with_item}
use Rattle.mv_changes.proofs.Drafting.{draft_more, draft_skips}
use Rattle.mv_audit.proofs.changes.add_write.Goals as goal

pub returns : goal.returns
returns c ws draft =
    let es = c.args.changes.now in
    let mid = c.take-was.new.self in
    let change = c.in_ok-change.change in
    let at = c.in_ok-place.ensures in
    draft_more es mid c.put.new.self ws c.args.write.now c.args.tables.now c.take-was.result change (omega (arith, c.len.ensures, c.if-write-len.false)) c.requires draft
    (c.take-was.ensures.was ∙ ap (item_of es) at)
    (c.take-was.ensures.items ∙ ap (λ k. with_item k None es) at)
    (λ other. c.take-was.ensures.at other ∙ ap (λ k. cond (is_eq (key_order k other)) None (item_of es other)) at)
    (c.in_ok-put.ensures.ok ∙ ap (λ k. with_item k (Some change) mid) at)
    (λ other. c.in_ok-put.ensures.at other ∙ ap (λ k. cond (is_eq (key_order k other)) (Some change) (item_of mid other)) at)
    c.in_ok-change.ensures

pub returns-then-write-len : goal.returns-then-write-len
returns-then-write-len c ws draft = draft_skips c.args.changes.now ws c.args.write.now c.args.tables.now (omega (arith, c.len.ensures, c.if-write-len.true)) c.requires draft
