use Rattle.std.proofs.Common.{◌-◌, refl, sym, ap, ◌∙◌, arith}
use Rattle.mv_record.specs.Writes.{is_on}
use Rattle.mv_undo.proofs.Indexing.{none_found}
use Rattle.mv_undo.proofs.index.found_at.Goals as goal

pub returns-then-at-eq0 : goal.returns-then-at-eq0
returns-then-at-eq0 c =
    none_found c.args.items.now c.args.order.now c.args.at c.args.table c.args.key.now c.requires.indexed.are c.requires.within c.requires.up_to (λ low. absurd (omega (arith, low, c.if-at-eq0.true)))

pub returns-then-not-is_on : goal.returns-then-not-is_on
returns-then-not-is_on c =
    none_found c.args.items.now c.args.order.now c.args.at c.args.table c.args.key.now c.requires.indexed.are c.requires.within c.requires.up_to
    (λ low. ap (is_on c.args.table c.args.key.now) (sym c.write.ensures) ∙ (sym c.is_on.ensures ∙ c.if-not-is_on.true))

pub returns : goal.returns
returns c = (omega (arith, c.if-at-eq0.false), refl, ap (is_on c.args.table c.args.key.now) (sym c.write.ensures) ∙ (sym c.is_on.ensures ∙ c.if-not-is_on.false))
