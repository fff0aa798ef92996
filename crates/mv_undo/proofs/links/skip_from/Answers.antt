use Rattle.std.proofs.Common.{ap, sym, ◌∙◌, arith}
use Rattle.mv_undo.specs.Indexing.{owned_at}
use Rattle.mv_undo.proofs.Indexing.{on_itself}
use Rattle.mv_undo.proofs.Linking.{one_key_through, skip_at}
use Rattle.mv_undo.proofs.links.skip_from.Goals as goal

pub returns-in_default : goal.returns-in_default
returns-in_default c = (omega arith, on_itself (owned_at c.args.items.now c.args.place))

pub returns-in_default-far : goal.returns-in_default-far
returns-in_default-far c = (omega arith, on_itself (owned_at c.args.items.now c.args.place))

pub returns-then-saturating_sub : goal.returns-then-saturating_sub
returns-then-saturating_sub c = (omega arith, on_itself (owned_at c.args.items.now c.args.place))

pub returns : goal.returns
returns c =
    let skip = skip_at c.args.items.now c.args.links.now c.args.place c.in-Some.far c.requires.linked c.requires.within (sym (ap (λ l. l.far) c.link_at-last.ensures) ∙ c.in-Some.is) in
    let next = skip_at c.args.items.now c.args.links.now c.in-Some.far c.in-Some-far.farther c.requires.linked (omega (arith, skip.0, c.requires.within)) (sym (ap (λ l. l.far) c.link_at-middle.ensures) ∙ c.in-Some-far.is) in
    (omega (arith, skip.0, next.0), one_key_through c.args.items.now c.args.place c.in-Some.far c.in-Some-far.farther skip.1 next.1)
