use Rattle.std.proofs.Common.{ap, sym, ◌∙◌}
use Rattle.mv_undo.proofs.Linking.{skip_at, up_to_far, up_to_link}
use Rattle.mv_undo.proofs.links.back_from.Goals as goal

pub returns-then-not-is_before-clause-back : goal.returns-then-not-is_before-clause-back
returns-then-not-is_before-clause-back c = λ t key h.
    let skip = skip_at c.args.items.now c.args.links.now c.args.place c.in-Some.far c.requires.linked c.requires.within (sym (ap (λ l. l.far) c.link_at-link.ensures) ∙ c.in-Some.is) in
    up_to_far c.args.number c.args.items.now c.args.place c.in-Some.far c.requires.numbers c.requires.within skip.0 skip.1 (sym c.is_before.ensures ∙ c.if-not-is_before.true) t key h

pub returns-else-not-is_before-clause-back : goal.returns-else-not-is_before-clause-back
returns-else-not-is_before-clause-back c = up_to_link c.args.number c.args.items.now c.args.links.now c.args.place c.link_at-link.result.before c.requires.linked c.requires.within (ap (λ l. l.before) c.link_at-link.ensures) c.requires.late

pub returns-in_default-clause-back : goal.returns-in_default-clause-back
returns-in_default-clause-back c = up_to_link c.args.number c.args.items.now c.args.links.now c.args.place c.link_at-link.result.before c.requires.linked c.requires.within (ap (λ l. l.before) c.link_at-link.ensures) c.requires.late
