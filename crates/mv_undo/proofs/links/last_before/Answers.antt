use Rattle.std.proofs.Common.{◌<◌, Option, ℕ, length, subst, sym, ◌∙◌, arith}
use Rattle.std.specs.Prelude.{IfSome}
use Rattle.mv_undo.specs.Indexing.{IsUpTo}
use Rattle.mv_undo.proofs.Linking.{last_early, reach, reach_less, up_to_last, within_longer}
use Rattle.mv_undo.proofs.links.last_before.Goals as goal

pub loop-last-init : goal.loop-last-init
loop-last-init c = record { within = c.requires.last; back = λ t key last. up_to_last c.args.number c.args.items.now t key c.args.last last }

pub returns-then-is_before : goal.returns-then-is_before
returns-then-is_before c = λ t key last.
    last_early c.args.number c.args.items.now c.in-Some.place c.requires.numbers (sym c.is_before.ensures ∙ c.if-is_before.true) t key
    (subst (IsUpTo c.args.number c.args.items.now t key) c.in-Some.is (c.loop-last.invariant.back t key last))

pub loop-last-preserved : goal.loop-last-preserved
loop-last-preserved c =
    let items = c.args.items.now in
    let place = c.in-Some.place in
    let within : place < length items = subst (λ (m : Option ℕ). IfSome m (λ p. p < length items)) c.in-Some.is c.loop-last.invariant.within in
    record {
      within = within_longer place (length items) c.back_from-last.result (omega (arith, within)) c.back_from-last.ensures.within;
      back = λ t key last. c.back_from-last.ensures.back t key (subst (IsUpTo c.args.number items t key) c.in-Some.is (c.loop-last.invariant.back t key last));
    }

pub loop-last-smaller : goal.loop-last-smaller
loop-last-smaller c = subst (λ (m : Option ℕ). reach c.back_from-last.result < reach m) (sym c.in-Some.is) (reach_less c.in-Some.place c.back_from-last.result c.back_from-last.ensures.within)

pub returns : goal.returns
returns c = λ t key last. subst (IsUpTo c.args.number c.args.items.now t key) c.in_default.is (c.loop-last.invariant.back t key last)
