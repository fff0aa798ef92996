use Rattle.std.proofs.Common.{refl, sym, subst, ◌∙◌}
use Rattle.std.specs.Option.{IsSome}
use Rattle.std.proofs.lemmas.Bool.{eqb-true}
use Rattle.mv_index.proofs.Values.{key_absent, none_under, taken_there, none_left}
use Rattle.mv_index.proofs.column.take_there.Goals as goal

pub returns-in_default-clause-keys : goal.returns-in_default-clause-keys
returns-in_default-clause-keys c v k =
    rw c.get_mut.follows.holds-at-none
    (key_absent c.args.value.now c.args.key.now c.args.values.now.entries (none_under c.args.value.now c.args.values.now.entries c.in_default.ensures.value) v k)

pub returns-clause-keys : goal.returns-clause-keys
returns-clause-keys c =
    let w = c.take.new.self in
    let held = (c.get_mut.follows.holds w).3 (subst IsSome c.in-Some.ensures.value refl) in
    taken_there c.args.value.now c.args.key.now c.args.values.now.entries (c.get_mut.follows.lender w).entries c.in-Some.keys.now w c.in-Some.ensures.value held.0 c.take.ensures

pub returns-clause-none : goal.returns-clause-none
returns-clause-none c = λ empty.
    let w = c.take.new.self in
    let held = (c.get_mut.follows.holds w).3 (subst IsSome c.in-Some.ensures.value refl) in
    none_left c.args.value.now (c.get_mut.follows.lender w).entries w held.1 (sym c.len.ensures.len ∙ eqb-true c.len.result 0 empty)
