use Rattle.std.proofs.Common.{[], refl, ap, subst, Some}
use Rattle.std.specs.Option.{IsSome}
use Rattle.std.proofs.lemmas.Result.{on_ok_weaker, on_err_weaker}
use Rattle.mv_table.specs.Entries.{item_of}
use Rattle.mv_index.proofs.Values.{Under, UpdatedBy, put_there, put_first, put_back}
use Rattle.mv_index.proofs.column.put_key.Goals as goal

pub returns-in-Some-clause-ok : goal.returns-in-Some-clause-ok
returns-in-Some-clause-ok c =
    let w = c.put.new.self in
    let held = (c.get_mut.follows.holds w).3 (subst IsSome c.in-Some.ensures.value refl) in
    on_ok_weaker c.put.result (λ at.
    put_there c.args.value.now c.args.key.now c.in_ok-key.key c.args.values.now.entries (c.get_mut.follows.lender w).entries c.in-Some.keys.now w c.in_ok-key.ensures c.in-Some.ensures.value held.0 at) c.put.ensures.ok

pub returns-in-Some-clause-err : goal.returns-in-Some-clause-err
returns-in-Some-clause-err c =
    let w = c.put.new.self in
    let held = (c.get_mut.follows.holds w).3 (subst IsSome c.in-Some.ensures.value refl) in
    on_err_weaker c.put.result (λ is.
    put_back c.args.value.now c.args.values.now.entries (c.get_mut.follows.lender w).entries c.in-Some.keys.now w is c.in-Some.ensures.value held.0) c.put.ensures.err

pub returns-clause-ok : goal.returns-clause-ok
returns-clause-ok c =
    let up =
    subst (λ (es : Under). UpdatedBy c.in_ok-copy.field-0 (Some c.of.result) es c.insert.new.self.entries) (ap (λ m. m.entries) c.get_mut.follows.holds-at-none) c.in_ok-insert.ensures.updates.0 in
    put_first c.args.value.now c.in_ok-copy.field-0 c.args.key.now c.in_ok-key.key c.args.values.now.entries c.insert.new.self.entries [] c.of.result c.in_ok-copy.ensures c.in_ok-key.ensures c.in_default.ensures.value refl up
    (λ k. ap (λ l. item_of l k) c.of.ensures)
