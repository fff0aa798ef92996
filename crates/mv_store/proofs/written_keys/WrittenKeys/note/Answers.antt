use Rattle.std.proofs.Common.{refl, sym, ap, subst}
use Rattle.std.specs.Option.{IsSome}
use Rattle.std.proofs.lemmas.Result.{on_ok_weaker}
use Rattle.mv_store.specs.Kept.{table_keys_in, HasTableKey}
use Rattle.mv_store.proofs.Noted.{last_noted}
use Rattle.mv_store.proofs.written_keys.WrittenKeys.note.Goals as goal

pub returns-in-Some-clause-noted : goal.returns-in-Some-clause-noted
returns-in-Some-clause-noted c =
    let table_key = c.args.table_key in
    let w = c.push.new.self in
    let held = (c.get_mut.follows.holds w).3 (subst IsSome c.in-Some.ensures.value refl) in
    on_ok_weaker c.push.result (λ e. subst (HasTableKey table_key.table table_key.key) (sym (ap table_keys_in held.1)) (subst (HasTableKey table_key.table table_key.key) (sym e) (last_noted c.in-Some.table_keys.now table_key))) c.push.ensures.ok

pub returns-clause-noted : goal.returns-clause-noted
returns-clause-noted c =
    let table_key = c.args.table_key in
    subst (HasTableKey table_key.table table_key.key) (sym (ap table_keys_in c.in_ok-insert.ensures.updates.1)) (subst (HasTableKey table_key.table table_key.key) (sym c.in_ok-push.ensures.ok) (last_noted c.new-table_keys.result table_key))
