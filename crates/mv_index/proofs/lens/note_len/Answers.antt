use Rattle.std.proofs.Common.{Some, cond, sym, ap, ◌∙◌}
use Rattle.std.specs.BTreeMap.{is_at}
use Rattle.std.specs.Map.{lookup}
use Rattle.std.specs.Ordering.{is_eq, nat_cmp}
use Rattle.mv_values.proofs.Deciding.{always_err}
use Rattle.mv_index.specs.Indexing.{with_len, is_known}
use Rattle.mv_index.proofs.Adding.{noted_before}
use Rattle.mv_index.proofs.lens.note_len.Goals as goal

pub returns-then-is_known-clause-ok : goal.returns-then-is_known-clause-ok
returns-then-is_known-clause-ok c t =
    noted_before c.args.table c.args.len c.args.lens.now.entries (sym (c.is_known.ensures ∙ ap (λ o. is_known o c.args.len) c.get.ensures.value) ∙ c.if-is_known.true) t

pub returns-clause-ok : goal.returns-clause-ok
returns-clause-ok c t =
    c.in_ok-insert.ensures.updates.0 t
    ∙ ap (λ k. cond (is_eq (nat_cmp c.args.table t)) (Some k) (lookup (is_at (nat_cmp t)) c.args.lens.now.entries)) (c.with_len-known.ensures ∙ ap (λ o. with_len o c.args.len) c.get-2.ensures.value)

pub returns-in_err-insert-clause-err : goal.returns-in_err-insert-clause-err
returns-in_err-insert-clause-err c = always_err c.from_residual.result _ c.in_err-insert.ensures.err
