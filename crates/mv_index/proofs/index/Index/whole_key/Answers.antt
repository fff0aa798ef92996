use Rattle.std.proofs.Common.{◌≡◌, false, Some, ap, subst}
use Rattle.std.specs.Prelude.{IfOk, IfSome}
use Rattle.std.specs.Option.{is_some}
use Rattle.mv_index.specs.Indexing.{gives_key, is_given, IsOnly, IsOnlyOf}
use Rattle.mv_index.proofs.index.Index.whole_key.Goals as goal

pub returns-in-Some-clause-given : goal.returns-in-Some-clause-given
returns-in-Some-clause-given c =
    subst (λ i. IfOk c.whole_key.result (λ key. is_some key ≡ gives_key i c.args.pred.now)) c.self.view_is
    (subst (λ o. IfOk c.whole_key.result (λ key. is_some key ≡ is_given o c.args.pred.now.tests)) (rw c.table.ensures at c.in-Some.ensures.value)
    (subst (λ ts. IfOk c.whole_key.result (λ key. is_some key ≡ is_given (Some c.in-Some.lens.now) ts)) c.tests.ensures c.whole_key.ensures.given))

pub returns-in-Some-clause-only : goal.returns-in-Some-clause-only
returns-in-Some-clause-only c =
    subst (λ i. IfOk c.whole_key.result (λ key. IfSome key (IsOnly i c.args.pred.now))) c.self.view_is
    (subst (λ o. IfOk c.whole_key.result (λ key. IfSome key (IsOnlyOf o c.args.pred.now.tests))) (rw c.table.ensures at c.in-Some.ensures.value)
    (subst (λ ts. IfOk c.whole_key.result (λ key. IfSome key (IsOnlyOf (Some c.in-Some.lens.now) ts))) c.tests.ensures c.whole_key.ensures.only))

pub returns-in-None-clause-given : goal.returns-in-None-clause-given
returns-in-None-clause-given c = subst (λ i. false ≡ gives_key i c.args.pred.now) c.self.view_is (ap (λ o. is_given o c.args.pred.now.tests) (rw c.table.ensures at c.in-None.ensures.value))
