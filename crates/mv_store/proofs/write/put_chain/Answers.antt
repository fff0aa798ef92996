use Rattle.std.proofs.Common.{sym, ap, subst, ◌∙◌, Some}
use Rattle.std.proofs.lemmas.Result.{on_ok_weaker, on_err_weaker}
use Rattle.std.specs.Option.{OnSome}
use Rattle.mv_table.specs.Lending.{HasItem}
use Rattle.std.specs.Prelude.{◌≡◌, IfOk}
use Rattle.mv_chain.specs.Versions.{is_blank, own_of, with_patch}
use Rattle.mv_store.specs.Kept.{versions_in}
use Rattle.mv_store.proofs.Done.{changed_there, changed_new}
use Rattle.mv_store.proofs.Filled.{put_under, patch_fills, filled_but, filled_by, filled_put}
use Rattle.mv_store.proofs.write.put_chain.Goals as goal

lent : (c : goal.After-table-in-Some-1) → HasItem c.args.write.now.key c.put_patch.new.chain c.args.table.now (c.get_mut.follows.lender c.put_patch.new.chain)
lent c = subst (λ o. OnSome o (HasItem c.args.write.now.key c.put_patch.new.chain c.args.table.now (c.get_mut.follows.lender c.put_patch.new.chain))) c.in-Some.is (c.get_mut.follows.holds c.put_patch.new.chain)

pub returns-in-Some-clause-ok : goal.returns-in-Some-clause-ok
returns-in-Some-clause-ok c =
    on_ok_weaker c.put_patch.result (λ e.
    changed_there c.args.write.now.key (with_patch c.args.call c.args.write.now.patch) c.in-Some.chain.now c.put_patch.new.chain c.args.table.now (c.get_mut.follows.lender c.put_patch.new.chain) (sym c.in-Some.ensures.item) e (lent c)) c.put_patch.ensures.ok

pub returns-in-Some-clause-err : goal.returns-in-Some-clause-err
returns-in-Some-clause-err c =
    on_err_weaker c.put_patch.result (λ e.
    changed_there c.args.write.now.key (λ v. v) c.in-Some.chain.now c.put_patch.new.chain c.args.table.now (c.get_mut.follows.lender c.put_patch.new.chain) (sym c.in-Some.ensures.item) e (lent c)) c.put_patch.ensures.err

pub returns-clause-ok : goal.returns-clause-ok
returns-clause-ok c =
    let f = with_patch c.args.call c.args.write.now.patch in
    changed_new c.args.write.now.key f c.put_patch-2.new.chain c.args.table.now c.put.new.self (sym c.in_default.ensures.item) (c.in_ok-earlier.ensures.ok ∙ ap f c.new-chain.ensures)
    (put_under c.args.write.now.key c.in_ok-key.key c.put_patch-2.new.chain c.args.table.now c.get_mut.follows.lender-at-none c.put.new.self c.get_mut.follows.holds-at-none c.in_ok-key.ensures c.in_ok-put.ensures.at)
    c.in_ok-put.ensures.rising

pub returns-in-Some-clause-filled : goal.returns-in-Some-clause-filled
returns-in-Some-clause-filled c =
    let w = c.args.write.now in
    filled_put c.put_patch.result c.args.call w.patch w.key c.in-Some.chain.now c.put_patch.new.chain c.args.table.now (c.get_mut.follows.lender c.put_patch.new.chain) (sym c.in-Some.ensures.item) c.put_patch.ensures.ok c.put_patch.ensures.err (lent c)

pub returns-clause-filled : goal.returns-clause-filled
returns-clause-filled c =
    let w = c.args.write.now in
    λ f.
    filled_by w.key (Some c.put_patch-2.new.chain) c.args.table.now c.put.new.self (put_under w.key c.in_ok-key.key c.put_patch-2.new.chain c.args.table.now c.get_mut.follows.lender-at-none c.put.new.self c.get_mut.follows.holds-at-none c.in_ok-key.ensures c.in_ok-put.ensures.at) (ap is_blank c.in_ok-earlier.ensures.ok ∙ patch_fills c.args.call w.patch c.new-chain.result) (filled_but w.key c.args.table.now f)

pub returns-in-Some-clause-earlier : goal.returns-in-Some-clause-earlier
returns-in-Some-clause-earlier c = subst (λ o. IfOk c.put_patch.result (λ e. e ≡ own_of c.args.call (versions_in o).own)) c.in-Some.ensures.item c.put_patch.ensures.earlier

pub returns-clause-earlier : goal.returns-clause-earlier
returns-clause-earlier c = c.in_ok-earlier.ensures.earlier ∙ (ap (λ w. own_of c.args.call w.own) c.new-chain.ensures ∙ ap (λ o. own_of c.args.call (versions_in o).own) c.in_default.ensures.item)
