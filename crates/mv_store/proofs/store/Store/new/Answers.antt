use Rattle.std.proofs.Common.{ap, sym, subst, ◌∙◌, map}
use Rattle.mv_chain.specs.Versions.{own_of}
use Rattle.mv_store.specs.Stored.{picked_in, table_at, writes_from}
use Rattle.mv_store.specs.Kept.{AllRise}
use Rattle.mv_store.specs.Indexed.{IsIndexOf}
use Rattle.mv_store.proofs.Opening.{opened_kept, opened_all, opened_own}
use Rattle.mv_store.proofs.store.Store.new.Goals as goal

pub invariant_of-result : goal.invariant_of-result
invariant_of-result c = (
  opened_kept c.args.opening.now c.in_ok-tables.tables.items _ c.in_ok-tables.ensures.opened c.in_ok-tables.ensures.rising (ap (λ s. s.commits) c.new-2.ensures),
  subst (λ ts. IsIndexOf ts c.in_ok-index.index) (sym c.in_ok-tables.ensures.opened) c.in_ok-index.ensures,
)

pub new-requires : goal.new-requires
new-requires c = subst AllRise c.in_ok-tables.ensures.opened c.in_ok-tables.ensures.rising

pub returns-clause-database : goal.returns-clause-database
returns-clause-database c n = ap (map (table_at n)) c.in_ok-tables.ensures.opened ∙ opened_all n c.args.opening.now

pub returns-clause-own : goal.returns-clause-own
returns-clause-own c call =
    ap (λ ts. writes_from 0 (picked_in (λ v. own_of call v.own) ts)) c.in_ok-tables.ensures.opened
    ∙ opened_own call c.args.opening.now (subst AllRise c.in_ok-tables.ensures.opened c.in_ok-tables.ensures.rising)
