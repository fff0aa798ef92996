use Rattle.std.proofs.lemmas.Result.{on_ok_weaker}
use Rattle.mv_compile.proofs.Equalities.{own_taken, own_narrow, own_none}
use Rattle.mv_compile.proofs.tested.add_own.Goals as goal

pub add_equalities-requires : goal.add_equalities-requires
add_equalities-requires c = own_narrow c.in-Some.table c.in-Some.conds.now _ c.in-Some.ensures c.requires

pub returns-in-Some : goal.returns-in-Some
returns-in-Some c = on_ok_weaker c.add_equalities.result (λ is. own_taken c.args.all.now c.add_equalities.new.all c.in-Some.table c.in-Some.conds.now _ c.in-Some.ensures is) c.add_equalities.ensures

pub returns-in-None : goal.returns-in-None
returns-in-None c = own_none c.args.all.now _ c.in-None.ensures
