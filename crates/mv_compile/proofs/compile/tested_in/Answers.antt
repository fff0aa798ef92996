use Rattle.std.proofs.Common.{All, sym, subst}
use Rattle.mv_compile.specs.Held.{IsNarrow}
use Rattle.mv_compile.proofs.Equalities.{narrow_all}
use Rattle.mv_compile.proofs.compile.tested_in.Goals as goal

pub add_tested-requires : goal.add_tested-requires
add_tested-requires c = subst (All IsNarrow) (sym c.as_slice.ensures) (narrow_all c.args.procedure.now.body c.requires.tables)
