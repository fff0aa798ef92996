use Rattle.std.proofs.Common.{◌<◌, ◌∷◌, [], None, length, refl, sym, ap, subst, ◌∙◌, arith, length-append}
use Rattle.mv_exec.specs.Frames.{AreFilled, IsNumbered, AreNumbered}
use Rattle.mv_exec.proofs.Framing.{all_stay, outer_stay}
use Rattle.mv_exec.proofs.Turning.{every_outer, filled_outer}
use Rattle.mv_exec.proofs.Trimming.{left_at}
use Rattle.mv_exec.proofs.frames.+staying.Goals as goal

pub staying-requires : goal.staying-requires
staying-requires t c =
    let proc = c.args.graph.now.procedure in
    let shorter : length c.in-Some.outer.now < length c.args.frames.now = omega (arith, ap length c.in-Some.ensures, length-append c.in-Some.outer.now (c.in-Some.last ∷ [])) in (
      omega (arith, shorter, c.decreases),
      (
        c.requires.graph,
        (
          filled_outer proc None c.in-Some.outer.now c.in-Some.last (subst (AreFilled proc None) c.in-Some.ensures c.requires.filled),
          every_outer (IsNumbered proc) proc None c.in-Some.outer.now c.in-Some.last (subst (AreNumbered proc None) c.in-Some.ensures c.requires.numbers),
        ),
      ),
    )

pub returns-then-has_left : goal.returns-then-has_left
returns-then-has_left t c =
    all_stay c.args.graph.now.procedure c.args.records.now c.args.frames.now c.in-Some.outer.now c.in-Some.last (length c.args.frames.now) c.in-Some.ensures
    (sym (left_at c.args.graph.now.procedure c.args.records.now c.args.frames.now c.in-Some.outer.now c.in-Some.last c.has_left.result c.requires.filled c.requires.numbers c.in-Some.ensures c.has_left.ensures)
    ∙ c.if-has_left.true) refl

pub returns-else-has_left : goal.returns-else-has_left
returns-else-has_left t c =
    outer_stay c.args.graph.now.procedure c.args.records.now c.args.frames.now c.in-Some.outer.now c.in-Some.last c.staying.result c.in-Some.ensures
    (sym (left_at c.args.graph.now.procedure c.args.records.now c.args.frames.now c.in-Some.outer.now c.in-Some.last c.has_left.result c.requires.filled c.requires.numbers c.in-Some.ensures c.has_left.ensures)
    ∙ c.if-has_left.false) c.staying.ensures
