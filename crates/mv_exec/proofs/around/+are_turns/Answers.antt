use Rattle.std.proofs.Common.{◌<◌, ◌∷◌, [], length, ap, arith, length-append}
use Rattle.mv_exec.proofs.Framing.{turns_are, turns_differ, unturned}
use Rattle.mv_exec.proofs.around.+are_turns.Goals as goal

pub are_turns-requires : goal.are_turns-requires
are_turns-requires t c =
    let shorter : length c.in-Some.outer.now < length c.args.frames.now = omega (arith, ap length c.in-Some.ensures, length-append c.in-Some.outer.now (c.in-Some.last ∷ [])) in
    (omega (arith, shorter, c.decreases), tt)

pub returns-in_default : goal.returns-in_default
returns-in_default t c = unturned c.args.frames.now c.args.turns.now c.is_empty.result c.in_default.ensures c.is_empty.ensures

pub returns-in-Some-turns_outside : goal.returns-in-Some-turns_outside
returns-in-Some-turns_outside t c =
    turns_are c.args.frames.now c.in-Some.outer.now c.in-Some.last c.args.turns.now c.in-Some-turns_outside.left.now c.are_turns.result c.in-Some.ensures c.in-Some-turns_outside.ensures c.are_turns.ensures

pub returns-in-None : goal.returns-in-None
returns-in-None t c = turns_differ c.args.frames.now c.in-Some.outer.now c.in-Some.last c.args.turns.now c.in-Some.ensures c.in-None.ensures
