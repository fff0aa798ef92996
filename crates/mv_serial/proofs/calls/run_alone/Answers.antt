use Rattle.std.proofs.Common.{◌≡◌, ◌<◌, rules, length, ap, sym, subst, ◌∙◌}
use Rattle.std.specs.Prelude.{replicate}
use Rattle.mv_values.specs.Tables.{KeysStand}
use Rattle.mv_eval.specs.TableAfter.{no_reply}
use Rattle.mv_serial.proofs.InTurn.{length_replies, all_replied, others_silent, place_within}
use Rattle.mv_catalog.proofs.References.{one_keys}
use Rattle.mv_serial.proofs.Lawful.{stopped_unchanged}
use Rattle.mv_serial.proofs.calls.run_alone.Goals as goal

pub loop-i-init : goal.loop-i-init
loop-i-init c = record {
  keys = subst (KeysStand c.args.program.now.resolved.tables) (sym c.in_ok-tables.ensures) c.requires.whole.opening.keys;
  tables = c.in_ok-tables.ensures;
  replies = c.in_ok-replies.ensures ∙ ap (λ n. replicate n no_reply) c.len.ensures;
}

pub set-requires : goal.set-requires
set-requires c =
    let lt : c.loop-i.i < length c.args.order.now = search rules in
    place_within c.args.program.now c.args.order.now c.loop-i.i c.loop-i.replies c.requires.order lt c.loop-i.invariant.replies

pub returns-clause-len : goal.returns-clause-len
returns-clause-len c = ap length c.loop-i.invariant.replies ∙ length_replies c.args.program.now c.args.order.now c.loop-i.i

pub returns-clause-replies : goal.returns-clause-replies
returns-clause-replies c =
    let all : c.loop-i.i ≡ length c.args.order.now = search rules in
    all_replied c.args.program.now c.args.order.now c.loop-i.i c.loop-i.replies c.requires.order all c.loop-i.invariant.replies

pub returns-clause-others : goal.returns-clause-others
returns-clause-others c =
    let all : c.loop-i.i ≡ length c.args.order.now = search rules in
    others_silent c.args.program.now c.args.order.now c.loop-i.i c.loop-i.replies all c.loop-i.invariant.replies

pub returns-clause-stopped : goal.returns-clause-stopped
returns-clause-stopped c = stopped_unchanged c.args.program.now c.args.order.now c.loop-i.replies (returns-clause-replies c)

pub run_call-requires-clause-each : goal.run_call-requires-clause-each
run_call-requires-clause-each c = c.requires.whole.text.tables

pub run_call-requires-clause-parents : goal.run_call-requires-clause-parents
run_call-requires-clause-parents c = one_keys c.args.program.now.resolved.tables c.requires.whole.text.parents

pub run_call-requires-clause-few : goal.run_call-requires-clause-few
run_call-requires-clause-few c = c.requires.whole.text.few
