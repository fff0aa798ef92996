use Rattle.std.proofs.Common.{refl, ap, ◌∙◌}
use Rattle.mv_trace.specs.declared.calls.Call.{Call}
use Rattle.mv_trace.proofs.Keeping.{bars_in, kept_bars}
use Rattle.mv_trace.proofs.calls.note_line.Goals as goal

pub returns : goal.returns
returns c =
    let call = c.in-Some.call.now in
    let noted : Call = record { bar = call.bar; end = call.end; name = call.name; commit = c.args.line.now.commit; start = c.last_start.result; cost = c.cost_of.result } in
    let there = rw c.as_slice.ensures at c.in-Some.ensures.lookup in
    ap bars_in c.set.ensures ∙ kept_bars c.args.calls.now c.args.line.now.call call noted there.1 refl
