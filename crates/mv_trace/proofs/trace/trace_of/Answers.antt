use Rattle.std.proofs.Common.{◌≡◌, length, sym, ap, subst, ◌∙◌}
use Rattle.std.specs.Prelude.{count_by}
use Rattle.mv_trace.specs.Bars.{AreBars, is_begin}
use Rattle.mv_trace.proofs.Keeping.{bars_in, bars_length}
use Rattle.mv_trace.proofs.trace.trace_of.Goals as goal

pub returns-clause-bars : goal.returns-clause-bars
returns-clause-bars c =
    let events = c.in_ok-run.run'.journal in
    let bars = c.in_ok-bars.bars in
    let same : bars_in c.in_ok-calls.calls ≡ bars = c.in_ok-calls.ensures ∙ c.as_slice-2.ensures in
    subst (AreBars events) (sym same) (subst (λ events. AreBars events bars) c.as_slice.ensures c.in_ok-bars.ensures.bars)

pub returns-clause-each : goal.returns-clause-each
returns-clause-each c =
    let bars = c.in_ok-bars.bars in
    let calls = c.in_ok-calls.calls in
    let same : bars_in calls ≡ bars = c.in_ok-calls.ensures ∙ c.as_slice-2.ensures in
    sym (bars_length calls) ∙ (ap length same ∙ (c.in_ok-bars.ensures.each ∙ ap (count_by is_begin) c.as_slice.ensures))
