use Rattle.std.proofs.Common.{ℕ, List, Option, length, refl, sym, ap, ◌∙◌}
use Rattle.std.proofs.lemmas.Option.{slice_get_read}
use Rattle.mv_journal.specs.declared.outcome.Round.{Round}
use Rattle.mv_journal.specs.declared.outcome.HistoryLine.{HistoryLine}
use Rattle.mv_core.specs.Calls.{rounds_by}
use Rattle.mv_core.proofs.history.line_of.Goals as goal

abbrev line_with : (commit : Option ℕ) (call : ℕ) → List Round → HistoryLine
line_with commit call rs = record { commit = commit; call = call; rounds = rs }

pub returns : goal.returns
returns c =
    ap (line_with c.args.place.commit c.args.place.call)
    (c.in_ok-rounds.ensures ∙ ap rounds_by (sym (slice_get_read c.args.calls.now (length c.args.calls.now) c.args.place.call c.index-calls-place.result refl c.requires c.index-calls-place.is)))
