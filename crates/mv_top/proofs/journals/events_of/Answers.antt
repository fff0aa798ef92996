use Rattle.std.proofs.Common.{List, ℕ, subst}
use Rattle.std.proofs.lemmas.Result.{err_from_is_err_and}
use Rattle.std.specs.Str.Lines.{lines}
use Rattle.mv_journal.specs.Lines.{TellsFault}
use Rattle.mv_top.proofs.Driving.{line_told}
use Rattle.mv_top.proofs.journals.events_of.Goals as goal

pub returns-in_err-read_journal-clause-refused : goal.returns-in_err-read_journal-clause-refused
returns-in_err-read_journal-clause-refused c =
    let p = err_from_is_err_and c.from_residual.result c.from_residual.ensures.1 in
    let fault = c.in_err-read_journal.field-0.0 in
    rw (p.1, p.2) (line_told c.args.options c.args.bytes.now c.args.program.now fault (subst (λ (bs : List ℕ). TellsFault (lines bs) fault) c.block_in.ensures c.in_err-read_journal.ensures.fault))
