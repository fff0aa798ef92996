use Rattle.std.proofs.Common.{sym}
use Rattle.mv_lex.proofs.Whole.{gap_reads, token_reads}
use Rattle.mv_lex.proofs.piece.first_piece.Goals as goal

pub returns-in-Some-clause-within : goal.returns-in-Some-clause-within
returns-in-Some-clause-within c =
    let s = gap_reads 0 c.in-Some.len c.args.bytes.now (sym c.in-Some.ensures) in
    (s.some, s.within)

pub returns-in-Some-first_token-clause-within : goal.returns-in-Some-first_token-clause-within
returns-in-Some-first_token-clause-within c =
    let s = token_reads c.in-Some-first_token.kind 0 c.in-Some-first_token.len c.args.bytes.now (sym c.in-Some-first_token.ensures.token) in
    (s.some, s.within)
