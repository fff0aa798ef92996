use Rattle.std.proofs.Common.{arith}
use Rattle.std.proofs.lemmas.Result.{err_from_is_err_and}
use Rattle.mv_accept.proofs.Stages.{too_many_bytes, lexed, not_lexed}
use Rattle.mv_accept.proofs.accept.tokens_of.Goals as goal

pub returns-then-bytes-gt-MOST_BYTES-clause-exact : goal.returns-then-bytes-gt-MOST_BYTES-clause-exact
returns-then-bytes-gt-MOST_BYTES-clause-exact c = too_many_bytes c.args.bytes.now (omega (arith, c.if-bytes-gt-MOST_BYTES.true))

pub returns-clause-exact : goal.returns-clause-exact
returns-clause-exact c =
    lexed c.args.bytes.now c.in_ok-lex.field-0 (omega (arith, c.if-bytes-gt-MOST_BYTES.false)) c.in_ok-lex.ensures.found c.in_ok-lex.ensures.only c.in_ok-lex.ensures.bad_byte c.in_ok-lex.ensures.bad_token_told

pub returns-in_err-lex-clause-exact : goal.returns-in_err-lex-clause-exact
returns-in_err-lex-clause-exact c =
    let p = err_from_is_err_and c.from_residual.result c.from_residual.ensures.1 in
    rw (p.1, p.2)
    (not_lexed c.args.bytes.now c.in_err-lex.field-0.0 (omega (arith, c.if-bytes-gt-MOST_BYTES.false)) c.in_err-lex.ensures.only c.in_err-lex.ensures.bad_byte c.in_err-lex.ensures.bad_token c.in_err-lex.ensures.bad_token_told)
