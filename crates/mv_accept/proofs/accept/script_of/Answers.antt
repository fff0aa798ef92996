use Rattle.std.proofs.Common.{Ok, Err}
use Rattle.std.proofs.lemmas.Result.{err_from_is_err_and}
use Rattle.mv_ast.specs.Lexemes.{IsScript}
use Rattle.mv_accept.specs.Accepting.{HasTokens, HasNoTokens, IsNoScript}
use Rattle.mv_accept.proofs.Chain.{passed, failed}
use Rattle.mv_accept.proofs.Stages.{parsed, not_parsed}
use Rattle.mv_accept.proofs.accept.script_of.Goals as goal

pub returns-in_err-tokens : goal.returns-in_err-tokens
returns-in_err-tokens c =
    let p = err_from_is_err_and c.from_residual.result c.from_residual.ensures.1 in
    rw (p.1, p.2) (failed (HasTokens c.args.bytes.now) (HasNoTokens c.args.bytes.now) (IsScript c.args.bytes.now) (IsNoScript c.args.bytes.now) c.in_err-tokens.field-0.0 c.in_err-tokens.ensures.exact)

pub returns : goal.returns
returns c =
    passed (HasTokens c.args.bytes.now) (HasNoTokens c.args.bytes.now) (IsScript c.args.bytes.now) (IsNoScript c.args.bytes.now) c.in_ok-tokens.tokens (Ok c.in_ok-parse.field-0) c.in_ok-tokens.ensures.exact
    (parsed c.args.bytes.now c.in_ok-tokens.tokens c.in_ok-parse.field-0 c.in_ok-parse.ensures.found c.in_ok-parse.ensures.only c.in_ok-parse.ensures.syntax_told c.in_ok-parse.ensures.limit_told)

pub returns-in_err-parse : goal.returns-in_err-parse
returns-in_err-parse c =
    let p = err_from_is_err_and c.from_residual-in_err-parse.result c.from_residual-in_err-parse.ensures.1 in
    rw (p.1, p.2)
    (passed (HasTokens c.args.bytes.now) (HasNoTokens c.args.bytes.now) (IsScript c.args.bytes.now) (IsNoScript c.args.bytes.now) c.in_ok-tokens.tokens (Err _) c.in_ok-tokens.ensures.exact
    (not_parsed c.args.bytes.now c.in_ok-tokens.tokens c.in_err-parse.field-0.0 c.in_err-parse.ensures.only c.in_err-parse.ensures.syntax c.in_err-parse.ensures.syntax_told c.in_err-parse.ensures.limit c.in_err-parse.ensures.limit_told))
