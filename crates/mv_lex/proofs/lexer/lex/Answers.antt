use Rattle.mv_lex.proofs.Answers.{tells_found, tells_only, tells_spelled, tells_bad_byte, tells_bad_token, tells_bad_token_told}
use Rattle.mv_lex.proofs.lexer.lex.Goals as goal

pub returns-clause-found : goal.returns-clause-found
returns-clause-found c = tells_found c.args.bytes.now c.read.result c.read.ensures

pub returns-clause-only : goal.returns-clause-only
returns-clause-only c = tells_only c.args.bytes.now c.read.result c.read.ensures

pub returns-clause-spelled : goal.returns-clause-spelled
returns-clause-spelled c = tells_spelled c.args.bytes.now c.read.result c.read.ensures

pub returns-clause-bad_byte : goal.returns-clause-bad_byte
returns-clause-bad_byte c = tells_bad_byte c.args.bytes.now c.read.result c.read.ensures

pub returns-clause-bad_token : goal.returns-clause-bad_token
returns-clause-bad_token c = tells_bad_token c.args.bytes.now c.read.result c.read.ensures

pub returns-clause-bad_token_told : goal.returns-clause-bad_token_told
returns-clause-bad_token_told c = tells_bad_token_told c.args.bytes.now c.read.result c.read.ensures
