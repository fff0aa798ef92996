use Rattle.std.proofs.Common.{arith}
use Rattle.mv_lex.proofs.Counting.{few_tokens}
use Rattle.mv_parser.proofs.Faults.{tells_found, tells_only, tells_syntax, tells_syntax_told, tells_limit, tells_limit_told}
use Rattle.mv_parser.proofs.parse.parse.Goals as goal

pub read_script-requires-clause-few : goal.read_script-requires-clause-few
read_script-requires-clause-few c = omega (arith, few_tokens c.args.bytes.now c.args.tokens.now c.requires.tokens)

pub returns-clause-found : goal.returns-clause-found
returns-clause-found c = tells_found c.args.bytes.now c.args.tokens.now c.read_script.result c.read_script.ensures

pub returns-clause-only : goal.returns-clause-only
returns-clause-only c = tells_only c.args.bytes.now c.args.tokens.now c.read_script.result c.read_script.ensures

pub returns-clause-syntax : goal.returns-clause-syntax
returns-clause-syntax c = tells_syntax c.args.bytes.now c.args.tokens.now c.read_script.result c.read_script.ensures

pub returns-clause-syntax_told : goal.returns-clause-syntax_told
returns-clause-syntax_told c = tells_syntax_told c.args.bytes.now c.args.tokens.now c.read_script.result c.read_script.ensures

pub returns-clause-limit : goal.returns-clause-limit
returns-clause-limit c = tells_limit c.args.bytes.now c.args.tokens.now c.read_script.result c.read_script.ensures

pub returns-clause-limit_told : goal.returns-clause-limit_told
returns-clause-limit_told c = tells_limit_told c.args.bytes.now c.args.tokens.now c.read_script.result c.read_script.ensures
