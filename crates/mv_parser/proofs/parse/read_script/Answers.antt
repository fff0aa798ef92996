use Rattle.std.proofs.Common.{◌≡◌, ◌+◌, ◌-◌, None, Ok, Err, ap, arith, rules, length, List}
use Rattle.mv_ast.specs.declared.lexeme.Lexeme.{Lexeme}
use Rattle.mv_ast.specs.Lexemes.{lexemes}
use Rattle.mv_ast.specs.Limits.{first_early, first_late}
use Rattle.mv_ast.proofs.Counting.{length_lexemes}
use Rattle.mv_parser.specs.Whole.{parsed}
use Rattle.mv_parser.proofs.parse.read_script.Goals as goal

pub overflow_cast-result : goal.overflow_cast-result
overflow_cast-result c =
    omega (
      arith,
      c.requires.few,
      c.saturating_sub.ensures,
      length_lexemes 1 c.args.bytes.now c.args.tokens.now,
      ap (λ (ls : List Lexeme). length ls) c.in_ok-list.ensures.lexemes,
      ap (λ (ls : List Lexeme). length ls) c.as_slice-lexemes.ensures,
    )

pub overflow_add-result : goal.overflow_add-result
overflow_add-result c =
    omega (
      arith,
      c.requires.few,
      c.saturating_sub.ensures,
      length_lexemes 1 c.args.bytes.now c.args.tokens.now,
      ap (λ (ls : List Lexeme). length ls) c.in_ok-list.ensures.lexemes,
      ap (λ (ls : List Lexeme). length ls) c.as_slice-lexemes.ensures,
    )

pub returns-in-Ok : goal.returns-in-Ok
returns-in-Ok c =
    let ts = lexemes c.args.bytes.now c.args.tokens.now in
    let early : first_early ts ≡ None = search rules in
    let read : parsed c.args.bytes.now (length ts) ts ≡ Ok c.in-Ok.script = search rules in
    let late : first_late c.args.bytes.now ts c.in-Ok.script ≡ None = search rules in
    (early, read, late)

pub returns : goal.returns
returns c =
    let ts = lexemes c.args.bytes.now c.args.tokens.now in
    let early : first_early ts ≡ None = search rules in
    let read : parsed c.args.bytes.now (length ts) ts ≡ Err c.in-Err-Wrong.left = search rules in
    let token : c.saturating_sub.result + 1 ≡ length ts - c.in-Err-Wrong.left + 1 = search rules in
    (early, c.in-Err-Wrong.left, read, token)
