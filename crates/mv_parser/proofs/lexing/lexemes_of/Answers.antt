use Rattle.std.proofs.Common.{◌≡◌, ◌<◌, ◌+◌, List, length, get_or, refl, sym, ap, subst, ◌∙◌, arith, true}
use Rattle.std.specs.List.{list_all}
use Rattle.mv_lex.specs.declared.token.Token.{Token}
use Rattle.mv_lex.specs.declared.token.Kind.TheVariants.{Word}
use Rattle.mv_lex.specs.Tokens.{IsSpelledIn}
use Rattle.mv_ast.specs.declared.lexeme.Lexeme.{Lexeme}
use Rattle.mv_ast.specs.Lexemes.{lexemes}
use Rattle.mv_parser.specs.Fitting.{fits}
use Rattle.mv_parser.proofs.Lexed.{lexed_more}
use Rattle.mv_parser.proofs.Printables.{token_fits, fitting_more}
use Rattle.mv_parser.proofs.lexing.lexemes_of.Goals as goal

pub loop-i-preserved : goal.loop-i-preserved
loop-i-preserved c =
    let none : Token = record { kind = Word; at = 0; len = 0 } in
    let tokens = c.as_slice-tokens.result.now in
    let here : c.loop-i.i < length c.args.tokens.now = omega (arith, ap (λ (ts : List Token). length ts) c.as_slice-tokens.ensures) in
    let within : c.loop-i.i < length c.as_slice-tokens.result.now = omega (arith, ap (λ (ts : List Token). length ts) c.as_slice-tokens.ensures) in
    let spelled : IsSpelledIn c.args.bytes.now (get_or c.as_slice-tokens.result.now c.loop-i.i none) =
    subst (λ (ts : List Token). IsSpelledIn c.args.bytes.now (get_or ts c.loop-i.i none)) (sym c.as_slice-tokens.ensures) (c.requires.spelled c.loop-i.i none here) in
    let fit : fits c.args.bytes.now c.lexeme_in.result ≡ true =
    ap (fits c.args.bytes.now) c.lexeme_in.ensures ∙ token_fits c.args.bytes.now (c.loop-i.i + 1) (get_or c.as_slice-tokens.result.now c.loop-i.i none) c.requires.size spelled in
    record {
      lexemes =
          lexed_more c.args.bytes.now c.as_slice-tokens.result.now c.loop-i.i c.loop-i.all c.push.new.self (lexemes c.args.bytes.now c.as_slice-tokens.result.now)
          (get_or c.as_slice-tokens.result.now c.loop-i.i none) none c.lexeme_in.result within refl c.lexeme_in.ensures c.in_ok-push.ensures.ok c.loop-i.invariant.lexemes;
      fitting =
          subst (λ (ls : List Lexeme). list_all (fits c.args.bytes.now) ls ≡ true) (sym c.in_ok-push.ensures.ok)
          (fitting_more c.args.bytes.now c.loop-i.all c.lexeme_in.result c.loop-i.invariant.fitting fit);
    }
