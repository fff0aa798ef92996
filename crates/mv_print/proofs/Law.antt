-- The law of printing.
use Rattle.std.proofs.Common.{◌≡◌, ℕ, List, [], ◌++◌, None, Result, Ok, Err, IfOk, refl, sym, subst, arith}
use Rattle.mv_lex.specs.Tokens.{AreTokens}
use Rattle.mv_lex.specs.declared.token.Token.{Token}
use Rattle.mv_ast.specs.declared.tree.Script.{Script}
use Rattle.mv_ast.specs.Lexemes.{IsScript, lexemes}
use Rattle.mv_ast.specs.declared.lexeme.Lexeme.{Lexeme}
use Rattle.mv_ast.specs.declared.limit.PassedLimit.{PassedLimit}
use Rattle.mv_ast.specs.Limits.{first_early, soonest, token_passes, script_passes}
use Rattle.mv_ast.proofs.Limited.{nothing_left, none_soonest}
use Rattle.mv_print.specs.Printing.{Piece, printed, script_pieces}
use Rattle.mv_print.specs.Back.{ReadsBack}
use Rattle.mv_print.proofs.Light.{kinds, Light, Keeps, front_at, keeps_of, first_of}
use Rattle.mv_print.proofs.Building.{marks, Spelled}
use Rattle.mv_print.proofs.Lexing.{kinds_spelled, all_good, passes_none, all_meant, last_open, flat, written_flat, lexed}
use Rattle.mv_print.proofs.Scripts.{script_turned}
use Rattle.mv_print.proofs.Counting.{passes_back}

-- depth and stretch are kept where the source keeps them
early_back : (bytes text : List ℕ) (ts ls : List Lexeme) (ps : List Piece) → Light 0 0 (kinds ts) (marks ps) → Spelled text ls ps → first_early ts ≡ None → first_early ls ≡ None
early_back bytes text ts ls ps l s h =
    let k = l 0 0 (front_at []) (front_at []) (record { least_deep = omega arith; within = omega arith; shorter = omega arith; first = refl; second = refl }) (keeps_of [] ts h) in
    first_of [] ls (subst (Keeps (front_at [])) (sym (kinds_spelled text ls ps s)) k.0)

-- no limit is told where none is passed
none_told : (ps qs : List PassedLimit) → ps ≡ [] → qs ≡ [] → soonest None (ps ++ qs) ≡ None
unfolding soonest
none_told ps qs h k = rw (h, k) refl

flat_back : (bytes : List ℕ) (tokens : List Token) (s : Script) → AreTokens bytes tokens → IsScript bytes tokens s → ReadsBack bytes s (flat (script_pieces bytes s))
flat_back bytes tokens s a i =
    let ps = script_pieces bytes s in
    let ts = lexemes bytes tokens in
    let none = nothing_left (token_passes bytes ts) (script_passes s) (none_soonest (token_passes bytes ts ++ script_passes s) i.late) in
    let good = all_good bytes ts (all_meant 1 bytes [] refl refl a.0 a.1) none.0 in
    let t = script_turned bytes (flat ps) i.grammar.0 ts s good (last_open 1 bytes a.1) i.grammar.1 in
    let l = lexed ps t.sounds in
    let ls = lexemes (flat ps) l.tokens in
    let r = t.reads t.levels ls (omega arith) (l.spelled 1) in (
      l.tokens,
      r.0,
      (l.allowed, l.reads),
      record {
        grammar = (t.levels, r.1);
        early = early_back bytes (flat ps) ts ls ps t.light (l.spelled 1) i.early;
        late = none_told (token_passes (flat ps) ls) (script_passes r.0) (passes_none (flat ps) ps ls t.sounds (l.spelled 1)) (passes_back bytes (flat ps) s r.0 r.2 none.1);
      },
      r.2,
    )

pub printed_back : {E : Type 0} (bytes : List ℕ) (tokens : List Token) (s : Script) (r : Result (List ℕ) E) → AreTokens bytes tokens → IsScript bytes tokens s
    → IfOk r (λ text. text ≡ printed bytes s) → IfOk r (λ text. ReadsBack bytes s text)
printed_back bytes tokens s (Ok text) a i h = subst (ReadsBack bytes s) (sym h) (subst (ReadsBack bytes s) (sym (written_flat [] (script_pieces bytes s))) (flat_back bytes tokens s a i))
printed_back bytes tokens s (Err x) a i h = tt
