use Rattle.std.proofs.Common.{◌≡◌, ◌++◌, ◌+◌, drop, IsTrue}
use Rattle.std.specs.List.{list_all}
use Rattle.mv_ast.specs.Lexemes.{lexemes, lexemes_from}
use Rattle.mv_parser.specs.Fitting.{fits}
use Rattle.mv_parser.proofs.lexing.lexemes_of.Given as goal

abbrev pub invariant-loop-i : goal.invariant-loop-i
invariant-loop-i l = record {
  lexemes : l.all ++ lexemes_from (l.i + 1) l.bytes (drop l.i l.tokens) ≡ lexemes l.bytes l.tokens;
  fitting : IsTrue (list_all (fits l.bytes) l.all);
}
