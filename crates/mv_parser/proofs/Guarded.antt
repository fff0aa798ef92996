-- Parts in which what stands inside stands behind a token.
use Rattle.std.proofs.Common.{Bool, true, false, cond}
use Rattle.mv_ast.specs.Parts.{Part, give, one, both, either, left, expression, statement}
use Rattle.mv_parser.specs.Reading.{is_nullable}

abbrev pub is_guarded : {A : Type 0} → Part A → Bool
is_guarded (give a) = true
is_guarded (one t) = true
is_guarded (both f p q) = cond (is_guarded p) (cond (is_nullable p) (is_guarded q) true) false
is_guarded (either p q) = cond (is_guarded p) (is_guarded q) false
is_guarded (left f p q) = cond (is_guarded p) (cond (is_nullable p) (is_guarded q) true) false
is_guarded expression = false
is_guarded statement = false
