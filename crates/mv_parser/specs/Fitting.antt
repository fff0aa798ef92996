-- Tokens within the bytes.
use Rattle.std.specs.Prelude.{ℕ, ◌+◌, Bool, true, ◌&&◌, List, length, slice_range, nat_le, nat_lt}
use Rattle.std.specs.List.{list_all}
use Rattle.mv_values.specs.Printable.{is_printable}
use Rattle.mv_ast.specs.declared.lexeme.Lexeme.{Lexeme}
use Rattle.mv_ast.specs.declared.lexeme.Terminal.{Terminal}
use Rattle.mv_ast.specs.declared.lexeme.Terminal.TheVariants as word

-- the text is printable, unless the token is a block
abbrev pub must_print : Terminal → List ℕ → Bool
must_print word.Block text = true
must_print word.OpenBlock text = true
must_print t text = list_all is_printable text

-- the token is within the bytes, ends before 2^32, and is printable unless it is a block
abbrev pub fits : List ℕ → Lexeme → Bool
fits bytes l = nat_le (l.at + l.len) (length bytes) && nat_lt (l.at + l.len) 4294967296 && must_print l.kind (slice_range bytes l.at (l.at + l.len))
