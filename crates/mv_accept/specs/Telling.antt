-- The error that is returned when a step fails.
use Rattle.std.specs.Prelude.{◌≡◌, ◌⊎◌, ℕ}
use Rattle.mv_lex.specs.declared.lexer.LexFault.{LexFault}
use Rattle.mv_lex.specs.declared.lexer.LexFault.TheVariants as lexing
use Rattle.mv_parser.specs.declared.fault.ParseFault.{ParseFault}
use Rattle.mv_parser.specs.declared.fault.ParseFault.TheVariants as parsing
use Rattle.mv_resolve.specs.declared.refused.NameFault.{NameFault}
use Rattle.mv_resolve.specs.declared.refused.NameFault.TheVariants as naming
use Rattle.mv_catalog.specs.declared.resolved.Resolved.{Resolved}
use Rattle.mv_opening.specs.declared.fault.OpeningFault.{OpeningFault}
use Rattle.mv_opening.specs.declared.fault.ParentFault.{ParentFault}
use Rattle.mv_accept.specs.declared.refusal.ScriptRefusal.{ScriptRefusal}
use Rattle.mv_accept.specs.declared.refusal.ScriptRefusal.TheVariants as why
use Rattle.mv_accept.specs.declared.accept.NotAccepted.{NotAccepted}
use Rattle.mv_accept.specs.declared.accept.NotAccepted.TheVariants.{Refused, NoMemory}
use Rattle.mv_accept.specs.Accepting.{TellsOfRows, TellsOfParents}

abbrev pub of_lexing : LexFault → NotAccepted
of_lexing (lexing.BadByte at) = Refused (why.Byte at)
of_lexing (lexing.BadToken at) = Refused (why.Token at)
of_lexing lexing.NoMemory = NoMemory

abbrev pub of_parsing : ParseFault → NotAccepted
of_parsing (parsing.Syntax token) = Refused (why.Syntax token)
of_parsing (parsing.Limit which token) = Refused (why.Limit which token)
of_parsing parsing.NoMemory = NoMemory

abbrev pub of_naming : NameFault → NotAccepted
of_naming (naming.UnknownName token) = Refused (why.UnknownName token)
of_naming (naming.DoubleName token) = Refused (why.DoubleName token)
of_naming (naming.WrongType token) = Refused (why.WrongType token)
of_naming (naming.KeyAssigned token) = Refused (why.KeyAssigned token)
of_naming (naming.Late token) = Refused (why.Late token)
of_naming (naming.Writes token) = Refused (why.Writes token)
of_naming naming.NoMemory = NoMemory

-- the error is that of this fault of the rows, unless memory ran out
abbrev pub OfOpening : Resolved → OpeningFault → NotAccepted → Type 0
OfOpening resolved fault (Refused refusal) = TellsOfRows resolved fault refusal
OfOpening resolved fault NoMemory = Unit {0}

-- the error is that of this row without its parent, unless memory ran out
abbrev pub OfParents : Resolved → ParentFault → NotAccepted → Type 0
OfParents resolved fault (Refused refusal) = TellsOfParents resolved fault refusal
OfParents resolved fault NoMemory = Unit {0}
