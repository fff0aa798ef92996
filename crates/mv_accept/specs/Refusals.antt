-- The number and the line of each refusal.
use Rattle.std.specs.Prelude.{ℕ, List, ◌++◌, codes, decimal}
use Rattle.mv_ast.specs.declared.limit.Which.{Which}
use Rattle.mv_ast.specs.declared.limit.Which.TheVariants as limit
use Rattle.mv_accept.specs.declared.refusal.ScriptRefusal.{ScriptRefusal}
use Rattle.mv_accept.specs.declared.refusal.ScriptRefusal.TheVariants.{TooLong, Byte, Token, Syntax, Limit, UnknownName, DoubleName, WrongType, KeyAssigned, Late, Writes, Field, Width, Duplicate, OpenBlock, MissingParent}

abbrev pub number_of : ScriptRefusal → ℕ
number_of TooLong = 1
number_of (Byte at) = 2
number_of (Token at) = 3
number_of (Syntax token) = 4
number_of (Limit which token) = 5
number_of (UnknownName token) = 6
number_of (DoubleName token) = 7
number_of (WrongType token) = 8
number_of (KeyAssigned token) = 9
number_of (Late token) = 10
number_of (Writes token) = 24
number_of (Field table row column) = 11
number_of (Width table row) = 12
number_of (Duplicate table row) = 13
number_of OpenBlock = 14
number_of (MissingParent table row column) = 23

-- the printed name of a limit
abbrev pub limit_name : Which → List ℕ
limit_name limit.Depth = codes "depth"
limit_name limit.Stretch = codes "stretch"
limit_name limit.Name = codes "name"
limit_name limit.Literal = codes "literal"
limit_name limit.Text = codes "text"
limit_name limit.Tables = codes "tables"
limit_name limit.Procedures = codes "procedures"
limit_name limit.Columns = codes "columns"
limit_name limit.Key = codes "key"
limit_name limit.Parameters = codes "parameters"
limit_name limit.Variables = codes "variables"
limit_name limit.Statements = codes "statements"
limit_name limit.Calls = codes "calls"
limit_name limit.Rows = codes "rows"

abbrev pub line_of : ScriptRefusal → List ℕ
line_of TooLong = codes "refused 1 too long"
line_of (Byte at) = codes "refused 2 byte " ++ decimal at
line_of (Token at) = codes "refused 3 token at " ++ decimal at
line_of (Syntax token) = codes "refused 4 syntax at token " ++ decimal token
line_of (Limit which token) = codes "refused 5 limit " ++ limit_name which ++ codes " at token " ++ decimal token
line_of (UnknownName token) = codes "refused 6 unknown name at token " ++ decimal token
line_of (DoubleName token) = codes "refused 7 double name at token " ++ decimal token
line_of (WrongType token) = codes "refused 8 wrong type at token " ++ decimal token
line_of (KeyAssigned token) = codes "refused 9 key assigned at token " ++ decimal token
line_of (Late token) = codes "refused 10 late at token " ++ decimal token
line_of (Writes token) = codes "refused 24 write at token " ++ decimal token
line_of (Field table row column) = codes "refused 11 table " ++ table ++ codes " row " ++ decimal row ++ codes " column " ++ decimal column
line_of (Width table row) = codes "refused 12 table " ++ table ++ codes " row " ++ decimal row
line_of (Duplicate table row) = codes "refused 13 table " ++ table ++ codes " row " ++ decimal row
line_of OpenBlock = codes "refused 14 open block"
line_of (MissingParent table row column) = codes "refused 23 table " ++ table ++ codes " row " ++ decimal row ++ codes " column " ++ decimal column
