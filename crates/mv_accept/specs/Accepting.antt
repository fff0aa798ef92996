-- Which bytes are accepted, and as which program; and why others are refused. The checks run in this order: tokens,
-- script, names and types, opening rows, their parents. Each check runs only if those before it pass.
use Rattle.std.specs.Prelude.{◌≡◌, ◌⊎◌, ◌<◌, ◌≤◌, ◌^◌, ℕ, List, [], Option, Some, None, length, slice_get}
use Rattle.mv_values.specs.declared.schema.TableInfo.{TableInfo}
use Rattle.mv_lex.specs.declared.token.Token.{Token}
use Rattle.mv_lex.specs.Tokens.{AreTokens, IsBadByte, IsBadToken}
use Rattle.mv_ast.specs.declared.tree.Script.{Script}
use Rattle.mv_ast.specs.declared.limit.Which.{Which}
use Rattle.mv_ast.specs.Lexemes.{IsScript, CannotStand, PassesLimit}
use Rattle.mv_names.specs.declared.fault.TokenFault.{TokenFault}
use Rattle.mv_names.specs.declared.fault.FaultKind.{FaultKind}
use Rattle.mv_names.specs.declared.fault.FaultKind.TheVariants as kind
use Rattle.mv_names.specs.First.{IsFirst}
use Rattle.mv_names.specs.Faults.{faults}
use Rattle.mv_catalog.specs.declared.resolved.Resolved.{Resolved}
use Rattle.mv_catalog.specs.declared.resolved.Program.{Program}
use Rattle.mv_resolve.specs.Building.{resolved_of}
use Rattle.mv_values.specs.References.{Orphan, orphans}
use Rattle.mv_opening.specs.declared.fault.ParentFault.{ParentFault}
use Rattle.mv_opening.specs.declared.fault.ParentFault.TheVariants as parent
use Rattle.mv_opening.specs.declared.fault.OpeningFault.{OpeningFault}
use Rattle.mv_opening.specs.declared.fault.OpeningFault.TheVariants as opening
use Rattle.mv_opening.specs.Opening.{IsOpening, HasNoOpening}
use Rattle.mv_accept.specs.declared.refusal.ScriptRefusal.{ScriptRefusal}
use Rattle.mv_accept.specs.declared.refusal.ScriptRefusal.TheVariants as why

-- the greatest number of bytes of a script
abbrev pub most_bytes : ℕ
most_bytes = 2 ^ 24

-- the greatest number of calls of a script
abbrev pub most_calls : ℕ
most_calls = 1000000

-- the bytes aren't too many, and these are their tokens
abbrev pub HasTokens : List ℕ → List Token → Type 0
HasTokens bytes tokens = (length bytes ≤ most_bytes) × AreTokens bytes tokens

-- the bytes spell this script, within the limits of the language
abbrev pub Spells : List ℕ → Script → Type 0
Spells bytes script = (tokens : List Token) × HasTokens bytes tokens × IsScript bytes tokens script

-- a script without faults of names and types, and its resolved form
abbrev pub Means : Script → Resolved → Type 0
Means script resolved = (faults script ≡ []) × (resolved ≡ resolved_of script)

abbrev pub StandsFor : List ℕ → Resolved → Type 0
StandsFor bytes resolved = (script : Script) × Spells bytes script × Means script resolved

-- the program: the resolved script, with the rows that its calls begin with
abbrev pub Opens : List ℕ → Resolved → Program → Type 0
Opens bytes resolved program = (program.resolved ≡ resolved) × IsOpening resolved bytes program.opening

-- the program of the bytes, whose rows may lack parents
abbrev pub Loads : List ℕ → Program → Type 0
Loads bytes program = (resolved : Resolved) × StandsFor bytes resolved × Opens bytes resolved program

-- the values of its rows whose parents are not there
abbrev pub orphans_of : Program → List Orphan
orphans_of program = orphans program.resolved.tables program.opening

-- each row has its parents
abbrev pub HasNoOrphan : Program → Type 0
HasNoOrphan program = orphans_of program ≡ []

-- the bytes are accepted as this program
abbrev pub Accepts : List ℕ → Program → Type 0
Accepts bytes program = Loads bytes program × HasNoOrphan program

-- why bytes have no tokens
pub data HasNoTokens (bytes : List ℕ) : ScriptRefusal → Type 0 where
  too_long : most_bytes < length bytes → HasNoTokens bytes why.TooLong
  bad_byte : (at : ℕ) → length bytes ≤ most_bytes → IsBadByte bytes at → HasNoTokens bytes (why.Byte at)
  bad_token : (at : ℕ) → length bytes ≤ most_bytes → IsBadToken bytes at → HasNoTokens bytes (why.Token at)

-- why tokens aren't a script within the limits: depth and stretch are checked before the grammar, the others after it
pub data IsNoScript (bytes : List ℕ) (tokens : List Token) : ScriptRefusal → Type 0 where
  syntax : (token : ℕ) → CannotStand bytes tokens token → IsNoScript bytes tokens (why.Syntax token)
  limit : (which : Which) (token : ℕ) → PassesLimit bytes tokens which token → IsNoScript bytes tokens (why.Limit which token)

-- the refusal for a fault of names and types at a token
abbrev pub refusal_at : FaultKind → ℕ → ScriptRefusal
refusal_at kind.UnknownName token = why.UnknownName token
refusal_at kind.DoubleName token = why.DoubleName token
refusal_at kind.WrongType token = why.WrongType token
refusal_at kind.KeyAssigned token = why.KeyAssigned token
refusal_at kind.Late token = why.Late token
refusal_at kind.Writes token = why.Writes token

-- why a script can't be resolved: its first fault of names and types
abbrev pub HasFault : Script → ScriptRefusal → Type 0
HasFault script refusal = (fault : TokenFault) × IsFirst (faults script) fault × (refusal ≡ refusal_at fault.kind fault.token)

-- the name of a table
abbrev pub name_in : Option TableInfo → List ℕ
name_in None = []
name_in (Some table) = table.name

abbrev pub table_name : Resolved → ℕ → List ℕ
table_name resolved t = name_in (slice_get resolved.tables t)

-- the refusal for rows that can't be loaded
abbrev pub TellsOfRows : Resolved → OpeningFault → ScriptRefusal → Type 0
TellsOfRows resolved (opening.Field t row column) refusal = refusal ≡ why.Field (table_name resolved t) row column
TellsOfRows resolved (opening.Width t row) refusal = refusal ≡ why.Width (table_name resolved t) row
TellsOfRows resolved (opening.Duplicate t row) refusal = refusal ≡ why.Duplicate (table_name resolved t) row
TellsOfRows resolved opening.OpenBlock refusal = refusal ≡ why.OpenBlock
TellsOfRows resolved opening.NoMemory refusal = ⊥

-- why the rows that the calls begin with can't be loaded
abbrev pub HasNoRows : List ℕ → Resolved → ScriptRefusal → Type 0
HasNoRows bytes resolved refusal = (fault : OpeningFault) × HasNoOpening resolved bytes fault × TellsOfRows resolved fault refusal

-- the refusal for a row without its parent
abbrev pub TellsOfParents : Resolved → ParentFault → ScriptRefusal → Type 0
TellsOfParents resolved (parent.Missing t row column) refusal = refusal ≡ why.MissingParent (table_name resolved t) row column
TellsOfParents resolved parent.NoMemory refusal = ⊥

-- why the rows that the calls begin with may not stand together: the first one that lacks a parent
abbrev pub HasOrphan : Program → ScriptRefusal → Type 0
HasOrphan program refusal =
    (orphan : Orphan) × (slice_get (orphans_of program) 0 ≡ Some orphan) × (refusal ≡ why.MissingParent (table_name program.resolved orphan.table) orphan.row orphan.column)

-- why bytes are refused
abbrev pub SpellsNothing : List ℕ → ScriptRefusal → Type 0
SpellsNothing bytes refusal = HasNoTokens bytes refusal ⊎ ((tokens : List Token) × HasTokens bytes tokens × IsNoScript bytes tokens refusal)

abbrev pub StandsForNothing : List ℕ → ScriptRefusal → Type 0
StandsForNothing bytes refusal = SpellsNothing bytes refusal ⊎ ((script : Script) × Spells bytes script × HasFault script refusal)

abbrev pub LoadsNothing : List ℕ → ScriptRefusal → Type 0
LoadsNothing bytes refusal = StandsForNothing bytes refusal ⊎ ((resolved : Resolved) × StandsFor bytes resolved × HasNoRows bytes resolved refusal)

abbrev pub Refuses : List ℕ → ScriptRefusal → Type 0
Refuses bytes refusal = LoadsNothing bytes refusal ⊎ ((program : Program) × Loads bytes program × HasOrphan program refusal)
