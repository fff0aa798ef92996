-- The result of resolving a script: its program if it has no fault, and otherwise its first fault.
use Rattle.std.specs.Prelude.{◌≡◌, ℕ, [], Result, Ok, Err}
use Rattle.mv_ast.specs.declared.tree.Script.{Script}
use Rattle.mv_names.specs.declared.fault.TokenFault.{TokenFault}
use Rattle.mv_names.specs.declared.fault.FaultKind.{FaultKind}
use Rattle.mv_names.specs.declared.fault.FaultKind.TheVariants as kind
use Rattle.mv_names.specs.First.{IsFirst}
use Rattle.mv_names.specs.Faults.{faults}
use Rattle.mv_resolve.specs.declared.refused.NameFault.{NameFault}
use Rattle.mv_resolve.specs.declared.refused.NameFault.TheVariants.{UnknownName, DoubleName, WrongType, KeyAssigned, Late, Writes, NoMemory}
use Rattle.mv_catalog.specs.declared.resolved.Resolved.{Resolved}
use Rattle.mv_resolve.specs.Building.{resolved_of}

-- the first fault has this kind and is at this token
abbrev pub IsFirstAt : Script → FaultKind → ℕ → Type 0
IsFirstAt script kind token = let fault : TokenFault = record { token = token; kind = kind } in IsFirst (faults script) fault

abbrev pub Refuses : Script → NameFault → Type 0
Refuses script (UnknownName token) = IsFirstAt script kind.UnknownName token
Refuses script (DoubleName token) = IsFirstAt script kind.DoubleName token
Refuses script (WrongType token) = IsFirstAt script kind.WrongType token
Refuses script (KeyAssigned token) = IsFirstAt script kind.KeyAssigned token
Refuses script (Late token) = IsFirstAt script kind.Late token
Refuses script (Writes token) = IsFirstAt script kind.Writes token
Refuses script NoMemory = Unit {0}

-- the program, only if the script has no fault; otherwise the first fault
abbrev pub Resolves : Script → Result Resolved NameFault → Type 0
Resolves script (Ok r) = (faults script ≡ []) × (r ≡ resolved_of script)
Resolves script (Err fault) = Refuses script fault
