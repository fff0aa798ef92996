-- The text of causes: a line for each, with paths in place of numbers. This project's own.
use Rattle.std.specs.Prelude.{ℕ, List, [], ◌∷◌, ◌++◌, Option, Some, None, codes, decimal, slice_get}
use Rattle.std.specs.List.{flat_map, join_by}
use Rattle.std.specs.Option.{option_and_then}
use Rattle.mv_values.specs.declared.value.Value.{Value}
use Rattle.mv_values.specs.declared.schema.TableInfo.{TableInfo}
use Rattle.mv_values.specs.Texts.{line}
use Rattle.mv_eval.specs.Line.{line_of}
use Rattle.mv_record.specs.declared.record.Record.{Record}
use Rattle.mv_record.specs.Paths.{paths}
use Rattle.mv_history.specs.Kept.{Path}
use Rattle.mv_changes.specs.declared.recent.Committed.{Committed}
use Rattle.mv_why.specs.declared.cause.Cause.{Cause}
use Rattle.mv_why.specs.declared.cause.Reason.{Reason}
use Rattle.mv_why.specs.declared.cause.Reason.TheVariants.{New, Controller, Reads, Hit, Touched}
use Rattle.mv_why.specs.Causes.{causes_of}

-- the numbers of a path, joined by dots
abbrev pub path_text : Path → List ℕ
path_text p = join_by decimal (codes ".") p

abbrev pub path_or_default : Option Path → List ℕ
path_or_default None = codes "default"
path_or_default (Some p) = path_text p

-- the path of the record with this number, in a run with these paths
abbrev pub record_text : List Path → Option ℕ → List ℕ
record_text ps number = path_or_default (option_and_then (slice_get ps) number)

abbrev pub name_of : Option TableInfo → List ℕ
name_of None = []
name_of (Some table) = table.name

-- a commit, and the table and the key of its change
abbrev pub change_text : ℕ → List ℕ → List Value → List ℕ
change_text commit name key = decimal commit ++ codes " " ++ name ++ codes " " ++ line_of key

-- a reason, by the paths of the old run and of the new run
abbrev pub reason_text : List TableInfo → List Path → List Path → Reason → List ℕ
reason_text tables os ns New = codes "new"
reason_text tables os ns (Controller parent) = codes "controller " ++ record_text ns (Some parent)
reason_text tables os ns (Reads old fresh) = codes "reads " ++ record_text os old ++ codes " " ++ record_text ns fresh
reason_text tables os ns (Hit commit table key) = codes "hit " ++ change_text commit (name_of (slice_get tables table)) key
reason_text tables os ns (Touched path) = codes "touched " ++ path_text path

abbrev pub cause_text : List TableInfo → List Path → List Path → Cause → List ℕ
cause_text tables os ns cause = record_text ns (Some cause.number) ++ codes " " ++ reason_text tables os ns cause.reason

-- a line for each cause
abbrev pub causes_text : List TableInfo → List Path → List Path → List Cause → List ℕ
causes_text tables os ns causes = flat_map (λ cause. line (cause_text tables os ns cause)) causes

abbrev pub head_text : ℕ → ℕ → List ℕ
head_text call start = line (codes "why " ++ decimal call ++ codes " start " ++ decimal start)

-- the lines of a repair of a call, from one run to another, at a new start
abbrev pub repair_text : List TableInfo → ℕ → ℕ → List Record → List Record → List Committed → List ℕ
repair_text tables call start old fresh since = head_text call start ++ causes_text tables (paths old) (paths fresh) (causes_of old fresh since)
