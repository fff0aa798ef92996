-- What records tell of their call.
use Rattle.std.proofs.Common.{◌≡◌, List, [], ◌∷◌, ◌++◌, Option, Some, None, refl, sym, ap, ◌∙◌, rules}
use Rattle.std.specs.Option.{option_or}
use Rattle.mv_values.specs.declared.calls.Call.{Call}
use Rattle.mv_values.specs.declared.calls.End.{End}
use Rattle.mv_values.specs.declared.calls.Reply.{Reply}
use Rattle.mv_values.specs.Patching.{applied}
use Rattle.mv_values.specs.Tables.{Tables}
use Rattle.mv_record.specs.declared.record.Record.{Record}
use Rattle.mv_record.specs.Runs.{Run, end_in, StopsWith, HasEnd, TellsAll}
use Rattle.mv_record.specs.Writes.{AreRising}
use Rattle.mv_recorded.proofs.Meant.{meaning_tells}
use Rattle.mv_graph.specs.declared.graph.Graph.{Graph}
use Rattle.mv_graph.specs.Nodes.{meaning_of}
use Rattle.mv_core.specs.Output.{reply_with, reply_told, writes_with, writes_told}

-- where only the last record has an end, it is the first one that there is
last_end : (front : List Record) (last : Record) (e : End) → end_in front ≡ None → last.end ≡ Some e → end_in (front ++ last ∷ []) ≡ Some e
last_end [] last e none some = ap (λ o. option_or o None) some
last_end (r ∷ rs) last e none some = by r.end none (last_end rs last e) where
  by : (o : Option End) → option_or o (end_in rs) ≡ None → (end_in rs ≡ None → last.end ≡ Some e → end_in (rs ++ last ∷ []) ≡ Some e) → option_or o (end_in (rs ++ last ∷ [])) ≡ Some e
  by None h later = later h some
  by (Some f) h later = absurd (search (rules, h))

stopped : (rs : List Record) (e : End) → StopsWith rs e → end_in rs ≡ Some e
stopped rs e s = ap end_in s.are ∙ last_end s.front s.last e s.goes_on s.ends

reply_made : (reply : Reply) (o : Option End) (rs : List Record) → reply.end ≡ o → reply.lines ≡ (reply_with o rs).lines → reply ≡ reply_with o rs
reply_made reply None rs e l = ap (λ o. record { lines = reply.lines; end = o }) e ∙ ap (λ ls. record { lines = ls; end = None }) l
reply_made reply (Some x) rs e l = ap (λ o. record { lines = reply.lines; end = o }) e ∙ ap (λ ls. record { lines = ls; end = Some x }) l

reply_is_told : (db : Tables) (run : Run) → TellsAll db run → run.reply ≡ reply_told run.records
reply_is_told db run h = by run.reply.end refl h where
  by : (o : Option End) → run.reply.end ≡ o → HasEnd o db run → run.reply ≡ reply_told run.records
  by None is t = reply_made run.reply None run.records is t.lines ∙ sym (ap (λ o. reply_with o run.records) t.goes_on)
  by (Some e) is t = reply_made run.reply (Some e) run.records is t.lines ∙ sym (ap (λ o. reply_with o run.records) (stopped run.records e t.stops))

tables_are_told : (db : Tables) (run : Run) → TellsAll db run → run.tables ≡ applied (writes_told run.records) db
tables_are_told db run h = by run.reply.end h where
  by : (o : Option End) → HasEnd o db run → run.tables ≡ applied (writes_told run.records) db
  by None t = t.tables ∙ sym (ap (λ o. applied (writes_with o run.records) db) t.goes_on)
  by (Some e) t = t.tables ∙ sym (ap (λ o. applied (writes_with o run.records) db) (stopped run.records e t.stops))

-- the records of a full run tell its reply
pub told_reply : (g : Graph) (call : Call) (db : Tables) (rs : List Record) → AreRising db → rs ≡ (meaning_of g call db).records → reply_told rs ≡ (meaning_of g call db).reply
told_reply g call db rs rise is = ap reply_told is ∙ sym (reply_is_told db (meaning_of g call db) (meaning_tells g.tables g.procedure call db rise))

-- and the database after it
pub told_tables : (g : Graph) (call : Call) (db : Tables) (rs : List Record) → AreRising db → rs ≡ (meaning_of g call db).records → applied (writes_told rs) db ≡ (meaning_of g call db).tables
told_tables g call db rs rise is = ap (λ qs. applied (writes_told qs) db) is ∙ sym (tables_are_told db (meaning_of g call db) (meaning_tells g.tables g.procedure call db rise))
