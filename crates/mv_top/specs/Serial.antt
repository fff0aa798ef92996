-- The text of all calls alone, in call order.
use Rattle.std.specs.Prelude.{ℕ, suc, List, map, length}
use Rattle.mv_values.specs.declared.calls.Reply.{Reply}
use Rattle.mv_catalog.specs.declared.resolved.Program.{Program}
use Rattle.mv_eval.specs.TableAfter.{table_after, reply_of, call_order}
use Rattle.mv_report.specs.Serial.{serial_text}

-- each call's reply, on the database that the calls before it left
abbrev pub serial_replies : Program → List Reply
serial_replies p = map (λ c. reply_of p (call_order p) (suc c)) (call_order p)

-- the text of the replies, and of the tables after the last call
abbrev pub serial : Program → List ℕ
serial p = serial_text p.resolved.tables (serial_replies p) (table_after p (call_order p) (length p.resolved.calls))
