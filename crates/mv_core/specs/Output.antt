-- What records tell of their call: its reply, and what it writes. This project's own.
use Rattle.std.specs.Prelude.{List, [], Option, Some, None}
use Rattle.mv_values.specs.declared.calls.End.{End}
use Rattle.mv_values.specs.declared.calls.Reply.{Reply}
use Rattle.mv_values.specs.declared.patch.Write.{Write}
use Rattle.mv_record.specs.declared.record.Record.{Record}
use Rattle.mv_record.specs.Runs.{lines_in, end_in, writes_in}

abbrev pub reply_with : Option End → List Record → Reply
reply_with None rs = record { lines = lines_in rs; end = None }
reply_with (Some e) rs = record { lines = []; end = Some e }

-- the lines of the records, or the end that one has and no lines
abbrev pub reply_told : List Record → Reply
reply_told rs = reply_with (end_in rs) rs

abbrev pub writes_with : Option End → List Record → List Write
writes_with None rs = writes_in rs
writes_with (Some e) rs = []

-- their writes, or none where one has an end
abbrev pub writes_told : List Record → List Write
writes_told rs = writes_with (end_in rs) rs
