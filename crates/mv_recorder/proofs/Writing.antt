-- Writes of a list, one after another.
use Rattle.std.proofs.Common.{◌≡◌, ◌<◌, ◌+◌, ℕ, List, length, drop, get_or, sym, ap, ◌∙◌}
use Rattle.mv_values.specs.declared.patch.Write.{Write}
use Rattle.mv_values.specs.Patching.{written, applied}
use Rattle.mv_values.specs.Tables.{Tables}
use Rattle.mv_values.proofs.Deciding.{from_place}
use Rattle.mv_record.specs.declared.record.Record.{Record}
use Rattle.mv_record.specs.Runs.{writes_in}
use Rattle.mv_record.proofs.Patching.{applied_append}

pub next_written : (ws : List Write) (k : ℕ) (w : Write) (db new all : Tables) → k < length ws → w ≡ get_or ws k w → new ≡ written w db → applied (drop k ws) db ≡ all → applied (drop (k + 1) ws) new ≡ all
next_written ws k w db new all lt at is h = ap (applied (drop (k + 1) ws)) is ∙ (sym (ap (λ (l : List Write). applied l db) (from_place ws k w lt at)) ∙ h)

pub next_record : (rs : List Record) (k : ℕ) (r : Record) (db new all : Tables) → k < length rs → r ≡ get_or rs k r → new ≡ applied r.writes db → applied (writes_in (drop k rs)) db ≡ all → applied (writes_in (drop (k + 1) rs)) new ≡ all
next_record rs k r db new all lt at is h =
    ap (applied (writes_in (drop (k + 1) rs))) is ∙ (sym (applied_append r.writes (writes_in (drop (k + 1) rs)) db) ∙ (sym (ap (λ (l : List Record). applied (writes_in l) db) (from_place rs k r lt at)) ∙ h))
