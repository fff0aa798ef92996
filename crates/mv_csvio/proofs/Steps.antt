-- A writer of CSV, from field to field and from record to record.
use Rattle.std.proofs.Common.{◌≡◌, ◌≢◌, ◌==◌, ◌∙◌, ◌<◌, ◌+◌, ◌-◌, ◌^◌, ◌++◌, ◌∷◌, [], ℕ, List, Some, true, false, not, length, min, refl, sym, ap, append_assoc, append-nil, length-append, arith}
use Rattle.std.specs.Global.{Vec}
use Rattle.std.specs.Io.KnownBytes.{Appends}
use Rattle.csv.specs.Writing.{default_writer, escaped, field_text, fields_text, is_blank, next_sep, row_body, row_text, tail_text, writer_setup, fields_written, has_written, text_written}
use Rattle.csv.specs.declared.writer.QuoteStyle.TheVariants as style
use Rattle.csv.specs.declared.writer.Writer.{Writer}
use Rattle.csv.proofs.WriteFacts.{row-more, blank-more, row-final}
use Rattle.mv_csvio.specs.Writing.{HasWritten, row_writer}

-- what a vector holds is what was written into it
abbrev pub bytes_in : Vec ℕ → Rattle.std.specs.Prelude.Option (List ℕ)
bytes_in v = Some v.items

pub quotes_where_needed : (writer : Writer (Vec ℕ)) → writer_setup writer ≡ row_writer → (writer_setup writer).style ≢ style.NonNumeric
quotes_where_needed writer h = rw h (λ e. cc e)

-- one more field
pub field_more : (old new : Writer (Vec ℕ)) (before : List ℕ) (fields : List (List ℕ)) (field : List ℕ)
    → length fields < 2 ^ 64 - 1 → HasWritten old before fields
    → Appends (text_written bytes_in old) (text_written bytes_in new) (next_sep (writer_setup old) (fields_written old) ++ field_text (writer_setup old) field)
    → writer_setup new ≡ writer_setup old
    → fields_written new ≡ min (fields_written old + 1) (2 ^ 64 - 1)
    → (has_written old ≡ false → has_written new ≡ not (length (field_text (writer_setup old) field) == 0))
    → (has_written old ≡ true → has_written new ≡ true)
    → HasWritten new before (fields ++ field ∷ [])
field_more old new before fields field fits h text same count wrote stays =
    let parts = rw (h.setup, h.count) at text in
    let number : fields_written new ≡ length fields + 1 = count ∙ rw h.count (omega arith) in
    let size = length-append fields (field ∷ []) in
    let one : length (fields ++ field ∷ []) ≡ length fields + 1 = omega (arith, size) in
    record {
      setup = same ∙ h.setup;
      text = parts ∙ (rw h.text (append_assoc before (row_body row_writer fields) _ ∙ ap (λ (t : List ℕ). before ++ t) (sym (row-more row_writer fields field))));
      count = number ∙ sym one;
      blank = rw one (blank-more row_writer fields field (has_written old) (has_written new) h.blank (rw h.setup at wrote) stays);
    }

-- a record is written alike where records may differ in length
escaped_same : (field : List ℕ) → escaped row_writer field ≡ escaped default_writer field
unfolding escaped
escaped_same [] = refl
escaped_same (b ∷ rest) = rw (escaped_same rest) refl

field_same : (field : List ℕ) → field_text row_writer field ≡ field_text default_writer field
field_same field = rw (escaped_same field) refl

fields_same : (fields : List (List ℕ)) → fields_text row_writer fields ≡ fields_text default_writer fields
unfolding fields_text
fields_same [] = refl
fields_same (f ∷ rest) = rw (field_same f, fields_same rest) refl

row_same : (fields : List (List ℕ)) → row_text row_writer fields ≡ row_text default_writer fields
unfolding is_blank
row_same [] = refl
row_same (f ∷ []) = rw (field_same f, fields_same []) refl
row_same (f ∷ g ∷ rest) = rw (field_same f, fields_same (g ∷ rest)) refl

-- the record is ended
pub record_more : (old new : Writer (Vec ℕ)) (before : List ℕ) (fields : List (List ℕ)) → HasWritten old before fields
    → Appends (text_written bytes_in old) (text_written bytes_in new) (tail_text (writer_setup old) (has_written old) (fields_written old))
    → writer_setup new ≡ writer_setup old → fields_written new ≡ 0 → has_written new ≡ false
    → HasWritten new (before ++ row_text default_writer fields) []
unfolding is_blank
record_more old new before fields h text same count wrote =
    let parts = rw (h.setup, h.count) at text in
    let whole : Appends (Some before) (text_written bytes_in new) (row_text row_writer fields)
    = row-final (Some before) (text_written bytes_in old) (text_written bytes_in new) row_writer fields (has_written old) (length fields) h.text h.blank parts in
    record {
      setup = same ∙ h.setup;
      text = whole ∙ (rw (row_same fields) (sym (append-nil _)));
      count = count;
      blank = rw wrote refl;
    }
