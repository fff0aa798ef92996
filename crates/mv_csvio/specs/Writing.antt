-- What a CSV writer has written so far.
use Rattle.std.specs.Prelude.{◌≡◌, ◌==◌, ◌||◌, ◌&&◌, ◌++◌, ℕ, List, length, not, true}
use Rattle.std.specs.Global.{Vec}
use Rattle.csv.specs.Writing.{default_writer, with_flexible, writer_setup, writer_under, writer_pending, fields_written, has_written, row_body, is_blank}
use Rattle.csv.specs.declared.writer.WriterBuilder.{WriterBuilder}
use Rattle.csv.specs.declared.writer.Writer.{Writer}

-- the default style, but records may differ in length; it writes each record as the default style does
abbrev pub row_writer : WriterBuilder
row_writer = with_flexible default_writer true

-- the writer has written this text, and after it these fields of an unfinished record
pub record HasWritten (writer : Writer (Vec ℕ)) (before : List ℕ) (fields : List (List ℕ)) : Type 0 where
  pub setup : writer_setup writer ≡ row_writer
  pub text : (writer_under writer).items ++ writer_pending writer ≡ before ++ row_body row_writer fields
  pub count : fields_written writer ≡ length fields
  pub blank : is_blank row_writer fields ≡ (not (has_written writer) && ((length fields == 0) || (length fields == 1)))
