-- A reader of a block, from record to record.
use Rattle.std.proofs.Common.{Bor, ◌≡◌, ℕ, Bool, true, false, List, [], ◌∷◌, Some, None, inl, refl, sym, ap, subst, ◌∙◌}
use Rattle.std.specs.Bool.{MatchBool}
use Rattle.csv.specs.Machine.{next_record}
use Rattle.csv.specs.Reading.{Reached, ReadRecord, default_config, reader_state, took_first}
use Rattle.csv.specs.Records.{Row, fields_of}
use Rattle.csv.specs.declared.parser.State.{State}
use Rattle.csv.specs.declared.reader.Reader.{Reader}
use Rattle.csv.proofs.ReadFacts.{rows-end, rows-more}
use Rattle.mv_csvio.specs.Reading.{HasRead, ReadsFrom, bytes_of}

one_reached : (at' to : State) (bytes rest : List ℕ) (fields : List (List ℕ)) → Reached default_config at' bytes (fields ∷ []) to rest → next_record default_config at' [] [] bytes ≡ Some (fields, to, rest)
unfolding Reached
one_reached at' to bytes rest fields h = h.1 ∙ ap Some (rw (h.2, ← h.3.0, ← h.3.1) refl)

start : (at' : State) (bytes : List ℕ) → Reached default_config at' bytes [] at' bytes
unfolding Reached
start at' bytes = (refl, refl)

pub read_one : (old new : Reader (Bor (List ℕ))) (found : Bool) (row : Row) (at' : State) (bytes : List ℕ) → ReadsFrom old at' bytes → ReadRecord bytes_of old new found (fields_of row) → took_first new ≡ true
    → MatchBool found (HasRead at' bytes row new) (next_record default_config at' [] [] bytes ≡ None)
read_one old new true row at' bytes h r taken =
    let k = rows-more bytes_of old new (fields_of row) default_config at' bytes bytes [] h.config h.bytes (subst (λ (s : State). Reached default_config at' bytes [] s bytes) (sym h.state) (start at' bytes)) r in (
      reader_state new,
      k.0,
      one_reached at' (reader_state new) bytes k.0 (fields_of row) k.2,
      record {
        config = r.2 ∙ h.config;
        trim = r.3 ∙ h.trim;
        ready = inl taken;
        state = refl;
        bytes = k.1;
      },
    )
read_one old new false row at' bytes h r taken =
    subst (λ (s : State). next_record default_config s [] [] bytes ≡ None) h.state (rows-end bytes_of old new (fields_of row) default_config bytes h.config h.bytes r)
