-- An index of own writes, of which the log of the call has the writes themselves.
use Rattle.std.specs.Prelude.{◌≡◌, ℕ, List, [], Option, length}
use Rattle.mv_values.specs.declared.patch.Patch.{Patch}
use Rattle.mv_values.specs.declared.patch.Write.{Write}
use Rattle.mv_record.specs.declared.record.Record.{Record}
use Rattle.mv_undo.specs.declared.links.Link.{Link}
use Rattle.mv_undo.specs.declared.place.Place.{Place}
use Rattle.mv_undo.specs.Owned.{owned_by, AreWithin}
use Rattle.mv_undo.specs.Owning.{IsInOrder, undo_of_all}
use Rattle.mv_undo.specs.Indexing.{IsComposed, IsIndexed, IsLinked}

-- where the writes are; and with each write the patch that is kept for it, and where the earlier writes to its key are;
-- and the places of the last writes to keys, in the order of their keys
pub record Indexed : Type 0 where
  pub places : List Place
  pub composed : List (Option Patch)
  pub links : List Link
  pub order : List ℕ

-- an index without writes
abbrev pub no_index : Indexed
no_index = record { places = []; composed = []; links = []; order = [] }

-- it is the index of its places among these writes
pub record IsIndexOf (index : Indexed) (ws : List Write) : Type 0 where
  pub within : AreWithin (length ws) index.places
  pub numbers : IsInOrder (owned_by index.places ws)
  pub composed : IsComposed (owned_by index.places ws) index.composed
  pub linked : IsLinked (owned_by index.places ws) index.links
  pub indexed : IsIndexed (owned_by index.places ws) index.order

-- it is the index of the writes of these records, which are among these writes
pub record Finds (i : Indexed) (ws : List Write) (rs : List Record) : Type 0 where
  pub index : IsIndexOf i ws
  pub all : owned_by i.places ws ≡ undo_of_all 0 rs
