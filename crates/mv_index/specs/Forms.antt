-- Defines which keys the forms of keys hold. This project's own.
use Rattle.std.specs.Prelude.{[], ◌∷◌}
use Rattle.mv_index.specs.declared.keys.Form.{Form}
use Rattle.mv_index.specs.declared.keys.Form.TheVariants as form
use Rattle.mv_index.specs.declared.keys.LentKeys.{LentKeys}
use Rattle.mv_index.specs.declared.keys.LentKeys.TheVariants as borrowed
use Rattle.mv_index.specs.declared.keys.Several.{Several}
use Rattle.mv_index.specs.declared.keys.Several.TheVariants as some
use Rattle.mv_index.specs.declared.keys.KeysLeft.{KeysLeft}
use Rattle.mv_index.specs.declared.keys.KeysLeft.TheVariants as scanned
use Rattle.mv_index.specs.Listed.{listed}
pub use Rattle.mv_index.specs.Listed.{KeyList}

abbrev pub held : Form → KeyList
held form.None = []
held (form.One key) = (key, tt) ∷ []
held (form.Few keys) = keys
held (form.Many keys) = keys

abbrev pub several : Several → KeyList
several (some.Few keys) = keys.now
several (some.Many keys) = keys.now

-- those that are lent
abbrev pub lent : LentKeys → KeyList
lent borrowed.None = []
lent (borrowed.One key) = (key.now, tt) ∷ []
lent (borrowed.Several keys) = several keys

-- those that a scan hasn't met yet
abbrev pub left : KeysLeft → KeyList
left (scanned.Few keys) = listed keys.now
left (scanned.Many keys) = keys
