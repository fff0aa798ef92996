use Rattle.std.proofs.Common.{subst}
use Rattle.std.proofs.lemmas.Result.{on_ok_weaker}
use Rattle.mv_index.specs.Indexing.{MayNoteLen, NotesLen}
use Rattle.mv_index.proofs.Adding.{notes_by, len_noted}
use Rattle.mv_index.proofs.index.Index.note_key.Goals as goal

pub returns-clause-notes : goal.returns-clause-notes
returns-clause-notes c =
    subst (λ old. MayNoteLen c.args.table old (record { columns = c.self.inside.columns.items; key_lens = c.note_len.new.lens.entries })) c.self.view_is
    (notes_by c.note_len.result c.args.table c.len.result c.self.inside.columns.items c.self.inside.key_lens.entries c.note_len.new.lens.entries c.note_len.ensures.ok c.note_len.ensures.err)

pub returns-clause-len : goal.returns-clause-len
returns-clause-len c =
    on_ok_weaker c.note_len.result (λ notes. len_noted c.args.table _ c.self.inside.key_lens.entries c.note_len.new.lens.entries (subst (λ n. NotesLen c.args.table n c.self.inside.key_lens.entries c.note_len.new.lens.entries) c.len.ensures notes)) c.note_len.ensures.ok
