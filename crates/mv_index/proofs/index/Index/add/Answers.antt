use Rattle.std.proofs.Common.{subst}
use Rattle.mv_index.specs.Indexing.{Keeps, AddsOnly, NotesLen}
use Rattle.mv_index.proofs.Adding.{keeps_by, only_by_adding, has_by, keeps_itself, adds_nothing}
use Rattle.mv_index.proofs.index.Index.add.Goals as goal

pub returns-clause-keeps : goal.returns-clause-keeps
returns-clause-keeps c =
    subst (λ old. Keeps old (record { columns = c.put_in_all.new.columns.items; key_lens = c.note_len.new.lens.entries })) c.self.view_is
    (keeps_by c.args.table c.args.key.now c.args.row.now c.len.result (record { columns = c.self.inside.columns.items; key_lens = c.self.inside.key_lens.entries }) (record { columns = c.put_in_all.new.columns.items; key_lens = c.note_len.new.lens.entries })
    c.put_in_all.ensures.grow c.in_ok-note_len.ensures.ok)

pub returns-clause-only : goal.returns-clause-only
returns-clause-only c =
    subst (λ old. AddsOnly c.args.table c.args.key.now c.args.row.now old (record { columns = c.put_in_all.new.columns.items; key_lens = c.note_len.new.lens.entries })) c.self.view_is
    (only_by_adding c.args.table c.args.key.now c.args.row.now (record { columns = c.self.inside.columns.items; key_lens = c.self.inside.key_lens.entries }) (record { columns = c.put_in_all.new.columns.items; key_lens = c.note_len.new.lens.entries })
    c.put_in_all.ensures.grow (subst (λ n. NotesLen c.args.table n c.self.inside.key_lens.entries c.note_len.new.lens.entries) c.len.ensures c.in_ok-note_len.ensures.ok))

pub returns-clause-has : goal.returns-clause-has
returns-clause-has c =
    has_by c.put_in_all.result c.args.table c.args.key.now c.args.row.now (record { columns = c.self.inside.columns.items; key_lens = c.self.inside.key_lens.entries }) (record { columns = c.put_in_all.new.columns.items; key_lens = c.note_len.new.lens.entries })
    c.put_in_all.ensures.have (subst (λ n. NotesLen c.args.table n c.self.inside.key_lens.entries c.note_len.new.lens.entries) c.len.ensures c.in_ok-note_len.ensures.ok)

pub returns-in_err-note_len-clause-keeps : goal.returns-in_err-note_len-clause-keeps
returns-in_err-note_len-clause-keeps c =
    rw c.in_err-note_len.ensures.err (subst (λ old. Keeps old (record { columns = c.self.inside.columns.items; key_lens = c.self.inside.key_lens.entries })) c.self.view_is (keeps_itself (record { columns = c.self.inside.columns.items; key_lens = c.self.inside.key_lens.entries })))

pub returns-in_err-note_len-clause-only : goal.returns-in_err-note_len-clause-only
returns-in_err-note_len-clause-only c =
    rw c.in_err-note_len.ensures.err
    (subst (λ old. AddsOnly c.args.table c.args.key.now c.args.row.now old (record { columns = c.self.inside.columns.items; key_lens = c.self.inside.key_lens.entries })) c.self.view_is
    (adds_nothing c.args.table c.args.key.now c.args.row.now (record { columns = c.self.inside.columns.items; key_lens = c.self.inside.key_lens.entries })))
