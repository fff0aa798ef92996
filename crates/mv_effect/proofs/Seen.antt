-- Own writes seen in a log whose open statement alone has changed.
use Rattle.std.proofs.Common.{◌≡◌, List, sym, ap, subst}
use Rattle.mv_values.specs.declared.rows.Keyed.{Keyed}
use Rattle.mv_values.specs.declared.patch.Write.{Write}
use Rattle.mv_record.specs.declared.record.Record.{Record}
use Rattle.mv_undo.specs.Owning.{earlier, undo_of_all}
use Rattle.mv_log.specs.Logged.{Logged}
use Rattle.mv_effect.specs.declared.context.Context.{Context}
use Rattle.mv_effect.specs.Looking.{AreSoundTables}
use Rattle.mv_effect.specs.Seeing.{own_seen}

pub seen_later : (context : Context) (log later : Logged) → later.records ≡ log.records → own_seen context later ≡ own_seen context log
seen_later context log later same = ap (λ (rs : List Record). earlier context.number (undo_of_all 0 rs)) same

pub sees_later : (context : Context) (log later : Logged) (db now : List (List Keyed)) → later.records ≡ log.records → now ≡ db → AreSoundTables context.tables.now (own_seen context log) db → AreSoundTables context.tables.now (own_seen context later) now
sees_later context log later db now same is h =
    subst (λ (d : List (List Keyed)). AreSoundTables context.tables.now (own_seen context later) d) (sym is)
    (subst (λ (ws : List Write). AreSoundTables context.tables.now ws db) (sym (seen_later context log later same)) h)
