use Rattle.std.proofs.Common.{◌∙◌}
use Rattle.std.proofs.lemmas.Result.{on_ok_weaker}
use Rattle.mv_record.proofs.Patching.{put_over, put_out, put_between, put_nothing}
use Rattle.mv_record.proofs.applying.put_at.Goals as goal

pub insert-requires-clause-rising : goal.insert-requires-clause-rising
insert-requires-clause-rising c =
    rw c.in_ok-key-in-Err-Some.ensures (put_between c.args.rows.now c.args.key.now c.in-Err-Some.row c.args.place c.in-Err-Some.at c.requires.rising c.in-Err-Some.is-0 c.requires.place).1

pub returns-in-Ok-Some-clause-ok : goal.returns-in-Ok-Some-clause-ok
returns-in-Ok-Some-clause-ok c =
    rw (c.set_row.ensures, c.in-Ok-Some.is-1) (put_over c.args.rows.now c.args.key.now c.in-Ok-Some.row c.args.place c.in-Ok-Some.at c.requires.rising c.in-Ok-Some.is-0 c.requires.place).1

pub returns-in-Ok-None-clause-ok : goal.returns-in-Ok-None-clause-ok
returns-in-Ok-None-clause-ok c =
    rw (c.remove.ensures.rows, c.in-Ok-None.is-1) (put_out c.args.rows.now c.args.key.now c.args.place c.in-Ok-None.at c.requires.rising c.in-Ok-None.is-0 c.requires.place)

pub returns-in_ok-key-in-Err-Some-clause-ok : goal.returns-in_ok-key-in-Err-Some-clause-ok
returns-in_ok-key-in-Err-Some-clause-ok c =
    let made = put_between c.args.rows.now c.args.key.now c.in-Err-Some.row c.args.place c.in-Err-Some.at c.requires.rising c.in-Err-Some.is-0 c.requires.place in
    rw c.in-Err-Some.is-1
    (on_ok_weaker c.insert.result (λ is. is ∙ made.2) (rw c.in_ok-key-in-Err-Some.ensures at c.insert.ensures.ok))

pub returns-in-Err-None-clause-ok : goal.returns-in-Err-None-clause-ok
returns-in-Err-None-clause-ok c = rw c.in-Err-None.is-1 (put_nothing c.args.rows.now c.args.key.now c.args.place c.in-Err-None.field-0-0 c.in-Err-None.is-0 c.requires.place)
