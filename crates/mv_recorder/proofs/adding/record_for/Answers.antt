use Rattle.mv_recorder.specs.Sites.{site_of}
use Rattle.mv_recorder.proofs.Following.{record_is}
use Rattle.mv_recorder.proofs.adding.record_for.Goals as goal

pub returns : goal.returns
returns c =
    record_is c.args.text.now.infos.now c.args.text.now.params c.args.statement.now c.args.number (site_of c.args.site.now) c.args.run.now.records c.args.run.now.state c.in_ok-turns.turns c.in_ok-reads.reads c.in_ok-effect.effect
    c.in_ok-turns.ensures (rw c.as_slice-records.ensures at c.in_ok-reads.ensures) c.in_ok-effect.ensures
