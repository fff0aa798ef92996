use Rattle.std.proofs.Common.{ap, ◌∙◌}
use Rattle.mv_log.specs.Logged.{Logged}
use Rattle.mv_recorded.specs.Recorded.{outside}
use Rattle.mv_exec.specs.Frames.{site_in, site_of}
use Rattle.mv_exec.specs.Recording.{opened}
use Rattle.mv_exec.proofs.Logs.{opened_twice}
use Rattle.mv_exec.proofs.recording.begin_record.Goals as goal

pub push_reads-requires : goal.push_reads-requires
push_reads-requires c =
    ap (λ (l : Logged). l.reads) (c.in_ok-push_turn.ensures.ok (site_of outside c.args.frames.now) (ap (λ (l : Logged). l.turns) c.in_ok-push_turns.ensures.ok))
    ∙ (ap (λ (l : Logged). l.reads) c.in_ok-push_turns.ensures.ok ∙ c.requires.reads)

pub returns-in_err-push_reads-clause-rest : goal.returns-in_err-push_reads-clause-rest
returns-in_err-push_reads-clause-rest c =
    opened_twice c.args.log.now c.push_turn.new.log c.push_reads.new.log (site_in c.args.frame.holder (site_of outside c.args.frames.now)).turns
    (c.in_ok-push_turn.ensures.ok (site_of outside c.args.frames.now) (ap (λ (l : Logged). l.turns) c.in_ok-push_turns.ensures.ok)
    ∙ ap (λ (l : Logged). opened l (site_in c.args.frame.holder (site_of outside c.args.frames.now)).turns l.reads) c.in_ok-push_turns.ensures.ok)
    c.push_reads.ensures.rest
