use Rattle.std.proofs.Common.{sym, ◌∙◌}
use Rattle.mv_audit.specs.Schedules.{audited}
use Rattle.mv_audit.proofs.Refusing.{hit_kept, start_within, allows_repair, refuses_reader}
use Rattle.mv_audit.proofs.schedule.may_repair.Goals as goal

pub is_hit_by-requires : goal.is_hit_by-requires
is_hit_by-requires c = start_within c.args.program.now.resolved.tables (audited c.args.program.now c.args.rounds) c.args.schedule.now c.args.call c.in-Some.live.now c.requires c.in-Some.ensures.found

pub returns-in-Some : goal.returns-in-Some
returns-in-Some c =
    let w = audited c.args.program.now c.args.rounds in
    let hit = hit_kept c.args.program.now.resolved.tables w c.args.schedule.now c.args.call c.in-Some.live.now c.is_hit_by.result c.requires c.in-Some.ensures.found c.is_hit_by.ensures in
    c.both.ensures ∙ allows_repair w c.args.schedule.now c.args.call c.in-Some.live.now c.is_hit_by.result c.has_round.result c.in-Some.ensures.found c.in-Some.ensures.writes hit c.has_round.ensures

pub returns-in-None : goal.returns-in-None
returns-in-None c = sym (refuses_reader (audited c.args.program.now c.args.rounds) c.args.schedule.now c.args.call _ c.in-None.ensures.none)
