use Rattle.std.proofs.Common.{sym, ◌∙◌}
use Rattle.mv_recorder.specs.Sites.{site_of}
use Rattle.mv_recorder.proofs.Following.{adds, adds_end, stays_sound}
use Rattle.mv_recorder.proofs.Fitting.{fit_named}
use Rattle.mv_recorder.proofs.adding.add.Goals as goal

pub record_for-requires-clause-names : goal.record_for-requires-clause-names
record_for-requires-clause-names c = fit_named c.args.text.now.infos.now c.args.statement.now c.requires.fit

pub returns-in-None-clause-does : goal.returns-in-None-clause-does
returns-in-None-clause-does c =
    adds c.args.text.now.infos.now c.args.text.now.params c.args.statement.now c.args.number (site_of c.args.site.now) c.args.run.now.records c.args.run.now.state c.follow.new.state c.in_ok-own.own c.requires.fit c.requires.sound c.in_ok-own.ensures (sym c.in_ok-end.ensures ∙ c.in-None.is) c.in_ok-follow.ensures.state

pub returns-in-None-clause-sound : goal.returns-in-None-clause-sound
returns-in-None-clause-sound c =
    stays_sound c.args.text.now.infos.now c.args.statement.now c.args.run.now.state c.follow.new.state c.in_ok-own.own c.requires.sound (returns-in-None-clause-does c) c.in_ok-follow.ensures.state

pub returns-in-Some-clause-does : goal.returns-in-Some-clause-does
returns-in-Some-clause-does c =
    adds_end c.args.text.now.infos.now c.args.text.now.params c.args.statement.now c.args.number (site_of c.args.site.now) c.args.run.now.records c.args.run.now.state c.in_ok-own.own c.in-Some.end c.requires.fit c.requires.sound c.in_ok-own.ensures (sym c.in_ok-end.ensures ∙ c.in-Some.is)
