use Rattle.std.proofs.Common.{◌≡◌, ◌+◌, ◌++◌, drop}
use Rattle.mv_eval.specs.Alone.{alone, each_turn}
use Rattle.mv_recorded.specs.Recorded.{tell_statements, tell_turns}
use Rattle.mv_recorder.specs.Running.{AreFit}
use Rattle.mv_recorder.specs.Scenes.{IsSound}
use Rattle.mv_recorder.specs.Sites.{site_of}
use Rattle.mv_recorder.specs.Undoing.{KeepsBack}
use Rattle.mv_recorder.proofs.running.+statements.Given as goal

abbrev pub invariant-run_all-loop-statement : goal.invariant-run_all-loop-statement
invariant-run_all-loop-statement l = record {
  sound : IsSound l.text.infos.now l.run.state.env l.run.state.tables;
  fit : AreFit l.text.infos.now l.next (drop l.statement-index l.statements);
  records :
      l.run.records ++ tell_statements l.text.infos.now l.text.params (drop l.statement-index l.statements) l.next (site_of l.site) l.run.records l.run.state
      ≡ l.fn.run.records ++ tell_statements l.text.infos.now l.text.params l.statements l.fn.number (site_of l.site) l.fn.run.records l.fn.run.state;
  does : alone l.text.infos.now (drop l.statement-index l.statements) l.run.state ≡ alone l.text.infos.now l.statements l.fn.run.state;
  undo : KeepsBack l.fn.run.undo l.fn.run.state.tables l.run.undo l.run.state.tables;
}

abbrev pub invariant-run_turns-loop-i : goal.invariant-run_turns-loop-i
invariant-run_turns-loop-i l = record {
  sound : IsSound l.text.infos.now l.run.state.env l.run.state.tables;
  records :
      l.run.records ++ tell_turns l.row (alone l.text.infos.now l.body) (tell_statements l.text.infos.now l.text.params l.body) (drop l.i l.rows) (l.i + 1) l.number (site_of l.site) l.run.records l.run.state
      ≡ l.fn.run.records ++ tell_turns l.row (alone l.text.infos.now l.body) (tell_statements l.text.infos.now l.text.params l.body) l.rows 1 l.number (site_of l.site) l.fn.run.records l.fn.run.state;
  does : each_turn l.row (alone l.text.infos.now l.body) (drop l.i l.rows) l.run.state ≡ each_turn l.row (alone l.text.infos.now l.body) l.rows l.fn.run.state;
  undo : KeepsBack l.fn.run.undo l.fn.run.state.tables l.run.undo l.run.state.tables;
}
