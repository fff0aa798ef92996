use Rattle.std.proofs.Common.{arith, ◌≡◌, sym, ap, ◌∙◌}
use Rattle.mv_undo.specs.Owning.{undo_of_all}
use Rattle.mv_undo.proofs.Writing.{has_writes}
use Rattle.mv_core.specs.Books.{batch_in}
use Rattle.mv_core.proofs.Admitting.{recent_admitted}
use Rattle.mv_core.proofs.Keeping.{script_seen}
use Rattle.mv_core.proofs.Recents.{recent_seen, recent_needed, low_seen, answers_free, answers_hit, answers_stale}
use Rattle.mv_core.proofs.book.Book.check.Goals as goal

pub first_hit-requires-clause-start : goal.first_hit-requires-clause-start
first_hit-requires-clause-start c =
    let live = c.requires.live in
    let start : c.start-start.result ≡ live.0.start = c.start-start.ensures.value live.0 live.1 in
    let low = low_seen c.self.inside c.args.self.now c.self.view_is in
    let not = c.if-start-self.false in
    let kept = recent_needed (batch_in c.args.self.now) c.args.self.now.schedule c.args.call live.0 c.self.inside.recent (recent_seen c.self.inside c.args.self.now c.self.view_is c.self.invariant.recent) live.1 (omega (arith, start, low, not)) in
    omega (arith, start, kept)

pub first_hit-requires-clause-writes : goal.first_hit-requires-clause-writes
first_hit-requires-clause-writes c = has_writes c.undo.result c.records.result (c.undo.ensures ∙ ap (undo_of_all 0) (sym c.records.ensures))

pub returns-then-start-self : goal.returns-then-start-self
returns-then-start-self c l live =
    answers_stale (batch_in c.args.self.now) c.args.self.now.schedule c.args.call c.start-start.result c.self.inside.low l c.requires.kind live (c.start-start.ensures.value l live) (low_seen c.self.inside c.args.self.now c.self.view_is) c.if-start-self.true

pub returns-in-Some : goal.returns-in-Some
returns-in-Some c l live =
    let start = c.start-start.ensures.value l live in
    let low = low_seen c.self.inside c.args.self.now c.self.view_is in
    let not = c.if-start-self.false in
    let kept = recent_seen c.self.inside c.args.self.now c.self.view_is c.self.invariant.recent in
    let script = script_seen c.self.inside c.args.self.now c.self.view_is c.self.invariant.kept in
    let admitted =
    recent_admitted c.args.self.now.script c.args.self.now.schedule c.args.call c.start-start.result l.start c.self.inside.recent c.records.result script kept start
    (recent_needed (batch_in c.args.self.now) c.args.self.now.schedule c.args.call l c.self.inside.recent kept live (omega (arith, start, low, not))) (c.records.ensures ∙ c.requires.records l live) in
    answers_hit (batch_in c.args.self.now) c.args.self.now.schedule c.args.call c.start-start.result l c.self.inside.recent c.records.result c.in-Some.hit c.requires.kind live
    kept start (omega (arith, start, low, not)) (c.records.ensures ∙ c.requires.records l live) (sym (c.in-Some.ensures admitted))

pub returns-in-None : goal.returns-in-None
returns-in-None c l live =
    let start = c.start-start.ensures.value l live in
    let low = low_seen c.self.inside c.args.self.now c.self.view_is in
    let not = c.if-start-self.false in
    let kept = recent_seen c.self.inside c.args.self.now c.self.view_is c.self.invariant.recent in
    let script = script_seen c.self.inside c.args.self.now c.self.view_is c.self.invariant.kept in
    let admitted =
    recent_admitted c.args.self.now.script c.args.self.now.schedule c.args.call c.start-start.result l.start c.self.inside.recent c.records.result script kept start
    (recent_needed (batch_in c.args.self.now) c.args.self.now.schedule c.args.call l c.self.inside.recent kept live (omega (arith, start, low, not))) (c.records.ensures ∙ c.requires.records l live) in
    answers_free (batch_in c.args.self.now) c.args.self.now.schedule c.args.call c.start-start.result l c.self.inside.recent c.records.result c.requires.kind live
    kept start (omega (arith, start, low, not)) (c.records.ensures ∙ c.requires.records l live) (sym (c.in-None.ensures admitted))
