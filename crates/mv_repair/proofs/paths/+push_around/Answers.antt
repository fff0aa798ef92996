use Rattle.std.proofs.Common.{◌<◌, ◌≤◌, ◌++◌, [], ℕ, Option, List, sym, ap, ◌∙◌, arith, append-nil, take}
use Rattle.std.specs.Prelude.{slice_get}
use Rattle.std.specs.Option.{option_and_then}
use Rattle.std.proofs.lemmas.Result.{on_ok_weaker}
use Rattle.mv_record.specs.declared.record.Record.{Record}
use Rattle.mv_record.specs.Paths.{inside, nests_behind}
use Rattle.mv_repair.proofs.Placing.{none_around, around_got}
use Rattle.mv_repair.proofs.paths.+push_around.Goals as goal

pub returns-then-number-before : goal.returns-then-number-before
returns-then-number-before t c =
    let rs : List Record = c.args.records.now in
    let late : c.args.before ≤ c.in-Some.number = omega (arith, c.if-number-before.true) in
    sym (append-nil c.args.path.now)
    ∙ ap (λ l. c.args.path.now ++ l)
    (none_around rs c.args.before c.in-Some.number c.args.turns.now late
    ∙ ap (λ (o : Option ℕ). inside (option_and_then (slice_get (nests_behind [] (take c.args.before rs))) o) c.args.turns.now) (sym c.in-Some.is))

pub returns : goal.returns
returns t c =
    let n : ℕ = c.in-Some.number in
    let early : n < c.args.before = omega (arith, c.if-number-before.false) in
    on_ok_weaker c.push_for.result
    (around_got c.args.records.now c.args.before n c.get-holder.result c.args.path.now c.push_around.new.path c.push_for.new.path c.args.turns.now c.turns.result.now c.turns-2.result.now c.statement.result c.parent.result c.args.parent
    early c.get-holder.ensures c.in-Some.is c.parent.ensures c.turns.ensures c.turns-2.ensures c.statement.ensures c.in_ok-push_around.ensures)
    c.push_for.ensures
