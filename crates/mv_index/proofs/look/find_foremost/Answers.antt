use Rattle.std.proofs.Common.{refl, rules, None, true, false, sym, subst, ◌∙◌, ap}
use Rattle.std.specs.Prelude.{IfSome}
use Rattle.std.specs.Option.{is_some}
use Rattle.std.proofs.lemmas.Result.{IfOk-weaker}
use Rattle.mv_index.specs.Indexing.{IsOnly}
use Rattle.std.proofs.lemmas.Result.{err_from_is_err_and}
use Rattle.mv_index.proofs.Asked.{looks_none, looks_nowhere, looks_key, looks_keys, looks_rows}
use Rattle.mv_index.proofs.Finding.{only_key, fewest_have, nothing_foremost}
use Rattle.mv_index.proofs.look.find_foremost.Goals as goal

pub foremost_alone-requires : goal.foremost_alone-requires
foremost_alone-requires g c = λ k. ((refl, tt), (search rules, (only_key c.args.index.now c.args.pred.now c.in-Some.key (g.V.View.sight c.args.view.now).database (c.requires.covers c.args.pred.now.table c.has_had_row_of.ensures.byte) c.requires.admitted (subst (λ o. IfSome o (IsOnly c.args.index.now c.args.pred.now)) c.in-Some.is c.in_ok-key.ensures.only))))

pub foremost_under-requires : goal.foremost_under-requires
foremost_under-requires g c = λ k. ((refl, tt), (search rules, (search rules, (fewest_have c.args.index.now c.args.pred.now c.in-Some-fewest.keys.now (g.V.View.sight c.args.view.now).database (c.requires.covers c.args.pred.now.table c.has_had_row_of.ensures.byte) c.in-Some-fewest.ensures))))

pub returns-in-Some-clause-found : goal.returns-in-Some-clause-found
returns-in-Some-clause-found g c = IfOk-weaker c.foremost_alone.result _ _ (λ row is. is c.args.direction) c.foremost_alone.ensures.found

pub returns-in_err-key-clause-looks : goal.returns-in_err-key-clause-looks
returns-in_err-key-clause-looks g c =
    let p = err_from_is_err_and c.from_residual.result c.from_residual.ensures.1 in
    rw (p.1, p.2) (looks_none c.args.index.now c.args.pred.now (g.V.View.sight c.args.view.now))

pub returns-in-Some-clause-looks : goal.returns-in-Some-clause-looks
returns-in-Some-clause-looks g c =
    looks_key c.args.index.now c.args.pred.now (g.V.View.sight c.args.view.now) (g.V.View.sight c.foremost_alone.new.view) c.foremost_alone.result (sym c.has_had_row_of.ensures.had ∙ c.if-not-has_had_row_of.false) (sym c.in_ok-key.ensures.given ∙ ap is_some c.in-Some.is) c.foremost_alone.ensures.asked
    c.foremost_alone.ensures.passes_on

pub returns-in-Some-fewest-clause-looks : goal.returns-in-Some-fewest-clause-looks
returns-in-Some-fewest-clause-looks g c =
    looks_keys c.args.index.now c.args.pred.now (g.V.View.sight c.args.view.now) (g.V.View.sight c.foremost_under.new.view) c.foremost_under.result c.in-Some-fewest.keys.now (sym c.has_had_row_of.ensures.had ∙ c.if-not-has_had_row_of.false) (sym c.in_ok-key.ensures.given ∙ ap is_some c.in_default.is) c.in-Some-fewest.ensures
    c.foremost_under.ensures.asked c.foremost_under.ensures.passes_on

pub returns-in-None-clause-looks : goal.returns-in-None-clause-looks
returns-in-None-clause-looks g c =
    looks_rows c.args.index.now c.args.pred.now (g.V.View.sight c.args.view.now) (g.V.View.sight c.foremost.new.self) c.foremost.result (sym c.has_had_row_of.ensures.had ∙ c.if-not-has_had_row_of.false) (sym c.in_ok-key.ensures.given ∙ ap is_some c.in_default.is) c.in-None.ensures c.foremost.ensures.counts
    c.foremost.ensures.stale

pub returns-then-not-has_had_row_of-clause-found : goal.returns-then-not-has_had_row_of-clause-found
returns-then-not-has_had_row_of-clause-found g c = nothing_foremost c.args.index.now c.args.pred.now (g.V.View.sight c.args.view.now).database (g.K.KeySet.has c.args.passed.now) c.args.direction (c.requires.covers c.args.pred.now.table c.has_had_row_of.ensures.byte) (sym c.has_had_row_of.ensures.had ∙ c.if-not-has_had_row_of.true)

pub returns-then-not-has_had_row_of-clause-looks : goal.returns-then-not-has_had_row_of-clause-looks
returns-then-not-has_had_row_of-clause-looks g c = looks_nowhere c.args.index.now c.args.pred.now (g.V.View.sight c.args.view.now) None
