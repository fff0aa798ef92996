use Rattle.std.proofs.Common.{map, sym, ap, ◌∙◌}
use Rattle.mv_ast.specs.declared.limit.Which.TheVariants as limit
use Rattle.mv_ast.specs.Limits.{soonest, together, too_many, statement_passes, statement_tokens}
use Rattle.mv_limits.proofs.Joining.{soonest_joined}
use Rattle.mv_limits.proofs.Counting.{statement_found, no_statement}
use Rattle.mv_limits.proofs.statements.in_body.Goals as goal

pub returns-in-Some : goal.returns-in-Some
returns-in-Some c =
    let tokens = together (map statement_tokens c.args.body.now) in
    let more = too_many limit.Statements 1000 (λ t. t) tokens in
    statement_found tokens c.in_statements-walk.result.place c.in-Some.token c.in_statements-walk.result.best c.sooner.result c.in_statements-walk.ensures.place c.in-Some.is c.sooner.ensures
    ∙ (ap (λ b. soonest b more) c.in_statements-walk.ensures.best ∙ sym (soonest_joined c.args.best (together (map statement_passes c.args.body.now)) more))

pub returns-in-None : goal.returns-in-None
returns-in-None c =
    let tokens = together (map statement_tokens c.args.body.now) in
    let more = too_many limit.Statements 1000 (λ t. t) tokens in
    no_statement tokens c.in_statements-walk.result.place c.in_statements-walk.result.best c.in_statements-walk.ensures.place c.in-None.is
    ∙ (ap (λ b. soonest b more) c.in_statements-walk.ensures.best ∙ sym (soonest_joined c.args.best (together (map statement_passes c.args.body.now)) more))
