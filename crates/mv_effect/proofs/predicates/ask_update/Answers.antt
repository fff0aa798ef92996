use Rattle.std.proofs.Common.{◌∙◌}
use Rattle.std.specs.List.{flat_map}
use Rattle.mv_recorded.specs.Asking.{columns_in}
use Rattle.mv_effect.proofs.Few.{bytes_of}
use Rattle.mv_effect.proofs.OnePred.{pushed, pushed_asks, pushed_one, pushed_rest, pushed_knows, still_nothing, tests_alone, columns_alone, in_error}
use Rattle.mv_effect.proofs.predicates.ask_update.Goals as goal

pub push_rights-requires : goal.push_rights-requires
push_rights-requires c = bytes_of (λ x. x) c.args.tables.now c.args.update.now.table (flat_map (λ i. columns_in i.right) c.args.update.now.items.now) c.requires.each c.requires.columns

pub ask-requires-clause-effect : goal.ask-requires-clause-effect
ask-requires-clause-effect c = still_nothing c.args.log.now c.push_tests.new.log c.push_rights.new.log _ c.requires.blank c.in_ok-push_tests.ensures.rest c.in_ok-push_rights.ensures.ok

pub returns-clause-asks : goal.returns-clause-asks
returns-clause-asks c = pushed_asks c.args.tables.now c.args.update.now.table c.args.update.now.conds.now (flat_map (λ i. columns_in i.right) c.args.update.now.items.now) c.args.env.now c.push_tests.new.log.tests c.args.log.now c.ask.new.log c.in_ok-push_tests.ensures.tests (pushed c.args.tables.now c.args.update.now.table c.args.update.now.conds.now (flat_map (λ i. columns_in i.right) c.args.update.now.items.now) c.args.env.now c.args.log.now c.push_tests.new.log c.push_rights.new.log c.ask.new.log c.requires.blank c.in_ok-push_tests.ensures.tests c.in_ok-push_tests.ensures.rest c.in_ok-push_rights.ensures.ok c.in_ok-ask.ensures.ok)

pub returns-clause-one : goal.returns-clause-one
returns-clause-one c = pushed_one c.args.log.now c.ask.new.log _ (pushed c.args.tables.now c.args.update.now.table c.args.update.now.conds.now (flat_map (λ i. columns_in i.right) c.args.update.now.items.now) c.args.env.now c.args.log.now c.push_tests.new.log c.push_rights.new.log c.ask.new.log c.requires.blank c.in_ok-push_tests.ensures.tests c.in_ok-push_tests.ensures.rest c.in_ok-push_rights.ensures.ok c.in_ok-ask.ensures.ok)

pub returns-clause-rest : goal.returns-clause-rest
returns-clause-rest c = pushed_rest c.args.log.now c.ask.new.log _ c.requires.blank (pushed c.args.tables.now c.args.update.now.table c.args.update.now.conds.now (flat_map (λ i. columns_in i.right) c.args.update.now.items.now) c.args.env.now c.args.log.now c.push_tests.new.log c.push_rights.new.log c.ask.new.log c.requires.blank c.in_ok-push_tests.ensures.tests c.in_ok-push_tests.ensures.rest c.in_ok-push_rights.ensures.ok c.in_ok-ask.ensures.ok)

pub returns-clause-knows : goal.returns-clause-knows
returns-clause-knows c = pushed_knows c.args.tables.now c.args.update.now.table (flat_map (λ i. columns_in i.right) c.args.update.now.items.now) c.push_tests.new.log.tests c.args.log.now c.ask.new.log c.requires.tests.table c.in_ok-push_tests.ensures.places (pushed c.args.tables.now c.args.update.now.table c.args.update.now.conds.now (flat_map (λ i. columns_in i.right) c.args.update.now.items.now) c.args.env.now c.args.log.now c.push_tests.new.log c.push_rights.new.log c.ask.new.log c.requires.blank c.in_ok-push_tests.ensures.tests c.in_ok-push_tests.ensures.rest c.in_ok-push_rights.ensures.ok c.in_ok-ask.ensures.ok)

pub returns-in_err-push_tests-clause-err : goal.returns-in_err-push_tests-clause-err
returns-in_err-push_tests-clause-err c = in_error _ (tests_alone c.args.log.now c.push_tests.new.log c.in_err-push_tests.ensures.rest)

pub returns-in_err-push_rights-clause-err : goal.returns-in_err-push_rights-clause-err
returns-in_err-push_rights-clause-err c = in_error _ (c.in_err-push_rights.ensures.err ∙ tests_alone c.args.log.now c.push_tests.new.log c.in_ok-push_tests.ensures.rest)

pub returns-in_err-ask-clause-err : goal.returns-in_err-ask-clause-err
returns-in_err-ask-clause-err c = in_error _ (c.in_err-ask.ensures.err ∙ (columns_alone c.push_tests.new.log c.push_rights.new.log _ c.in_ok-push_rights.ensures.ok ∙ tests_alone c.args.log.now c.push_tests.new.log c.in_ok-push_tests.ensures.rest))
