use Rattle.std.proofs.Common.{◌≡◌, ◌+◌, List, map, drop, sym, ap, subst, ◌∙◌, refl}
use Rattle.mv_values.specs.declared.rows.Keyed.{Keyed}
use Rattle.mv_values.specs.Patching.{applied}
use Rattle.mv_values.proofs.Deciding.{always_err}
use Rattle.mv_log.specs.Logged.{Logged}
use Rattle.mv_effect.specs.Seeing.{own_seen}
use Rattle.mv_recorded.specs.Asking.{Check, asked_in, fault_of}
use Rattle.mv_checks.specs.Checking.{meant, MayAsk}
use Rattle.mv_effect.specs.Logging.{without_effect}
use Rattle.mv_effect.specs.Looking.{AskedFor}
use Rattle.mv_checks.proofs.Running.{meant_from, meant_none, each_from, each_at}
use Rattle.mv_effect.proofs.Checking.{HasPassed, none_passed, one_passed, all_fault, all_asked, all_looked, one_fault, one_asked, one_looked}
use Rattle.mv_effect.proofs.Seen.{seen_later, sees_later}
use Rattle.mv_effect.proofs.checks.run_checks.Goals as goal

pub loop-check-init : goal.loop-check-init
loop-check-init g c =
    let ws = own_seen c.args.context.now c.args.log.now in
    none_passed (map (meant c.args.own.now) c.args.checks.now) (applied ws (g.V.View.sight c.args.view.now).database) ws c.args.log.now (g.V.View.sight c.args.view.now)

pub run_one-requires : goal.run_one-requires
run_one-requires g c =
    let may = MayAsk c.args.context.now.tables.now in
    let found = c.args.own.now in
    let i = c.loop-check.check-index in λ k. (
      (refl, tt),
      (
        sees_later c.args.context.now c.args.log.now c.loop-check.log (g.V.View.sight c.args.view.now).database (g.V.View.sight c.loop-check.view).database (ap (λ (l : Logged). l.records) c.loop-check.invariant.log) c.loop-check.invariant.same.database c.requires.stands,
        (
          each_from may found c.args.checks.now i c.check-item.result c.loop-check-test.true c.check-item.is (each_at may found c.args.checks.now i c.requires.may_ask),
          record { tests = ap (λ (l : Logged). l.tests) c.loop-check.invariant.log ∙ c.requires.begins.tests; columns = ap (λ (l : Logged). l.columns) c.loop-check.invariant.log ∙ c.requires.begins.columns },
        ),
      ),
    )

pub loop-check-preserved : goal.loop-check-preserved
loop-check-preserved g c =
    let found = c.args.own.now in
    let ws = own_seen c.args.context.now c.args.log.now in
    let before = g.V.View.sight c.args.view.now in
    let at = g.V.View.sight c.loop-check.view in
    let db = applied ws before.database in
    let cs = map (meant found) c.args.checks.now in
    let i = c.loop-check.check-index in
    let check = c.check-item.result in
    let rest = map (meant found) (drop (i + 1) c.args.checks.now) in
    let after = g.V.View.sight c.run_one.new.view in
    let here = subst (λ (r : List Check). HasPassed cs r db ws c.args.log.now c.loop-check.log before at) (meant_from found c.args.checks.now i check c.loop-check-test.true c.check-item.is) c.loop-check.invariant in
    let seen = seen_later c.args.context.now c.args.log.now c.loop-check.log (ap (λ (l : Logged). l.records) c.loop-check.invariant.log) in
    let fault : c.in_ok-end.field-0 ≡ fault_of (meant found check) db =
    c.in_ok-end.ensures.fault ∙ (ap (λ vs. fault_of (meant found check) (applied vs at.database)) seen ∙ ap (λ (d : List (List Keyed)). fault_of (meant found check) (applied ws d)) c.loop-check.invariant.same.database) in
    one_passed cs (meant found check) rest db ws c.args.log.now c.loop-check.log c.run_one.new.log before at after here (sym fault ∙ c.in_default.is) c.in_ok-end.ensures.asked c.in_ok-end.ensures.view.same c.in_ok-end.ensures.view.passes_on
    (subst (λ vs. AskedFor (asked_in (meant found check)) vs at after) seen c.in_ok-end.ensures.looks)

pub returns-in-Some-clause-fault : goal.returns-in-Some-clause-fault
returns-in-Some-clause-fault g c =
    let found = c.args.own.now in
    let ws = own_seen c.args.context.now c.args.log.now in
    let before = g.V.View.sight c.args.view.now in
    let at = g.V.View.sight c.loop-check.view in
    let db = applied ws before.database in
    let cs = map (meant found) c.args.checks.now in
    let i = c.loop-check.check-index in
    let check = c.check-item.result in
    let rest = map (meant found) (drop (i + 1) c.args.checks.now) in
    let after = g.V.View.sight c.run_one.new.view in
    let here = subst (λ (r : List Check). HasPassed cs r db ws c.args.log.now c.loop-check.log before at) (meant_from found c.args.checks.now i check c.loop-check-test.true c.check-item.is) c.loop-check.invariant in
    let seen = seen_later c.args.context.now c.args.log.now c.loop-check.log (ap (λ (l : Logged). l.records) c.loop-check.invariant.log) in
    let fault : c.in_ok-end.field-0 ≡ fault_of (meant found check) db =
    c.in_ok-end.ensures.fault ∙ (ap (λ vs. fault_of (meant found check) (applied vs at.database)) seen ∙ ap (λ (d : List (List Keyed)). fault_of (meant found check) (applied ws d)) c.loop-check.invariant.same.database) in
    one_fault cs (meant found check) rest db ws c.args.log.now c.loop-check.log before at c.in-Some.end here (sym fault ∙ c.in-Some.is)

pub returns-in-Some-clause-asked : goal.returns-in-Some-clause-asked
returns-in-Some-clause-asked g c =
    let found = c.args.own.now in
    let ws = own_seen c.args.context.now c.args.log.now in
    let before = g.V.View.sight c.args.view.now in
    let at = g.V.View.sight c.loop-check.view in
    let db = applied ws before.database in
    let cs = map (meant found) c.args.checks.now in
    let i = c.loop-check.check-index in
    let check = c.check-item.result in
    let rest = map (meant found) (drop (i + 1) c.args.checks.now) in
    let after = g.V.View.sight c.run_one.new.view in
    let here = subst (λ (r : List Check). HasPassed cs r db ws c.args.log.now c.loop-check.log before at) (meant_from found c.args.checks.now i check c.loop-check-test.true c.check-item.is) c.loop-check.invariant in
    let seen = seen_later c.args.context.now c.args.log.now c.loop-check.log (ap (λ (l : Logged). l.records) c.loop-check.invariant.log) in
    let fault : c.in_ok-end.field-0 ≡ fault_of (meant found check) db =
    c.in_ok-end.ensures.fault ∙ (ap (λ vs. fault_of (meant found check) (applied vs at.database)) seen ∙ ap (λ (d : List (List Keyed)). fault_of (meant found check) (applied ws d)) c.loop-check.invariant.same.database) in
    one_asked cs (meant found check) rest db ws c.args.log.now c.loop-check.log c.run_one.new.log before at c.in-Some.end here (sym fault ∙ c.in-Some.is) c.in_ok-end.ensures.asked

pub returns-in-Some-clause-looks : goal.returns-in-Some-clause-looks
returns-in-Some-clause-looks g c =
    let found = c.args.own.now in
    let ws = own_seen c.args.context.now c.args.log.now in
    let before = g.V.View.sight c.args.view.now in
    let at = g.V.View.sight c.loop-check.view in
    let db = applied ws before.database in
    let cs = map (meant found) c.args.checks.now in
    let i = c.loop-check.check-index in
    let check = c.check-item.result in
    let rest = map (meant found) (drop (i + 1) c.args.checks.now) in
    let after = g.V.View.sight c.run_one.new.view in
    let here = subst (λ (r : List Check). HasPassed cs r db ws c.args.log.now c.loop-check.log before at) (meant_from found c.args.checks.now i check c.loop-check-test.true c.check-item.is) c.loop-check.invariant in
    let seen = seen_later c.args.context.now c.args.log.now c.loop-check.log (ap (λ (l : Logged). l.records) c.loop-check.invariant.log) in
    one_looked cs (meant found check) rest db ws c.args.log.now c.loop-check.log before at after here (subst (λ vs. AskedFor (asked_in (meant found check)) vs at after) seen c.in_ok-end.ensures.looks)

pub returns-in_err-end-clause-looks : goal.returns-in_err-end-clause-looks
returns-in_err-end-clause-looks g c =
    let found = c.args.own.now in
    let ws = own_seen c.args.context.now c.args.log.now in
    let before = g.V.View.sight c.args.view.now in
    let at = g.V.View.sight c.loop-check.view in
    let db = applied ws before.database in
    let cs = map (meant found) c.args.checks.now in
    let i = c.loop-check.check-index in
    let check = c.check-item.result in
    let rest = map (meant found) (drop (i + 1) c.args.checks.now) in
    let after = g.V.View.sight c.run_one.new.view in
    let here = subst (λ (r : List Check). HasPassed cs r db ws c.args.log.now c.loop-check.log before at) (meant_from found c.args.checks.now i check c.loop-check-test.true c.check-item.is) c.loop-check.invariant in
    let seen = seen_later c.args.context.now c.args.log.now c.loop-check.log (ap (λ (l : Logged). l.records) c.loop-check.invariant.log) in
    one_looked cs (meant found check) rest db ws c.args.log.now c.loop-check.log before at after here (subst (λ vs. AskedFor (asked_in (meant found check)) vs at after) seen c.run_one.ensures.looks)

pub returns-in_err-end-clause-err : goal.returns-in_err-end-clause-err
returns-in_err-end-clause-err g c =
    always_err c.from_residual.result (without_effect c.run_one.new.log ≡ without_effect c.args.log.now) (c.in_err-end.ensures.err ∙ ap without_effect c.loop-check.invariant.log)

pub returns-clause-fault : goal.returns-clause-fault
returns-clause-fault g c =
    let found = c.args.own.now in
    let ws = own_seen c.args.context.now c.args.log.now in
    let before = g.V.View.sight c.args.view.now in
    let at = g.V.View.sight c.loop-check.view in
    let db = applied ws before.database in
    let cs = map (meant found) c.args.checks.now in
    let i = c.loop-check.check-index in
    let here = subst (λ (r : List Check). HasPassed cs r db ws c.args.log.now c.loop-check.log before at) (meant_none found c.args.checks.now i c.loop-check-test.false) c.loop-check.invariant in
    all_fault cs db ws c.args.log.now c.loop-check.log before at here

pub returns-clause-asked : goal.returns-clause-asked
returns-clause-asked g c =
    let found = c.args.own.now in
    let ws = own_seen c.args.context.now c.args.log.now in
    let before = g.V.View.sight c.args.view.now in
    let at = g.V.View.sight c.loop-check.view in
    let db = applied ws before.database in
    let cs = map (meant found) c.args.checks.now in
    let i = c.loop-check.check-index in
    let here = subst (λ (r : List Check). HasPassed cs r db ws c.args.log.now c.loop-check.log before at) (meant_none found c.args.checks.now i c.loop-check-test.false) c.loop-check.invariant in
    all_asked cs db ws c.args.log.now c.loop-check.log before at here

pub returns-clause-looks : goal.returns-clause-looks
returns-clause-looks g c =
    let found = c.args.own.now in
    let ws = own_seen c.args.context.now c.args.log.now in
    let before = g.V.View.sight c.args.view.now in
    let at = g.V.View.sight c.loop-check.view in
    let db = applied ws before.database in
    let cs = map (meant found) c.args.checks.now in
    let i = c.loop-check.check-index in
    let here = subst (λ (r : List Check). HasPassed cs r db ws c.args.log.now c.loop-check.log before at) (meant_none found c.args.checks.now i c.loop-check-test.false) c.loop-check.invariant in
    all_looked cs db ws c.args.log.now c.loop-check.log before at here
