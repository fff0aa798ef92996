use Rattle.std.proofs.Common.{◌≡◌, ◌<◌, ◌++◌, ◌∷◌, [], ℕ, List, Some, length, take, get_or, slice_set, refl, ap, ◌∙◌, arith}
use Rattle.std.specs.Prelude.{slice_get}
use Rattle.std.proofs.lemmas.List.{length-set}
use Rattle.std.proofs.lemmas.Option.{slice_get-get_or}
use Rattle.mv_lawful.proofs.Starting.{begun_start, starts_long, start_put}
use Rattle.mv_lawful.proofs.places.by_start.Goals as goal

pub replace-list-requires : goal.replace-list-requires
replace-list-requires c =
    let within = c.loop-call-test.true in
    let call : ℕ = get_or c.args.answered.now c.loop-call.call-index 0 in
    let past = c.requires.past c.loop-call.call-index 0 within in
    let is = begun_start c.args.starts.now call (get_or c.args.starts.now call 0) (slice_get-get_or c.args.starts.now call 0 (c.requires.there c.loop-call.call-index 0 within)) in
    let long = ap length c.loop-call.invariant ∙ starts_long c.args.starts.now (take c.loop-call.call-index c.args.answered.now) c.args.count in
    omega (arith, past, is, long)

pub set-requires : goal.set-requires
set-requires c =
    let within = c.loop-call-test.true in
    let call : ℕ = get_or c.args.answered.now c.loop-call.call-index 0 in
    let past = c.requires.past c.loop-call.call-index 0 within in
    let is = begun_start c.args.starts.now call (get_or c.args.starts.now call 0) (slice_get-get_or c.args.starts.now call 0 (c.requires.there c.loop-call.call-index 0 within)) in
    let long = ap length c.loop-call.invariant ∙ starts_long c.args.starts.now (take c.loop-call.call-index c.args.answered.now) c.args.count in
    let set = ap length c.replace-list.ensures.items ∙ length-set c.loop-call.lists (get_or c.args.starts.now call 0) c.new.result in
    omega (arith, past, is, long, set)

pub loop-call-preserved : goal.loop-call-preserved
loop-call-preserved c =
    let within = c.loop-call-test.true in
    let call : ℕ = get_or c.args.answered.now c.loop-call.call-index 0 in
    let n : ℕ = get_or c.args.starts.now call 0 in
    let at : slice_get c.args.starts.now call ≡ Some n = slice_get-get_or c.args.starts.now call 0 (c.requires.there c.loop-call.call-index 0 within) in
    let past = c.requires.past c.loop-call.call-index 0 within in
    let is = begun_start c.args.starts.now call n at in
    c.set.ensures
    ∙ (ap (λ ls. slice_set ls n c.push.new.self) c.replace-list.ensures.items
    ∙ (ap (λ l. slice_set (slice_set c.loop-call.lists n c.new.result) n l) c.in_ok-push.ensures.ok
    ∙ start_put c.args.starts.now c.args.answered.now c.args.count c.loop-call.call-index call n c.loop-call.lists c.replace-list.result c.new.result c.loop-call.invariant within refl at (omega (arith, past, is)) c.replace-list.ensures.back))
