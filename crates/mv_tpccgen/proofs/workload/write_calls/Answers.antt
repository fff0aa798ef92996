use Rattle.std.proofs.Common.{◌≡◌, ◌+◌, ◌++◌, ℕ, List, sym, ap, subst, ◌∙◌, append-nil, arith}
use Rattle.std.specs.List.{flat_map}
use Rattle.std.proofs.lemmas.List.{flat_map_more}
use Rattle.rand_core.specs.Stream.{Stream}
use Rattle.mv_tpccgen.specs.declared.request.Request.{Request}
use Rattle.mv_tpccgen.specs.Calls.{request, call_text}
use Rattle.mv_tpccgen.specs.Draws.{each, words_at, words_from}
use Rattle.mv_tpccgen.proofs.Drawing.{each_more}
use Rattle.mv_tpccgen.specs.Workload.{requests}
use Rattle.mv_tpccgen.proofs.workload.write_calls.Goals as goal

pub loop-k-init : goal.loop-k-init
unfolding each
loop-k-init c = (sym (append-nil c.args.text.now), c.words_from-words.ensures)

pub loop-k-preserved : goal.loop-k-preserved
loop-k-preserved c =
    let call = c.in_ok-request.request in
    let drawn = each (request c.args.load.now.warehouses) c.loop-k.k (words_from c.args.load.now.seed) in
    let so_far = ap (λ (words : Stream). (drawn.0, words)) c.loop-k.invariant.1 in
    let more = each_more (request c.args.load.now.warehouses) c.loop-k.k (words_from c.args.load.now.seed) (words_at c.loop-k.words) (words_at c.draw_request.new.words) drawn.0 call so_far c.in_ok-request.ensures in
    let written = c.in_ok-write_call.ensures ∙ (ap (λ (text : List ℕ). text ++ call_text call) c.loop-k.invariant.0 ∙ flat_map_more call_text c.args.text.now drawn.0 call) in
    (written ∙ ap (λ (p : List Request × Stream). c.args.text.now ++ flat_map call_text p.0) more, ap (λ (p : List Request × Stream). p.1) more)

pub returns : goal.returns
unfolding requests
returns c =
    let all : c.loop-k.k ≡ c.args.load.now.calls = omega arith in
    subst (λ (k : ℕ). c.loop-k.text ≡ c.args.text.now ++ flat_map call_text (each (request c.args.load.now.warehouses) k (words_from c.args.load.now.seed)).0) all c.loop-k.invariant.0
