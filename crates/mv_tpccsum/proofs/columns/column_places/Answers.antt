use Rattle.std.proofs.Common.{◌∙◌, ◌+◌, List, ℕ, Bor, drop, map, ap, sym, arith}
use Rattle.std.proofs.lemmas.List.{drop_more}
use Rattle.mv_tpccsum.proofs.Loops.{found, missing}
use Rattle.mv_tpccsum.proofs.columns.column_places.Goals as goal

pub returns-in_default : goal.returns-in_default
returns-in_default c =
    let names = c.args.names.now in
    let i = c.loop-name.name-index in
    let texts = λ (l : List (Bor (List ℕ))). map (λ n. n.now) l in
    missing c.args.columns.now (texts (drop i names)) (texts (drop (i + 1) names)) _ _ _
    (ap texts (drop_more names i _ (omega arith))) (sym c.column_place.ensures ∙ c.in_default.is) c.loop-name.invariant

pub loop-name-preserved : goal.loop-name-preserved
loop-name-preserved c =
    let names = c.args.names.now in
    let i = c.loop-name.name-index in
    let texts = λ (l : List (Bor (List ℕ))). map (λ n. n.now) l in
    let more = found c.args.columns.now (texts (drop i names)) (texts (drop (i + 1) names)) _ c.loop-name.places c.in-Some.place _
    (ap texts (drop_more names i _ (omega arith))) (sym c.column_place.ensures ∙ c.in-Some.is) c.loop-name.invariant in
    rw c.in_ok-push.ensures.ok more
