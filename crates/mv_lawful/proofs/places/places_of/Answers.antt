use Rattle.std.proofs.Common.{◌≡◌, ◌<◌, ◌≤◌, ◌+◌, ◌++◌, ◌∷◌, [], ℕ, List, Some, length, map, drop, get_or, refl, sym, ap, subst, ◌∙◌, arith}
use Rattle.std.specs.Prelude.{slice_get}
use Rattle.std.proofs.lemmas.Option.{same_Some, slice_get_read}
use Rattle.mv_lawful.specs.Lawful.{Schedule, begin}
use Rattle.mv_lawful.specs.Places.{Place, answer_place, places_from, places_by}
use Rattle.mv_lawful.proofs.Placing.{commit_place}
use Rattle.mv_lawful.proofs.Starting.{calls_of_start, by_starts, starts_long, starts_at, place_more, place_last}
use Rattle.mv_lawful.proofs.places.places_of.Goals as goal

-- the calls of a start, as they are read
read_is : (starts answered : List ℕ) (count n : ℕ) (lists : List (List ℕ)) (here : List ℕ) → lists ≡ by_starts starts answered count → n < count → here ≡ get_or lists n here → here ≡ calls_of_start starts answered n
read_is starts answered count n lists here are less read =
    let long = ap length are ∙ starts_long starts answered count in
    same_Some here (calls_of_start starts answered n) (sym (slice_get_read lists (length lists) n here refl (omega (arith, long, less)) read) ∙ (ap (λ l. slice_get l n) are ∙ starts_at starts answered count n less))

pub bounds-answers-i : goal.bounds-answers-i
bounds-answers-i c =
    let long = ap length (c.as_slice-answers.ensures ∙ c.in_ok-lists.ensures) ∙ starts_long c.args.starts.now c.args.answered.now (length c.args.order.now + 1) in
    let within = c.loop-i-test.true in
    omega (arith, long, within)

pub bounds-answers-order : goal.bounds-answers-order
bounds-answers-order c =
    let long = ap length (c.as_slice-answers.ensures ∙ c.in_ok-lists.ensures) ∙ starts_long c.args.starts.now c.args.answered.now (length c.args.order.now + 1) in
    omega (arith, long)

pub loop-i-preserved : goal.loop-i-preserved
loop-i-preserved c =
    let within = c.loop-i-test.true in
    let s : Schedule = record { order = c.args.order.now; calls = map begin c.args.starts.now; low = 0; answered = c.args.answered.now } in
    let i : ℕ = c.loop-i.i in
    let call : ℕ = get_or c.args.order.now i 0 in
    let own = read_is c.args.starts.now c.args.answered.now (length c.args.order.now + 1) i c.as_slice-answers.result.now c.index-answers-i.result (c.as_slice-answers.ensures ∙ c.in_ok-lists.ensures) (omega (arith, within)) c.index-answers-i.is in
    record {
      within = omega (arith, within);
      are =
          ap (λ (ps : List Place). ps ++ places_from s (i + 1) (drop (i + 1) c.args.order.now))
          (c.in_ok-push.ensures.ok
          ∙ ap (λ (ps : List Place). ps ++ commit_place (i + 1) call ∷ []) (c.in_ok-add_answered.ensures ∙ ap (λ ds. c.loop-i.places ++ map answer_place ds) (c.as_slice.ensures ∙ own)))
          ∙ place_more s c.loop-i.places (places_by c.args.order.now c.args.starts.now c.args.answered.now) c.args.order.now i call within refl c.loop-i.invariant.are;
    }

pub returns : goal.returns
returns c =
    let past = c.loop-i-test.false in
    let within = c.loop-i.invariant.within in
    let s : Schedule = record { order = c.args.order.now; calls = map begin c.args.starts.now; low = 0; answered = c.args.answered.now } in
    let n : ℕ = length c.args.order.now in
    let all : List Place = places_by c.args.order.now c.args.starts.now c.args.answered.now in
    let same : c.loop-i.i ≡ n = omega (arith, past, within) in
    let own = read_is c.args.starts.now c.args.answered.now (n + 1) n c.as_slice-answers.result.now c.index-answers-order.result (c.as_slice-answers.ensures ∙ c.in_ok-lists.ensures) (omega arith) c.index-answers-order.is in
    c.in_ok-add_answered-2.ensures
    ∙ (ap (λ ds. c.loop-i.places ++ map answer_place ds) (c.as_slice-2.ensures ∙ own)
    ∙ place_last s c.loop-i.places all c.args.order.now n refl (subst (λ m. c.loop-i.places ++ places_from s m (drop m c.args.order.now) ≡ all) same c.loop-i.invariant.are))
