use Rattle.std.proofs.Common.{◌≡◌, ◌<◌, [], refl, sym, ap, ◌∙◌, arith, length, List, ℕ, Option, ◌∷◌, ◌++◌, drop, nat_lt, if◌then◌else◌}
use Rattle.std.specs.Option.{option_and_then}
use Rattle.std.specs.Prelude.{slice_get}
use Rattle.std.proofs.lemmas.Option.{slice_get_read}
use Rattle.mv_record.specs.Paths.{inside, nests_behind}
use Rattle.mv_soundness.proofs.Placing.{many_paths}
use Rattle.mv_why.proofs.Placing.{around_is}
use Rattle.mv_why.proofs.paths.around_of.Goals as goal

pub get-holder-requires : goal.get-holder-requires
get-holder-requires c =
    let lt : c.in-Some.number < length c.args.known.now = grind (arith, c.in-Some-get.ensures.lookup.0) in
    let e : length c.args.known.now ≡ length c.args.records.now = ap length c.requires ∙ many_paths c.args.records.now in
    omega (arith, e, lt)

pub returns : goal.returns
returns c =
    let lt : c.in-Some.number < length c.args.known.now = grind (arith, c.in-Some-get.ensures.lookup.0) in
    around_is c.args.records.now c.in-Some.number c.in-Some-get.path.now c.get-holder.result c.args.known.now c.args.turns.now c.in_ok-part.part c.requires
    (slice_get_read c.args.known.now (length c.args.known.now) c.in-Some.number c.in-Some-get.path.now refl lt c.in-Some-get.ensures.lookup.1) c.get-holder.ensures
    (λ a m h. c.in_ok-part.ensures a m (c.as_slice.ensures ∙ h) ∙ ap (λ (ts : List ℕ). if nat_lt (length ts) (length c.args.turns.now) then a ++ m ∷ drop (length ts) c.args.turns.now else a) c.turns.ensures)
    ∙ ap (λ (o : Option ℕ). inside (option_and_then (slice_get (nests_behind [] c.args.records.now)) o) c.args.turns.now) (sym c.in-Some.is)
