use Rattle.std.proofs.Common.{◌≡◌, ◌≤◌, ◌++◌, ◌∷◌, [], All, List, length, sym, ap, subst, ◌∙◌, arith}
use Rattle.std.proofs.lemmas.List.{length-append}
use Rattle.mv_values.specs.declared.patch.Write.{Write}
use Rattle.mv_undo.specs.declared.place.Place.{Place}
use Rattle.mv_undo.specs.Owned.{Owned, owned_by}
use Rattle.mv_undo.specs.Indexed.{IsIndexOf}
use Rattle.mv_undo.proofs.Placing.{index_grown, owned_pushed, place_numbers}
use Rattle.mv_undo.proofs.own_writes.OwnWrites.push.Goals as goal

pub push-requires-2-clause-index : goal.push-requires-2-clause-index
push-requires-2-clause-index c =
    let i = c.self.inside.index in
    let ws = c.self.inside.writes in
    subst (λ (vs : List Write). IsIndexOf i vs) (sym (c.as_slice-writes.ensures ∙ c.in_ok-push.ensures.ok)) (index_grown i ws (c.args.write ∷ []) c.self.invariant)

pub push-requires-2-clause-within : goal.push-requires-2-clause-within
push-requires-2-clause-within c =
    let more : length c.as_slice-writes.result.now ≡ length (c.self.inside.writes ++ c.args.write ∷ []) = ap length (c.as_slice-writes.ensures ∙ c.in_ok-push.ensures.ok) in
    omega (arith, more, length-append c.self.inside.writes (c.args.write ∷ []), c.len-at.ensures)

pub push-requires-2-clause-last : goal.push-requires-2-clause-last
push-requires-2-clause-last c =
    place_numbers (λ n. n ≤ c.args.number) c.self.inside.writes c.self.inside.index.places (subst (All (λ (o : Owned). o.number ≤ c.args.number)) (sym c.self.view_is) c.requires)

pub returns-in-Ok-clause-ok : goal.returns-in-Ok-clause-ok
returns-in-Ok-clause-ok c =
    let ws = c.self.inside.writes in
    let ps = c.self.inside.index.places in
    let p : Place = record { number = c.args.number; at = c.len-at.result } in
    ap (λ (vs : List Write). owned_by c.push-2.new.self.places vs) c.in_ok-push.ensures.ok
    ∙ (ap (λ (qs : List Place). owned_by qs (ws ++ c.args.write ∷ [])) c.in-Ok.ensures.places
    ∙ (owned_pushed ws c.args.write ps p c.self.invariant.within c.len-at.ensures
    ∙ ap (λ os. os ++ (let o : Owned = record { number = c.args.number; write = c.args.write } in o) ∷ []) c.self.view_is))
